-- A pool that names on a desk listen to.
use Rattle.std.specs.Prelude.{ℕ, Bool, true, false, not, List, [], ◌∷◌, ◌++◌, filter, bytes_eq, if◌then◌else◌}
use Rattle.std.specs.List.{list_any}
use Rattle.notice_desk.specs.Desk.{Row, leaves_with, names_of, without}
use Rattle.pool_script.specs.declared.command.Command.{Command}
use Rattle.pool_replies.specs.declared.reply.Reply.{Reply}
use Rattle.pool_script.specs.declared.command.Command.TheVariants as command
use Rattle.pool_replies.specs.declared.refusal.Refusal.TheVariants as why
use Rattle.pool_replies.specs.declared.reply.Reply.TheVariants as reply
use Rattle.pool_books.specs.State.{State, opening}
use Rattle.pool_state.specs.Posting.{DeskState, desk_of}
use Rattle.pool_state.specs.Step.{step}

-- the state of the pool, and the names that listen
pub record Heard : Type 0 where
  pub pool : State
  pub listeners : List (List ℕ)

-- the names on the desk listen
abbrev pub heard : State → List Row → Heard
heard pool rows = record { pool = pool; listeners = names_of rows }

-- before the first command
abbrev pub opened : List Row → Heard
opened rows = heard opening rows

-- the name is among those that listen
abbrev pub listens : List ℕ → List (List ℕ) → Bool
listens name names = list_any (λ other. bytes_eq other name) names

-- the names that listen, without this one
abbrev pub others : List ℕ → List (List ℕ) → List (List ℕ)
others name names = filter (λ other. not (bytes_eq other name)) names

-- `unlisten NAME`
abbrev pub unlisten : Heard → List ℕ → Heard × Reply
unlisten h name =
    if listens name h.listeners then (record h { listeners = others name h.listeners }, reply.Unlistened name)
    else (h, reply.Refused why.UnknownName)

-- a command that the names on the desk don't see to
abbrev pub step_pool : Heard → Command → Heard × Reply
step_pool h command = (record h { pool = (step h.pool command).0 }, (step h.pool command).1)

-- what a command makes of a pool and its listeners, and the reply to it
unfoldable pub step_heard : Heard → Command → Heard × Reply
step_heard h (command.Unlisten name) = unlisten h name
step_heard h other = step_pool h other

-- whether a command takes a name off the desk
abbrev pub is_unlisten : Command → Bool
is_unlisten (command.Unlisten name) = true
is_unlisten other = false

-- the rows of a desk that a command leaves on it
unfoldable pub kept_by : Command → List Row → List Row
kept_by (command.Unlisten name) rows = without name rows
kept_by other rows = rows

-- and that commands leave on it
abbrev pub kept : List Command → List Row → List Row
kept [] rows = rows
kept (command ∷ commands) rows = kept commands (kept_by command rows)

-- the desk behind the name that a command takes off it, whose box leaves as it is
unfoldable pub off_by : Command → DeskState → DeskState
off_by (command.Unlisten name) desk = desk_of (without name desk.rows) (desk.left ++ filter (leaves_with name) desk.rows)
off_by other desk = desk
