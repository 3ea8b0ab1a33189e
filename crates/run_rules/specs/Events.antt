-- What happens as commands run one after the other.
use Rattle.std.specs.Prelude.{ℕ, ◌+◌, List, [], ◌∷◌, sum_by}
use Rattle.std.specs.List.{AllZip, flat_map}
use Rattle.pool_script.specs.declared.command.Command.{Command}
use Rattle.pool_replies.specs.declared.reply.Reply.{Reply}
use Rattle.pool_replies.specs.Replies.{refusal_count, reply_text}
use Rattle.notice_desk.specs.Desk.{Row}
use Rattle.pool_state.specs.Heard.{Heard, kept, step_heard}
use Rattle.pool_state.specs.Notices.{notices}
use Rattle.pool_state.specs.Posting.{Post, RowAfter, posts_of_all}
use Rattle.pool_state.specs.Step.{allowance, looks}

-- a command that ran: the pool and its listeners before it, the command, both behind it, and the reply
pub record Event : Type 0 where
  pub before : Heard
  pub command : Command
  pub behind : Heard
  pub reply : Reply

-- a command that runs in a state
abbrev pub event_of : Heard → Command → Event
event_of s command = record { before = s; command = command; behind = (step_heard s command).0; reply = (step_heard s command).1 }

-- commands that run one after the other
abbrev pub events_of : Heard → List Command → List Event
events_of s [] = []
events_of s (command ∷ commands) = event_of s command ∷ events_of (step_heard s command).0 commands

-- the text of the replies
abbrev pub replies_text : List Event → List ℕ
replies_text events = flat_map (λ event. reply_text event.reply) events

-- how many of the replies are refusals
abbrev pub refusals_of : List Event → ℕ
refusals_of [] = 0
refusals_of (event ∷ events) = refusal_count event.reply + refusals_of events

-- how many whole evaluations the commands may have made
abbrev pub allowed_of : List Event → ℕ
allowed_of events = sum_by (λ event. allowance event.before.pool event.command) events

-- how many ads of the store the commands may have looked into
abbrev pub looks_of : List Event → ℕ
looks_of events = sum_by (λ event. looks event.before.pool event.command) events

-- the posts of a command, in order
abbrev pub posts_of_event : Event → List Post
posts_of_event event = posts_of_all (notices event.before.pool event.command)

-- the posts of commands that ran, in order
abbrev pub posts_of_events : List Event → List Post
posts_of_events events = flat_map posts_of_event events

-- the names that the commands take off are gone from the desk, and each other row had all posts
abbrev pub Posted : Heard → List Command → List Row → List Row → Type 0
Posted s commands old new = AllZip (RowAfter (posts_of_events (events_of s commands))) (kept commands old) new
