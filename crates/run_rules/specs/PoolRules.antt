-- The rules by which a pool runs the commands of a script.
use Rattle.std.specs.Prelude.{◌≡◌, ◌⊎◌, ◌+◌, ◌≤◌, ℕ, List, [], ◌∷◌, length}
use Rattle.pool_io.specs.Flow.{Supply}
use Rattle.pool_script.specs.Commands.{commands_of, ended_commands}
use Rattle.pool_script.specs.declared.command.Command.{Command}
use Rattle.pool_replies.specs.Replies.{refusal_count, reply_text}
use Rattle.pool_state.specs.Heard.{Heard, step_heard}
use Rattle.script_run.specs.Effects.{Beside, Effects}
use Rattle.script_run.specs.Rules.{Rules}
use Rattle.script_run.specs.Streams.{before_last}
use Rattle.run_rules.specs.Events.{Event, Posted, allowed_of, event_of, events_of, looks_of}

-- no more was counted than these commands may count
pub record Costs (k m : Beside) (events : List Event) : Type 0 where
  pub tops : m.tops ≤ k.tops + allowed_of events
  pub touch : m.touch ≤ k.touch + looks_of events

-- commands ran: their notices were posted
pub record Ran (s : Heard) (commands : List Command) (k m : Beside) : Type 0 where
  pub cost : Costs k m (events_of s commands)
  pub posted : Posted s commands k.rows m.rows

-- a command was tried: its notices were posted, or none
pub record WasTried (s : Heard) (command : Command) (k m : Beside) : Type 0 where
  pub cost : Costs k m (event_of s command ∷ [])
  pub posted : (m.rows ≡ k.rows) ⊎ Posted s (command ∷ []) k.rows m.rows

-- the rules by which a pool runs the commands of a script: a command makes a step, and is answered by the text of its reply
abbrev pub pool_rules : Rules Heard Command
pool_rules = record {
  given = commands_of;
  next = λ s command. (step_heard s command).0;
  text = λ s command. reply_text (step_heard s command).1;
  refusals = λ s command. refusal_count (step_heard s command).1;
  Does = Ran;
  Tries = WasTried;
}

-- the first reply was offered alone and whole, and no command had ended before the last read
pub record RepliesFirst (start : Heard) (t : Supply) (m : Effects) (bytes : List ℕ) (front : List Command) (cut : Command) : Type 0 where
  pub first : front ≡ []
  pub alone : m.sink.offered ≡ length (reply_text (step_heard start cut).1)
  pub in_time : ended_commands (before_last t bytes) ≡ []
