-- What a run of a workload does: its commands run as those of a script do, and a summary is written in the place of replies.
use Rattle.std.specs.Prelude.{◌≡◌, ℕ, List, [], ◌++◌, length, sum_by, None}
use Rattle.workload.specs.Summary.{summary_text}
use Rattle.workload.specs.Workload.{workload}
use Rattle.workload.specs.declared.summary.Summary.{Summary}
use Rattle.pool_io.specs.Flow.{Intake}
use Rattle.notice_desk.specs.Desk.{Row}
use Rattle.pool_script.specs.Commands.{whole_commands}
use Rattle.pool_script.specs.declared.command.Command.{Command}
use Rattle.pool_replies.specs.Replies.{hit_count, offer_count}
use Rattle.script_run.specs.Effects.{Beside, Effects}
use Rattle.script_run.specs.Rules.{Tried, after}
use Rattle.script_run.specs.Streams.{Broke, Wrote}
use Rattle.script_run.specs.declared.run_end.RunEnd.{RunEnd}
use Rattle.script_run.specs.declared.run_end.RunEnd.TheVariants.{Done, WriteFault, OutOfMemory}
use Rattle.run_rules.specs.Events.{Event, events_of, refusals_of, replies_text}
use Rattle.run_rules.specs.PoolRules.{Ran, pool_rules}
use Rattle.pool_state.specs.Heard.{opened}

-- ---- the summary

-- how many hits the queries had
abbrev pub hits_of : List Event → ℕ
hits_of events = sum_by (λ event. hit_count event.reply) events

-- how many offers the negotiations made
abbrev pub offers_of : List Event → ℕ
offers_of events = sum_by (λ event. offer_count event.reply) events

-- the summary of what happened
unfoldable pub summary_of : List Event → List ℕ
summary_of events = summary_text (length events) (refusals_of events) (hits_of events) (offers_of events) (length (replies_text events))

-- a summary has the counts of what happened
pub record IsSummaryOf (summary : Summary) (events : List Event) : Type 0 where
  pub commands : summary.commands ≡ length events
  pub refused : summary.refused ≡ refusals_of events
  pub hits : summary.hits ≡ hits_of events
  pub offers : summary.offers ≡ offers_of events
  pub bytes : summary.bytes ≡ length (replies_text events)

-- ---- the commands

-- the commands of a workload of n machines
unfoldable pub workload_commands : ℕ → List Command
workload_commands n = whole_commands (workload n)

-- what happens as they run, where these rows are on the desk
abbrev pub workload_events : ℕ → List Row → List Event
workload_events n rows = events_of (opened rows) (workload_commands n)

-- a sink to which no reply is offered, and which tells nothing
abbrev pub silent : Intake
silent = record { taken = None; offered = 0; faults = 0; sure = 0 }

-- ---- the ends

-- all commands ran, all notices were posted, and the summary was taken
pub record IsSummed (n : ℕ) (k m : Effects) (refused : ℕ) : Type 0 where
  pub wrote : Wrote k.sink m.sink (summary_of (workload_events n k.others.rows))
  pub counted : refused ≡ refusals_of (workload_events n k.others.rows)
  pub ran : Ran (opened k.others.rows) (workload_commands n) k.others m.others

-- all commands ran, all notices were posted, and the sink failed at the summary: a proper front of it was taken
pub record IsSummaryFault (n : ℕ) (k m : Effects) : Type 0 where
  pub broke : Broke k.sink m.sink [] (summary_of (workload_events n k.others.rows))
  pub ran : Ran (opened k.others.rows) (workload_commands n) k.others m.others

-- memory was wanting: nothing was written, the first of the commands ran, and at most the next one was tried
pub record IsUnsummed (n : ℕ) (k m : Effects) : Type 0 where
  pub front : List Command
  pub others : List Command
  pub split : workload_commands n ≡ front ++ others
  pub unwritten : m.sink ≡ k.sink
  pub between : Beside
  pub ran : Ran (opened k.others.rows) front k.others between
  pub tried : Tried pool_rules (after pool_rules (opened k.others.rows) front) others between m.others

-- a run of a workload ended so, from this state of the sink, the counts and the desk to that; no source is read
abbrev pub WorkloadEnds : ℕ → Effects → Effects → RunEnd → Type 0
WorkloadEnds n k m (Done refused) = IsSummed n k m refused
WorkloadEnds n k m WriteFault = IsSummaryFault n k m
WorkloadEnds n k m OutOfMemory = IsUnsummed n k m
WorkloadEnds n k m end = ⊥
