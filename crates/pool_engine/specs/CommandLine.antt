-- What the words of a command line ask for, and how a run ends as it is asked for.
use Rattle.std.specs.Prelude.{◌≡◌, ℕ, List, [], ◌∷◌, Option, None, Some, bytes_eq, codes, if◌then◌else◌}
use Rattle.claim_wire.specs.Wires.{IsNumber, new_wire}
use Rattle.notice_desk.specs.Desk.{Row}
use Rattle.pool_io.specs.Flow.{Supply}
use Rattle.pool_script.specs.Commands.{whole_commands}
use Rattle.pool_script.specs.GivenLines.{whole_lines}
use Rattle.pool_script.specs.Names.{number_within}
use Rattle.pool_engine.specs.declared.command_line.Asked.{Asked}
use Rattle.pool_engine.specs.declared.command_line.Asked.TheVariants as asks
use Rattle.script_run.specs.Effects.{Effects}
use Rattle.script_run.specs.Ends.{Ends}
use Rattle.script_run.specs.Rules.{text_of}
use Rattle.script_run.specs.declared.run_end.RunEnd.{RunEnd}
use Rattle.script_run.specs.declared.run_end.RunEnd.TheVariants as ends
use Rattle.pool_state.specs.Heard.{opened}
use Rattle.pool_engine.specs.Mails.{mails_of}
use Rattle.pool_engine.specs.Options.{are_options, count_of}
use Rattle.run_rules.specs.PoolRules.{pool_rules}
use Rattle.pool_engine.specs.declared.mail.Mail.{Mail}
use Rattle.run_rules.specs.WireRules.{wire_rules}
use Rattle.pool_engine.specs.Workloads.{WorkloadEnds, summary_of, workload_events}

-- ---- the words

-- a wire of so many resources and customers, where both numbers are from 1 to 100
abbrev pub wire_asked : Option ℕ → Option ℕ → Asked
wire_asked (Some resources) (Some customers) = asks.Wire resources customers
wire_asked resources customers = asks.Bad

-- `--wire R C`
abbrev pub wire_of : List (List ℕ) → Asked
wire_of (word ∷ r ∷ c ∷ []) = if bytes_eq word (codes "--wire") then wire_asked (number_within 1 100 r) (number_within 1 100 c) else asks.Bad
wire_of words = asks.Bad

-- a workload of so many machines, or a pool where no number is asked for
abbrev pub pool_asked : Option ℕ → Asked
pool_asked (Some machines) = asks.Workload machines
pool_asked None = asks.Pool

-- options ask for a pool or a workload, as no word asks for a pool; else it may be a wire
abbrev pub asked_by : List (List ℕ) → Asked
asked_by words = if are_options words then pool_asked (count_of words) else wire_of words

-- the mailboxes that the words ask for: those of options
abbrev pub asked_mails : List (List ℕ) → List Mail
asked_mails words = if are_options words then mails_of words else []

-- the numbers of a wire are from 1 to 100
abbrev pub IsWithin : Asked → Type 0
IsWithin (asks.Wire resources customers) = IsNumber 100 resources × IsNumber 100 customers
IsWithin other = Unit {0}

-- ---- the run

-- a run ended as it was asked for, from these states of source and sink to those; where the words are wrong nothing was read,
-- written or posted, a workload reads nothing, and a wire counts and posts nothing
abbrev pub AskedEnds : Asked → Supply → Supply → Effects → Effects → RunEnd → Type 0
AskedEnds asks.Bad s t k m end = (end ≡ ends.BadWords) × ((t ≡ s) × (m ≡ k))
AskedEnds asks.Pool s t k m end = Ends pool_rules (opened k.others.rows) s t k m end
AskedEnds (asks.Workload machines) s t k m end = WorkloadEnds machines k m end × (t ≡ s)
AskedEnds (asks.Wire resources customers) s t k m end = Ends wire_rules (new_wire resources customers) s t k m end × (m.others ≡ k.others)

-- the source is left alone
abbrev pub IsUnread : Asked → Type 0
IsUnread asks.Bad = Unit {0}
IsUnread asks.Pool = ⊥
IsUnread (asks.Workload machines) = Unit {0}
IsUnread (asks.Wire resources customers) = ⊥

-- what a run reads, where the source tells what is left; a workload reads nothing
abbrev pub input_of : Asked → Option (List ℕ) → Option (List ℕ)
input_of (asks.Workload machines) left = Some []
input_of asked left = left

-- all that is to be written for an input, where these rows are on the desk
abbrev pub asked_text : Asked → List Row → List ℕ → List ℕ
asked_text asks.Bad rows bytes = []
asked_text asks.Pool rows bytes = text_of pool_rules (opened rows) (whole_commands bytes)
asked_text (asks.Workload machines) rows bytes = summary_of (workload_events machines rows)
asked_text (asks.Wire resources customers) rows bytes = text_of wire_rules (new_wire resources customers) (whole_lines bytes)
