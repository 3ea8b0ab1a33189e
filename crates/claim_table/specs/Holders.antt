-- Who holds a slot, as the table tells it.
use Rattle.std.specs.Prelude.{ℕ, ◌==◌, List, slice_get, Option, option_map}
use Rattle.std.specs.List.{position_or_len}
use Rattle.std.specs.Option.{option_and_then}
use Rattle.ad_store.specs.Holdings.{Holding}
use Rattle.claim_table.specs.declared.job.Job.{Job}
use Rattle.claim_table.specs.Jobs.{claim_of, claimed_by}
use Rattle.claim_table.specs.Priorities.{Setting, priority_of}

-- what the job holds, with the slot at its port and the priority number of its user
abbrev pub holding_in : List Setting → ℕ → Job → Holding
holding_in settings slot job = record {
  request = job.request;
  slots = claim_of job.standing;
  port = position_or_len (λ s. s == slot) (claim_of job.standing);
  number = priority_of job.user settings;
}

-- who holds the slot
abbrev pub holder_of : List Setting → List Job → ℕ → Option Holding
holder_of settings jobs slot = option_map (holding_in settings slot) (option_and_then (λ i. slice_get jobs i) (claimed_by slot jobs))
