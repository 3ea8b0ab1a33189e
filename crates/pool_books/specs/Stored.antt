-- The slots that jobs list are slots of the store.
use Rattle.std.specs.Prelude.{ℕ, Bool, List}
use Rattle.std.specs.List.{list_all}
use Rattle.claim_table.specs.declared.job.Job.{Job}
use Rattle.claim_table.specs.Jobs.{lists, slots_of}

-- each slot of the job is one of these
abbrev pub is_stored : List ℕ → Job → Bool
is_stored slots job = list_all (lists slots) (slots_of job.standing)

-- each slot of each job is one of these
abbrev pub are_stored : List ℕ → List Job → Bool
are_stored slots jobs = list_all (is_stored slots) jobs
