-- How the jobs lie in memory: slots in order, a table that has a job at each, and names that lead to them.
use Rattle.std.specs.Prelude.{◌≡◌, ℕ, ◌==◌, true, List, [], ◌∷◌, Option, None, Some}
use Rattle.std.specs.List.{list_any}
use Rattle.std.specs.Option.{option_map_or}
use Rattle.slab.specs.Slab.{ContainsKey, Slab, get}
use Rattle.claim_table.specs.declared.job.Job.{Job}

-- the jobs behind what lies in a slot
abbrev pub onto : Option Job → List Job → List Job
onto None jobs = jobs
onto (Some job) jobs = job ∷ jobs

-- the jobs in these slots
abbrev pub jobs_at : Slab Job → List ℕ → List Job
jobs_at table [] = []
jobs_at table (slot ∷ slots) = onto (get table slot) (jobs_at table slots)

-- the name of the job that lies in a slot
abbrev pub name_in : Slab Job → ℕ → List ℕ
name_in table slot = option_map_or (λ job. job.name) (get table slot) []

-- each slot in order has a job, whose name leads to the slot, and names lead nowhere else
pub record AreListed (table : Slab Job) (slots : List ℕ) (names : List ℕ → Option ℕ) : Type 0 where
  pub filled : (slot : ℕ) → list_any (λ s. s == slot) slots ≡ true → ContainsKey table slot
  pub led : (slot : ℕ) → list_any (λ s. s == slot) slots ≡ true → names (name_in table slot) ≡ Some slot
  pub leads : (name : List ℕ) (slot : ℕ) → names name ≡ Some slot → (list_any (λ s. s == slot) slots ≡ true) × (name_in table slot ≡ name)
