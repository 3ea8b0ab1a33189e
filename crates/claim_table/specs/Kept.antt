-- What a table keeps beside its jobs: at each slot of a resource the slot of the job that lists it.
use Rattle.std.specs.Prelude.{◌≡◌, ℕ, ◌≤◌, Bool, false, ◌==◌, All, List, length, map, position, slice_get, slice_index_or, Option, None}
use Rattle.std.specs.Prelude.{is_some}
use Rattle.std.specs.Option.{option_and_then, option_map_or}
use Rattle.claim_table.specs.declared.job.Job.{Job}
use Rattle.claim_table.specs.declared.job.Stage.{Stage}
use Rattle.claim_table.specs.Jobs.{IsFilled, claim_of, jobs_limit, lists, offer_of, text_limit, text_of}

-- the note at a slot
abbrev pub note_at : List (Option ℕ) → ℕ → Option ℕ
note_at notes slot = slice_index_or notes slot None

-- the note names the number
abbrev pub names : Option ℕ → ℕ → Bool
names note i = option_map_or (λ k. k == i) note false

-- there is a job of this number, and it passes
abbrev pub passes_at : (Job → Bool) → List Job → ℕ → Bool
passes_at test jobs i = option_map_or test (slice_get jobs i) false

-- the note at a slot names exactly the jobs that list it
abbrev pub AreNoted : (Stage → List ℕ) → List (Option ℕ) → List Job → Type 0
AreNoted part notes jobs = (slot i : ℕ) → names (note_at notes slot) i ≡ passes_at (λ job. lists (part job.standing) slot) jobs i

-- the notes with the numbers of jobs in place of their slots
abbrev pub numbers : List ℕ → List (Option ℕ) → List (Option ℕ)
numbers slots notes = map (option_and_then (λ key. position (λ s. s == key) slots)) notes

-- each note stands for a job that is there
pub record AreThere (slots : List ℕ) (offers claims : List (Option ℕ)) : Type 0 where
  pub offered : (slot : ℕ) → is_some (note_at (numbers slots offers) slot) ≡ is_some (note_at offers slot)
  pub claimed : (slot : ℕ) → is_some (note_at (numbers slots claims) slot) ≡ is_some (note_at claims slot)

-- what is always true of the jobs, the notes of their numbers, and the length of their texts
pub record IsKept (jobs : List Job) (offers claims : List (Option ℕ)) (text : ℕ) : Type 0 where
  pub offered : AreNoted offer_of offers jobs
  pub claimed : AreNoted claim_of claims jobs
  pub room : length offers ≤ length claims
  pub counted : text ≡ text_of jobs
  pub within : text ≤ text_limit
  pub few : length jobs ≤ jobs_limit
  pub filled : All IsFilled jobs
