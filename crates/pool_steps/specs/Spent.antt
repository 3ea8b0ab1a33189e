-- What was spent between two states of a meter.
use Rattle.std.specs.Prelude.{◌≡◌, ℕ, ◌+◌, ◌*◌, ◌≤◌}
use Rattle.pool_steps.specs.declared.meter.Meter.{Meter}

-- it is the same meter, over the same counters
pub record IsSame {F E T : Type 0} (old new : Meter F E T) : Type 0 where
  pub tops : new.tops.ghost_name ≡ old.tops.ghost_name
  pub entry : new.entry.ghost_name ≡ old.entry.ghost_name
  pub touch : new.touch.ghost_name ≡ old.touch.ghost_name

-- at most so many evaluations, so many attributes entered, and so many ads looked into
pub record Spends {F E T : Type 0} (old new : Meter F E T) (evaluations entries looks : ℕ) : Type 0 where
  pub same : IsSame old new
  pub most_evaluations : new.tops.now ≤ old.tops.now + evaluations
  pub most_entries : new.entry.now ≤ old.entry.now + entries
  pub most_looks : new.touch.now ≤ old.touch.now + looks

-- no more attributes were entered than 9,216 for each evaluation
abbrev pub IsPaid : {F E T : Type 0} → Meter F E T → Meter F E T → Type 0
IsPaid old new = new.entry.now + 9216 * old.tops.now ≤ old.entry.now + 9216 * new.tops.now
