-- What a step of an evaluation answers.
use Rattle.std.specs.Prelude.{ℕ, ◌≡◌, ◌≤◌, ◌<◌, max, cond, Result, Ok, Err, IfOk, IsErr}
use Rattle.pool_text.specs.declared.memory.OutOfMemory.{OutOfMemory}
use Rattle.pool_text.specs.declared.language.Pos.{Pos}
use Rattle.ad_value.specs.declared.value.Value.{Value}
use Rattle.ad_value.specs.Plain.{Plain, error, plain}
use Rattle.cycle_guard.specs.declared.guard.Guard.{Guard}
use Rattle.cycle_guard.specs.Sights.{done, same_pos}
use Rattle.cycle_guard.specs.Shown.{sight_of}
use Rattle.ad_eval.specs.declared.outcome.Outcome.{Outcome}
use Rattle.ad_eval.specs.declared.stop.Stop.{Stop}

-- a value with so many references, unless memory is wanting
abbrev pub IsApplied : Plain → ℕ → Result Outcome Stop → Type 0
IsApplied v h (Ok o) = (plain o.value ≡ v) × (o.height ≡ h)
IsApplied v h (Err stop) = stop ≡ Stop.OutOfMemory

-- a kept value, where it needs no more than the references that are left
abbrev pub IsRecalled : ℕ → Plain → ℕ → Result Outcome Stop → Type 0
IsRecalled left v h (Ok o) = (plain o.value ≡ v) × ((o.height ≡ h) × (h ≤ left))
IsRecalled left v h (Err Stop.References) = left < h
IsRecalled left v h (Err Stop.OutOfMemory) = Unit {0}

-- the value is kept, unless memory is wanting and all is as it was
abbrev pub IsKept : Pos → Plain → ℕ → Guard → Guard → Result Outcome Stop → Type 0
IsKept pos v h old new (Ok o) = (plain o.value ≡ v) × ((o.height ≡ h) × ((q : Pos) → sight_of new q ≡ cond (same_pos pos q) (done v h) (sight_of old q)))
IsKept pos v h old new (Err stop) = (stop ≡ Stop.OutOfMemory) × ((q : Pos) → sight_of new q ≡ sight_of old q)

-- the same answer, where a value needs at least so many references
abbrev pub IsAtLeast : ℕ → Result Outcome Stop → Result Outcome Stop → Type 0
IsAtLeast h (Ok o) (Ok u) = (plain u.value ≡ plain o.value) × (u.height ≡ max h o.height)
IsAtLeast h (Ok o) (Err stop) = ⊥
IsAtLeast h (Err stop) (Ok u) = ⊥
IsAtLeast h (Err stop) (Err other) = other ≡ stop

-- the value of an answer, Error where the references didn't suffice
abbrev pub IsValueOrError : Result Outcome Stop → Result Value OutOfMemory → Type 0
IsValueOrError (Ok o) r = IfOk r (λ v. plain v ≡ plain o.value)
IsValueOrError (Err Stop.References) r = IfOk r (λ v. plain v ≡ error)
IsValueOrError (Err Stop.OutOfMemory) r = IsErr r
