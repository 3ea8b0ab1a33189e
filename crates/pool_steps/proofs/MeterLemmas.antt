-- A meter stays the same meter.
use Rattle.std.proofs.Common.{refl, ◌∙◌}
use Rattle.pool_steps.specs.Spent.{IsSame}
use Rattle.pool_steps.specs.declared.meter.Meter.{Meter}

-- where nothing was spent
pub same-none : {F E T : Type 0} (meter : Meter F E T) → IsSame meter meter
same-none meter = record { tops = refl; entry = refl; touch = refl }

-- after one part and another
pub same-on : {F E T : Type 0} {first middle last : Meter F E T} → IsSame first middle → IsSame middle last → IsSame first last
same-on before after = record { tops = after.tops ∙ before.tops; entry = after.entry ∙ before.entry; touch = after.touch ∙ before.touch }
