-- What an index is to those who use it: a list of ads, each under a slot, and the ads that a test doesn't rule out.
use Rattle.std.specs.Prelude.{ℕ, ◌==◌, Bool, not, ◌&&◌, List, [], ◌∷◌, map, filter, Option, None, Some, if◌then◌else◌}
use Rattle.ad_tree.specs.Frames.{Frame}
use Rattle.conjunct_plan.specs.declared.test.Test.{Test}
use Rattle.conjunct_plan.specs.Decided.{is_decided}

-- an ad under a slot
pub record Row : Type 0 where
  pub slot : ℕ
  pub ad : List Frame

-- the ad of these frames under a slot
abbrev pub row_of : ℕ → List Frame → Row
row_of slot ad = record { slot = slot; ad = ad }

-- the ad's root doesn't decide against the test
abbrev pub passes : Test → Row → Bool
passes test row = not (is_decided test row.ad 0)

-- the slots of the ads whose roots don't decide against the test
abbrev pub passing_slots : Test → List Row → List ℕ
passing_slots test rows = map (λ row. row.slot) (filter (passes test) rows)

-- the ad's root decides against neither test
abbrev pub passes_both : Test → Test → Row → Bool
passes_both first second row = passes first row && passes second row

-- the slots of the ads whose roots decide against neither
abbrev pub passing_both : Test → Test → List Row → List ℕ
passing_both first second rows = map (λ row. row.slot) (filter (passes_both first second) rows)

-- the ad under a slot, if there is one
abbrev pub ad_under : ℕ → List Row → Option (List Frame)
ad_under slot [] = None
ad_under slot (row ∷ rows) = if row.slot == slot then Some row.ad else ad_under slot rows
