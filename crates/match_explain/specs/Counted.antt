-- How conjuncts are counted, and how many evaluations are made.
use Rattle.std.specs.Prelude.{ℕ, ◌+◌, Bool, List, [], ◌∷◌, length, sum_by, Option, None, Some, if◌then◌else◌}
use Rattle.ad_tree.specs.Frames.{Frame}
use Rattle.ad_tree.specs.Inline.{spelled_tree}
use Rattle.ad_tree.specs.Tree.{Tree}
use Rattle.ad_store.specs.Stock.{Advert}
use Rattle.ad_printer.specs.Printed.{printed}
use Rattle.conjunct_plan.specs.Tests.{conjuncts_at}
use Rattle.match_explain.specs.declared.report.Conjunct.{Conjunct}

-- counts with one more for each that is true
abbrev pub counted : List Bool → List ℕ → List ℕ
counted (b ∷ bs) (n ∷ ns) = (if b then n + 1 else n) ∷ counted bs ns
counted bs ns = ns

-- what fails of a side, by its requirement and the first of its conjuncts that doesn't hold
abbrev pub against : Option Tree → Option ℕ → Option ℕ
against None found = Some 0
against (Some t) found = found

-- conjuncts of an ad, printed, beside their counts
abbrev pub rows_of : List Frame → List Tree → List ℕ → List Conjunct
rows_of fs (t ∷ ts) (n ∷ ns) = (record { text = printed (spelled_tree fs t); holds = n }) ∷ rows_of fs ts ns
rows_of fs ts ns = []

-- how many evaluations are made at most for one ad: one for each conjunct of either side
abbrev pub evaluations_for : List Frame → List Frame → ℕ
evaluations_for request ad = length (conjuncts_at request 0) + length (conjuncts_at ad 0)

-- and for all ads
abbrev pub evaluations_most : List Frame → List Advert → ℕ
evaluations_most request ads = sum_by (λ advert. evaluations_for request advert.ad) ads
