-- What lists weigh: as much as all their elements, and an element no more than its list.
use Rattle.std.proofs.Common.{◌≡◌, ℕ, zero, suc, ◌+◌, ◌≤◌, List, [], ◌∷◌, ◌++◌, slice_get, Some, ap, arith}
use Rattle.ad_value.specs.Plain.{Plain, plains_of}
use Rattle.ad_value.specs.Operators.{weight_of, weights_of}

pub weight_of-element : (ps : List Plain) (i : ℕ) (p : Plain) → slice_get ps i ≡ Some p → weight_of p ≤ weights_of (plains_of ps)
weight_of-element [] i p found = cc
weight_of-element (q ∷ ps) zero p found =
    let first : q ≡ p = cc in
    let same : weight_of q ≡ weight_of p = ap weight_of first in
    omega arith
weight_of-element (q ∷ ps) (suc i) p found = omega (arith, weight_of-element ps i p found)

pub weights_of-then : (ps : List Plain) (p : Plain) → weights_of (plains_of (ps ++ p ∷ [])) ≡ weights_of (plains_of ps) + weight_of p
weights_of-then [] p = omega arith
weights_of-then (q ∷ ps) p = omega (arith, weights_of-then ps p)
