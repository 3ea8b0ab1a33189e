-- List literals that weigh too much.
use Rattle.std.proofs.Common.{◌≡◌, ◌≤◌, true, List, [], ◌∷◌, ◌++◌, nat_lt, if◌then◌else◌, ap, arith}
use Rattle.std.proofs.lemmas.Bool.Decides.{nat_tests}
use Rattle.ad_value.specs.Demands.{list_value}
use Rattle.ad_value.specs.Limits.{weight_limit}
use Rattle.ad_value.specs.Operators.{weight_of, weights_of}
use Rattle.ad_value.specs.Plain.{Plain, error, list, plains_of}

weights_of-more : (ps qs : List Plain) → weights_of (plains_of ps) ≤ weights_of (plains_of (ps ++ qs))
weights_of-more [] qs = omega arith
weights_of-more (p ∷ ps) qs = omega (arith, weights_of-more ps qs)

-- with more behind them they weigh too much as well
pub list_value-heavy : (ps more : List Plain) → nat_lt weight_limit (weight_of (list (plains_of ps))) ≡ true → list_value (ps ++ more) ≡ error
list_value-heavy ps more heavy =
    let still : nat_lt weight_limit (weight_of (list (plains_of (ps ++ more)))) ≡ true = grind (arith, nat_tests, heavy, weights_of-more ps more) in
    ap (λ b. if b then error else list (plains_of (ps ++ more))) still
