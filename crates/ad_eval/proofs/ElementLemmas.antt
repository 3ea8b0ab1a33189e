-- Elements of lists by Integers.
use Rattle.std.proofs.Common.{◌≡◌, ◌≤◌, ℕ, ℤ, pos, negsuc, int_lt, true, false, List, length, Some, unwrap_or, slice_get, refl, ap, ◌∙◌, arith}
use Rattle.std.proofs.lemmas.Option.{slice_get_past}
use Rattle.std.proofs.lemmas.Bool.Decides.{nat_tests}
use lib.IntN.{nat_abs}
use Rattle.ad_value.specs.Plain.{Plain, error, plains_of}
use Rattle.ad_value.specs.Demands.{element}
use Rattle.ad_value.proofs.PlainLemmas.{elements-plains_of}

pub element-negative : (ps : List Plain) (i : ℤ) → int_lt i (pos 0) ≡ true → element (plains_of ps) i ≡ error
element-negative ps (pos n) h = absurd (grind (arith, nat_tests, h))
element-negative ps (negsuc n) h = refl

pub whole : (i : ℤ) → int_lt i (pos 0) ≡ false → i ≡ pos (nat_abs i)
whole (pos n) h = refl
whole (negsuc n) h = absurd (cc)

pub element-past : (ps : List Plain) (i : ℤ) (n : ℕ) → i ≡ pos n → length ps ≤ n → element (plains_of ps) i ≡ error
element-past ps i n same past =
    ap (element (plains_of ps)) same
    ∙ ap (λ (qs : List Plain). unwrap_or (slice_get qs n) error) (elements-plains_of ps)
    ∙ ap (λ o. unwrap_or o error) (slice_get_past ps n past)

pub element-at : (ps : List Plain) (i : ℤ) (n : ℕ) (p : Plain) → i ≡ pos n → slice_get ps n ≡ Some p → element (plains_of ps) i ≡ p
element-at ps i n p same found =
    ap (element (plains_of ps)) same
    ∙ ap (λ (qs : List Plain). unwrap_or (slice_get qs n) error) (elements-plains_of ps)
    ∙ ap (λ o. unwrap_or o error) found
