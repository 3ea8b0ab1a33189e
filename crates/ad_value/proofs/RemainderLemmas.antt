-- A remainder is in 64 bits where the dividend or the divisor is.
use Rattle.std.proofs.Common.{◌≡◌, ◌<◌, ◌≤◌, ◌^◌, ◌⊎◌, ⊎_elim, arith, ltb, true, false, cond, ℤ, pos, negsuc, int_rem, unsigned_abs, FitsSigned, ap}
use Rattle.std.specs.Int.{w64}
use Rattle.std.specs.Ordering.{int_eq}
use Rattle.std.proofs.lemmas.Bool.Decides.{nat_tests}
use Rattle.std.proofs.lemmas.Int.{fits_signed_from_abs, rem_below}
use lib.Signed.{mag_rem}
use Rattle.ad_value.specs.Plain.{decimal, error}
use Rattle.ad_value.specs.Numbers.{decimal_or_error}

abs_most : (z : ℤ) → FitsSigned w64 z → unsigned_abs z ≤ 2 ^ 63
abs_most (pos n) fits = let small : n < 2 ^ 63 = fits.sfits in omega arith
abs_most (negsuc n) fits = let small : n < 2 ^ 63 = fits.sfits in omega arith

abs_some : (z : ℤ) → int_eq z (pos 0) ≡ false → 0 < unsigned_abs z
abs_some (pos n) other = grind (arith, nat_tests)
abs_some (negsuc n) other = omega arith

remainder_fits : (x y : ℤ) → FitsSigned w64 x ⊎ FitsSigned w64 y → int_eq y (pos 0) ≡ false → FitsSigned w64 (int_rem x y)
remainder_fits x y one other =
    ⊎_elim (λ fits. record { sfits = omega (arith, mag_rem x y, fits.sfits) })
    (λ fits. fits_signed_from_abs w64 (int_rem x y) (omega (arith, rem_below x y (abs_some y other), abs_most y fits)))
    one

decimal_fits : (z : ℤ) → FitsSigned w64 z → decimal_or_error z ≡ decimal z
decimal_fits (pos n) fits = let small : ltb n (2 ^ 63) ≡ true = grind (arith, nat_tests, fits.sfits) in ap (λ b. cond b (decimal (pos n)) error) small
decimal_fits (negsuc n) fits = let small : ltb n (2 ^ 63) ≡ true = grind (arith, nat_tests, fits.sfits) in ap (λ b. cond b (decimal (negsuc n)) error) small

pub remainder_in : (x y : ℤ) → FitsSigned w64 x ⊎ FitsSigned w64 y → int_eq y (pos 0) ≡ false → decimal_or_error (int_rem x y) ≡ decimal (int_rem x y)
remainder_in x y one other = decimal_fits (int_rem x y) (remainder_fits x y one other)
