-- Letters of either case.
use Rattle.std.proofs.Common.{◌≡◌, ℕ, ◌<◌, true, eqb, bit_or, refl}
use Rattle.std.proofs.lemmas.Bool.{agree_below_at, eqb-true}
use Rattle.std.specs.Char.{to_ascii_lowercase}

-- a letter made small differs in no bit but that of 32
pub small_or : (x : ℕ) → x < 256 → bit_or x 32 ≡ bit_or (to_ascii_lowercase x) 32
small_or x small = eqb-true _ _ (agree_below_at (λ y. eqb (bit_or y 32) (bit_or (to_ascii_lowercase y) 32)) (λ _. true) 256 x refl small)
