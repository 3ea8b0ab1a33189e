-- Whole numbers in 64 bits and out of them, and the texts that write them.
use Rattle.std.proofs.Common.{◌≡◌, ℕ, ◌^◌, ◌<◌, Bool, true, false, ◌&&◌, cond, eqb, ltb, List, [], ◌∷◌, length, drop, ℤ, pos, negsuc, refl, sym, ◌∙◌, ap, arith}
use mir.Val.{of_z, to_z}
use Rattle.std.proofs.lemmas.Int.{to_z-of_z}
use Rattle.std.specs.Prelude.{FitsSigned}
use Rattle.std.specs.Int.{w64}
use Rattle.std.specs.Str.{IsAscii, IsUtf8, all_ascii_digits}
use Rattle.std.proofs.lemmas.Str.{IsUtf8-from_ascii}
use Rattle.std.proofs.lemmas.Str.Ascii.{IsAscii-cons, IsAscii-nil}
use Rattle.std.proofs.lemmas.Fmt.{IsAscii-from_digits}
use Rattle.std.specs.Str.Parse.{IsNumeral, digits_value, signed_digits_value, without_leading_sign}
use Rattle.std.proofs.lemmas.Bool.Decides.{nat_tests}
use Rattle.std.proofs.lemmas.Str.Parse.{IsNumeralModel, numerals_by_value, tells_all_ascii_digits}
use Rattle.ad_value.specs.Plain.{error, integer}
use Rattle.ad_value.specs.Numbers.{integer_or_error}
use Rattle.builtin_funcs.specs.Texts.{integer_in}

pub in_64_bits : (z : ℤ) → FitsSigned w64 z → integer_or_error z ≡ integer z
in_64_bits (pos n) fits = let small : n < 2 ^ 63 = fits.sfits in grind (arith, nat_tests)
in_64_bits (negsuc n) fits = let small : n < 2 ^ 63 = fits.sfits in grind (arith, nat_tests)

pub out_of_64_bits : (z : ℤ) → (FitsSigned w64 z → ⊥) → integer_or_error z ≡ error
out_of_64_bits (pos n) large = let no : (n < 2 ^ 63 → ⊥) = λ small. large (record { sfits = small }) in grind (arith, nat_tests)
out_of_64_bits (negsuc n) large = let no : (n < 2 ^ 63 → ⊥) = λ small. large (record { sfits = small }) in grind (arith, nat_tests)

-- a number that was brought into 64 bits, and one that couldn't be
pub integer-fitting : (sum total n : ℤ) → sum ≡ total → FitsSigned w64 sum → n ≡ sum → integer n ≡ integer_or_error total
integer-fitting sum total n whole fits same = ap integer same ∙ sym (in_64_bits sum fits) ∙ ap integer_or_error whole

-- ---- the texts that write Integers

own_digits : IsNumeralModel (λ ds. all_ascii_digits ds ≡ true) (digits_value 10)
own_digits = numerals_by_value (λ ds. all_ascii_digits ds ≡ true) tells_all_ascii_digits

-- some bytes, all digits, as a test
abbrev pub is_numeral : List ℕ → Bool
is_numeral ds = ltb 0 (length ds) && all_ascii_digits ds

pub numeral_passes : (ds : List ℕ) → IsNumeral 10 ds → is_numeral ds ≡ true
numeral_passes ds numeral =
    let some : ltb 0 (length ds) ≡ true = grind (arith, nat_tests, numeral.0) in
    ap (λ b. b && all_ascii_digits ds) some ∙ own_digits.from ds numeral.1

both_pass : (a b : Bool) → (a && b) ≡ true → (a ≡ true) × (b ≡ true)
both_pass true b passes = (refl, passes)
both_pass false b passes = absurd (cc)

pub numeral_from_test : (ds : List ℕ) → is_numeral ds ≡ true → IsNumeral 10 ds
numeral_from_test ds passes =
    let parts = both_pass (ltb 0 (length ds)) (all_ascii_digits ds) passes in
    let some = parts.0 in
    (grind (arith, nat_tests), own_digits.to ds parts.1)

-- what parsing reads is the Integer of the text
pub integer_in-parsed : (bytes : List ℕ) (n : ℤ) → IsNumeral 10 (without_leading_sign bytes) → FitsSigned w64 (signed_digits_value 10 bytes)
    → n ≡ signed_digits_value 10 bytes → integer n ≡ integer_in bytes
integer_in-parsed bytes n numeral fits same =
    integer-fitting _ _ _ refl fits same ∙ sym (ap (λ b. cond b (integer_or_error (signed_digits_value 10 bytes)) error)
    (numeral_passes (without_leading_sign bytes) numeral))

refused_by : (test : Bool) (v : ℤ) → (test ≡ true → FitsSigned w64 v → ⊥) → error ≡ cond test (integer_or_error v) error
refused_by false v never = refl
refused_by true v never = sym (out_of_64_bits v (never refl))

pub integer_in-refused : (bytes : List ℕ) → (IsNumeral 10 (without_leading_sign bytes) → FitsSigned w64 (signed_digits_value 10 bytes) → ⊥)
    → error ≡ integer_in bytes
integer_in-refused bytes never = refused_by _ (signed_digits_value 10 bytes) (λ test fits. never (numeral_from_test (without_leading_sign bytes) test) fits)

ascii_behind : (minus plus : Bool) (b : ℕ) (bs : List ℕ) → eqb b 45 ≡ minus → eqb b 43 ≡ plus
    → IsAscii (cond minus (drop 1 (b ∷ bs)) (drop (cond plus 1 0) (b ∷ bs))) → IsAscii (b ∷ bs)
ascii_behind true plus b bs is other rest = IsAscii-cons b bs (grind (arith, nat_tests)) rest
ascii_behind false true b bs other is rest = IsAscii-cons b bs (grind (arith, nat_tests)) rest
ascii_behind false false b bs other others rest = rest

ascii_with_sign : (bytes : List ℕ) → IsAscii (without_leading_sign bytes) → IsAscii bytes
ascii_with_sign [] rest = IsAscii-nil
ascii_with_sign (b ∷ bs) rest = ascii_behind _ _ b bs refl refl rest

-- bytes that aren't UTF-8 write no Integer
pub integer_in-not_text : (bytes : List ℕ) → (IsUtf8 bytes → ⊥) → error ≡ integer_in bytes
integer_in-not_text bytes never =
    integer_in-refused bytes (λ numeral fits. never (IsUtf8-from_ascii bytes (ascii_with_sign bytes (IsAscii-from_digits _ numeral.1))))

-- a number that fits is the same after its way through 64 bits
pub kept_in_64_bits : (n v : ℤ) → n ≡ v → FitsSigned w64 v → to_z w64 (of_z w64 n) ≡ v
kept_in_64_bits n v same fits = ap (λ k. to_z w64 (of_z w64 k)) same ∙ to_z-of_z w64 v fits
