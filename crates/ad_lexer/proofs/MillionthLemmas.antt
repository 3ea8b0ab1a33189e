-- The text of fewer than 2^63 millionths is a decimal of so many, and digits of 2^63 and more are too many.
use Rattle.std.proofs.Common.{◌≡◌, ℕ, zero, suc, decimal, ◌+◌, ◌*◌, ◌/◌, ◌%◌, ◌^◌, ◌<◌, Bool, true, false, cond, eqb, ltb, not, ◌&&◌, List, [], ◌∷◌, length}
use Rattle.std.proofs.Common.{take, refl, sym, ◌∙◌, ap, arith, mod-lt}
use Rattle.std.proofs.lemmas.Bool.{and_parts, and_from, eqb-true, lt-ltb, true≢false}
use Rattle.std.proofs.lemmas.Bool.Decides.{nat_tests}
use Rattle.std.proofs.lemmas.Fmt.{decimal_is_IsNumeral}
use Rattle.std.specs.Char.{is_ascii_digit, digit_value, is_digit}
use Rattle.std.specs.List.{list_all}
use Rattle.std.specs.Str.Parse.{AllDigits, digits_value}
use Rattle.pool_text.specs.Number.{six_digits, printed_digits, fraction_text, size_text}
use Rattle.ad_lexer.specs.Numbers.{first_six, fraction_digits, is_decimal_number, is_dotted, millionths, whole_digits}
use Rattle.ad_lexer.proofs.FractionLemmas.{dotted_is}
use Rattle.ad_lexer.proofs.Runs.{all_weaker, run_passes}

-- ---- the digits that are printed behind the dot

digit_of : (d : ℕ) → d < 10 → digit_value (48 + d) ≡ d
digit_of d below = grind (arith, nat_tests)

digit_is : (d : ℕ) → d < 10 → is_ascii_digit (48 + d) ≡ true
digit_is d below = grind (arith, nat_tests)

-- what six digits write
six_value : (a b c d e f n : ℕ) → a < 10 → b < 10 → c < 10 → d < 10 → e < 10 → f < 10 → n ≡ a * 100000 + b * 10000 + c * 1000 + d * 100 + e * 10 + f
    → digits_value 10 ((48 + a) ∷ (48 + b) ∷ (48 + c) ∷ (48 + d) ∷ (48 + e) ∷ (48 + f) ∷ []) ≡ n
six_value a b c d e f n la lb lc ld le lf is = omega (arith, digit_of a la, digit_of b lb, digit_of c lc, digit_of d ld, digit_of e le, digit_of f lf)

-- the first digits, as many as are printed, write so many millionths
record IsPrinted (n k : ℕ) : Type 0 where
  value : digits_value 10 (first_six (take k (six_digits n))) ≡ n
  some : 0 < length (take k (six_digits n))
  each : list_all is_ascii_digit (take k (six_digits n)) ≡ true

take_each : (k : ℕ) (ds : List ℕ) → list_all is_ascii_digit ds ≡ true → list_all is_ascii_digit (take k ds) ≡ true
take_each zero ds each = refl
take_each (suc k) [] each = refl
take_each (suc k) (d ∷ ds) each =
    let both = and_parts (is_ascii_digit d) _ each in
    and_from (is_ascii_digit d) _ both.0 (take_each k ds both.1)

digit_at : (n : ℕ) → is_ascii_digit (48 + n % 10) ≡ true
digit_at n = digit_is (n % 10) (mod-lt n (omega arith))

six_each : (n : ℕ) → list_all is_ascii_digit (six_digits n) ≡ true
six_each n =
    and_from _ _ (digit_at (n / 100000)) (and_from _ _ (digit_at (n / 10000))
    (and_from _ _ (digit_at (n / 1000)) (and_from _ _ (digit_at (n / 100)) (and_from _ _ (digit_at (n / 10)) (and_from _ _ (digit_at n) refl)))))

below : (n : ℕ) → n % 10 < 10
below n = mod-lt n (omega arith)

printed_6 : (n : ℕ) → n < 1000000 → IsPrinted n 6
printed_6 n low = record {
  value =
      six_value (n / 100000 % 10) (n / 10000 % 10) (n / 1000 % 10) (n / 100 % 10) (n / 10 % 10) (n % 10) n (below (n / 100000)) (below (n / 10000))
      (below (n / 1000)) (below (n / 100)) (below (n / 10)) (below n) (omega arith);
  some = omega arith;
  each = six_each n;
}

printed_5 : (n : ℕ) → n < 1000000 → n % 10 ≡ 0 → IsPrinted n 5
printed_5 n low none = record {
  value =
      six_value (n / 100000 % 10) (n / 10000 % 10) (n / 1000 % 10) (n / 100 % 10) (n / 10 % 10) 0 n (below (n / 100000)) (below (n / 10000)) (below (n / 1000))
      (below (n / 100)) (below (n / 10)) (omega arith) (omega arith);
  some = omega arith;
  each = take_each 5 (six_digits n) (six_each n);
}

printed_4 : (n : ℕ) → n < 1000000 → n % 100 ≡ 0 → IsPrinted n 4
printed_4 n low none = record {
  value =
      six_value (n / 100000 % 10) (n / 10000 % 10) (n / 1000 % 10) (n / 100 % 10) 0 0 n (below (n / 100000)) (below (n / 10000)) (below (n / 1000))
      (below (n / 100)) (omega arith) (omega arith) (omega arith);
  some = omega arith;
  each = take_each 4 (six_digits n) (six_each n);
}

printed_3 : (n : ℕ) → n < 1000000 → n % 1000 ≡ 0 → IsPrinted n 3
printed_3 n low none = record {
  value =
      six_value (n / 100000 % 10) (n / 10000 % 10) (n / 1000 % 10) 0 0 0 n (below (n / 100000)) (below (n / 10000)) (below (n / 1000)) (omega arith)
      (omega arith) (omega arith) (omega arith);
  some = omega arith;
  each = take_each 3 (six_digits n) (six_each n);
}

printed_2 : (n : ℕ) → n < 1000000 → n % 10000 ≡ 0 → IsPrinted n 2
printed_2 n low none = record {
  value =
      six_value (n / 100000 % 10) (n / 10000 % 10) 0 0 0 0 n (below (n / 100000)) (below (n / 10000)) (omega arith) (omega arith) (omega arith) (omega arith)
      (omega arith);
  some = omega arith;
  each = take_each 2 (six_digits n) (six_each n);
}

printed_1 : (n : ℕ) → n < 1000000 → n % 100000 ≡ 0 → IsPrinted n 1
printed_1 n low none = record {
  value = six_value (n / 100000 % 10) 0 0 0 0 0 n (below (n / 100000)) (omega arith) (omega arith) (omega arith) (omega arith) (omega arith) (omega arith);
  some = omega arith;
  each = take_each 1 (six_digits n) (six_each n);
}

by_zeros : (P : ℕ → Type 0) (a b c d e : Bool) → P 6 → (a ≡ true → P 5) → (b ≡ true → P 4) → (c ≡ true → P 3) → (d ≡ true → P 2) → (e ≡ true → P 1)
    → P (cond (not a) 6 (cond (not b) 5 (cond (not c) 4 (cond (not d) 3 (cond (not e) 2 1)))))
by_zeros P false b c d e six five four three two one = six
by_zeros P true false c d e six five four three two one = five refl
by_zeros P true true false d e six five four three two one = four refl
by_zeros P true true true false e six five four three two one = three refl
by_zeros P true true true true false six five four three two one = two refl
by_zeros P true true true true true six five four three two one = one refl

printed_is : (n : ℕ) → n < 1000000 → IsPrinted n (printed_digits n)
unfolding printed_digits
printed_is n low =
    by_zeros (λ k. IsPrinted n k) (eqb (n % 10) 0) (eqb (n % 100) 0) (eqb (n % 1000) 0) (eqb (n % 10000) 0) (eqb (n % 100000) 0) (printed_6 n low)
    (λ z. printed_5 n low (eqb-true (n % 10) 0 z)) (λ z. printed_4 n low (eqb-true (n % 100) 0 z)) (λ z. printed_3 n low (eqb-true (n % 1000) 0 z))
    (λ z. printed_2 n low (eqb-true (n % 10000) 0 z)) (λ z. printed_1 n low (eqb-true (n % 100000) 0 z))

-- ---- the whole part

ascii_digit : (c : ℕ) → digit_value c < 10 → is_ascii_digit c ≡ true
ascii_digit c is = grind (arith, nat_tests)

ascii_digits : (ds : List ℕ) → AllDigits 10 ds → list_all is_ascii_digit ds ≡ true
ascii_digits [] each = refl
ascii_digits (c ∷ ds) each = and_from (is_ascii_digit c) _ (ascii_digit c each.0) (ascii_digits ds each.1)

pub size_text_decimal : (n : ℕ) → n < 2 ^ 63 → (is_decimal_number (size_text n) ≡ true) × (millionths (size_text n) ≡ n)
size_text_decimal n fits =
    let q : ℕ = n / 1000000 in
    let m : ℕ = n % 1000000 in
    let numeral = decimal_is_IsNumeral q (omega arith) in
    let printed = printed_is m (mod-lt n (omega arith)) in
    let is = dotted_is (decimal q) (fraction_text m) numeral.0.0 (ascii_digits (decimal q) numeral.0.1) printed.some printed.each in
    let front : digits_value 10 (whole_digits (size_text n)) ≡ q = ap (λ (l : List ℕ). digits_value 10 l) is.1 ∙ numeral.1 in
    let back : digits_value 10 (first_six (fraction_digits (size_text n))) ≡ m = ap (λ (l : List ℕ). digits_value 10 (first_six l)) is.2 ∙ printed.value in
    let value : millionths (size_text n) ≡ n = omega (arith, front, back) in
    (and_from (is_dotted (size_text n)) _ is.0 (lt-ltb (millionths (size_text n)) (2 ^ 63) (omega (arith, value))), value)

-- ---- digits that are too many

decimal_digit : (c : ℕ) → is_ascii_digit c ≡ true → is_digit c 10 ≡ true
decimal_digit c is = grind (arith, nat_tests)

-- the digits before the dot are digits of base ten
whole_pass : (bytes : List ℕ) → list_all (λ c. is_digit c 10) (whole_digits bytes) ≡ true
whole_pass bytes = all_weaker is_ascii_digit (λ c. is_digit c 10) decimal_digit (whole_digits bytes) (run_passes is_ascii_digit bytes)

-- where their value doesn't fit, no more do the millionths
pub too_many : (bytes : List ℕ) → (list_all (λ c. is_digit c 10) (whole_digits bytes) && ltb (digits_value 10 (whole_digits bytes)) (2 ^ 63)) ≡ false
    → ¬ (millionths bytes < 2 ^ 63)
too_many bytes isnt small =
    let fits : ltb (digits_value 10 (whole_digits bytes)) (2 ^ 63) ≡ true = lt-ltb (digits_value 10 (whole_digits bytes)) (2 ^ 63) (omega arith) in
    true≢false (sym (and_from _ _ (whole_pass bytes) fits) ∙ isnt)
