-- Reading digit by digit is reading the whole.
use Rattle.std.proofs.Common.{◌≡◌, ℕ, zero, suc, decimal, ◌+◌, ◌*◌, ◌^◌, ◌<◌, ◌≤◌, Bool, true, false, cond, ltb, ◌&&◌, List, [], ◌∷◌, length, slice_index, eqb}
use Rattle.std.proofs.Common.{refl, sym, ◌∙◌, ap, None, Some, Option, arith}
use Rattle.std.proofs.lemmas.Bool.Decides.{nat_tests}
use Rattle.std.specs.Char.{is_ascii_digit, digit_value}
use Rattle.std.specs.Str.{all_ascii_digits}
use Rattle.std.specs.Str.Parse.{digits_value, digits_value_after}
use Rattle.std.proofs.lemmas.Str.Parse.{IsNumeralModel, numerals_by_value, tells_all_ascii_digits}
use Rattle.std.proofs.lemmas.Fmt.{decimal_digit, first_decimal, decimal_nonempty, digits_decimal, digits_value-decimal, decimal-digits_value}
use Rattle.pool_text.specs.Number.{number_of}
use Rattle.pool_text.specs.Reading.{read_from}

-- further digits never lower a number
after_grows : (n : ℕ) (cs : List ℕ) → n ≤ digits_value_after 10 n cs
after_grows n [] = omega arith
after_grows n (c ∷ cs) = let more = after_grows (n * 10 + digit_value c) cs in omega arith

if_fits : (n : ℕ) → n < 2 ^ 64 → Some n ≡ cond (ltb n (2 ^ 64)) (Some n) None
if_fits n fits = grind (arith, nat_tests)

-- one more digit: it must be one, and the number with it must be small enough
choose : (digit small digits fits : Bool) (x y : Option ℕ) → (small ≡ false → fits ≡ false) → (small ≡ true → x ≡ cond (digits && fits) y None)
    → cond (digit && small) x None ≡ cond ((digit && digits) && fits) y None
choose false small digits fits x y large reads = refl
choose true true digits fits x y large reads = reads refl
choose true false false fits x y large reads = refl
choose true false true true x y large reads = absurd (cc (large refl))
choose true false true false x y large reads = refl

-- reading the digits behind those of n gives their number, or nothing where one is no digit or the number is too large
pub read_from-is : (n : ℕ) (cs : List ℕ) → n < 2 ^ 64
    → read_from n cs ≡ cond (all_ascii_digits cs && ltb (digits_value_after 10 n cs) (2 ^ 64)) (Some (digits_value_after 10 n cs)) None
read_from-is n [] fits = if_fits n fits
read_from-is n (c ∷ cs) fits =
    let next : ℕ = n * 10 + digit_value c in
    let grows = after_grows next cs in
    choose (is_ascii_digit c) (ltb next (2 ^ 64)) (all_ascii_digits cs) (ltb (digits_value_after 10 next cs) (2 ^ 64)) (read_from next cs)
    (Some (digits_value_after 10 next cs)) (λ large. grind (arith, nat_tests)) (λ small. read_from-is next cs (grind (arith, nat_tests)))

and_true : (digits small : Bool) (x : Option ℕ) → cond ((digits && true) && small) x None ≡ cond (digits && small) x None
and_true true small x = refl
and_true false small x = refl

without_test : (digits begins small : Bool) (x : Option ℕ) → begins ≡ true → cond ((digits && begins) && small) x None ≡ cond (digits && small) x None
without_test digits true small x is = and_true digits small x
without_test digits false small x is = absurd (cc)

-- digits of which the first is 0 only where it stands alone are read as they stand
pub number_of-is : (bytes : List ℕ) → 0 < length bytes → (slice_index bytes 0 ≡ 48 → length bytes ≡ 1) → number_of bytes ≡ read_from 0 bytes
number_of-is bytes some alone =
    let begins : cond (eqb (slice_index bytes 0) 48) (eqb (length bytes) 1) (ltb 0 (length bytes)) ≡ true = grind (arith, nat_tests) in
    without_test (all_ascii_digits bytes) _ (ltb (digits_value_after 10 0 bytes) (2 ^ 64)) (Some (digits_value_after 10 0 bytes)) begins
    ∙ sym (read_from-is 0 bytes (omega arith))

own_digits : IsNumeralModel (λ ds. all_ascii_digits ds ≡ true) (digits_value 10)
own_digits = numerals_by_value (λ ds. all_ascii_digits ds ≡ true) tells_all_ascii_digits

-- the first digit is 0 only where it stands alone
abbrev begins : List ℕ → Bool
begins bytes = cond (eqb (slice_index bytes 0) 48) (eqb (length bytes) 1) (ltb 0 (length bytes))

decimal_begins : (n : ℕ) → n < 2 ^ 64 → begins (decimal n) ≡ true
decimal_begins zero fits = rw (decimal_digit 0 (omega arith)) refl
decimal_begins (suc n) fits =
    let first = first_decimal (suc n) (omega arith) fits in
    let some = decimal_nonempty (suc n) fits in
    grind (arith, nat_tests)

all_of : (digits begun small : Bool) (x : Option ℕ) → digits ≡ true → begun ≡ true → small ≡ true → cond ((digits && begun) && small) x None ≡ x
all_of true true true x d b s = refl
all_of false begun small x d b s = absurd (cc)
all_of true false small x d b s = absurd (cc)
all_of true true false x d b s = absurd (cc)

-- a number is read from its decimal text
pub number_of-decimal : (n : ℕ) → n < 2 ^ 64 → number_of (decimal n) ≡ Some n
number_of-decimal n fits =
    let value = digits_value-decimal own_digits n fits in
    all_of (all_ascii_digits (decimal n)) (begins (decimal n)) (ltb (digits_value 10 (decimal n)) (2 ^ 64)) (Some (digits_value 10 (decimal n)))
    (digits_decimal own_digits n fits) (decimal_begins n fits) (grind (arith, nat_tests)) ∙ ap (λ (m : ℕ). Some m) value

record Parts (digits begun small : Bool) (v n : ℕ) : Type 0 where
  all : digits ≡ true
  well_begun : begun ≡ true
  fits : small ≡ true
  value : v ≡ n

parts_of : (digits begun small : Bool) (v n : ℕ) → cond ((digits && begun) && small) (Some v) None ≡ Some n → Parts digits begun small v n
parts_of true true true v n is = record { all = refl; well_begun = refl; fits = refl; value = cc }
parts_of false begun small v n is = absurd (cc)
parts_of true false small v n is = absurd (cc)
parts_of true true false v n is = absurd (cc)

-- and from no other text
pub number_of-only : (bytes : List ℕ) (n : ℕ) → number_of bytes ≡ Some n → bytes ≡ decimal n
number_of-only bytes n is =
    let parts = parts_of (all_ascii_digits bytes) (begins bytes) (ltb (digits_value 10 bytes) (2 ^ 64)) (digits_value 10 bytes) n is in
    let begun = parts.well_begun in
    let some : 0 < length bytes = grind (arith, nat_tests) in
    let alone : slice_index bytes 0 ≡ 48 → length bytes ≡ 1 = λ first. grind (arith, nat_tests) in
    let small = parts.fits in
    let fits : digits_value 10 bytes < 2 ^ 64 = grind (arith, nat_tests) in
    sym (decimal-digits_value own_digits bytes parts.all some alone fits) ∙ ap decimal parts.value
