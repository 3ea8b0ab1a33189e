-- Numbers of few digits are integers, and the decimal text of a number below 2^63 spells it.
use Rattle.std.proofs.Common.{◌≡◌, ℕ, zero, suc, decimal, ◌+◌, ◌^◌, ◌<◌, ◌≤◌, Bool, true, false, cond, eqb, ltb, List, [], ◌∷◌, length, take, slice_index, refl}
use Rattle.std.proofs.Common.{sym, ◌∙◌, subst, arith, length-take-le, get_or-take}
use Rattle.std.proofs.Math.Nat.{pow-le-pow_right}
use Rattle.std.proofs.lemmas.Bool.{and_from, and_parts, lt-ltb}
use Rattle.std.proofs.lemmas.Bool.Decides.{nat_tests}
use Rattle.std.proofs.lemmas.Fmt.{decimal_is_IsNumeral, decimal_digit, first_decimal}
use Rattle.std.proofs.lemmas.Int.Digits.{digits_value-lt}
use Rattle.std.proofs.lemmas.List.Sums.{prefix_len-le-length}
use Rattle.std.specs.Char.{is_ascii_digit, is_ascii_hexdigit, is_digit, digit_value}
use Rattle.std.specs.List.{list_all, prefix_len}
use Rattle.std.specs.Str.Parse.{AllDigits, digits_value}
use Rattle.ad_lexer.specs.Numbers.{has_fraction, is_hexadecimal, is_integer, number_len, value}
use Rattle.ad_lexer.proofs.Runs.{run_passes}

digits_pass : (ds : List ℕ) → AllDigits 10 ds → list_all (λ c. is_digit c 10) ds ≡ true
digits_pass [] each = refl
digits_pass (c ∷ ds) each = and_from (is_digit c 10) _ (lt-ltb _ 10 each.0) (digits_pass ds each.1)

-- digits that begin with no 0 are an integer of base ten
decimal_by : (ds : List ℕ) (n : ℕ) → 48 < slice_index ds 0 → (0 < length ds) × AllDigits 10 ds → digits_value 10 ds ≡ n → n < 2 ^ 63
    → (is_integer ds ≡ true) × (value ds ≡ n)
decimal_by ds n first numeral is fits =
    let other : eqb (slice_index ds 0) 48 ≡ false = grind (arith, nat_tests) in
    let some : ltb 0 (length ds) ≡ true = lt-ltb 0 (length ds) numeral.0 in
    let small : ltb (digits_value 10 ds) (2 ^ 63) ≡ true = grind (arith, nat_tests) in
    rw other (and_from _ _ (and_from _ _ some (digits_pass ds numeral.1)) small, is)

digit_below : (c : ℕ) → is_ascii_digit c ≡ true → digit_value c < 10
digit_below c is = grind (arith, nat_tests)

all_digits : (ds : List ℕ) → list_all is_ascii_digit ds ≡ true → AllDigits 10 ds
all_digits [] each = tt
all_digits (c ∷ ds) each = let both = and_parts (is_ascii_digit c) _ each in (digit_below c both.0, all_digits ds both.1)

-- the length of a number that is an integer of base ten
pub plain_len : (hexadecimal fraction : Bool) (a b c : ℕ) → hexadecimal ≡ false → fraction ≡ false → cond hexadecimal a (cond fraction b c) ≡ c
plain_len false false a b c isnt whole = refl
plain_len true fraction a b c isnt whole = absurd (cc)
plain_len false true a b c isnt whole = absurd (cc)

-- a number of at most 18 decimal digits, of which the first isn't 0, is an integer
pub short_integer : (text : List ℕ) (len : ℕ) → len ≡ number_len text → has_fraction text ≡ false → 0 < len → len ≤ 18 → 48 < slice_index text 0
    → is_integer (take len text) ≡ true
short_integer text len number integer some short first =
    let isnt : is_hexadecimal text ≡ false = grind (arith, nat_tests) in
    let run : len ≡ prefix_len is_ascii_digit text =
    number ∙ plain_len (is_hexadecimal text) (has_fraction text) _ _ (prefix_len is_ascii_digit text) isnt integer in
    let ds : List ℕ = take len text in
    let each : AllDigits 10 ds = all_digits ds (subst (λ n. list_all is_ascii_digit (take n text) ≡ true) (sym run) (run_passes is_ascii_digit text)) in
    let long : length ds ≡ len = length-take-le len text (omega (arith, prefix_len-le-length is_ascii_digit text)) in
    let begins : slice_index ds 0 ≡ slice_index text 0 = get_or-take len text 0 0 some in
    let most : 10 ^ length ds ≤ 10 ^ 18 = pow-le-pow_right {n = 10} (omega arith) {i = length ds} {j = 18} (omega arith) in
    let fits : digits_value 10 ds < 2 ^ 63 = omega (arith, digits_value-lt 10 ds each, most) in
    (decimal_by ds (digits_value 10 ds) (omega arith) (omega arith, each) refl fits).0

hexadecimal_below : (c : ℕ) → is_ascii_hexdigit c ≡ true → digit_value c < 16
hexadecimal_below c is = grind (arith, nat_tests)

hexadecimal_digits : (ds : List ℕ) → list_all is_ascii_hexdigit ds ≡ true → AllDigits 16 ds × (list_all (λ c. is_digit c 16) ds ≡ true)
hexadecimal_digits [] each = (tt, refl)
hexadecimal_digits (c ∷ ds) each =
    let both = and_parts (is_ascii_hexdigit c) _ each in
    let below = hexadecimal_below c both.0 in
    let more = hexadecimal_digits ds both.1 in
    ((below, more.0), and_from (is_digit c 16) _ (lt-ltb _ 16 below) more.1)

hexadecimal_by : (a b n : ℕ) (rest : List ℕ) → is_hexadecimal (a ∷ b ∷ rest) ≡ true → n ≡ prefix_len is_ascii_hexdigit rest → 0 < n → n ≤ 15
    → is_integer (take (suc (suc n)) (a ∷ b ∷ rest)) ≡ true
hexadecimal_by a b n rest is run some short =
    let ds : List ℕ = take n rest in
    let each = hexadecimal_digits ds (subst (λ n. list_all is_ascii_hexdigit (take n rest) ≡ true) (sym run) (run_passes is_ascii_hexdigit rest)) in
    let long : length ds ≡ n = length-take-le n rest (omega (arith, prefix_len-le-length is_ascii_hexdigit rest)) in
    let most : 16 ^ length ds ≤ 16 ^ 15 = pow-le-pow_right {n = 16} (omega arith) {i = length ds} {j = 15} (omega arith) in
    let fits : ltb (digits_value 16 ds) (2 ^ 63) ≡ true = lt-ltb _ (2 ^ 63) (omega (arith, digits_value-lt 16 ds each.0, most)) in
    rw is (and_from _ _ (and_from _ _ (lt-ltb 0 (length ds) (omega arith)) each.1) fits)

-- a hexadecimal number of at most 15 digits is an integer
pub short_hexadecimal : (text : List ℕ) (len : ℕ) → is_hexadecimal text ≡ true → len ≡ number_len text → 2 < len → len ≤ 17 → is_integer (take len text) ≡ true
short_hexadecimal [] len is number some short = absurd (grind (arith, nat_tests))
short_hexadecimal (a ∷ []) len is number some short = absurd (grind (arith, nat_tests))
short_hexadecimal (a ∷ b ∷ rest) len is number some short =
    let n : ℕ = prefix_len is_ascii_hexdigit rest in
    let run : len ≡ 2 + n = rw is at number in
    let two : suc (suc n) ≡ len = omega arith in
    subst (λ l. is_integer (take l (a ∷ b ∷ rest)) ≡ true) two (hexadecimal_by a b n rest is refl (omega arith) (omega arith))

pub decimal_integer : (n : ℕ) → n < 2 ^ 63 → (is_integer (decimal n) ≡ true) × (value (decimal n) ≡ n)
decimal_integer zero fits = rw (decimal_digit 0 (omega arith)) (refl, refl)
decimal_integer (suc n) fits =
    let numeral = decimal_is_IsNumeral (suc n) (omega arith) in
    decimal_by (decimal (suc n)) (suc n) (first_decimal (suc n) (omega arith) (omega arith)) numeral.0 numeral.1 fits
