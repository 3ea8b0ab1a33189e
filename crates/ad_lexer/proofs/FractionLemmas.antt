-- Decimals: digits, a dot and digits.
use Rattle.std.proofs.Common.{◌≡◌, ℕ, ◌+◌, ◌^◌, ◌<◌, ◌≤◌, Bool, true, false, cond, eqb, ltb, not, ◌&&◌, List, [], ◌∷◌, ◌++◌, length, take, drop, slice_index}
use Rattle.std.proofs.Common.{refl, sym, ◌∙◌, ap, arith, length-append, length-drop, length-take-le, append_assoc, append-nil}
use Rattle.std.proofs.lemmas.Bool.{and_parts, and_from, and_left, and_right, not_from_false, not_from_true, eqb-true, lt-ltb, ltb-true, true≢false}
use Rattle.std.proofs.lemmas.Bool.Decides.{nat_tests}
use Rattle.std.proofs.lemmas.List.{take_at, drop_at, drop-drop, get_or-drop, take-append-drop}
use Rattle.std.proofs.lemmas.List.Folds.{list_all-append}
use Rattle.std.proofs.lemmas.List.Sums.{prefix_len-le-length}
use Rattle.std.specs.Char.{is_ascii, is_ascii_digit, digit_value}
use Rattle.std.specs.List.{list_all}
use Rattle.ad_lexer.specs.Numbers.{digits_len, fraction_digits, has_fraction, is_decimal_number, is_dotted, is_hexadecimal, millionths, number_len}
use Rattle.ad_lexer.specs.Numbers.{whole_digits}
use Rattle.ad_lexer.proofs.Runs.{run_step, run_passes, run_reaches, run_exact, all_weaker}

pub digit_small : (c : ℕ) → digit_value c ≤ 36
digit_small c = grind (arith, nat_tests)

-- ---- digits and a dot at the front

-- the byte behind the first part of a text
pub at_behind : (bytes after : List ℕ) → slice_index (bytes ++ after) (length bytes) ≡ slice_index after 0
at_behind [] after = refl
at_behind (byte ∷ bytes) after = at_behind bytes after

-- what stands behind the dot
behind_dot : (whole more : List ℕ) → drop (length whole + 1) (whole ++ 46 ∷ more) ≡ more
behind_dot whole more =
    ap (λ (l : List ℕ). drop (length whole + 1) l) (sym (append_assoc whole (46 ∷ []) more))
    ∙ drop_at (whole ++ 46 ∷ []) more (length whole + 1) (omega (arith, length-append whole (46 ∷ [])))

-- a byte is the first behind those before it
first_behind : (n : ℕ) (text : List ℕ) → slice_index (drop n text) 0 ≡ slice_index text n
first_behind n text = let here : n + 0 ≡ n = omega arith in get_or-drop n text 0 0 ∙ ap (λ (k : ℕ). slice_index text k) here

dot_len : (whole more : List ℕ) → list_all is_ascii_digit whole ≡ true → digits_len (whole ++ 46 ∷ more) ≡ length whole
dot_len whole more each = run_exact is_ascii_digit whole (46 ∷ more) each (λ some. refl)

dot_isnt : (whole more : List ℕ) → list_all is_ascii_digit whole ≡ true → is_hexadecimal (whole ++ 46 ∷ more) ≡ false
dot_isnt [] more each = refl
dot_isnt (a ∷ []) more each = and_right (eqb a 48) false refl
dot_isnt (a ∷ b ∷ whole) more each =
    let digit = (and_parts (is_ascii_digit b) _ (and_parts (is_ascii_digit a) _ each).1).0 in
    grind (arith, nat_tests)

-- a digit behind the dot
dot_fraction : (whole more : List ℕ) → list_all is_ascii_digit whole ≡ true → is_ascii_digit (slice_index more 0) ≡ true
    → has_fraction (whole ++ 46 ∷ more) ≡ true
dot_fraction whole more each begins =
    let text : List ℕ = whole ++ 46 ∷ more in
    let len : digits_len text ≡ length whole = dot_len whole more each in
    let dot : eqb (slice_index text (digits_len text)) 46 ≡ true =
    ap (λ (n : ℕ). eqb (slice_index text n) 46) len ∙ ap (λ (b : ℕ). eqb b 46) (at_behind whole (46 ∷ more)) in
    let digit : is_ascii_digit (slice_index text (digits_len text + 1)) ≡ true =
    ap (λ (n : ℕ). is_ascii_digit (slice_index text (n + 1))) len ∙ ap is_ascii_digit (sym (first_behind (length whole + 1) text))
    ∙ ap (λ (l : List ℕ). is_ascii_digit (slice_index l 0)) (behind_dot whole more) ∙ begins in
    and_from (not (is_hexadecimal text)) _ (not_from_false (is_hexadecimal text) (dot_isnt whole more each)) (and_from _ _ dot digit)

len_by : (hexadecimal fraction : Bool) (a b c n : ℕ) → hexadecimal ≡ false → fraction ≡ true → b ≡ n → cond hexadecimal a (cond fraction b c) ≡ n
len_by false true a b c n isnt is e = e
len_by true fraction a b c n isnt is e = absurd (true≢false isnt)
len_by false false a b c n isnt is e = absurd (true≢false (sym is))

fraction_len : (whole more : List ℕ) → list_all is_ascii_digit whole ≡ true → is_ascii_digit (slice_index more 0) ≡ true
    → number_len (whole ++ 46 ∷ more) ≡ length whole + 1 + digits_len more
fraction_len whole more each begins =
    let text : List ℕ = whole ++ 46 ∷ more in
    len_by (is_hexadecimal text) (has_fraction text) _ (digits_len text + 1 + digits_len (drop (digits_len text + 1) text)) (digits_len text)
    (length whole + 1 + digits_len more) (dot_isnt whole more each) (dot_fraction whole more each begins)
    (ap (λ (n : ℕ). n + 1 + digits_len (drop (n + 1) text)) (dot_len whole more each)
    ∙ ap (λ (l : List ℕ). length whole + 1 + digits_len l) (behind_dot whole more))

-- ---- a text with a dot behind its digits is divided there

first_of : (xs : List ℕ) (b : ℕ) → 0 < b → slice_index xs 0 ≡ b → (rest : List ℕ) × (xs ≡ b ∷ rest)
first_of [] b some is = absurd (omega arith)
first_of (x ∷ xs) b some is = (xs, ap (λ (y : ℕ). y ∷ xs) is)

divided : (text : List ℕ) → eqb (slice_index text (digits_len text)) 46 ≡ true → text ≡ whole_digits text ++ 46 ∷ fraction_digits text
divided text dot =
    let n : ℕ = digits_len text in
    let rest = first_of (drop n text) 46 (omega arith) (first_behind n text ∙ eqb-true (slice_index text n) 46 dot) in
    let more : rest.0 ≡ fraction_digits text = ap (λ (l : List ℕ). drop 1 l) (sym rest.1) ∙ drop-drop 1 n text in
    sym (take-append-drop n text) ∙ ap (λ (l : List ℕ). take n text ++ l) (rest.1 ∙ ap (λ (l : List ℕ). 46 ∷ l) more)

whole_each : (text : List ℕ) → list_all is_ascii_digit (whole_digits text) ≡ true
whole_each text = run_passes is_ascii_digit text

-- ---- digits, a dot and digits

-- digits that begin a text begin it with one
digits_begin : (digits after : List ℕ) → 0 < length digits → list_all is_ascii_digit digits ≡ true → is_ascii_digit (slice_index (digits ++ after) 0) ≡ true
digits_begin [] after some each = absurd (omega arith)
digits_begin (d ∷ digits) after some each = (and_parts (is_ascii_digit d) _ each).0

pub dotted_is : (whole fraction : List ℕ) → 0 < length whole → list_all is_ascii_digit whole ≡ true → 0 < length fraction
    → list_all is_ascii_digit fraction ≡ true
    → (is_dotted (whole ++ 46 ∷ fraction) ≡ true) × (whole_digits (whole ++ 46 ∷ fraction) ≡ whole) × (fraction_digits (whole ++ 46 ∷ fraction) ≡ fraction)
dotted_is whole fraction whole_some whole_each some each =
    let bytes : List ℕ = whole ++ 46 ∷ fraction in
    let len : digits_len bytes ≡ length whole = dot_len whole fraction whole_each in
    let behind : fraction_digits bytes ≡ fraction = ap (λ (n : ℕ). drop (n + 1) bytes) len ∙ behind_dot whole fraction in
    let dot : eqb (slice_index bytes (digits_len bytes)) 46 ≡ true =
    ap (λ (n : ℕ). eqb (slice_index bytes n) 46) len ∙ ap (λ (b : ℕ). eqb b 46) (at_behind whole (46 ∷ fraction)) in
    let first : ltb 0 (digits_len bytes) ≡ true = lt-ltb 0 (digits_len bytes) (omega (arith, len)) in
    let more : ltb 0 (length (fraction_digits bytes)) ≡ true =
    lt-ltb 0 (length (fraction_digits bytes)) (omega (arith, ap (λ (l : List ℕ). length l) behind)) in (
      and_from _ _ (and_from _ _ first dot) (and_from _ _ more (ap (λ (l : List ℕ). list_all is_ascii_digit l) behind ∙ each)),
      ap (λ (n : ℕ). take n bytes) len ∙ take_at whole (46 ∷ fraction) (length whole) refl,
      behind,
    )

pub record DecimalParts (bytes : List ℕ) : Type 0 where
  pub whole : List ℕ
  pub fraction : List ℕ
  pub bytes_is : bytes ≡ whole ++ 46 ∷ fraction
  pub whole_some : 0 < length whole
  pub whole_each : list_all is_ascii_digit whole ≡ true
  pub some : 0 < length fraction
  pub each : list_all is_ascii_digit fraction ≡ true

pub dotted_parts : (bytes : List ℕ) → is_dotted bytes ≡ true → DecimalParts bytes
dotted_parts bytes is =
    let n : ℕ = digits_len bytes in
    let both = and_parts (ltb 0 n && eqb (slice_index bytes n) 46) _ is in
    let front = and_parts (ltb 0 n) (eqb (slice_index bytes n) 46) both.0 in
    let back = and_parts (ltb 0 (length (fraction_digits bytes))) (list_all is_ascii_digit (fraction_digits bytes)) both.1 in
    record {
      whole = whole_digits bytes;
      fraction = fraction_digits bytes;
      bytes_is = divided bytes front.1;
      whole_some = omega (arith, ltb-true 0 n front.0, length-take-le n bytes (prefix_len-le-length is_ascii_digit bytes));
      whole_each = whole_each bytes;
      some = ltb-true 0 (length (fraction_digits bytes)) back.0;
      each = back.1;
    }

pub dotted_within : (bytes : List ℕ) → is_dotted bytes ≡ true → digits_len bytes < length bytes
dotted_within bytes is =
    let some = (dotted_parts bytes is).some in
    let n : ℕ = digits_len bytes in
    let behind : 0 < length (drop (n + 1) bytes) =
    ltb-true 0 _ (and_parts (ltb 0 (length (fraction_digits bytes))) _ (and_parts (ltb 0 n && eqb (slice_index bytes n) 46) _ is).1).0 in
    omega (arith, behind, length-drop (n + 1) bytes)

decimal_parts : (bytes : List ℕ) → is_decimal_number bytes ≡ true → DecimalParts bytes
decimal_parts bytes is = dotted_parts bytes (and_parts (is_dotted bytes) _ is).0

pub decimal_within : (bytes : List ℕ) → is_decimal_number bytes ≡ true → digits_len bytes < length bytes
decimal_within bytes is = dotted_within bytes (and_parts (is_dotted bytes) _ is).0

pub decimal_small : (bytes : List ℕ) → is_decimal_number bytes ≡ true → millionths bytes < 2 ^ 63
decimal_small bytes is = ltb-true (millionths bytes) (2 ^ 63) (and_parts (is_dotted bytes) _ is).1

-- ---- a decimal at the front of a text

joined : (bytes after : List ℕ) (parts : DecimalParts bytes) → bytes ++ after ≡ parts.whole ++ 46 ∷ (parts.fraction ++ after)
joined bytes after parts = ap (λ (l : List ℕ). l ++ after) parts.bytes_is ∙ append_assoc parts.whole (46 ∷ parts.fraction) after

parts_len : (bytes : List ℕ) (parts : DecimalParts bytes) → length bytes ≡ length parts.whole + 1 + length parts.fraction
parts_len bytes parts = omega (arith, ap (λ (l : List ℕ). length l) parts.bytes_is, length-append parts.whole (46 ∷ parts.fraction))

pub decimal_fraction : (bytes after : List ℕ) → is_decimal_number bytes ≡ true → has_fraction (bytes ++ after) ≡ true
decimal_fraction bytes after is =
    let parts = decimal_parts bytes is in
    ap has_fraction (joined bytes after parts) ∙ dot_fraction parts.whole (parts.fraction
    ++ after) parts.whole_each (digits_begin parts.fraction after parts.some parts.each)

decimal_len : (bytes after : List ℕ) (parts : DecimalParts bytes) → number_len (bytes ++ after) ≡ length parts.whole + 1 + digits_len (parts.fraction ++ after)
decimal_len bytes after parts =
    ap number_len (joined bytes after parts) ∙ fraction_len parts.whole (parts.fraction
    ++ after) parts.whole_each (digits_begin parts.fraction after parts.some parts.each)

-- it is no longer than the number that stands first
pub decimal_reaches : (bytes after : List ℕ) → is_decimal_number bytes ≡ true → length bytes ≤ number_len (bytes ++ after)
decimal_reaches bytes after is =
    let parts = decimal_parts bytes is in
    omega (arith, decimal_len bytes after parts, run_reaches is_ascii_digit parts.fraction after parts.each, parts_len bytes parts)

-- and it is that number where no digit follows
pub decimal_exact : (bytes after : List ℕ) → is_decimal_number bytes ≡ true → is_ascii_digit (slice_index after 0) ≡ false
    → number_len (bytes ++ after) ≡ length bytes
decimal_exact bytes after is ends =
    let parts = decimal_parts bytes is in
    omega (arith, decimal_len bytes after parts, run_exact is_ascii_digit parts.fraction after parts.each (λ some. ends), parts_len bytes parts)

pub decimal_begins : (bytes after : List ℕ) → is_decimal_number bytes ≡ true → is_ascii_digit (slice_index (bytes ++ after) 0) ≡ true
decimal_begins bytes after is =
    let parts = decimal_parts bytes is in
    ap (λ (l : List ℕ). is_ascii_digit (slice_index l 0)) (joined bytes after parts)
    ∙ digits_begin parts.whole (46 ∷ (parts.fraction ++ after)) parts.whole_some parts.whole_each

pub decimal_nonempty : (bytes : List ℕ) → is_decimal_number bytes ≡ true → 0 < length bytes
decimal_nonempty bytes is = omega (arith, decimal_within bytes is)

digits_ascii : (bytes : List ℕ) → list_all is_ascii_digit bytes ≡ true → list_all is_ascii bytes ≡ true
digits_ascii bytes each = all_weaker is_ascii_digit is_ascii (λ c low. grind (arith, nat_tests)) bytes each

pub decimal_ascii : (bytes : List ℕ) → is_decimal_number bytes ≡ true → list_all is_ascii bytes ≡ true
decimal_ascii bytes is =
    let parts = decimal_parts bytes is in
    ap (λ (l : List ℕ). list_all is_ascii l) parts.bytes_is ∙ list_all-append is_ascii parts.whole (46 ∷ parts.fraction)
    ∙ and_from _ _ (digits_ascii parts.whole parts.whole_each) (digits_ascii parts.fraction parts.each)

-- ---- a number that is no decimal

-- digits before another byte than a dot
pub digits_plain : (bytes after : List ℕ) → list_all is_ascii_digit bytes ≡ true → is_ascii_digit (slice_index after 0) ≡ false
    → eqb (slice_index after 0) 46 ≡ false → has_fraction (bytes ++ after) ≡ false
digits_plain bytes after each ends no_dot =
    let text : List ℕ = bytes ++ after in
    let len : digits_len text ≡ length bytes = run_exact is_ascii_digit bytes after each (λ some. ends) in
    let isnt : eqb (slice_index text (digits_len text)) 46 ≡ false =
    ap (λ (n : ℕ). eqb (slice_index text n) 46) len ∙ ap (λ (b : ℕ). eqb b 46) (at_behind bytes after) ∙ no_dot in
    and_right (not (is_hexadecimal text)) _ (and_left _ _ isnt)

pub digits_whole : (bytes : List ℕ) → list_all is_ascii_digit bytes ≡ true → has_fraction bytes ≡ false
digits_whole bytes each = ap has_fraction (sym (append-nil bytes)) ∙ digits_plain bytes [] each refl refl

pub hexadecimal_whole : (bytes : List ℕ) → is_hexadecimal bytes ≡ true → has_fraction bytes ≡ false
hexadecimal_whole bytes is = and_left (not (is_hexadecimal bytes)) _ (not_from_true (is_hexadecimal bytes) is)

-- ---- the front of a text up to where its decimal ends

some_run : (more : List ℕ) → is_ascii_digit (slice_index more 0) ≡ true → 0 < digits_len more
some_run [] is = absurd (true≢false (sym is))
some_run (d ∷ more) is = rw (run_step is_ascii_digit d more is) (omega arith)

some_whole : (whole more : List ℕ) → is_ascii_digit (slice_index (whole ++ 46 ∷ more) 0) ≡ true → 0 < length whole
some_whole [] more is = absurd (true≢false (sym is))
some_whole (d ∷ whole) more is = omega arith

front_dotted : (whole more : List ℕ) → list_all is_ascii_digit whole ≡ true → is_ascii_digit (slice_index more 0) ≡ true
    → is_ascii_digit (slice_index (whole ++ 46 ∷ more) 0) ≡ true
    → is_dotted (take (number_len (whole ++ 46 ∷ more)) (whole ++ 46 ∷ more)) ≡ true
front_dotted whole more each begins digit =
    let n : ℕ = digits_len more in
    let run : List ℕ = take n more in
    let text : List ℕ = whole ++ 46 ∷ more in
    let long : length run ≡ n = length-take-le n more (prefix_len-le-length is_ascii_digit more) in
    let ends : length (whole ++ 46 ∷ run) ≡ number_len text = omega (arith, fraction_len whole more each begins, long, length-append whole (46 ∷ run)) in
    let cut : text ≡ (whole ++ 46 ∷ run) ++ drop n more =
    ap (λ (l : List ℕ). whole ++ 46 ∷ l) (sym (take-append-drop n more)) ∙ sym (append_assoc whole (46 ∷ run) (drop n more)) in
    let front : take (number_len text) text ≡ whole ++ 46 ∷ run =
    ap (λ (l : List ℕ). take (number_len text) l) cut ∙ take_at (whole ++ 46 ∷ run) (drop n more) (number_len text) ends in
    ap is_dotted front ∙ (dotted_is whole run (some_whole whole more digit) each (omega (arith, some_run more begins, long)) (run_passes is_ascii_digit more)).0

pub fraction_dotted : (text : List ℕ) → is_ascii_digit (slice_index text 0) ≡ true → has_fraction text ≡ true → is_dotted (take (number_len text) text) ≡ true
fraction_dotted text digit is =
    let both = and_parts (eqb (slice_index text (digits_len text)) 46) _ (and_parts (not (is_hexadecimal text)) _ is).1 in
    let whole : List ℕ = whole_digits text in
    let more : List ℕ = fraction_digits text in
    let cut : text ≡ whole ++ 46 ∷ more = divided text both.0 in
    let begins : is_ascii_digit (slice_index more 0) ≡ true = ap is_ascii_digit (first_behind (digits_len text + 1) text) ∙ both.1 in
    let first : is_ascii_digit (slice_index (whole ++ 46 ∷ more) 0) ≡ true = ap (λ (l : List ℕ). is_ascii_digit (slice_index l 0)) (sym cut) ∙ digit in
    ap (λ (l : List ℕ). is_dotted (take (number_len l) l)) cut ∙ front_dotted whole more (whole_each text) begins first
