-- The number at the front of a text.
use Rattle.std.proofs.Common.{◌≡◌, ℕ, zero, suc, ◌+◌, ◌<◌, ◌≤◌, Bool, true, false, cond, not, eqb, ltb, ◌^◌, ◌&&◌, ◌||◌, List, [], ◌∷◌, ◌++◌, length}
use Rattle.std.proofs.Common.{length-drop, take, drop, slice_index, refl, sym, ◌∙◌, subst, inl, inr, arith}
use Rattle.std.proofs.lemmas.Bool.{cases_Bool, and_parts, or_left, ltb-true, true≢false}
use Rattle.std.proofs.lemmas.Bool.Decides.{nat_tests}
use Rattle.std.proofs.lemmas.List.Sums.{prefix_len-le-length}
use Rattle.std.specs.Char.{is_ascii_digit, is_ascii_hexdigit, is_digit}
use Rattle.std.specs.List.{list_all, prefix_len}
use Rattle.ad_lexer.specs.Blanks.{begins_comment}
use Rattle.ad_lexer.specs.Faults.{is_bad_decimal, is_bad_number, behind_number, Wrong}
use Rattle.ad_lexer.specs.Numbers.{is_hexadecimal, base, digits, digits_len, has_fraction, value, is_integer, is_number, number_len}
use Rattle.ad_lexer.specs.Words.{is_word_byte}
use Rattle.ad_lexer.specs.declared.fault.LexKind.TheVariants as kinds
use Rattle.ad_lexer.specs.declared.next.Step.TheVariants as steps
use Rattle.ad_lexer.specs.declared.token.TokenKind.{TokenKind}
use Rattle.ad_lexer.specs.Reading.{number, number_kind, is_whole, is_decimal_mark}
use Rattle.ad_lexer.specs.Spelling.{Spells}
use Rattle.ad_lexer.proofs.Fronts.{TokenAt, Stands, first_bytes}
use Rattle.ad_lexer.proofs.FractionLemmas.{digits_whole, hexadecimal_whole}
use Rattle.ad_lexer.proofs.Runs.{run_reaches, all_weaker}

-- the digits of an integer
integer_parts : (bytes : List ℕ) → is_integer bytes ≡ true → (0 < length (digits bytes)) × (list_all (λ c. is_digit c (base bytes)) (digits bytes) ≡ true)
integer_parts bytes is =
    let first =
    and_parts (ltb 0 (length (digits bytes))) (list_all (λ c. is_digit c (base bytes)) (digits bytes)) (and_parts _ (ltb (value bytes) (2 ^ 63)) is).0 in
    (ltb-true 0 (length (digits bytes)) first.0, first.1)

in_base : (octal : Bool) (bytes : List ℕ) → list_all (λ c. is_digit c (cond octal 8 10)) bytes ≡ true → list_all is_ascii_digit bytes ≡ true
in_base true bytes each = all_weaker (λ c. is_digit c 8) is_ascii_digit (λ c is. grind (arith, nat_tests)) bytes each
in_base false bytes each = all_weaker (λ c. is_digit c 10) is_ascii_digit (λ c is. grind (arith, nat_tests)) bytes each

-- an integer that isn't hexadecimal is a run of decimal digits
pub integer_decimal : (bytes : List ℕ) → is_integer bytes ≡ true → is_hexadecimal bytes ≡ false → (0 < length bytes) × (list_all is_ascii_digit bytes ≡ true)
integer_decimal bytes is isnt =
    let parts : (0 < length (digits bytes)) × (list_all (λ c. is_digit c (base bytes)) (digits bytes) ≡ true) = integer_parts bytes is in
    let plain = rw isnt at parts in
    (plain.0, in_base (eqb (slice_index bytes 0) 48 && ltb 1 (length bytes)) bytes plain.1)

pub integer_hexadecimal : (bytes : List ℕ) → is_integer bytes ≡ true → is_hexadecimal bytes ≡ true → list_all is_ascii_hexdigit (drop 2 bytes) ≡ true
integer_hexadecimal bytes is hexadecimal =
    let parts : (0 < length (digits bytes)) × (list_all (λ c. is_digit c (base bytes)) (digits bytes) ≡ true) = integer_parts bytes is in
    let plain = rw hexadecimal at parts in
    all_weaker (λ c. is_digit c 16) is_ascii_hexdigit (λ c is. grind (arith, nat_tests)) (drop 2 bytes) plain.1

-- an integer begins with a digit
pub integer_begins : (bytes after : List ℕ) → is_integer bytes ≡ true → is_ascii_digit (slice_index (bytes ++ after) 0) ≡ true
integer_begins [] after is = absurd (true≢false (sym is))
integer_begins (byte ∷ bytes) after is =
    elim (cases_Bool (is_hexadecimal (byte ∷ bytes))) [
      | inl hexadecimal ↦ grind (arith, nat_tests)
      | inr isnt ↦ (and_parts (is_ascii_digit byte) _ (integer_decimal (byte ∷ bytes) is isnt).1).0
    ]

pub integer_nonempty : (bytes : List ℕ) → is_integer bytes ≡ true → 0 < length bytes
integer_nonempty [] is = absurd (true≢false (sym is))
integer_nonempty (byte ∷ bytes) is = omega arith

-- an integer is no longer than the number that stands first
hexadecimal_more : (bytes after : List ℕ) → is_hexadecimal bytes ≡ true → list_all is_ascii_hexdigit (drop 2 bytes) ≡ true
    → length bytes ≤ number_len (bytes ++ after)
hexadecimal_more [] after is each = omega arith
hexadecimal_more (a ∷ []) after is each = absurd (grind (arith, nat_tests))
hexadecimal_more (a ∷ b ∷ bytes) after is each = let reach = run_reaches is_ascii_hexdigit bytes after each in rw is (omega arith)

-- digits before an `x` are one
one_digit : (bytes after : List ℕ) → list_all is_ascii_digit bytes ≡ true → is_hexadecimal (bytes ++ after) ≡ true → length bytes ≤ 1
one_digit [] after each is = omega arith
one_digit (a ∷ []) after each is = omega arith
one_digit (a ∷ b ∷ bytes) after each is =
    let digit = (and_parts (is_ascii_digit b) _ (and_parts (is_ascii_digit a) _ each).1).0 in
    absurd (grind (arith, nat_tests))

-- the number that stands first is no shorter than this, whatever it is
len_reaches : (hexadecimal fraction : Bool) (n a b c : ℕ) → (hexadecimal ≡ true → n ≤ a) → n ≤ b → n ≤ c → n ≤ cond hexadecimal a (cond fraction b c)
len_reaches true fraction n a b c first second third = first refl
len_reaches false true n a b c first second third = second
len_reaches false false n a b c first second third = third

decimal_more : (bytes after : List ℕ) → list_all is_ascii_digit bytes ≡ true → length bytes ≤ number_len (bytes ++ after)
decimal_more bytes after each =
    let text : List ℕ = bytes ++ after in
    let reach = run_reaches is_ascii_digit bytes after each in
    let n : ℕ = digits_len text in
    len_reaches (is_hexadecimal text) (has_fraction text) (length bytes) (2 + prefix_len is_ascii_hexdigit (drop 2 text))
    (n + 1 + digits_len (drop (n + 1) text)) n
    (λ hexadecimal. omega (arith, one_digit bytes after each hexadecimal)) (omega (arith, reach)) reach

pub integer_reaches : (bytes after : List ℕ) → is_integer bytes ≡ true → length bytes ≤ number_len (bytes ++ after)
integer_reaches bytes after is =
    elim (cases_Bool (is_hexadecimal bytes)) [
      | inl hexadecimal ↦ hexadecimal_more bytes after hexadecimal (integer_hexadecimal bytes is hexadecimal)
      | inr isnt ↦ decimal_more bytes after (integer_decimal bytes is isnt).1
    ]

-- an integer is no decimal
pub integer_whole : (bytes : List ℕ) → is_integer bytes ≡ true → has_fraction bytes ≡ false
integer_whole bytes is =
    elim (cases_Bool (is_hexadecimal bytes)) [
      | inl hexadecimal ↦ hexadecimal_whole bytes hexadecimal
      | inr isnt ↦ digits_whole bytes (integer_decimal bytes is isnt).1
    ]

-- the number that stands first is no longer than the text
hexadecimal_fits : (text : List ℕ) → is_hexadecimal text ≡ true → 2 + prefix_len is_ascii_hexdigit (drop 2 text) ≤ length text
hexadecimal_fits [] is = absurd (grind (arith, nat_tests))
hexadecimal_fits (a ∷ []) is = absurd (grind (arith, nat_tests))
hexadecimal_fits (a ∷ b ∷ text) is = omega (arith, prefix_len-le-length is_ascii_hexdigit text)

digit_within : (n : ℕ) (text : List ℕ) → is_ascii_digit (slice_index text n) ≡ true → n < length text
digit_within n [] is = absurd (true≢false (sym is))
digit_within zero (byte ∷ text) is = omega arith
digit_within (suc n) (byte ∷ text) is = omega (arith, digit_within n text is)

decimal_fits : (text : List ℕ) → has_fraction text ≡ true → digits_len text + 1 + digits_len (drop (digits_len text + 1) text) ≤ length text
decimal_fits text is =
    let digit = (and_parts (eqb (slice_index text (digits_len text)) 46) _ (and_parts (not (is_hexadecimal text)) _ is).1).1 in
    omega (
      arith,
      digit_within (digits_len text + 1) text digit,
      prefix_len-le-length is_ascii_digit (drop (digits_len text + 1) text),
      length-drop (digits_len text + 1) text,
    )

len_fits : (hexadecimal fraction : Bool) (n a b c : ℕ) → (hexadecimal ≡ true → a ≤ n) → (fraction ≡ true → b ≤ n) → c ≤ n
    → cond hexadecimal a (cond fraction b c) ≤ n
len_fits true fraction n a b c first second third = first refl
len_fits false true n a b c first second third = second refl
len_fits false false n a b c first second third = third

pub number_fits : (text : List ℕ) → number_len text ≤ length text
number_fits text =
    let n : ℕ = digits_len text in
    len_fits (is_hexadecimal text) (has_fraction text) (length text) (2 + prefix_len is_ascii_hexdigit (drop 2 text)) (n + 1 + digits_len (drop (n + 1) text)) n
    (hexadecimal_fits text) (decimal_fits text) (prefix_len-le-length is_ascii_digit text)

-- ---- how the tests of a number choose

-- a mark of a decimal is behind a number that isn't hexadecimal
abbrev pub is_marked : List ℕ → Bool
is_marked text = is_decimal_mark (behind_number text) && not (is_hexadecimal text)

-- the number is an integer or a decimal, with nothing behind it that goes on
abbrev pub is_token : List ℕ → Bool
is_token text = not (is_word_byte (behind_number text)) && is_number (has_fraction text) (take (number_len text) text)

pub number_is : (text : List ℕ)
    → number text ≡ cond (is_marked text) (steps.Fault kinds.Decimal 0) (cond (is_token text) (steps.Token (number_kind (has_fraction text)) (number_len text))
    (steps.Fault kinds.Number 0))
unfolding number is_whole
number_is text = refl

decimal_tests : (d h m : Bool) → ((d && not h) && m) ≡ true → (m && not h) ≡ true
decimal_tests d h m is = grind (arith, nat_tests)

number_tests : (d h m b i : Bool) → ((d && not ((d && not h) && m)) && (b || not i)) ≡ true → ((m && not h) ≡ false) × ((not b && i) ≡ false)
number_tests d h m b i is = (grind (arith, nat_tests), grind (arith, nat_tests))

decimal_tested : (d h m : Bool) → d ≡ true → (m && not h) ≡ true → ((d && not h) && m) ≡ true
decimal_tested d h m digit is = grind (arith, nat_tests)

bad_tested : (d h m b i : Bool) → d ≡ true → (m && not h) ≡ false → (not b && i) ≡ false → ((d && not ((d && not h) && m)) && (b || not i)) ≡ true
bad_tested d h m b i digit plain isnt = grind (arith, nat_tests)

pub decimal_met : (text : List ℕ) → is_bad_decimal text ≡ true → number text ≡ steps.Fault kinds.Decimal 0
decimal_met text is = number_is text ∙ rw (decimal_tests _ (is_hexadecimal text) (is_decimal_mark (behind_number text)) is) refl

pub number_met : (text : List ℕ) → is_bad_number text ≡ true → number text ≡ steps.Fault kinds.Number 0
number_met text is =
    let tests =
    number_tests _ (is_hexadecimal text) (is_decimal_mark (behind_number text)) (is_word_byte (behind_number text))
    (is_number (has_fraction text) (take (number_len text) text)) is in
    number_is text ∙ rw (tests.0, tests.1) refl

number_by : (d h m b i : Bool) (kind : TokenKind) (text : List ℕ) (len : ℕ) → d ≡ true → (i ≡ true → TokenAt kind text len)
    → (((d && not h) && m) ≡ true → Wrong kinds.Decimal text 0) → (((d && not ((d && not h) && m)) && (b || not i)) ≡ true → Wrong kinds.Number text 0)
    → Stands text (cond (m && not h) (steps.Fault kinds.Decimal 0) (cond (not b && i) (steps.Token kind len) (steps.Fault kinds.Number 0)))
number_by d h m b i kind text len digit token decimal other =
    elim (cases_Bool (m && not h)) [
      | inl marked ↦ rw marked (decimal (decimal_tested d h m digit marked))
      | inr plain ↦ elim (cases_Bool (not b && i)) [
        | inl is ↦ rw (plain, is) (token (and_parts (not b) i is).1)
        | inr isnt ↦ rw (plain, isnt) (other (bad_tested d h m b i digit plain isnt))
      ]
    ]

number_spells : (decimal : Bool) (bytes : List ℕ) → is_number decimal bytes ≡ true → Spells (number_kind decimal) bytes
number_spells true bytes is = is
number_spells false bytes is = is

pub number_stands : (text : List ℕ) → is_ascii_digit (slice_index text 0) ≡ true → begins_comment text ≡ false → Stands text (number text)
number_stands text digit no_comment =
    subst (λ s. Stands text s) (sym (number_is text)) (number_by (is_ascii_digit (slice_index text 0)) (is_hexadecimal text)
    (is_decimal_mark (behind_number text)) (is_word_byte (behind_number text)) (is_number (has_fraction text) (take (number_len text) text))
    (number_kind (has_fraction text)) text (number_len text) digit
    (λ is. first_bytes (number_kind (has_fraction text)) text (number_len text) (number_fits text)
    (number_spells (has_fraction text) (take (number_len text) text) is) no_comment) (λ is. (or_left (is_bad_decimal text) _ is, refl)) (λ is. (is, refl)))

-- a token that is read is as long as the number
token_len : (p q : Bool) (kind : TokenKind) (len : ℕ) (read : TokenKind) (n : ℕ)
    → cond p (steps.Fault kinds.Decimal 0) (cond q (steps.Token kind len) (steps.Fault kinds.Number 0)) ≡ steps.Token read n → len ≡ n
token_len true q kind len read n is = absurd (cc)
token_len false true kind len read n is = cc
token_len false false kind len read n is = absurd (cc)

pub number_read : (text : List ℕ) (read : TokenKind) (n : ℕ) → number text ≡ steps.Token read n → number_len text ≡ n
number_read text read n is = token_len (is_marked text) (is_token text) (number_kind (has_fraction text)) (number_len text) read n (sym (number_is text) ∙ is)
