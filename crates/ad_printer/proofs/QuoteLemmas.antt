-- A text between quotes is quoted as the lexer has it, and means the text again.
use Rattle.std.proofs.Common.{◌≡◌, ℕ, ◌+◌, ◌/◌, ◌%◌, ◌<◌, Bool, true, false, cond, not, eqb, ltb, ◌||◌, List, [], ◌∷◌}
use Rattle.std.proofs.Common.{◌++◌, map, Some, refl, sym, ◌∙◌, subst, inl, inr, arith}
use Rattle.std.proofs.lemmas.Bool.{and_parts, and_from, or_parts, or_cases, not-true, eqb-true}
use Rattle.std.proofs.lemmas.Bool.Decides.{nat_tests}
use Rattle.std.specs.List.{list_all}
use Rattle.std.specs.Str.Parse.{digits_value}
use Rattle.ad_lexer.specs.Quoted.{Letter, plain, escape, octal, spellings, meaning, is_plain, escaped, is_octal_digit, IsOctal, IsLetter, AreLetters, IsQuoted}
use Rattle.ad_lexer.proofs.LetterLemmas.{is_quote, octal_value}
use Rattle.ad_printer.specs.Quotes.{octal_digits, letter_for, in_quotes}

-- a letter of the quote, before what follows, that means the byte
abbrev Writes : ℕ → ℕ → List ℕ → Letter → Type 0
Writes quote byte after letter = IsLetter quote letter after × (meaning letter ≡ byte)

special_escaped : (quote byte : ℕ) → is_quote quote ≡ true → (eqb byte quote || eqb byte 92) ≡ true → escaped byte ≡ Some byte
special_escaped quote byte is special =
    elim (or_cases (eqb byte quote) (eqb byte 92) special) [
      | inl same ↦
          let e : byte ≡ quote = eqb-true byte quote same in
          elim (or_cases (eqb quote 34) (eqb quote 39) is) [
            | inl double ↦ let f : byte ≡ 34 = e ∙ eqb-true quote 34 double in subst (λ (b : ℕ). escaped b ≡ Some b) (sym f) refl
            | inr one ↦ let f : byte ≡ 39 = e ∙ eqb-true quote 39 one in subst (λ (b : ℕ). escaped b ≡ Some b) (sym f) refl
          ]
      | inr slash ↦ let f : byte ≡ 92 = eqb-true byte 92 slash in subst (λ (b : ℕ). escaped b ≡ Some b) (sym f) refl
    ]

octal_digit : (n : ℕ) → n < 8 → is_octal_digit (48 + n) ≡ true
octal_digit n small = grind (arith, nat_tests)

digits_octal : (byte : ℕ) (after : List ℕ) → 0 < byte → byte < 128
    → IsOctal (octal_digits byte) after × (digits_value 8 (octal_digits byte) ≡ byte)
digits_octal byte after some small =
    let first : is_octal_digit (48 + byte / 64) ≡ true = octal_digit (byte / 64) (omega arith) in
    let second : is_octal_digit (48 + byte / 8 % 8) ≡ true = octal_digit (byte / 8 % 8) (omega arith) in
    let third : is_octal_digit (48 + byte % 8) ≡ true = octal_digit (byte % 8) (omega arith) in
    let a = octal_value (48 + byte / 64) first in
    let b = octal_value (48 + byte / 8 % 8) second in
    let c = octal_value (48 + byte % 8) third in
    let value : digits_value 8 (octal_digits byte) ≡ byte = omega arith in (
      record {
        some = omega arith;
        most = omega arith;
        octal = and_from _ _ first (and_from _ _ second (and_from _ true third refl));
        whole = λ short. absurd (omega arith);
        above = omega arith;
        below = omega arith;
      },
      value,
    )

plain_is : (quote byte : ℕ) → eqb byte 0 ≡ false → (eqb byte quote || eqb byte 92) ≡ false → eqb byte 10 ≡ false → is_plain quote byte ≡ true
plain_is quote byte some special feed = let parts = or_parts (eqb byte quote) (eqb byte 92) special in rw (parts.0, parts.1, feed, some) refl

writes_by : (quote byte : ℕ) (after : List ℕ) (special back tab feed form ret low : Bool) → is_quote quote ≡ true → eqb byte 0 ≡ false
    → (eqb byte quote || eqb byte 92) ≡ special → eqb byte 8 ≡ back → eqb byte 9 ≡ tab → eqb byte 10 ≡ feed → eqb byte 12 ≡ form
    → eqb byte 13 ≡ ret → (ltb byte 32 || eqb byte 127) ≡ low
    → Writes quote byte after (cond special (escape byte byte)
    (cond back (escape 98 8) (cond tab (escape 116 9) (cond feed (escape 110 10)
    (cond form (escape 102 12) (cond ret (escape 114 13) (cond low (octal (octal_digits byte)) (plain byte))))))))
writes_by quote byte after true back tab feed form ret low is some a b c d e f g = (special_escaped quote byte is a, refl)
writes_by quote byte after false true tab feed form ret low is some a b c d e f g = (refl, sym (eqb-true byte 8 b))
writes_by quote byte after false false true feed form ret low is some a b c d e f g = (refl, sym (eqb-true byte 9 c))
writes_by quote byte after false false false true form ret low is some a b c d e f g = (refl, sym (eqb-true byte 10 d))
writes_by quote byte after false false false false true ret low is some a b c d e f g = (refl, sym (eqb-true byte 12 e))
writes_by quote byte after false false false false false true low is some a b c d e f g = (refl, sym (eqb-true byte 13 f))
writes_by quote byte after false false false false false false true is some a b c d e f g =
    let small : byte < 128 = grind (arith, nat_tests) in
    let above : 0 < byte = grind (arith, nat_tests) in
    digits_octal byte after above small
writes_by quote byte after false false false false false false false is some a b c d e f g = (plain_is quote byte some a d, refl)

pub letter_writes : (quote byte : ℕ) (after : List ℕ) → is_quote quote ≡ true → eqb byte 0 ≡ false
    → IsLetter quote (letter_for quote byte) after × (meaning (letter_for quote byte) ≡ byte)
unfolding letter_for
letter_writes quote byte after is some =
    writes_by quote byte after (eqb byte quote || eqb byte 92) (eqb byte 8) (eqb byte 9) (eqb byte 10) (eqb byte 12) (eqb byte 13) (ltb byte 32 || eqb byte 127)
    is some refl refl refl refl refl refl refl

letters_are : (quote : ℕ) (text : List ℕ) → is_quote quote ≡ true → list_all (λ byte. not (eqb byte 0)) text ≡ true
    → AreLetters quote (map (letter_for quote) text) (quote ∷ [])
letters_are quote [] is some = tt
letters_are quote (byte ∷ bytes) is some =
    let both = and_parts (not (eqb byte 0)) _ some in
    ((letter_writes quote byte (spellings (map (letter_for quote) bytes) ++ quote ∷ []) is (not-true _ both.0)).0, letters_are quote bytes is both.1)

letters_mean : (quote : ℕ) (text : List ℕ) → is_quote quote ≡ true → list_all (λ byte. not (eqb byte 0)) text ≡ true
    → text ≡ map meaning (map (letter_for quote) text)
letters_mean quote [] is some = refl
letters_mean quote (byte ∷ bytes) is some =
    let both = and_parts (not (eqb byte 0)) _ some in
    let first = (letter_writes quote byte [] is (not-true _ both.0)).1 in
    let rest = letters_mean quote bytes is both.1 in
    cc

pub quotes_stand : (quote : ℕ) (text : List ℕ) → is_quote quote ≡ true → list_all (λ byte. not (eqb byte 0)) text ≡ true
    → IsQuoted quote (in_quotes quote text) text
quotes_stand quote text is some = (map (letter_for quote) text, refl, letters_are quote text is some, letters_mean quote text is some)
