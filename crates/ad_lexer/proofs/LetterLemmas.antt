-- The letter at the front of the rest of a string.
use Rattle.std.proofs.Common.{◌≡◌, ◌≢◌, ◌⊎◌, ℕ, suc, ◌-◌, ◌<◌, ◌≤◌, Bool, true, false}
use Rattle.std.proofs.Common.{cond, eqb, ltb, ◌&&◌, ◌||◌, List, [], ◌∷◌, ◌++◌, length, slice_index}
use Rattle.std.proofs.Common.{Option, Some, None, refl, sym, ◌∙◌, ap, subst, inl, inr, arith}
use Rattle.std.proofs.lemmas.Bool.{cases_Bool, and_parts, and_from, true≢false, eqb-true, lt-ltb, ltb-true}
use Rattle.std.proofs.lemmas.Bool.Decides.{nat_tests}
use Rattle.std.specs.Char.{digit_value}
use Rattle.std.specs.List.{list_all}
use Rattle.std.specs.Str.Parse.{digits_value}
use Rattle.ad_lexer.specs.declared.quoted.Front.{Front}
use Rattle.ad_lexer.specs.declared.quoted.Front.TheVariants as fronts
use Rattle.ad_lexer.specs.Content as content
use Rattle.ad_lexer.specs.Quoted.{Letter, plain, escape, octal, spelling, meaning, is_plain, escaped, is_octal_digit, IsOctal, IsLetter}
use Rattle.ad_lexer.specs.Reading as reading

-- 34 or 39
abbrev pub is_quote : ℕ → Bool
is_quote quote = eqb quote 34 || eqb quote 39

pub quote_differs : (quote byte : ℕ) → is_quote quote ≡ true → byte ≢ 34 → byte ≢ 39 → eqb byte quote ≡ false
quote_differs quote byte is double single = grind (arith, nat_tests)

pub octal_value : (c : ℕ) → is_octal_digit c ≡ true → digit_value c ≡ c - 48
octal_value c is = grind (arith, nat_tests)

pub octal_unescaped : (c : ℕ) → is_octal_digit c ≡ true → escaped c ≡ None
octal_unescaped c is = grind (arith, nat_tests)

-- ---- a letter that stands there is read

pub plain_met : (quote byte : ℕ) (after : List ℕ) → is_plain quote byte ≡ true → reading.front quote (byte ∷ after) ≡ fronts.Letter 1 byte
unfolding reading.front
plain_met quote byte after is = grind (arith, nat_tests)

-- behind a backslash the escape is read
backslash : (quote : ℕ) (bytes : List ℕ) → is_quote quote ≡ true → reading.front quote (92 ∷ bytes) ≡ reading.escape bytes
unfolding reading.front
backslash quote bytes is = rw (quote_differs quote 92 is (λ e. omega arith) (λ e. omega arith)) refl

escape_met : (byte meant : ℕ) (after : List ℕ) → escaped byte ≡ Some meant → reading.escape (byte ∷ after) ≡ fronts.Letter 2 meant
unfolding reading.escape
escape_met byte meant after is = ap (λ o. reading.escape_or o (reading.octal byte (slice_index after 0) (slice_index after 1))) is

-- octal digits that stand first, up to three and as many as stand there
pub record Digits (digits after : List ℕ) : Type 0 where
  pub some : 0 < length digits
  pub most : length digits ≤ 3
  pub octal : list_all is_octal_digit digits ≡ true
  pub whole : length digits < 3 → is_octal_digit (slice_index after 0) ≡ false

-- what three bytes tell of such digits
pub record Told (digits text : List ℕ) : Type 0 where
  pub first : is_octal_digit (slice_index text 0) ≡ true
  pub value : content.octal_value (slice_index text 0) (slice_index text 1) (slice_index text 2) ≡ digits_value 8 digits
  pub len : content.octal_len (slice_index text 1) (slice_index text 2) ≡ suc (length digits)

pub digits_told : (digits after : List ℕ) → Digits digits after → Told digits (digits ++ after)
digits_told [] after is = absurd (omega (arith, is.some))
digits_told (a ∷ []) after is =
    let first = (and_parts (is_octal_digit a) true is.octal).0 in
    let one = octal_value a first in
    record { first = first; value = rw (is.whole (omega arith)) (omega arith); len = rw (is.whole (omega arith)) refl }
digits_told (a ∷ b ∷ []) after is =
    let both = and_parts (is_octal_digit a) _ is.octal in
    let second = (and_parts (is_octal_digit b) true both.1).0 in
    let one = octal_value a both.0 in
    let two = octal_value b second in
    record { first = both.0; value = rw (second, is.whole (omega arith)) (omega arith); len = rw (second, is.whole (omega arith)) refl }
digits_told (a ∷ b ∷ c ∷ []) after is =
    let both = and_parts (is_octal_digit a) _ is.octal in
    let more = and_parts (is_octal_digit b) _ both.1 in
    let third = (and_parts (is_octal_digit c) true more.1).0 in
    let one = octal_value a both.0 in
    let two = octal_value b more.0 in
    let three = octal_value c third in
    record { first = both.0; value = rw (more.0, third) (omega arith); len = rw (more.0, third) refl }
digits_told (a ∷ b ∷ c ∷ d ∷ more) after is = absurd (omega (arith, is.most))

-- the digits of an octal escape
pub octal_digits : (digits after : List ℕ) → IsOctal digits after → Digits digits after
octal_digits digits after is = record { some = is.some; most = is.most; octal = is.octal; whole = is.whole }

to_octal : (text : List ℕ) → is_octal_digit (slice_index text 0) ≡ true
    → reading.escape text ≡ reading.octal (slice_index text 0) (slice_index text 1) (slice_index text 2)
unfolding reading.escape
to_octal [] is = absurd (true≢false (sym is))
to_octal (byte ∷ bytes) is = ap (λ o. reading.escape_or o (reading.octal byte (slice_index bytes 0) (slice_index bytes 1))) (octal_unescaped byte is)

octal_met : (digits after : List ℕ) → IsOctal digits after → reading.escape (digits ++ after) ≡ fronts.Letter (suc (length digits)) (digits_value 8 digits)
unfolding reading.octal
octal_met digits after is =
    let told = digits_told digits after (octal_digits digits after is) in
    to_octal (digits ++ after) told.first ∙ rw (
      told.first,
      told.value,
      told.len,
      lt-ltb 0 (digits_value 8 digits) is.above,
      lt-ltb (digits_value 8 digits) 128 is.below,
    ) refl

pub letter_met : (quote : ℕ) (letter : Letter) (after : List ℕ) → is_quote quote ≡ true → IsLetter quote letter after
    → reading.front quote (spelling letter ++ after) ≡ fronts.Letter (length (spelling letter)) (meaning letter)
letter_met quote (plain byte) after is_quote is = plain_met quote byte after is
letter_met quote (escape byte meant) after is_quote is = backslash quote (byte ∷ after) is_quote ∙ escape_met byte meant after is
letter_met quote (octal digits) after is_quote is = backslash quote (digits ++ after) is_quote ∙ octal_met digits after is

pub spelling_some : (letter : Letter) → 0 < length (spelling letter)
spelling_some (plain byte) = omega arith
spelling_some (escape byte meant) = omega arith
spelling_some (octal digits) = omega arith

-- ---- what is read stands there

pub record LetterAt (quote : ℕ) (text : List ℕ) (n : ℕ) : Type 0 where
  pub letter : Letter
  pub after : List ℕ
  pub text_is : text ≡ spelling letter ++ after
  pub is_letter : IsLetter quote letter after
  pub length_is : length (spelling letter) ≡ n

abbrev pub IsLineEnd : List ℕ → Type 0
IsLineEnd text = (text ≡ []) ⊎ ((text ≡ 92 ∷ []) ⊎ ((more : List ℕ) × (text ≡ 10 ∷ more)))

abbrev pub FrontReads : ℕ → List ℕ → Front → Type 0
FrontReads quote text (fronts.Letter n meant) = LetterAt quote text n
FrontReads quote text fronts.Close = (more : List ℕ) × (text ≡ quote ∷ more)
FrontReads quote text fronts.LineEnd = IsLineEnd text
FrontReads quote text fronts.Nul = (more : List ℕ) × (text ≡ 0 ∷ more)
FrontReads quote text fronts.Backslash = (byte : ℕ) × (more : List ℕ) × (text ≡ 92 ∷ byte ∷ more)

-- behind a backslash the digits that stand first are an escape, where their value is in range
digits_read : (quote : ℕ) (digits after : List ℕ) (byte : ℕ) (more : List ℕ) → digits ++ after ≡ byte ∷ more → Digits digits after
    → FrontReads quote (92 ∷ (digits ++ after)) (reading.octal (slice_index (digits ++ after) 0) (slice_index (digits ++ after) 1) (slice_index (digits
    ++ after) 2))
unfolding reading.octal
digits_read quote digits after byte more begins are =
    let told = digits_told digits after are in
    let value : ℕ = digits_value 8 digits in
    rw (told.first, told.value, told.len) (elim (cases_Bool (ltb 0 value && ltb value 128)) [
      | inl inside ↦
          let both = and_parts (ltb 0 value) (ltb value 128) inside in
          rw inside (record {
            letter = octal digits;
            after = after;
            text_is = refl;
            is_letter =
                record {
                  some =
                      are.some;
                  most = are.most;
                  octal = are.octal;
                  whole = are.whole;
                  above = ltb-true 0 value both.0;
                  below = ltb-true value 128 both.1;
                };
            length_is = refl;
          })
      | inr out ↦ rw out (byte, more, ap (λ (l : List ℕ). 92 ∷ l) begins)
    ])

-- the digits that stand first
record FirstDigits (text : List ℕ) : Type 0 where
  digits : List ℕ
  after : List ℕ
  text_is : text ≡ digits ++ after
  are : Digits digits after

one_digit : (a : ℕ) (bytes : List ℕ) → is_octal_digit a ≡ true → is_octal_digit (slice_index bytes 0) ≡ false → FirstDigits (a ∷ bytes)
one_digit a bytes first stops =
    record {
      digits =
          a ∷ [];
      after = bytes;
      text_is = refl;
      are = record { some = omega arith; most = omega arith; octal = and_from _ true first refl; whole = λ short. stops };
    }

first_digits : (a : ℕ) (bytes : List ℕ) → is_octal_digit a ≡ true → FirstDigits (a ∷ bytes)
first_digits a [] first = one_digit a [] first refl
first_digits a (b ∷ bytes) first =
    elim (cases_Bool (is_octal_digit b)) [ inl second ↦ two_digits a b bytes first second | inr stops ↦ one_digit a (b ∷ bytes) first stops ]
  where
    most_digits : (a b : ℕ) (bytes : List ℕ) → is_octal_digit a ≡ true → is_octal_digit b ≡ true → is_octal_digit (slice_index bytes 0) ≡ false
        → FirstDigits (a ∷ b ∷ bytes)
    most_digits a b bytes first second stops =
        record {
          digits =
              a ∷ b ∷ [];
          after =
              bytes;
          text_is =
              refl;
          are = record { some = omega arith; most = omega arith; octal = and_from _ _ first (and_from _ true second refl); whole = λ short. stops };
        }

    two_digits : (a b : ℕ) (bytes : List ℕ) → is_octal_digit a ≡ true → is_octal_digit b ≡ true → FirstDigits (a ∷ b ∷ bytes)
    two_digits a b [] first second = most_digits a b [] first second refl
    two_digits a b (c ∷ bytes) first second =
        elim (cases_Bool (is_octal_digit c)) [
          | inl third ↦ record {
            digits =
                a ∷ b ∷ c ∷ [];
            after =
                bytes;
            text_is =
                refl;
            are =
                record {
                  some =
                      omega arith;
                  most =
                      omega arith;
                  octal = and_from _ _ first (and_from _ _ second (and_from _ true third refl));
                  whole = λ short. absurd (omega arith);
                };
          }
          | inr stops ↦ most_digits a b (c ∷ bytes) first second stops
        ]

octal_reads : (quote a : ℕ) (bytes : List ℕ) → FrontReads quote (92 ∷ a ∷ bytes) (reading.octal a (slice_index bytes 0) (slice_index bytes 1))
unfolding reading.octal
octal_reads quote a bytes =
    elim (cases_Bool (is_octal_digit a)) [
      | inl first ↦
          let found = first_digits a bytes first in
          subst (λ (l : List ℕ). FrontReads quote (92 ∷ l) (reading.octal (slice_index l 0) (slice_index l 1) (slice_index l 2))) (sym found.text_is)
          (digits_read quote found.digits found.after a bytes (sym found.text_is) found.are)
      | inr none ↦ rw none (a, bytes, refl)
    ]

escape_reads : (quote a : ℕ) (bytes : List ℕ) (meant : Option ℕ) → escaped a ≡ meant
    → FrontReads quote (92 ∷ a ∷ bytes) (reading.escape_or meant (reading.octal a (slice_index bytes 0) (slice_index bytes 1)))
escape_reads quote a bytes None is = octal_reads quote a bytes
escape_reads quote a bytes (Some m) is = record { letter = escape a m; after = bytes; text_is = refl; is_letter = is; length_is = refl }

backslash_reads : (quote : ℕ) (bytes : List ℕ) → FrontReads quote (92 ∷ bytes) (reading.escape bytes)
unfolding reading.escape
backslash_reads quote [] = inr (inl refl)
backslash_reads quote (a ∷ bytes) = escape_reads quote a bytes (escaped a) refl

by_tests : (quote byte : ℕ) (bytes : List ℕ) (close feed nul back : Bool) → eqb byte quote ≡ close → eqb byte 10 ≡ feed → eqb byte 0 ≡ nul → eqb byte 92 ≡ back
    → FrontReads quote (byte ∷ bytes) (cond close fronts.Close (cond feed fronts.LineEnd
    (cond nul fronts.Nul (cond back (reading.escape bytes) (fronts.Letter 1 byte)))))
by_tests quote byte bytes true feed nul back a b c d = (bytes, ap (λ (x : ℕ). x ∷ bytes) (eqb-true byte quote a))
by_tests quote byte bytes false true nul back a b c d = inr (inr (bytes, ap (λ (x : ℕ). x ∷ bytes) (eqb-true byte 10 b)))
by_tests quote byte bytes false false true back a b c d = (bytes, ap (λ (x : ℕ). x ∷ bytes) (eqb-true byte 0 c))
by_tests quote byte bytes false false false true a b c d =
    subst (λ (x : ℕ). FrontReads quote (x ∷ bytes) (reading.escape bytes)) (sym (eqb-true byte 92 d)) (backslash_reads quote bytes)
by_tests quote byte bytes false false false false a b c d =
    record { letter = plain byte; after = bytes; text_is = refl; is_letter = rw (a, d, b, c) refl; length_is = refl }

pub front_reads : (quote : ℕ) (text : List ℕ) → FrontReads quote text (reading.front quote text)
unfolding reading.front
front_reads quote [] = inl refl
front_reads quote (byte ∷ bytes) = by_tests quote byte bytes (eqb byte quote) (eqb byte 10) (eqb byte 0) (eqb byte 92) refl refl refl refl
