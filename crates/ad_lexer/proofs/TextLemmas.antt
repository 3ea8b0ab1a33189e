-- The texts that letters mean: UTF-8 exactly where their spelling is, and with no byte 0.
use Rattle.std.proofs.Common.{◌≡◌, ℕ, zero, suc, ◌+◌, ◌<◌, true, eqb, not, ◌||◌, List, [], ◌∷◌, ◌++◌, length, map, drop, get_or, slice_index, Some, IsUtf8}
use Rattle.std.proofs.Common.{refl, sym, ◌∙◌, ap, subst, inl, inr, arith, length-append, append_assoc}
use Rattle.std.proofs.lemmas.Bool.{cases_Bool, and_parts, and_from, or_parts, ltb-true, lt-ltb, not_from_false, not-true}
use Rattle.std.proofs.lemmas.Bool.Decides.{nat_tests}
use Rattle.std.proofs.lemmas.List.{take_at, drop_at, get_or_at}
use Rattle.std.proofs.lemmas.Str.{IsUtf8-append, IsUtf8-nil, IsUtf8-take, IsUtf8-drop, IsCharBoundary-before_ascii}
use Rattle.std.specs.Char.{is_ascii, is_ascii_digit, is_ascii_hexdigit}
use Rattle.std.specs.List.{list_all}
use Rattle.std.specs.Str.{IsAscii}
use Rattle.simdutf8.proofs.StepsLemmas.{IsUtf8-after_ascii}
use Rattle.std.specs.Str.Parse.{digits_value}
use Rattle.ad_lexer.specs.declared.token.TokenKind.{TokenKind}
use Rattle.ad_lexer.specs.declared.token.TokenKind.TheVariants.{Plain, Reserved, Quoted, Str, Int, Dec, Symbol}
use Rattle.ad_lexer.specs.Blanks.{is_space, IsBlank}
use Rattle.ad_lexer.specs.Lexeme.{Lexeme}
use Rattle.ad_lexer.specs.Numbers.{is_hexadecimal, is_integer}
use Rattle.ad_lexer.specs.Spelling.{Spells}
use Rattle.ad_lexer.specs.Tokens.{Item, blank, token, Divides, lexemes, Tokens}
use Rattle.ad_lexer.specs.Words.{is_word_byte}
use Rattle.ad_lexer.proofs.ContentLemmas.{quoted_content}
use Rattle.ad_lexer.proofs.FractionLemmas.{decimal_ascii}
use Rattle.ad_lexer.proofs.LetterLemmas.{is_quote}
use Rattle.ad_lexer.proofs.NumberLemmas.{integer_decimal, integer_hexadecimal}
use Rattle.ad_lexer.proofs.Runs.{all_weaker}
use Rattle.ad_lexer.proofs.SymbolLemmas.{symbol_passes}
use Rattle.ad_lexer.proofs.WordLemmas.{word_bytes}
use Rattle.ad_lexer.specs.Quoted.{Letter, plain, escape, octal, spellings, meaning, is_plain, escaped, is_octal_digit, IsLetter, AreLetters, IsQuoted}
use Rattle.ad_lexer.specs.Texts.{IsText, MeansText, MeanTexts}

-- ---- an ASCII byte cuts a text that is UTF-8

cut_ascii : (front : List ℕ) (byte : ℕ) (rest : List ℕ) → byte < 128 → IsUtf8 (front ++ byte ∷ rest) → IsUtf8 front × IsUtf8 (byte ∷ rest)
cut_ascii front byte rest low is =
    let text : List ℕ = front ++ byte ∷ rest in
    let n : ℕ = length front in
    let here : get_or text n 0 ≡ byte = get_or_at front byte rest 0 n refl in
    let cut = IsCharBoundary-before_ascii text n (omega (arith, length-append front (byte ∷ rest))) (omega arith) in (
      subst IsUtf8 (take_at front (byte ∷ rest) n refl) (IsUtf8-take text n is cut),
      subst IsUtf8 (drop_at front (byte ∷ rest) n refl) (IsUtf8-drop text n is cut),
    )

ascii : (bytes : List ℕ) → list_all is_ascii bytes ≡ true → IsAscii bytes
ascii [] each i = omega arith
ascii (byte ∷ bytes) each zero = ltb-true byte 128 (and_parts (is_ascii byte) _ each).0
ascii (byte ∷ bytes) each (suc i) = ascii bytes (and_parts (is_ascii byte) _ each).1 i

-- ASCII bytes at the front may be left out, and put there
pub drop_ascii : (bytes rest : List ℕ) → list_all is_ascii bytes ≡ true → IsUtf8 (bytes ++ rest) → IsUtf8 rest
drop_ascii bytes rest each is = (IsUtf8-after_ascii bytes rest (ascii bytes each)).0 is

pub put_ascii : (bytes rest : List ℕ) → list_all is_ascii bytes ≡ true → IsUtf8 rest → IsUtf8 (bytes ++ rest)
put_ascii bytes rest each is = (IsUtf8-after_ascii bytes rest (ascii bytes each)).1 is

one_ascii : (byte : ℕ) → byte < 128 → list_all is_ascii (byte ∷ []) ≡ true
one_ascii byte low = and_from (is_ascii byte) true (lt-ltb byte 128 low) refl

one_utf8 : (byte : ℕ) → byte < 128 → IsUtf8 (byte ∷ [])
one_utf8 byte low = put_ascii (byte ∷ []) [] (one_ascii byte low) IsUtf8-nil

pub behind_ascii : (front : List ℕ) (byte : ℕ) (rest : List ℕ) → byte < 128 → IsUtf8 (front ++ byte ∷ rest) → IsUtf8 rest
behind_ascii front byte rest low is = drop_ascii (byte ∷ []) rest (one_ascii byte low) (cut_ascii front byte rest low is).1

-- one run of ASCII may stand for another between two texts
swap_ascii : (front : List ℕ) (byte : ℕ) (bytes others more rest : List ℕ) → list_all is_ascii (byte ∷ bytes) ≡ true → list_all is_ascii others ≡ true
    → (IsUtf8 more → IsUtf8 rest) → IsUtf8 (front ++ byte ∷ (bytes ++ more)) → IsUtf8 (front ++ (others ++ rest))
swap_ascii front byte bytes others more rest each other goes is =
    let cut = cut_ascii front byte (bytes ++ more) (ltb-true byte 128 (and_parts (is_ascii byte) _ each).0) is in
    IsUtf8-append front (others ++ rest) cut.0 (put_ascii others rest other (goes (drop_ascii (byte ∷ bytes) more each cut.1)))

-- ---- letters

-- the bytes of an escape are ASCII, and so is what it means
escape_ascii : (byte meant : ℕ) → escaped byte ≡ Some meant → (is_ascii byte ≡ true) × (meant < 128) × (0 < meant)
escape_ascii byte meant is = (grind (arith, nat_tests), grind (arith, nat_tests), grind (arith, nat_tests))

-- letters between such texts mean UTF-8 where they are spelled so
pub letters_mean : (quote : ℕ) (front : List ℕ) (letters : List Letter) (after : List ℕ) → AreLetters quote letters after → IsUtf8 (front ++ spellings letters)
    → IsUtf8 (front ++ map meaning letters)
letters_mean quote front [] after are is = is
letters_mean quote front (plain b ∷ letters) after are is =
    let more = letters_mean quote (front ++ b ∷ []) letters after are.1 (subst IsUtf8 (sym (append_assoc front (b ∷ []) (spellings letters))) is) in
    subst IsUtf8 (append_assoc front (b ∷ []) (map meaning letters)) more
letters_mean quote front (escape b m ∷ letters) after are is =
    let low = escape_ascii b m are.0 in
    swap_ascii front 92 (b ∷ []) (m ∷ []) (spellings letters) (map meaning letters) (and_from (is_ascii b) true low.0 refl) (one_ascii m low.1)
    (letters_mean quote [] letters after are.1) is
letters_mean quote front (octal ds ∷ letters) after are is =
    let digits = all_weaker is_octal_digit is_ascii (λ c low. grind (arith, nat_tests)) ds are.0.octal in
    swap_ascii front 92 ds (digits_value 8 ds ∷ []) (spellings letters) (map meaning letters) digits (one_ascii (digits_value 8 ds) are.0.below)
    (letters_mean quote [] letters after are.1) is

-- and they are spelled so where they mean UTF-8
pub letters_spell : (quote : ℕ) (front : List ℕ) (letters : List Letter) (after : List ℕ) → AreLetters quote letters after
    → IsUtf8 (front ++ map meaning letters) → IsUtf8 (front ++ spellings letters)
letters_spell quote front [] after are is = is
letters_spell quote front (plain b ∷ letters) after are is =
    let more = letters_spell quote (front ++ b ∷ []) letters after are.1 (subst IsUtf8 (sym (append_assoc front (b ∷ []) (map meaning letters))) is) in
    subst IsUtf8 (append_assoc front (b ∷ []) (spellings letters)) more
letters_spell quote front (escape b m ∷ letters) after are is =
    let low = escape_ascii b m are.0 in
    swap_ascii front m [] (92 ∷ b ∷ []) (map meaning letters) (spellings letters) (one_ascii m low.1) (and_from (is_ascii b) true low.0 refl)
    (letters_spell quote [] letters after are.1) is
letters_spell quote front (octal ds ∷ letters) after are is =
    let digits = all_weaker is_octal_digit is_ascii (λ c low. grind (arith, nat_tests)) ds are.0.octal in
    swap_ascii front (digits_value 8 ds) [] (92 ∷ ds) (map meaning letters) (spellings letters) (one_ascii (digits_value 8 ds) are.0.below) digits
    (letters_spell quote [] letters after are.1) is

-- no letter means byte 0
plain_some : (quote byte : ℕ) → is_plain quote byte ≡ true → not (eqb byte 0) ≡ true
plain_some quote byte is = not_from_false (eqb byte 0) (or_parts (eqb byte quote || eqb byte 92 || eqb byte 10) (eqb byte 0) (not-true _ is)).1

positive_some : (n : ℕ) → 0 < n → not (eqb n 0) ≡ true
positive_some n some = grind (arith, nat_tests)

letter_some : (quote : ℕ) (letter : Letter) (after : List ℕ) → IsLetter quote letter after → not (eqb (meaning letter) 0) ≡ true
letter_some quote (plain b) after is = plain_some quote b is
letter_some quote (escape b m) after is = positive_some m (escape_ascii b m is).2
letter_some quote (octal ds) after is = positive_some (digits_value 8 ds) is.above

pub letters_some : (quote : ℕ) (letters : List Letter) (after : List ℕ) → AreLetters quote letters after
    → list_all (λ byte. not (eqb byte 0)) (map meaning letters) ≡ true
letters_some quote [] after are = refl
letters_some quote (letter ∷ letters) after are =
    and_from (not (eqb (meaning letter) 0)) _ (letter_some quote letter _ are.0) (letters_some quote letters after are.1)

-- ---- quoted texts

quote_low : (quote : ℕ) → is_quote quote ≡ true → quote < 128
quote_low quote is = grind (arith, nat_tests)

-- what is quoted in UTF-8 means a text
pub quoted_text : (quote : ℕ) (bytes text : List ℕ) → is_quote quote ≡ true → IsQuoted quote bytes text → IsUtf8 bytes → IsText text
quoted_text quote bytes text is quoted utf8 =
    let letters = quoted.0 in
    let low = quote_low quote is in
    let inner : IsUtf8 (spellings letters) =
    (cut_ascii (spellings letters) quote [] low (behind_ascii [] quote (spellings letters ++ quote ∷ []) low (subst IsUtf8 quoted.1 utf8))).0 in
    subst IsText (sym quoted.3) (letters_mean quote [] letters (quote ∷ []) quoted.2 inner, letters_some quote letters (quote ∷ []) quoted.2)

-- and what means UTF-8 is quoted in it
pub quoted_spelling : (quote : ℕ) (bytes text : List ℕ) → is_quote quote ≡ true → IsQuoted quote bytes text → IsUtf8 text → IsUtf8 bytes
quoted_spelling quote bytes text is quoted utf8 =
    let letters = quoted.0 in
    let low = quote_low quote is in
    let inner : IsUtf8 (spellings letters) = letters_spell quote [] letters (quote ∷ []) quoted.2 (subst IsUtf8 quoted.3 utf8) in
    subst IsUtf8 (sym quoted.1) (put_ascii (quote ∷ []) (spellings letters ++ quote ∷ []) (one_ascii quote low)
    (IsUtf8-append (spellings letters) (quote ∷ []) inner (one_utf8 quote low)))

-- ---- items cut a text that is UTF-8

-- bytes that end with an ASCII byte
ends_ascii : (front : List ℕ) (byte : ℕ) (bytes after : List ℕ) → bytes ≡ front ++ byte ∷ [] → byte < 128 → IsUtf8 (bytes ++ after)
    → IsUtf8 bytes × IsUtf8 after
ends_ascii front byte bytes after ends low is =
    let whole : IsUtf8 (front ++ byte ∷ after) = subst IsUtf8 (ap (λ (l : List ℕ). l ++ after) ends ∙ append_assoc front (byte ∷ []) after) is in (
      subst IsUtf8 (sym ends) (IsUtf8-append front (byte ∷ []) (cut_ascii front byte after low whole).0 (one_utf8 byte low)),
      behind_ascii front byte after low whole,
    )

quoted_cut : (quote : ℕ) (bytes text after : List ℕ) → is_quote quote ≡ true → IsQuoted quote bytes text → IsUtf8 (bytes ++ after) → IsUtf8 bytes × IsUtf8 after
quoted_cut quote bytes text after is quoted utf8 = ends_ascii (quote ∷ spellings quoted.0) quote bytes after quoted.1 (quote_low quote is) utf8

space_low : (byte : ℕ) → is_space byte ≡ true → is_ascii byte ≡ true
space_low byte is = grind (arith, nat_tests)

line_rest : (bytes after : List ℕ) → (0 < length after → slice_index after 0 ≡ 10) → IsUtf8 (bytes ++ after) → IsUtf8 after
line_rest bytes [] feed is = IsUtf8-nil
line_rest bytes (byte ∷ after) feed is = let ten : byte ≡ 10 = feed (omega arith) in (cut_ascii bytes byte after (omega arith) is).1

blank_rest : (bytes after : List ℕ) → IsBlank bytes after → IsUtf8 (bytes ++ after) → IsUtf8 after
blank_rest bytes after blank_is is =
    elim blank_is [
      | inl space ↦ drop_ascii (space.0 ∷ []) after (and_from (is_ascii space.0) true (space_low space.0 space.2) refl)
          (subst (λ (b : List ℕ). IsUtf8 (b ++ after)) space.1 is)
      | inr (inl line) ↦ line_rest bytes after line.3 is
      | inr (inr block) ↦ (ends_ascii (47 ∷ 42 ∷ (block.0 ++ 42 ∷ [])) 47 bytes after
          (block.1 ∙ ap (λ (l : List ℕ). 47 ∷ 42 ∷ l) (sym (append_assoc block.0 (42 ∷ []) (47 ∷ [])))) (omega arith) is).1
    ]

hexadecimal_ascii : (bytes : List ℕ) → is_hexadecimal bytes ≡ true → list_all is_ascii_hexdigit (drop 2 bytes) ≡ true → list_all is_ascii bytes ≡ true
hexadecimal_ascii [] is each = refl
hexadecimal_ascii (a ∷ []) is each = absurd (grind (arith, nat_tests))
hexadecimal_ascii (a ∷ b ∷ bytes) is each =
    let first : is_ascii a ≡ true = grind (arith, nat_tests) in
    let second : is_ascii b ≡ true = grind (arith, nat_tests) in
    and_from (is_ascii a) _ first (and_from (is_ascii b) _ second (all_weaker is_ascii_hexdigit is_ascii (λ c low. grind (arith, nat_tests)) bytes each))

integer_ascii : (bytes : List ℕ) → is_integer bytes ≡ true → list_all is_ascii bytes ≡ true
integer_ascii bytes is =
    elim (cases_Bool (is_hexadecimal bytes)) [
      | inl hexadecimal ↦ hexadecimal_ascii bytes hexadecimal (integer_hexadecimal bytes is hexadecimal)
      | inr isnt ↦ all_weaker is_ascii_digit is_ascii (λ c low. grind (arith, nat_tests)) bytes (integer_decimal bytes is isnt).1
    ]

spelled_rest : (kind : TokenKind) (bytes after : List ℕ) → Spells kind bytes → IsUtf8 (bytes ++ after) → IsUtf8 after
spelled_rest Plain bytes after spells is =
    drop_ascii bytes after (all_weaker is_word_byte is_ascii (λ c low. grind (arith, nat_tests)) bytes (word_bytes bytes spells.0)) is
spelled_rest Reserved bytes after spells is =
    drop_ascii bytes after (all_weaker is_word_byte is_ascii (λ c low. grind (arith, nat_tests)) bytes (word_bytes bytes spells.0)) is
spelled_rest Quoted bytes after spells is = (quoted_cut 39 bytes spells.0 after refl spells.1 is).1
spelled_rest Str bytes after spells is = (quoted_cut 34 bytes spells.0 after refl spells.1 is).1
spelled_rest Int bytes after spells is = drop_ascii bytes after (integer_ascii bytes spells) is
spelled_rest Dec bytes after spells is = drop_ascii bytes after (decimal_ascii bytes spells) is
spelled_rest Symbol bytes after spells is = drop_ascii bytes after (symbol_passes (λ s. list_all is_ascii s) bytes refl spells) is

spelled_means : (kind : TokenKind) (bytes after : List ℕ) → Spells kind bytes → IsUtf8 (bytes ++ after) → MeansText kind bytes
spelled_means Plain bytes after spells is = tt
spelled_means Reserved bytes after spells is = tt
spelled_means Quoted bytes after spells is =
    let text_is = sym (quoted_content 39 bytes spells.0 refl spells.1) in (
      subst IsText text_is (quoted_text 39 bytes spells.0 refl spells.1 (quoted_cut 39 bytes spells.0 after refl spells.1 is).0),
      subst (λ (l : List ℕ). 0 < length l) text_is spells.2,
    )
spelled_means Str bytes after spells is =
    subst IsText (sym (quoted_content 34 bytes spells.0 refl spells.1))
    (quoted_text 34 bytes spells.0 refl spells.1 (quoted_cut 34 bytes spells.0 after refl spells.1 is).0)
spelled_means Int bytes after spells is = tt
spelled_means Dec bytes after spells is = tt
spelled_means Symbol bytes after spells is = tt

-- ---- whole texts

divides_texts : (at : ℕ) (items : List Item) (text rest : List ℕ) → Divides text items rest → IsUtf8 text → MeanTexts (lexemes at items)
divides_texts at [] text rest divides is = tt
divides_texts at (blank bytes ∷ items) text rest divides is =
    let whole : IsUtf8 (bytes ++ divides.0) = subst IsUtf8 divides.1 is in
    divides_texts (at + length bytes) items divides.0 rest divides.3 (blank_rest bytes divides.0 divides.2 whole)
divides_texts at (token kind bytes ∷ items) text rest divides is =
    let whole : IsUtf8 (bytes ++ divides.0) = subst IsUtf8 divides.1 is in
    let spelled = divides.2.spelled in (
      spelled_means kind bytes divides.0 spelled whole,
      divides_texts (at
          + length bytes) items divides.0 rest divides.3 (spelled_rest kind bytes divides.0 spelled whole),
    )

pub tokens_mean : (text : List ℕ) (list : List Lexeme) → Tokens text list → MeanTexts list
tokens_mean text list tokens = subst MeanTexts (sym tokens.1.2) (divides_texts 0 tokens.1.0 text [] tokens.1.1 tokens.0)
