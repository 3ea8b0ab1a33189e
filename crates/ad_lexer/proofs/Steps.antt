-- What stands at the front of a text is read, and what is read stands there.
use Rattle.std.proofs.Common.{◌≡◌, ◌⊎◌, ℕ, zero, suc, ◌+◌, ◌<◌, true, false, eqb, ltb, ◌*◌, ◌^◌, List, [], ◌∷◌, ◌++◌, length, take, drop, slice_index, refl}
use Rattle.std.proofs.Common.{sym, ◌∙◌, ap, subst, inl, inr, arith, Bool, cond, map, length-append, append_assoc}
use Rattle.std.proofs.lemmas.Bool.{cases_Bool, and_parts, or_cases, and_right, true≢false, eqb-true, or_right, eq-eqb}
use Rattle.std.proofs.lemmas.Bool.Decides.{nat_tests}
use Rattle.std.specs.Char.{is_ascii_digit, is_digit, digit_value}
use Rattle.std.proofs.lemmas.List.Sums.{prefix_len-le-length}
use Rattle.std.specs.List.{prefix_len}
use Rattle.ad_lexer.specs.declared.fault.LexKind.{LexKind}
use Rattle.ad_lexer.specs.declared.next.Begin.{Begin}
use Rattle.ad_lexer.specs.declared.token.TokenKind.{TokenKind}
use Rattle.ad_lexer.specs.declared.token.TokenKind.TheVariants.{Quoted, Str, Int, Dec, Symbol, Plain, Reserved}
use Rattle.ad_lexer.specs.Blanks.{is_space, IsBlank, begins_comment}
use Rattle.ad_lexer.specs.Faults.{ReadsTo, BeginsNothing, HasNul, IsEmptyName, IsOpenString, HasBadEscape, is_bad_decimal, is_dot_digit, is_bad_number, Wrong}
use Rattle.ad_lexer.specs.Numbers.{is_integer}
use Rattle.ad_lexer.specs.Quoted.{plain, spellings, Letter, meaning, IsQuoted}
use Rattle.ad_lexer.specs.Spelling.{Spells}
use Rattle.ad_lexer.specs.Reading.{begin_of, at_begin, next, number, name, string, slash, symbol, symbol_len, symbol_of, quoted, word}
use Rattle.ad_lexer.specs.declared.next.Step.{Step}
use Rattle.ad_lexer.specs.Symbols.{is_symbol}
use Rattle.ad_lexer.specs.Words.{begins_word, is_word_byte}
use Rattle.ad_lexer.specs.declared.fault.LexKind.TheVariants as kinds
use Rattle.ad_lexer.specs.declared.next.Begin.TheVariants as begins
use Rattle.ad_lexer.specs.declared.next.Step.TheVariants as steps
use Rattle.ad_lexer.proofs.Begins.{begin_is, begin_number, Tells, word_some}
use Rattle.ad_lexer.proofs.BlankLemmas.{line_met, block_met, open_met, slash_stands}
use Rattle.ad_lexer.proofs.FractionLemmas.{decimal_begins}
use Rattle.ad_lexer.proofs.LetterLemmas.{is_quote, quote_differs}
use Rattle.ad_lexer.proofs.NumberLemmas.{decimal_met, number_met, number_stands, integer_begins}
use Rattle.ad_lexer.proofs.QuotedLemmas.{letters_first, nul_met, end_met, escape_met, QuotedAt, quoted_stands}
use Rattle.ad_lexer.proofs.SymbolLemmas.{symbol_found, symbol_first, symbol_reaches}
use Rattle.ad_lexer.proofs.WordLemmas.{word_spells, word_found}
use Rattle.ad_lexer.proofs.Fronts.{Stands, TokenAt, no_slash, first_bytes}

-- a text that begins with a byte is read by what that byte begins
pub next_at : (text : List ℕ) (begin : Begin) → 0 < length text → begin_of (slice_index text 0) ≡ begin → next text ≡ at_begin begin text
unfolding next
next_at [] begin some is = absurd (omega arith)
next_at (byte ∷ bytes) begin some is = ap (λ b. at_begin b (byte ∷ bytes)) is

pub begin_39 : begin_of 39 ≡ begins.Name
unfolding begin_of
begin_39 = refl

pub begin_34 : begin_of 34 ≡ begins.String
unfolding begin_of
begin_34 = refl

pub begin_47 : begin_of 47 ≡ begins.Slash
unfolding begin_of
begin_47 = refl

begin_46 : begin_of 46 ≡ begins.Symbol
unfolding begin_of
begin_46 = refl

pub begin_space : (byte : ℕ) → is_space byte ≡ true → begin_of byte ≡ begins.Space
unfolding begin_of
begin_space byte is = rw is refl

-- ---- quotes

-- a text that begins with a quote is read as what stands behind it
pub record QuoteNext (quote : ℕ) (text : List ℕ) : Type 0 where
  pub kind : TokenKind
  pub next_is : next text ≡ quoted kind quote 1 0 (drop 1 text)

pub name_next : (bytes : List ℕ) → eqb (slice_index bytes 0) 39 ≡ false → next (39 ∷ bytes) ≡ quoted Quoted 39 1 0 bytes
unfolding name
name_next bytes isnt = next_at (39 ∷ bytes) begins.Name (omega arith) begin_39 ∙ rw isnt refl

pub string_next : (bytes : List ℕ) → next (34 ∷ bytes) ≡ quoted Str 34 1 0 bytes
unfolding string
string_next bytes = next_at (34 ∷ bytes) begins.String (omega arith) begin_34

pub quote_next : (quote : ℕ) (bytes : List ℕ) → is_quote quote ≡ true → eqb (slice_index bytes 0) quote ≡ false → QuoteNext quote (quote ∷ bytes)
quote_next quote bytes is isnt =
    elim (or_cases (eqb quote 34) (eqb quote 39) is) [
      | inl double ↦ let e : quote ≡ 34 = eqb-true quote 34 double in
          record { kind = Str; next_is = subst (λ (q : ℕ). next (q ∷ bytes) ≡ quoted Str q 1 0 bytes) (sym e) (string_next bytes) }
      | inr single ↦ let e : quote ≡ 39 = eqb-true quote 39 single in
          let other : eqb (slice_index bytes 0) 39 ≡ false = ap (λ (q : ℕ). eqb (slice_index bytes 0) q) (sym e) ∙ isnt in
          record { kind = Quoted; next_is = subst (λ (q : ℕ). next (q ∷ bytes) ≡ quoted Quoted q 1 0 bytes) (sym e) (name_next bytes other) }
    ]

to_next : (quote : ℕ) (text rest : List ℕ) (place : ℕ) → ReadsTo quote text rest place → eqb (slice_index rest 0) quote ≡ false → QuoteNext quote text
to_next quote text rest place to isnt =
    let first = letters_first quote to.letters rest to.is_quote to.are_letters (inr isnt) in
    subst (λ (l : List ℕ). QuoteNext quote l) (sym to.text_is) (quote_next quote (spellings to.letters ++ rest) to.is_quote first)

-- ---- faults

nul_next : (text : List ℕ) (place : ℕ) → HasNul text place → next text ≡ steps.Fault kinds.Character place
nul_next text place has =
    let is = has.2.is_quote in
    let to = to_next has.0 text (0 ∷ has.1) place has.2 (quote_differs has.0 0 is (λ e. omega arith) (λ e. omega arith)) in
    to.next_is ∙ nul_met to.kind text place has

escape_next : (text : List ℕ) (place : ℕ) → HasBadEscape text place → next text ≡ steps.Fault kinds.Escape place
escape_next text place has =
    let is = has.3.is_quote in
    let to = to_next has.0 text (92 ∷ has.1 ∷ has.2) place has.3 (quote_differs has.0 92 is (λ e. omega arith) (λ e. omega arith)) in
    to.next_is ∙ escape_met to.kind text place has

end_differs : (quote : ℕ) (rest : List ℕ) → is_quote quote ≡ true → ((rest ≡ []) ⊎ ((rest ≡ 92 ∷ []) ⊎ ((more : List ℕ) × (rest ≡ 10 ∷ more))))
    → eqb (slice_index rest 0) quote ≡ false
end_differs quote rest is end =
    elim end [
      | inl nil ↦ ap (λ (l : List ℕ). eqb (slice_index l 0) quote) nil ∙ quote_differs quote 0 is (λ e. omega arith) (λ e. omega arith)
      | inr (inl last) ↦ ap (λ (l : List ℕ). eqb (slice_index l 0) quote) last ∙ quote_differs quote 92 is (λ e. omega arith) (λ e. omega arith)
      | inr (inr feed) ↦ ap (λ (l : List ℕ). eqb (slice_index l 0) quote) feed.1 ∙ quote_differs quote 10 is (λ e. omega arith) (λ e. omega arith)
    ]

end_next : (text : List ℕ) → IsOpenString text → next text ≡ steps.Fault kinds.StringEnd 0
end_next text has =
    let to = to_next has.0 text has.1 has.2 has.3 (end_differs has.0 has.1 has.3.is_quote has.4) in
    to.next_is ∙ end_met to.kind text has

empty_next : (text : List ℕ) → IsEmptyName text → next text ≡ steps.Fault kinds.Character 0
unfolding name
empty_next text is = ap next is.1 ∙ next_at (39 ∷ 39 ∷ is.0) begins.Name (omega arith) begin_39

open_next : (text : List ℕ) (inner : List ℕ) → text ≡ 47 ∷ 42 ∷ inner → next text ≡ slash text
open_next text inner is = ap next is ∙ next_at (47 ∷ 42 ∷ inner) begins.Slash (omega arith) begin_47 ∙ ap slash (sym is)

some_first : (text : List ℕ) → is_ascii_digit (slice_index text 0) ≡ true → 0 < length text
some_first [] is = absurd (true≢false (sym is))
some_first (byte ∷ bytes) is = omega arith

pub number_next : (text : List ℕ) → is_ascii_digit (slice_index text 0) ≡ true → next text ≡ number text
number_next text is = next_at text begins.Number (some_first text is) (begin_number (slice_index text 0) is)

bad_next : (text : List ℕ) → is_bad_number text ≡ true → next text ≡ steps.Fault kinds.Number 0
bad_next text is = number_next text (and_parts _ _ (and_parts _ _ is).0).0 ∙ number_met text is

decimal_next : (text : List ℕ) → is_bad_decimal text ≡ true → next text ≡ steps.Fault kinds.Decimal 0
decimal_next text is = number_next text (and_parts _ _ (and_parts _ _ is).0).0 ∙ decimal_met text is

dot_next : (text : List ℕ) → is_dot_digit text ≡ true → next text ≡ steps.Fault kinds.Decimal 0
unfolding symbol
dot_next [] is = absurd (true≢false (sym is))
dot_next (byte ∷ bytes) is =
    let both = and_parts (eqb byte 46) _ is in
    let dot : byte ≡ 46 = eqb-true byte 46 both.0 in
    next_at (byte ∷ bytes) begins.Symbol (omega arith) (ap begin_of dot ∙ begin_46) ∙ rw is refl

-- ---- bytes that begin nothing

digit_integer : (byte : ℕ) → is_ascii_digit byte ≡ true → is_integer (byte ∷ []) ≡ true
digit_integer byte is =
    let digit : is_digit byte 10 ≡ true = grind (arith, nat_tests) in
    let fits : ltb (0 * 10 + digit_value byte) (2 ^ 63) ≡ true = grind (arith, nat_tests) in
    rw (and_right (eqb byte 48) false refl, digit, fits) refl

nothing_by : (byte : ℕ) (bytes : List ℕ) (n : ℕ) → ((kind : TokenKind) (more : List ℕ) → ¬ Spells kind (byte ∷ more))
    → symbol_len byte (slice_index bytes 0) (slice_index bytes 1) ≡ n → symbol_of n ≡ steps.Fault kinds.Character 0
nothing_by byte bytes zero none is = refl
nothing_by byte bytes (suc n) none is = absurd (none Symbol (take n bytes) (symbol_found (byte ∷ bytes) (suc n) (omega arith) is (omega arith)).0)

nothing_symbol : (byte : ℕ) (bytes : List ℕ) → ((kind : TokenKind) (more : List ℕ) → ¬ Spells kind (byte ∷ more))
    → symbol (byte ∷ bytes) ≡ steps.Fault kinds.Character 0
unfolding symbol
nothing_symbol byte bytes none =
    elim (cases_Bool (eqb byte 46)) [
      | inl dot ↦ let e : byte ≡ 46 = eqb-true byte 46 dot in absurd (none Symbol [] (rw e refl))
      | inr isnt ↦ rw isnt (nothing_by byte bytes (symbol_len byte (slice_index bytes 0) (slice_index bytes 1)) none refl)
    ]

-- each byte that begins something else begins white space or a token
by_begin : (begin : Begin) (byte : ℕ) (bytes : List ℕ) → begin_of byte ≡ begin → is_space byte ≡ false
    → ((kind : TokenKind) (more : List ℕ) → ¬ Spells kind (byte ∷ more)) → at_begin begin (byte ∷ bytes) ≡ steps.Fault kinds.Character 0
by_begin begins.Space byte bytes is isnt none = absurd (true≢false (sym (begin_is byte begins.Space is) ∙ isnt))
by_begin begins.Word byte bytes is isnt none = absurd (none _ [] (word_spells (byte ∷ []) (rw (begin_is byte begins.Word is) refl)))
by_begin begins.Number byte bytes is isnt none = absurd (none Int [] (digit_integer byte (begin_is byte begins.Number is)))
by_begin begins.Name byte bytes is isnt none =
    absurd (none Quoted (97 ∷ 39 ∷ []) (
      97 ∷ [],
      (plain 97 ∷ [], ap (λ (x : ℕ). x ∷ 97 ∷ 39 ∷ []) (begin_is byte begins.Name is), (refl, tt), refl),
      omega arith,
    ))
by_begin begins.String byte bytes is isnt none = absurd (none Str (34 ∷ []) ([], ([], ap (λ (x : ℕ). x ∷ 34 ∷ []) (begin_is byte begins.String is), tt, refl)))
by_begin begins.Slash byte bytes is isnt none = absurd (none Symbol [] (rw (begin_is byte begins.Slash is) refl))
by_begin begins.Symbol byte bytes is isnt none = nothing_symbol byte bytes none

pub nothing_next : (text : List ℕ) → BeginsNothing text → next text ≡ steps.Fault kinds.Character 0
unfolding next
nothing_next text is = ap next is.2 ∙ by_begin (begin_of is.0) is.0 is.1 refl is.3 is.4

-- ---- all faults

pub wrong_next : (kind : LexKind) (text : List ℕ) (place : ℕ) → Wrong kind text place → next text ≡ steps.Fault kind place
wrong_next kinds.Character text place wrong =
    elim wrong [
      | inl nothing ↦ nothing_next text nothing.0 ∙ ap (λ (p : ℕ). steps.Fault kinds.Character p) (sym nothing.1)
      | inr (inl nul) ↦ nul_next text place nul
      | inr (inr empty) ↦ empty_next text empty.0 ∙ ap (λ (p : ℕ). steps.Fault kinds.Character p) (sym empty.1)
    ]
wrong_next kinds.StringEnd text place wrong = end_next text wrong.0 ∙ ap (λ (p : ℕ). steps.Fault kinds.StringEnd p) (sym wrong.1)
wrong_next kinds.Escape text place wrong = escape_next text place wrong
wrong_next kinds.Number text place wrong = bad_next text wrong.0 ∙ ap (λ (p : ℕ). steps.Fault kinds.Number p) (sym wrong.1)
wrong_next kinds.Decimal text place wrong =
    elim (or_cases (is_bad_decimal text) (is_dot_digit text) wrong.0) [
      | inl decimal ↦ decimal_next text decimal ∙ ap (λ (p : ℕ). steps.Fault kinds.Decimal p) (sym wrong.1)
      | inr dot ↦ dot_next text dot ∙ ap (λ (p : ℕ). steps.Fault kinds.Decimal p) (sym wrong.1)
    ]
wrong_next kinds.CommentEnd text place wrong =
    open_next text wrong.0.0 wrong.0.1 ∙ open_met text wrong.0 ∙ ap (λ (p : ℕ). steps.Fault kinds.CommentEnd p) (sym wrong.1)
wrong_next kinds.Encoding text place wrong = absurd wrong

-- ---- blanks

pub first_slash : (text : List ℕ) → slice_index text 0 ≡ 47 → next text ≡ slash text
first_slash [] is = absurd (omega arith)
first_slash (byte ∷ bytes) is = next_at (byte ∷ bytes) begins.Slash (omega arith) (ap begin_of is ∙ begin_47)

pub blank_next : (bytes after : List ℕ) → IsBlank bytes after → next (bytes ++ after) ≡ steps.Blank (length bytes)
blank_next bytes after blank =
    elim blank [
      | inl space ↦ subst (λ (b : List ℕ). next (b ++ after) ≡ steps.Blank (length b)) (sym space.1)
          (next_at (space.0 ∷ after) begins.Space (omega arith) (begin_space space.0 space.2))
      | inr (inl line) ↦ first_slash (bytes ++ after) (subst (λ (b : List ℕ). slice_index (b ++ after) 0 ≡ 47) (sym line.1) refl) ∙ line_met bytes after line
      | inr (inr block) ↦ first_slash (bytes ++ after) (subst (λ (b : List ℕ). slice_index (b ++ after) 0 ≡ 47) (sym block.1) refl)
          ∙ block_met bytes after block
    ]

-- ---- what is read stands there

word_stands : (byte : ℕ) (bytes : List ℕ) → begin_of byte ≡ begins.Word → Stands (byte ∷ bytes) (word (byte ∷ bytes))
word_stands byte bytes is =
    let text : List ℕ = byte ∷ bytes in
    let n : ℕ = prefix_len is_word_byte text in
    let begins : begins_word byte ≡ true = begin_is byte begins.Word is in
    first_bytes _ text n (prefix_len-le-length is_word_byte text)
    (word_spells (take n text) (word_found text (omega arith) is (word_some text (omega arith) is)))
    (no_slash byte bytes (grind (arith, nat_tests)))

digit_stands : (byte : ℕ) (bytes : List ℕ) → begin_of byte ≡ begins.Number → Stands (byte ∷ bytes) (number (byte ∷ bytes))
digit_stands byte bytes is =
    let digit : is_ascii_digit byte ≡ true = begin_is byte begins.Number is in
    number_stands (byte ∷ bytes) digit (no_slash byte bytes (grind (arith, nat_tests)))

-- a quoted text is a token
spelled_quoted : (quote : ℕ) (text : List ℕ) (n : ℕ) (at : QuotedAt quote text n)
    → IsQuoted quote (quote ∷ (spellings at.letters ++ quote ∷ [])) (map meaning at.letters)
spelled_quoted quote text n at = (at.letters, refl, at.are_letters, refl)

quoted_token : (kind : TokenKind) (quote : ℕ) (text : List ℕ) (n : ℕ) (at : QuotedAt quote text n) → Spells kind (quote ∷ (spellings at.letters ++ quote ∷ []))
    → eqb quote 47 ≡ false → TokenAt kind text n
quoted_token kind quote text n at spelled isnt = record {
  bytes = quote ∷ (spellings at.letters ++ quote ∷ []);
  after = at.after;
  text_is = at.text_is ∙ ap (λ (l : List ℕ). quote ∷ l) (sym (append_assoc (spellings at.letters) (quote ∷ []) at.after));
  spelled = spelled;
  length_is = omega (arith, at.length_is, length-append (spellings at.letters) (quote ∷ []));
  no_comment = subst (λ (l : List ℕ). begins_comment l ≡ false) (sym at.text_is) (no_slash quote (spellings at.letters ++ quote ∷ at.after) isnt);
}

string_stands : (byte : ℕ) (bytes : List ℕ) → begin_of byte ≡ begins.String → Stands (byte ∷ bytes) (string (byte ∷ bytes))
unfolding string
string_stands byte bytes is =
    let step : Step = quoted Str 34 1 0 bytes in
    subst (λ b. Stands (b ∷ bytes) step) (sym (begin_is byte begins.String is))
    (quoted_stands Str 34 bytes refl (λ n at. quoted_token Str 34 (34 ∷ bytes) n at (map meaning at.letters, spelled_quoted 34 (34 ∷ bytes) n at) refl))

-- a name that begins with no quote has letters
name_letters : (bytes : List ℕ) (letters : List Letter) (after : List ℕ) → 39 ∷ bytes ≡ 39 ∷ (spellings letters ++ 39 ∷ after)
    → eqb (slice_index bytes 0) 39 ≡ false → 0 < length (map meaning letters)
name_letters bytes [] after is isnt =
    let first : slice_index bytes 0 ≡ 39 = ap (λ (l : List ℕ). slice_index l 1) is in
    absurd (true≢false (sym (eq-eqb (slice_index bytes 0) 39 first) ∙ isnt))
name_letters bytes (letter ∷ letters) after is isnt = omega arith

second_quote : (bytes : List ℕ) → eqb (slice_index bytes 0) 39 ≡ true → (more : List ℕ) × (39 ∷ bytes ≡ 39 ∷ 39 ∷ more)
second_quote [] is = absurd (true≢false (sym is))
second_quote (b ∷ bytes) is = (bytes, ap (λ (x : ℕ). 39 ∷ x ∷ bytes) (eqb-true b 39 is))

name_choice : (bytes : List ℕ) (empty : Bool) → eqb (slice_index bytes 0) 39 ≡ empty
    → Stands (39 ∷ bytes) (cond empty (steps.Fault kinds.Character 0) (quoted Quoted 39 1 0 bytes))
name_choice bytes true is = inr (inr (second_quote bytes is, refl))
name_choice bytes false is =
    quoted_stands Quoted 39 bytes refl (λ n at. quoted_token Quoted 39 (39 ∷ bytes) n at
    (map meaning at.letters, spelled_quoted 39 (39 ∷ bytes) n at, name_letters bytes at.letters at.after at.text_is is) refl)

name_stands : (byte : ℕ) (bytes : List ℕ) → begin_of byte ≡ begins.Name → Stands (byte ∷ bytes) (name (byte ∷ bytes))
unfolding name
name_stands byte bytes is =
    let step : Step = cond (eqb (slice_index bytes 0) 39) (steps.Fault kinds.Character 0) (quoted Quoted 39 1 0 bytes) in
    subst (λ b. Stands (b ∷ bytes) step) (sym (begin_is byte begins.Name is)) (name_choice bytes (eqb (slice_index bytes 0) 39) refl)

-- ---- symbols, and bytes that begin nothing

begins_none : (byte : ℕ) → Tells byte begins.Symbol → (is_symbol (byte ∷ []) ≡ true → ⊥) → (kind : TokenKind) (more : List ℕ) → ¬ Spells kind (byte ∷ more)
begins_none byte tells none Plain more spells = true≢false (sym (and_parts (begins_word byte) _ spells.0).0 ∙ tells.1)
begins_none byte tells none Reserved more spells = true≢false (sym (and_parts (begins_word byte) _ spells.0).0 ∙ tells.1)
begins_none byte tells none Quoted more spells = true≢false (sym (eq-eqb byte 39 (ap (λ (l : List ℕ). slice_index l 0) spells.1.1)) ∙ tells.3)
begins_none byte tells none Str more spells = true≢false (sym (eq-eqb byte 34 (ap (λ (l : List ℕ). slice_index l 0) spells.1.1)) ∙ tells.4)
begins_none byte tells none Int more spells = true≢false (sym (integer_begins (byte ∷ more) [] spells) ∙ tells.2)
begins_none byte tells none Dec more spells = true≢false (sym (decimal_begins (byte ∷ more) [] spells) ∙ tells.2)
begins_none byte tells none Symbol more spells = none (symbol_first byte more spells)

symbol_by : (byte : ℕ) (bytes : List ℕ) (n : ℕ) → Tells byte begins.Symbol → symbol_len byte (slice_index bytes 0) (slice_index bytes 1) ≡ n
    → Stands (byte ∷ bytes) (symbol_of n)
symbol_by byte bytes zero tells is =
    inl ((byte, bytes, refl, tells.0, begins_none byte tells (λ one. absurd (omega (arith, symbol_reaches (byte ∷ []) bytes one)))), refl)
symbol_by byte bytes (suc n) tells is =
    let found = symbol_found (byte ∷ bytes) (suc n) (omega arith) is (omega arith) in
    let positive : eqb (suc n) 0 ≡ false = grind (arith, nat_tests) in
    rw positive (first_bytes Symbol (byte ∷ bytes) (suc n) found.1 found.0 (no_slash byte bytes tells.5))

symbol_choice : (byte : ℕ) (bytes : List ℕ) (dot : Bool) → Tells byte begins.Symbol → is_dot_digit (byte ∷ bytes) ≡ dot
    → Stands (byte ∷ bytes) (cond dot (steps.Fault kinds.Decimal 0) (symbol_of (symbol_len byte (slice_index bytes 0) (slice_index bytes 1))))
symbol_choice byte bytes true tells is = (or_right (is_bad_decimal (byte ∷ bytes)) _ is, refl)
symbol_choice byte bytes false tells is = symbol_by byte bytes (symbol_len byte (slice_index bytes 0) (slice_index bytes 1)) tells refl

symbol_stands : (byte : ℕ) (bytes : List ℕ) → begin_of byte ≡ begins.Symbol → Stands (byte ∷ bytes) (symbol (byte ∷ bytes))
unfolding symbol
symbol_stands byte bytes is = symbol_choice byte bytes (is_dot_digit (byte ∷ bytes)) (begin_is byte begins.Symbol is) refl

-- ---- all

stands_at : (begin : Begin) (byte : ℕ) (bytes : List ℕ) → begin_of byte ≡ begin → Stands (byte ∷ bytes) (at_begin begin (byte ∷ bytes))
stands_at begins.Space byte bytes is =
    record { bytes = byte ∷ []; after = bytes; text_is = refl; is_blank = inl (byte, refl, begin_is byte begins.Space is); length_is = refl }
stands_at begins.Word byte bytes is = word_stands byte bytes is
stands_at begins.Number byte bytes is = digit_stands byte bytes is
stands_at begins.Name byte bytes is = name_stands byte bytes is
stands_at begins.String byte bytes is = string_stands byte bytes is
stands_at begins.Slash byte bytes is = slash_stands (byte ∷ bytes) (begin_is byte begins.Slash is)
stands_at begins.Symbol byte bytes is = symbol_stands byte bytes is

-- what is read at the front of a text stands there
pub next_stands : (text : List ℕ) → Stands text (next text)
unfolding next
next_stands [] = refl
next_stands (byte ∷ bytes) = stands_at (begin_of byte) byte bytes refl
