-- What is spelled as a token is one, before bytes that don't change it.
use Rattle.std.proofs.Common.{◌≡◌, ℕ, zero, suc, ◌<◌, ◌≤◌, Bool, true, false, cond, eqb, leb, not, ◌&&◌, ◌||◌, List, [], ◌∷◌, ◌++◌, length, take, drop}
use Rattle.std.proofs.Common.{slice_index, refl, sym, ◌∙◌, ap, subst, inl, inr, arith, length-append}
use Rattle.std.proofs.lemmas.Bool.{cases_Bool, cases_lt, and_parts, and_from, or_parts, or_cases, and_left, and_right, or_left, or_right, not-true}
use Rattle.std.proofs.lemmas.Bool.{not_from_false, true≢false, eq-eqb}
use Rattle.std.proofs.lemmas.Bool.Decides.{nat_tests}
use Rattle.std.proofs.lemmas.List.{take_at, append_cancel_left}
use Rattle.std.proofs.lemmas.Slice.Eq.{bytes_eq-Decides}
use Rattle.std.specs.Char.{is_ascii_digit, is_ascii_hexdigit}
use Rattle.std.specs.List.{list_all, list_any, prefix_len}
use Rattle.std.specs.Str.{bytes_eq}
use Rattle.ad_lexer.specs.declared.fault.LexKind.TheVariants as faults
use Rattle.ad_lexer.specs.declared.next.Begin.TheVariants as begins
use Rattle.ad_lexer.specs.declared.next.Step.TheVariants as steps
use Rattle.ad_lexer.specs.declared.token.TokenKind.{TokenKind}
use Rattle.ad_lexer.specs.declared.token.TokenKind.TheVariants.{Plain, Reserved, Quoted, Str, Int, Dec, Symbol}
use Rattle.ad_lexer.specs.Alone.{ends_word, ends_integer, ends_decimal, goes_on, ends_symbol, Ends}
use Rattle.ad_lexer.specs.Faults.{behind_number, is_dot_digit}
use Rattle.ad_lexer.specs.Numbers.{has_fraction, is_decimal_number, is_hexadecimal, is_integer, is_number, number_len}
use Rattle.ad_lexer.specs.Spelling.{Spells}
use Rattle.ad_lexer.specs.Symbols.{symbols, is_symbol}
use Rattle.ad_lexer.specs.Tokens.{IsToken}
use Rattle.ad_lexer.specs.Words.{is_word, is_word_byte, is_reserved}
use Rattle.ad_lexer.specs.Reading.{begin_of, next, number_kind, symbol, symbol_len, symbol_of, slash, is_decimal_mark}
use Rattle.ad_lexer.proofs.Begins.{begin_is}
use Rattle.ad_lexer.proofs.DecimalLemmas.{plain_len}
use Rattle.ad_lexer.proofs.FractionLemmas.{at_behind, decimal_begins, decimal_exact, decimal_fraction, digits_plain, hexadecimal_whole}
use Rattle.ad_lexer.proofs.ItemLemmas.{symbol_begins, string_whole, name_whole, first_same, slash_alone, same_first, token_found}
use Rattle.ad_lexer.proofs.Steps.{next_at, number_next, next_stands}
use Rattle.ad_lexer.proofs.NumberLemmas.{integer_begins, integer_decimal, integer_hexadecimal, is_marked, is_token, number_is}
use Rattle.ad_lexer.proofs.Runs.{run_exact}
use Rattle.ad_lexer.proofs.Fronts.{TokenAt, Stands}
use Rattle.ad_lexer.proofs.SymbolLemmas.{symbol_passes, symbol_short, symbol_reaches, symbol_found}
use Rattle.ad_lexer.proofs.WordLemmas.{word_bytes, word_begins, word_nonempty}

-- ---- what is read as a token of its whole length is one

token_by : (kind : TokenKind) (bytes after : List ℕ) (at : TokenAt kind (bytes ++ after) (length bytes))
    → next (bytes ++ after) ≡ steps.Token kind (length bytes) → IsToken kind bytes after
token_by kind bytes after at reads =
    let same : at.bytes ≡ bytes = sym (first_same bytes after at.bytes at.after at.text_is (sym at.length_is)) in
    let rest : at.after ≡ after = sym (append_cancel_left bytes after at.after (at.text_is ∙ ap (λ (b : List ℕ). b ++ at.after) same)) in
    let is = token_found kind (bytes ++ after) (length bytes) at reads in
    subst (λ (b : List ℕ). IsToken kind b after) same (subst (λ (r : List ℕ). IsToken kind at.bytes r) rest is)

pub token_is : (kind : TokenKind) (bytes after : List ℕ) → next (bytes ++ after) ≡ steps.Token kind (length bytes) → IsToken kind bytes after
token_is kind bytes after reads = token_by kind bytes after (subst (λ s. Stands (bytes ++ after) s) reads (next_stands (bytes ++ after))) reads

-- ---- words

pub word_alone : (bytes after : List ℕ) → is_word bytes ≡ true → ends_word (slice_index after 0) ≡ true
    → next (bytes ++ after) ≡ steps.Token (cond (is_reserved bytes) Reserved Plain) (length bytes)
word_alone bytes after is ends =
    let text : List ℕ = bytes ++ after in
    let n : ℕ = length bytes in
    let len : prefix_len is_word_byte text ≡ n = run_exact is_word_byte bytes after (word_bytes bytes is) (λ some. not-true _ ends) in
    let some : 0 < length text = omega (arith, word_nonempty bytes is, length-append bytes after) in
    next_at text begins.Word some (word_begins bytes after is)
    ∙ ap (λ (m : ℕ). steps.Token (cond (is_reserved (take m text)) Reserved Plain) m) len
    ∙ ap (λ (l : List ℕ). steps.Token (cond (is_reserved l) Reserved Plain) n) (take_at bytes after n refl)

-- ---- integers

hexadecimal_more : (bytes after : List ℕ) → is_hexadecimal bytes ≡ true → list_all is_ascii_hexdigit (drop 2 bytes) ≡ true
    → is_word_byte (slice_index after 0) ≡ false → (is_hexadecimal (bytes ++ after) ≡ true) × (number_len (bytes ++ after) ≡ length bytes)
hexadecimal_more [] after is each ends = absurd (grind (arith, nat_tests))
hexadecimal_more (a ∷ []) after is each ends = absurd (grind (arith, nat_tests))
hexadecimal_more (a ∷ b ∷ bytes) after is each ends =
    let run : prefix_len is_ascii_hexdigit (bytes ++ after) ≡ length bytes = run_exact is_ascii_hexdigit bytes after each (λ some. grind (arith, nat_tests)) in
    (is, rw is (omega arith))

decimal_isnt : (bytes after : List ℕ) → 0 < length bytes → is_hexadecimal bytes ≡ false → is_word_byte (slice_index after 0) ≡ false
    → is_hexadecimal (bytes ++ after) ≡ false
decimal_isnt [] after some isnt ends = absurd (omega arith)
decimal_isnt (a ∷ []) after some isnt ends = grind (arith, nat_tests)
decimal_isnt (a ∷ b ∷ bytes) after some isnt ends = isnt

no_digit : (byte : ℕ) → is_word_byte byte ≡ false → is_ascii_digit byte ≡ false
no_digit byte ends = grind (arith, nat_tests)

decimal_more : (bytes after : List ℕ) → is_integer bytes ≡ true → is_hexadecimal bytes ≡ false → is_word_byte (slice_index after 0) ≡ false
    → eqb (slice_index after 0) 46 ≡ false
    → (is_hexadecimal (bytes ++ after) ≡ false) × (has_fraction (bytes ++ after) ≡ false) × (number_len (bytes ++ after) ≡ length bytes)
decimal_more bytes after is isnt ends no_dot =
    let parts = integer_decimal bytes is isnt in
    let text : List ℕ = bytes ++ after in
    let other = decimal_isnt bytes after parts.0 isnt ends in
    let whole = digits_plain bytes after parts.1 (no_digit (slice_index after 0) ends) no_dot in
    let run : prefix_len is_ascii_digit text ≡ length bytes = run_exact is_ascii_digit bytes after parts.1 (λ some. no_digit (slice_index after 0) ends) in
    (other, whole, plain_len (is_hexadecimal text) (has_fraction text) _ _ (prefix_len is_ascii_digit text) other whole ∙ run)

mark_off : (byte : ℕ) (hexadecimal : Bool) → is_word_byte byte ≡ false → (hexadecimal || not (eqb byte 46)) ≡ true
    → (is_decimal_mark byte && not hexadecimal) ≡ false
mark_off byte true isnt ends = and_right (is_decimal_mark byte) false refl
mark_off byte false isnt ends = grind (arith, nat_tests)

mark_same : (byte : ℕ) (here other : Bool) → here ≡ other → is_word_byte byte ≡ false → (other || not (eqb byte 46)) ≡ true
    → (is_decimal_mark byte && not here) ≡ false
mark_same byte here other same isnt ends = ap (λ (h : Bool). is_decimal_mark byte && not h) same ∙ mark_off byte other isnt ends

no_dot_behind : (hexadecimal dot : Bool) → hexadecimal ≡ false → (hexadecimal || not dot) ≡ true → dot ≡ false
no_dot_behind false dot isnt is = not-true dot is
no_dot_behind true dot isnt is = absurd (true≢false isnt)

-- a number that stands first is a token where nothing behind it goes on with it
token_by_number : (marked whole : Bool) (kind : TokenKind) (len : ℕ) → marked ≡ false → whole ≡ true
    → cond marked (steps.Fault faults.Decimal 0) (cond whole (steps.Token kind len) (steps.Fault faults.Number 0)) ≡ steps.Token kind len
token_by_number false true kind len off is = refl
token_by_number true whole kind len off is = absurd (true≢false off)
token_by_number false false kind len off is = absurd (true≢false (sym is))

number_alone : (bytes after : List ℕ) (decimal : Bool) → is_ascii_digit (slice_index (bytes ++ after) 0) ≡ true → is_number decimal bytes ≡ true
    → is_word_byte (slice_index after 0) ≡ false
    → (is_decimal_mark (slice_index after 0) && not (is_hexadecimal (bytes ++ after))) ≡ false → has_fraction (bytes ++ after) ≡ decimal
    → number_len (bytes ++ after) ≡ length bytes → next (bytes ++ after) ≡ steps.Token (number_kind decimal) (length bytes)
number_alone bytes after decimal digit is isnt off same len =
    let text : List ℕ = bytes ++ after in
    let behind : behind_number text ≡ slice_index after 0 = ap (λ (n : ℕ). slice_index text n) len ∙ at_behind bytes after in
    let marked : (is_decimal_mark (behind_number text) && not (is_hexadecimal text)) ≡ false =
    ap (λ (b : ℕ). is_decimal_mark b && not (is_hexadecimal text)) behind ∙ off in
    let front : take (number_len text) text ≡ bytes = ap (λ (n : ℕ). take n text) len ∙ take_at bytes after (length bytes) refl in
    let whole : is_number (has_fraction text) (take (number_len text) text) ≡ true =
    ap (λ (d : Bool). is_number d (take (number_len text) text)) same ∙ ap (is_number decimal) front ∙ is in
    let ends : not (is_word_byte (behind_number text)) ≡ true =
    ap (λ (b : ℕ). not (is_word_byte b)) behind ∙ not_from_false (is_word_byte (slice_index after 0)) isnt in
    number_next text digit ∙ number_is text
    ∙ token_by_number (is_marked text) (is_token text) (number_kind (has_fraction text)) (number_len text) marked
    (and_from (not (is_word_byte (behind_number text))) _ ends whole)
    ∙ ap (λ (d : Bool). steps.Token (number_kind d) (number_len text)) same ∙ ap (λ (n : ℕ). steps.Token (number_kind decimal) n) len

pub integer_alone : (bytes after : List ℕ) → is_integer bytes ≡ true → ends_integer bytes (slice_index after 0) ≡ true
    → next (bytes ++ after) ≡ steps.Token Int (length bytes)
integer_alone bytes after is ends =
    let byte : ℕ = slice_index after 0 in
    let both = and_parts (not (is_word_byte byte)) (is_hexadecimal bytes || not (eqb byte 46)) ends in
    let isnt : is_word_byte byte ≡ false = not-true _ both.0 in
    let digit = integer_begins bytes after is in
    elim (cases_Bool (is_hexadecimal bytes)) [
      | inl hexadecimal ↦
          let more = hexadecimal_more bytes after hexadecimal (integer_hexadecimal bytes is hexadecimal) isnt in
          number_alone bytes after false digit is isnt (mark_same byte (is_hexadecimal (bytes ++ after)) (is_hexadecimal bytes) (more.0 ∙ sym hexadecimal) isnt
          both.1) (hexadecimal_whole (bytes ++ after) more.0) more.1
      | inr other ↦
          let more = decimal_more bytes after is other isnt (no_dot_behind (is_hexadecimal bytes) (eqb byte 46) other both.1) in
          number_alone bytes after false digit is isnt (mark_same byte (is_hexadecimal (bytes ++ after)) (is_hexadecimal bytes) (more.0 ∙ sym other) isnt
          both.1) more.1 more.2
    ]

pub decimal_alone : (bytes after : List ℕ) → is_decimal_number bytes ≡ true → ends_decimal (slice_index after 0) ≡ true
    → next (bytes ++ after) ≡ steps.Token Dec (length bytes)
decimal_alone bytes after is ends =
    let byte : ℕ = slice_index after 0 in
    let both = and_parts (not (is_word_byte byte)) (not (eqb byte 46)) ends in
    let isnt : is_word_byte byte ≡ false = not-true _ both.0 in
    let fraction = decimal_fraction bytes after is in
    let plain : is_hexadecimal (bytes ++ after) ≡ false = not-true _ (and_parts (not (is_hexadecimal (bytes ++ after))) _ fraction).0 in
    let off : (is_decimal_mark byte && not (is_hexadecimal (bytes ++ after))) ≡ false =
    ap (λ (h : Bool). is_decimal_mark byte && not h) plain ∙ mark_off byte false isnt both.1 in
    number_alone bytes after true (decimal_begins bytes after is) is isnt off fraction (decimal_exact bytes after is (no_digit byte isnt))

-- ---- symbols

-- where some element passes a test, one passes a weaker test
any_weaker : (p q : List ℕ → Bool) (weaker : (x : List ℕ) → p x ≡ true → q x ≡ true) (xs : List (List ℕ)) → list_any p xs ≡ true → list_any q xs ≡ true
any_weaker p q weaker [] some = some
any_weaker p q weaker (x ∷ xs) some =
    elim (or_cases (p x) (list_any p xs) some) [
      | inl here ↦ or_left (q x) _ (weaker x here)
      | inr later ↦ or_right (q x) _ (any_weaker p q weaker xs later)
    ]

same_true : (xs ys : List ℕ) → xs ≡ ys → bytes_eq xs ys ≡ true
same_true xs ys same = (bytes_eq-Decides xs ys).1 same

-- a symbol that begins with the bytes and one more shows that they go on
longer_goes_on : (bytes : List ℕ) (byte : ℕ) (longer rest : List ℕ) → is_symbol longer ≡ true → longer ≡ bytes ++ byte ∷ [] ++ rest → goes_on bytes byte ≡ true
longer_goes_on bytes byte longer rest is begins =
    let needle : List ℕ = bytes ++ byte ∷ [] in
    any_weaker (bytes_eq longer) (λ s. bytes_eq needle (take (length needle) s)) (λ s same.
    let whole : longer ≡ s = (bytes_eq-Decides longer s).0 same in
    same_true needle (take (length needle) s) (sym (take_at needle rest (length needle) refl)
    ∙ ap (λ (l : List ℕ). take (length needle) l) (sym begins ∙ whole))) symbols is

-- the longest symbol is no longer where none goes on
begins_longer : (bytes after : List ℕ) (n : ℕ) → length bytes < n → n ≤ length (bytes ++ after)
    → (rest : List ℕ) × (take n (bytes ++ after) ≡ (bytes ++ slice_index after 0 ∷ []) ++ rest)
begins_longer [] [] n more fits = absurd (omega arith)
begins_longer [] (a ∷ after) zero more fits = absurd (omega arith)
begins_longer [] (a ∷ after) (suc n) more fits = (take n after, refl)
begins_longer (b ∷ bytes) after zero more fits = absurd (omega arith)
begins_longer (b ∷ bytes) after (suc n) more fits =
    let rest = begins_longer bytes after n (omega arith) (omega arith) in
    (rest.0, ap (λ (l : List ℕ). b ∷ l) rest.1)

symbol_exact : (bytes after : List ℕ) (n : ℕ) → is_symbol bytes ≡ true → goes_on bytes (slice_index after 0) ≡ false
    → symbol_len (slice_index (bytes ++ after) 0) (slice_index (bytes ++ after) 1) (slice_index (bytes ++ after) 2) ≡ n → n ≡ length bytes
symbol_exact bytes after n is stays len =
    let reach = symbol_reaches bytes after is in
    let some = (symbol_short bytes is).0 in
    elim (cases_lt (length bytes) n) [
      | inl longer ↦
          let found = symbol_found (bytes ++ after) n (omega (arith, length-append bytes after)) len (omega arith) in
          let begins = begins_longer bytes after n longer found.1 in
          absurd (true≢false (sym (longer_goes_on bytes (slice_index after 0) _ begins.0 found.0 begins.1) ∙ stays))
      | inr most ↦ omega arith
    ]

symbol_token : (n : ℕ) → 0 < n → symbol_of n ≡ steps.Token Symbol n
symbol_token zero some = absurd (omega arith)
symbol_token (suc n) some = let positive : eqb (suc n) 0 ≡ false = grind (arith, nat_tests) in rw positive refl

other_alone : (bytes after : List ℕ) → is_symbol bytes ≡ true → goes_on bytes (slice_index after 0) ≡ false → is_dot_digit (bytes ++ after) ≡ false
    → symbol (bytes ++ after) ≡ steps.Token Symbol (length bytes)
unfolding symbol
other_alone bytes after is stays dot =
    let text : List ℕ = bytes ++ after in
    let n : ℕ = symbol_len (slice_index text 0) (slice_index text 1) (slice_index text 2) in
    let len : n ≡ length bytes = symbol_exact bytes after n is stays refl in
    let some = (symbol_short bytes is).0 in
    rw dot (symbol_token n (omega arith) ∙ ap (λ (m : ℕ). steps.Token Symbol m) len)

dot_by : (dot digit : Bool) → ((dot && true) && digit) ≡ false → (dot && digit) ≡ false
dot_by dot digit is = grind (arith, nat_tests)

no_dot : (bytes after : List ℕ) → is_symbol bytes ≡ true → (bytes_eq bytes (46 ∷ []) && is_ascii_digit (slice_index after 0)) ≡ false
    → is_dot_digit (bytes ++ after) ≡ false
no_dot [] after is ends = absurd (true≢false (sym is))
no_dot (byte ∷ []) after is ends = dot_by (eqb byte 46) (is_ascii_digit (slice_index after 0)) ends
no_dot (byte ∷ b ∷ more) after is ends =
    let one = symbol_passes (λ s. not (eqb (slice_index s 0) 46) || leb (length s) 1) (byte ∷ b ∷ more) refl is in
    let other : eqb byte 46 ≡ false = grind (arith, nat_tests) in
    and_left (eqb byte 46) _ other

slash_token : (byte : ℕ) (after : List ℕ) → (eqb (slice_index after 0) 47 || eqb (slice_index after 0) 42) ≡ false → slash (byte ∷ after) ≡ steps.Token Symbol 1
unfolding slash
slash_token byte after ends =
    let parts = or_parts (eqb (slice_index after 0) 47) (eqb (slice_index after 0) 42) ends in
    rw (parts.0, parts.1) refl

slash_whole : (bytes after : List ℕ) → is_symbol bytes ≡ true → begin_of (slice_index (bytes ++ after) 0) ≡ begins.Slash → length bytes ≤ 1
    → (bytes_eq bytes (47 ∷ []) && (eqb (slice_index after 0) 47 || eqb (slice_index after 0) 42)) ≡ false
    → next (bytes ++ after) ≡ steps.Token Symbol (length bytes)
slash_whole [] after is slashed short ends = absurd (true≢false (sym is))
slash_whole (byte ∷ []) after is slashed short ends =
    let first : byte ≡ 47 = begin_is byte begins.Slash slashed in
    let alone : (eqb (slice_index after 0) 47 || eqb (slice_index after 0) 42) ≡ false = rw (eq-eqb byte 47 first) at ends in
    next_at (byte ∷ after) begins.Slash (omega arith) slashed ∙ slash_token byte after alone
slash_whole (byte ∷ b ∷ more) after is slashed short ends = absurd (omega arith)

pub symbol_alone : (bytes after : List ℕ) → is_symbol bytes ≡ true → ends_symbol bytes (slice_index after 0) ≡ true
    → next (bytes ++ after) ≡ steps.Token Symbol (length bytes)
symbol_alone bytes after is ends =
    let byte : ℕ = slice_index after 0 in
    let both = and_parts _ (not (bytes_eq bytes (47 ∷ []) && (eqb byte 47 || eqb byte 42))) ends in
    let more = and_parts (not (goes_on bytes byte)) (not (bytes_eq bytes (46 ∷ []) && is_ascii_digit byte)) both.0 in
    let some = (symbol_short bytes is).0 in
    let text : List ℕ = bytes ++ after in
    elim (symbol_begins bytes after is) [
      | inl slashed ↦
          let first : slice_index text 0 ≡ 47 = begin_is (slice_index text 0) begins.Slash slashed in
          slash_whole bytes after is slashed (slash_alone bytes is (sym (same_first bytes after some) ∙ first)) (not-true _ both.1)
      | inr other ↦ next_at text begins.Symbol (omega (arith, length-append bytes after)) other
          ∙ other_alone bytes after is (not-true _ more.0) (no_dot bytes after is (not-true _ more.1))
    ]

-- ---- all kinds

pub alone_next : (kind : TokenKind) (bytes after : List ℕ) → Spells kind bytes → Ends kind bytes (slice_index after 0)
    → next (bytes ++ after) ≡ steps.Token kind (length bytes)
alone_next Plain bytes after spells ends = word_alone bytes after spells.0 ends ∙ ap (λ (r : Bool). steps.Token (cond r Reserved Plain) (length bytes)) spells.1
alone_next Reserved bytes after spells ends =
    word_alone bytes after spells.0 ends ∙ ap (λ (r : Bool). steps.Token (cond r Reserved Plain) (length bytes)) spells.1
alone_next Quoted bytes after spells ends = name_whole bytes spells.0 after spells.1 spells.2
alone_next Str bytes after spells ends = string_whole bytes spells.0 after spells.1
alone_next Int bytes after spells ends = integer_alone bytes after spells ends
alone_next Dec bytes after spells ends = decimal_alone bytes after spells ends
alone_next Symbol bytes after spells ends = symbol_alone bytes after spells ends

pub alone_token : (kind : TokenKind) (bytes after : List ℕ) → Spells kind bytes → Ends kind bytes (slice_index after 0) → IsToken kind bytes after
alone_token kind bytes after spells ends = token_is kind bytes after (alone_next kind bytes after spells ends)
