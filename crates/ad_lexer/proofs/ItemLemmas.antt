-- An item stands at the front of a text exactly where it is read there.
use Rattle.std.proofs.Common.{◌≡◌, ◌⊎◌, ℕ, zero, suc, ◌<◌, ◌≤◌, Bool, true, false, cond, eqb, leb, not, ◌||◌, List, [], ◌∷◌, ◌++◌, length, take, drop}
use Rattle.std.proofs.Common.{slice_index, refl, sym, ◌∙◌, ap, subst, inl, inr, arith, length-append, append-nil, append_assoc}
use Rattle.std.proofs.lemmas.Bool.{or_parts, not-true, true≢false}
use Rattle.std.proofs.lemmas.Bool.Decides.{nat_tests}
use Rattle.std.proofs.lemmas.List.{take_at, length-map}
use Rattle.std.specs.Char.{is_ascii_digit}
use Rattle.std.specs.List.{prefix_len}
use Rattle.ad_lexer.specs.declared.fault.LexKind.TheVariants as kinds
use Rattle.ad_lexer.specs.declared.next.Begin.{Begin}
use Rattle.ad_lexer.specs.declared.next.Begin.TheVariants as begins
use Rattle.ad_lexer.specs.declared.next.Step.{Step}
use Rattle.ad_lexer.specs.declared.next.Step.TheVariants as steps
use Rattle.ad_lexer.specs.declared.token.TokenKind.{TokenKind}
use Rattle.ad_lexer.specs.declared.token.TokenKind.TheVariants.{Plain, Reserved, Quoted, Str, Int, Dec, Symbol}
use Rattle.ad_lexer.specs.Blanks.{is_space, begins_comment, IsBlank}
use Rattle.ad_lexer.specs.Numbers.{has_fraction, is_decimal_number, number_len}
use Rattle.ad_lexer.specs.Quoted.{spellings, meaning, IsQuoted}
use Rattle.ad_lexer.specs.Spelling.{Spells}
use Rattle.ad_lexer.specs.Symbols.{is_symbol}
use Rattle.ad_lexer.specs.Tokens.{IsToken, Item, blank, token, bytes_of, IsItem}
use Rattle.ad_lexer.specs.Words.{begins_word, is_word, is_word_byte, is_reserved}
use Rattle.ad_lexer.specs.Reading as reading
use Rattle.ad_lexer.specs.Reading.{begin_of, next, symbol, symbol_len, symbol_of}
use Rattle.ad_lexer.proofs.Begins.{begin_is, begin_number}
use Rattle.ad_lexer.proofs.FractionLemmas.{decimal_begins, decimal_fraction, decimal_nonempty, decimal_reaches}
use Rattle.ad_lexer.proofs.Fronts.{BlankAt, TokenAt, Stands}
use Rattle.ad_lexer.proofs.Steps.{next_at, begin_39, begin_34, name_next, string_next, begin_space, number_next, wrong_next, blank_next, next_stands}
use Rattle.ad_lexer.proofs.NumberLemmas.{number_read, integer_begins, integer_nonempty, integer_reaches, integer_whole}
use Rattle.ad_lexer.proofs.QuotedLemmas.{letters_first, quoted_met, same_letters}
use Rattle.ad_lexer.proofs.Runs.{run_reaches}
use Rattle.ad_lexer.proofs.SymbolLemmas.{symbol_passes, is_other, symbol_other, symbol_short, symbol_reaches}
use Rattle.ad_lexer.proofs.WordLemmas.{word_bytes, word_begins, word_nonempty}

-- ---- what begins a token of each kind

abbrev pub BeginsBy : TokenKind → Begin → Type 0
BeginsBy Plain begin = begin ≡ begins.Word
BeginsBy Reserved begin = begin ≡ begins.Word
BeginsBy Quoted begin = begin ≡ begins.Name
BeginsBy Str begin = begin ≡ begins.String
BeginsBy Int begin = begin ≡ begins.Number
BeginsBy Dec begin = begin ≡ begins.Number
BeginsBy Symbol begin = (begin ≡ begins.Slash) ⊎ (begin ≡ begins.Symbol)

by_slash : (byte : ℕ) (is : Bool) → eqb byte 47 ≡ is
    → (cond is begins.Slash begins.Symbol ≡ begins.Slash) ⊎ (cond is begins.Slash begins.Symbol ≡ begins.Symbol)
by_slash byte true e = inl refl
by_slash byte false e = inr refl

begin_symbol : (byte : ℕ) → is_other byte ≡ true → BeginsBy Symbol (begin_of byte)
unfolding begin_of
begin_symbol byte is =
    let a = or_parts _ (eqb byte 34) (not-true _ is) in
    let b = or_parts _ (eqb byte 39) a.0 in
    let c = or_parts _ (is_ascii_digit byte) b.0 in
    let d = or_parts (is_space byte) (begins_word byte) c.0 in
    rw (d.0, d.1, c.1, b.1, a.1) (by_slash byte (eqb byte 47) refl)

pub symbol_begins : (bytes after : List ℕ) → is_symbol bytes ≡ true → BeginsBy Symbol (begin_of (slice_index (bytes ++ after) 0))
symbol_begins [] after is = absurd (true≢false (sym is))
symbol_begins (byte ∷ bytes) after is = begin_symbol byte (symbol_other (byte ∷ bytes) is)

first_byte : (bytes more after : List ℕ) (byte : ℕ) → bytes ≡ byte ∷ more → slice_index (bytes ++ after) 0 ≡ byte
first_byte bytes more after byte is = ap (λ (l : List ℕ). slice_index (l ++ after) 0) is

pub spelled_begins : (kind : TokenKind) (bytes after : List ℕ) → Spells kind bytes → BeginsBy kind (begin_of (slice_index (bytes ++ after) 0))
spelled_begins Plain bytes after spells = word_begins bytes after spells.0
spelled_begins Reserved bytes after spells = word_begins bytes after spells.0
spelled_begins Quoted bytes after spells = ap begin_of (first_byte bytes _ after 39 spells.1.1) ∙ begin_39
spelled_begins Str bytes after spells = ap begin_of (first_byte bytes _ after 34 spells.1.1) ∙ begin_34
spelled_begins Int bytes after spells = begin_number _ (integer_begins bytes after spells)
spelled_begins Dec bytes after spells = begin_number _ (decimal_begins bytes after spells)
spelled_begins Symbol bytes after spells = symbol_begins bytes after spells

pub spelled_some : (kind : TokenKind) (bytes : List ℕ) → Spells kind bytes → 0 < length bytes
spelled_some Plain bytes spells = word_nonempty bytes spells.0
spelled_some Reserved bytes spells = word_nonempty bytes spells.0
spelled_some Quoted bytes spells = omega (arith, ap (λ (l : List ℕ). length l) spells.1.1)
spelled_some Str bytes spells = omega (arith, ap (λ (l : List ℕ). length l) spells.1.1)
spelled_some Int bytes spells = integer_nonempty bytes spells
spelled_some Dec bytes spells = decimal_nonempty bytes spells
spelled_some Symbol bytes spells = (symbol_short bytes spells).0

-- bytes spell one kind only
abbrev kind_of : Begin → Bool → Bool → TokenKind
kind_of begins.Word true decimal = Reserved
kind_of begins.Word false decimal = Plain
kind_of begins.Name reserved decimal = Quoted
kind_of begins.String reserved decimal = Str
kind_of begins.Number reserved true = Dec
kind_of begins.Number reserved false = Int
kind_of begins.Space reserved decimal = Symbol
kind_of begins.Slash reserved decimal = Symbol
kind_of begins.Symbol reserved decimal = Symbol

-- bytes are a decimal exactly where a dot and a digit follow their digits
decimal_whole : (bytes : List ℕ) → is_decimal_number bytes ≡ true → has_fraction bytes ≡ true
decimal_whole bytes is = ap has_fraction (sym (append-nil bytes)) ∙ decimal_fraction bytes [] is

kind_is : (kind : TokenKind) (begin : Begin) (bytes : List ℕ) → BeginsBy kind begin → Spells kind bytes
    → kind_of begin (is_reserved bytes) (has_fraction bytes) ≡ kind
kind_is Plain begin bytes by spells =
    ap (λ b. kind_of b (is_reserved bytes) (has_fraction bytes)) by ∙ ap (λ r. kind_of begins.Word r (has_fraction bytes)) spells.1
kind_is Reserved begin bytes by spells =
    ap (λ b. kind_of b (is_reserved bytes) (has_fraction bytes)) by ∙ ap (λ r. kind_of begins.Word r (has_fraction bytes)) spells.1
kind_is Quoted begin bytes by spells = ap (λ b. kind_of b (is_reserved bytes) (has_fraction bytes)) by
kind_is Str begin bytes by spells = ap (λ b. kind_of b (is_reserved bytes) (has_fraction bytes)) by
kind_is Int begin bytes by spells =
    ap (λ b. kind_of b (is_reserved bytes) (has_fraction bytes)) by ∙ ap (λ d. kind_of begins.Number (is_reserved bytes) d) (integer_whole bytes spells)
kind_is Dec begin bytes by spells =
    ap (λ b. kind_of b (is_reserved bytes) (has_fraction bytes)) by ∙ ap (λ d. kind_of begins.Number (is_reserved bytes) d) (decimal_whole bytes spells)
kind_is Symbol begin bytes by spells =
    elim by [
      | inl slashed ↦ ap (λ b. kind_of b (is_reserved bytes) (has_fraction bytes)) slashed
      | inr other ↦ ap
          (λ b. kind_of b (is_reserved bytes) (has_fraction bytes)) other
    ]

pub same_kind : (kind other : TokenKind) (bytes : List ℕ) → Spells kind bytes → Spells other bytes → kind ≡ other
same_kind kind other bytes spells again =
    let begin : Begin = begin_of (slice_index (bytes ++ []) 0) in
    sym (kind_is kind begin bytes (spelled_begins kind bytes [] spells) spells) ∙ kind_is other begin bytes (spelled_begins other bytes [] again) again

-- ---- what is spelled there is no longer than what is read

-- the length that a step tells
abbrev len_of : Step → ℕ
len_of steps.End = 0
len_of (steps.Blank n) = n
len_of (steps.Token kind n) = n
len_of (steps.Fault kind place) = 0

some_more : (bytes after : List ℕ) → 0 < length bytes → 0 < length (bytes ++ after)
some_more bytes after some = omega (arith, length-append bytes after)

word_reaches : (bytes after : List ℕ) (read : TokenKind) (n : ℕ) → is_word bytes ≡ true → next (bytes ++ after) ≡ steps.Token read n → length bytes ≤ n
word_reaches bytes after read n is reads =
    let here = next_at (bytes ++ after) begins.Word (some_more bytes after (word_nonempty bytes is)) (word_begins bytes after is) in
    let len : prefix_len is_word_byte (bytes ++ after) ≡ n = ap len_of (sym here ∙ reads) in
    omega (arith, run_reaches is_word_byte bytes after (word_bytes bytes is))

number_reaches : (bytes after : List ℕ) (read : TokenKind) (n : ℕ) → is_ascii_digit (slice_index (bytes ++ after) 0) ≡ true
    → length bytes ≤ number_len (bytes ++ after) → next (bytes ++ after) ≡ steps.Token read n → length bytes ≤ n
number_reaches bytes after read n digit reach reads =
    let len = number_read (bytes ++ after) read n (sym (number_next (bytes ++ after) digit) ∙ reads) in
    omega arith

-- a symbol that begins with `/` is `/`
pub slash_alone : (bytes : List ℕ) → is_symbol bytes ≡ true → slice_index bytes 0 ≡ 47 → length bytes ≤ 1
slash_alone bytes is first =
    let one = symbol_passes (λ b. not (eqb (slice_index b 0) 47) || leb (length b) 1) bytes refl is in
    grind (arith, nat_tests)

symbol_read : (n : ℕ) (read : TokenKind) (m : ℕ) (dot : Bool) → cond dot (steps.Fault kinds.Decimal 0) (symbol_of n) ≡ steps.Token read m → n ≡ m
symbol_read n read m true is = absurd (cc)
symbol_read zero read m false is = absurd (cc)
symbol_read (suc n) read m false is =
    let positive : eqb (suc n) 0 ≡ false = grind (arith, nat_tests) in
    ap len_of (rw positive at is)

symbol_longest : (bytes after : List ℕ) (read : TokenKind) (n : ℕ) → is_symbol bytes ≡ true → symbol (bytes ++ after) ≡ steps.Token read n → length bytes ≤ n
unfolding symbol
symbol_longest bytes after read n is reads =
    let text : List ℕ = bytes ++ after in
    let len = symbol_read (symbol_len (slice_index text 0) (slice_index text 1) (slice_index text 2)) read n _ reads in
    omega (arith, symbol_reaches bytes after is)

pub same_first : (bytes after : List ℕ) → 0 < length bytes → slice_index (bytes ++ after) 0 ≡ slice_index bytes 0
same_first [] after some = absurd (omega arith)
same_first (byte ∷ bytes) after some = refl

symbol_next_reaches : (bytes after : List ℕ) (read : TokenKind) (n : ℕ) → is_symbol bytes ≡ true → next (bytes ++ after) ≡ steps.Token read n → length bytes ≤ n
symbol_next_reaches bytes after read n is reads =
    let text : List ℕ = bytes ++ after in
    let some = (symbol_short bytes is).0 in
    elim (symbol_begins bytes after is) [
      | inl slashed ↦
          let first : slice_index text 0 ≡ 47 = begin_is (slice_index text 0) begins.Slash slashed in
          let stands : TokenAt read text n = subst (λ s. Stands text s) reads (next_stands text) in
          omega (arith, stands.length_is, spelled_some read stands.bytes stands.spelled, slash_alone bytes is (sym (same_first bytes after some) ∙ first))
      | inr other ↦
          let here = next_at text begins.Symbol (some_more bytes after some) other in
          symbol_longest bytes after read n is (sym here ∙ reads)
    ]

-- a string or quoted name is read whole, whatever follows
pub string_whole : (bytes text after : List ℕ) → IsQuoted 34 bytes text → next (bytes ++ after) ≡ steps.Token Str (length bytes)
string_whole bytes text after quoted =
    ap (λ (l : List ℕ). next (l ++ after)) quoted.1 ∙ string_next ((spellings quoted.0 ++ 34 ∷ []) ++ after)
    ∙ ap (λ (l : List ℕ). reading.quoted Str 34 1 0 (drop 1 (l ++ after))) (sym quoted.1) ∙ quoted_met Str 34 bytes text after refl quoted

pub name_whole : (bytes text after : List ℕ) → IsQuoted 39 bytes text → 0 < length text → next (bytes ++ after) ≡ steps.Token Quoted (length bytes)
name_whole bytes text after quoted some =
    let letters = quoted.0 in
    let are = same_letters 39 letters 39 [] after quoted.2 in
    let more : 0 < length letters = omega (arith, ap (λ (l : List ℕ). length l) quoted.3, length-map letters meaning) in
    let first = letters_first 39 letters (39 ∷ after) refl are (inl more) in
    let joined : (spellings letters ++ 39 ∷ []) ++ after ≡ spellings letters ++ 39 ∷ after = append_assoc (spellings letters) (39 ∷ []) after in
    ap (λ (l : List ℕ). next (l ++ after)) quoted.1 ∙ name_next ((spellings letters ++ 39 ∷ []) ++ after) (ap (λ (l : List ℕ). eqb (slice_index l 0) 39) joined
    ∙ first)
    ∙ ap (λ (l : List ℕ). reading.quoted Quoted 39 1 0 (drop 1 (l ++ after))) (sym quoted.1) ∙ quoted_met Quoted 39 bytes text after refl quoted

pub token_reaches : (kind : TokenKind) (bytes after : List ℕ) (read : TokenKind) (n : ℕ) → Spells kind bytes → next (bytes ++ after) ≡ steps.Token read n
    → length bytes ≤ n
token_reaches Plain bytes after read n spells reads = word_reaches bytes after read n spells.0 reads
token_reaches Reserved bytes after read n spells reads = word_reaches bytes after read n spells.0 reads
token_reaches Quoted bytes after read n spells reads =
    let len : length bytes ≡ n = ap len_of (sym (name_whole bytes spells.0 after spells.1 spells.2) ∙ reads) in
    omega arith
token_reaches Str bytes after read n spells reads =
    let len : length bytes ≡ n = ap len_of (sym (string_whole bytes spells.0 after spells.1) ∙ reads) in
    omega arith
token_reaches Int bytes after read n spells reads =
    number_reaches bytes after read n (integer_begins bytes after spells) (integer_reaches bytes after spells) reads
token_reaches Dec bytes after read n spells reads =
    number_reaches bytes after read n (decimal_begins bytes after spells) (decimal_reaches bytes after spells) reads
token_reaches Symbol bytes after read n spells reads = symbol_next_reaches bytes after read n spells reads

-- ---- what is read is a token

pub token_found : (kind : TokenKind) (text : List ℕ) (n : ℕ) (at : TokenAt kind text n) → next text ≡ steps.Token kind n → IsToken kind at.bytes at.after
token_found kind text n at reads =
    let here : next (at.bytes ++ at.after) ≡ steps.Token kind n = ap next (sym at.text_is) ∙ reads in
    record {
      spelled = at.spelled;
      longest = λ other longer rest same spells.
          let reach = token_reaches other longer rest kind n spells (ap next (sym same) ∙ here) in
          omega (arith, at.length_is);
      no_comment = subst (λ (l : List ℕ). begins_comment l ≡ false) at.text_is at.no_comment;
      no_fault = λ fault place wrong. absurd (cc (sym (wrong_next fault (at.bytes ++ at.after) place wrong) ∙ here));
    }

-- ---- an item is what is read

abbrev pub step_of : Item → Step
step_of (blank bytes) = steps.Blank (length bytes)
step_of (token kind bytes) = steps.Token kind (length bytes)

-- bytes that begin a text are its first ones
pub first_same : (bytes after other rest : List ℕ) → bytes ++ after ≡ other ++ rest → length bytes ≡ length other → bytes ≡ other
first_same bytes after other rest same len =
    sym (take_at bytes after (length bytes) refl) ∙ ap (λ (l : List ℕ). take (length bytes) l) same ∙ take_at other rest (length bytes) (sym len)

-- what begins with white space begins no token
no_space : (kind : TokenKind) (begin : Begin) → BeginsBy kind begin → begin ≡ begins.Space → ⊥
no_space Plain begin by space = cc
no_space Reserved begin by space = cc
no_space Quoted begin by space = cc
no_space Str begin by space = cc
no_space Int begin by space = cc
no_space Dec begin by space = cc
no_space Symbol begin by space = elim by [ inl slashed ↦ cc | inr other ↦ cc ]

comment_begins : (text bytes after : List ℕ) → text ≡ bytes ++ after → begins_comment (bytes ++ after) ≡ true → begins_comment text ≡ false → ⊥
comment_begins text bytes after is begins isnt = true≢false (sym begins ∙ ap begins_comment (sym is) ∙ isnt)

blank_by : (kind : TokenKind) (bytes after blank_bytes rest : List ℕ) → IsToken kind bytes after → bytes ++ after ≡ blank_bytes ++ rest
    → IsBlank blank_bytes rest → ⊥
blank_by kind bytes after blank_bytes rest is same blank_is =
    elim blank_is [
      | inl space ↦
          let first : slice_index (bytes ++ after) 0 ≡ space.0 = ap (λ (l : List ℕ). slice_index l 0) same ∙ first_byte blank_bytes [] rest space.0 space.1 in
          no_space kind (begin_of (slice_index (bytes ++ after) 0)) (spelled_begins kind bytes after is.spelled)
          (ap begin_of first ∙ begin_space space.0 space.2)
      | inr (inl line) ↦ comment_begins (bytes ++ after) blank_bytes rest same (subst (λ (b : List ℕ). begins_comment (b ++ rest) ≡ true) (sym line.1) refl)
          is.no_comment
      | inr (inr block) ↦ comment_begins (bytes ++ after) blank_bytes rest same (subst (λ (b : List ℕ). begins_comment (b ++ rest) ≡ true) (sym block.1) refl)
          is.no_comment
    ]

-- no blank begins where a token does
no_blank : (kind : TokenKind) (bytes after : List ℕ) (n : ℕ) → IsToken kind bytes after → BlankAt (bytes ++ after) n → ⊥
no_blank kind bytes after n is at = blank_by kind bytes after at.bytes at.after is at.text_is at.is_blank

token_by : (kind : TokenKind) (bytes after : List ℕ) (step : Step) → IsToken kind bytes after → next (bytes ++ after) ≡ step → Stands (bytes ++ after) step
    → step ≡ steps.Token kind (length bytes)
token_by kind bytes after steps.End is reads stands =
    absurd (omega (arith, ap (λ (l : List ℕ). length l) stands, length-append bytes after, spelled_some kind bytes is.spelled))
token_by kind bytes after (steps.Blank n) is reads stands = absurd (no_blank kind bytes after n is stands)
token_by kind bytes after (steps.Fault fault place) is reads stands = absurd (is.no_fault fault place stands)
token_by kind bytes after (steps.Token read n) is reads stands =
    let reach = token_reaches kind bytes after read n is.spelled reads in
    let most = is.longest read stands.bytes stands.after stands.text_is stands.spelled in
    let len : length bytes ≡ length stands.bytes = omega (arith, stands.length_is) in
    let same = first_same bytes after stands.bytes stands.after stands.text_is len in
    let kinds_same : read ≡ kind = same_kind read kind stands.bytes stands.spelled (subst (λ (l : List ℕ). Spells kind l) same is.spelled) in
    let n_is : n ≡ length bytes = omega (arith, stands.length_is) in
    ap (λ k. steps.Token k n) kinds_same ∙ ap (λ (m : ℕ). steps.Token kind m) n_is

pub token_next : (kind : TokenKind) (bytes after : List ℕ) → IsToken kind bytes after → next (bytes ++ after) ≡ steps.Token kind (length bytes)
token_next kind bytes after is = token_by kind bytes after (next (bytes ++ after)) is refl (next_stands (bytes ++ after))

pub item_next : (item : Item) (after : List ℕ) → IsItem item after → next (bytes_of item ++ after) ≡ step_of item
item_next (blank bytes) after is = blank_next bytes after is
item_next (token kind bytes) after is = token_next kind bytes after is

-- ---- two items at the front of one text are the same

item_by : (item other : Item) (after rest : List ℕ) → bytes_of item ++ after ≡ bytes_of other ++ rest → step_of item ≡ step_of other → item ≡ other
item_by (blank bytes) (blank more) after rest same steps_same = ap (λ (b : List ℕ). blank b) (first_same bytes after more rest same (ap len_of steps_same))
item_by (blank bytes) (token kind more) after rest same steps_same = absurd (cc)
item_by (token kind bytes) (blank more) after rest same steps_same = absurd (cc)
item_by (token kind bytes) (token read more) after rest same steps_same =
    let kinds_same : kind ≡ read = cc in
    ap (λ k. token k bytes) kinds_same ∙ ap (λ (b : List ℕ). token read b) (first_same bytes after more rest same (ap len_of steps_same))

pub item_same : (item other : Item) (after rest : List ℕ) → bytes_of item ++ after ≡ bytes_of other ++ rest → IsItem item after → IsItem other rest
    → item ≡ other
item_same item other after rest same is again = item_by item other after rest same (sym (item_next item after is) ∙ ap next same ∙ item_next other rest again)
