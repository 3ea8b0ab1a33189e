-- The marks of the tokens at the front of a text.
use Rattle.std.proofs.Common.{◌≡◌, ℕ, zero, suc, ◌-◌, ◌+◌, ◌<◌, ◌≤◌, Bool, true, false, cond, eqb, leb, ◌||◌, List, map, [], ◌∷◌, length, take, drop}
use Rattle.std.proofs.Common.{slice_index, ap, Some, None, refl, sym, ◌∙◌, inl, inr, arith}
use Rattle.std.proofs.lemmas.Bool.{cases_Bool, true≢false}
use Rattle.std.proofs.lemmas.Bool.Decides.{nat_tests}
use Rattle.std.specs.List.{list_any}
use Rattle.std.specs.Str.{bytes_eq}
use Rattle.ad_lexer.specs.declared.fault.LexKind.TheVariants as kinds
use Rattle.ad_lexer.specs.declared.mark.Mark.{Mark}
use Rattle.ad_lexer.specs.declared.next.Begin.TheVariants as begins
use Rattle.ad_lexer.specs.declared.next.Step.{Step}
use Rattle.ad_lexer.specs.declared.next.Step.TheVariants as steps
use Rattle.ad_lexer.specs.declared.quoted.Front.{Front}
use Rattle.ad_lexer.specs.declared.quoted.Front.TheVariants as fronts
use Rattle.ad_lexer.specs.declared.token.TokenKind.{TokenKind}
use Rattle.ad_lexer.specs.declared.token.TokenKind.TheVariants.{Quoted, Str, Symbol}
use Rattle.ad_lexer.specs.Marks.{mark_of_kind, marks, meaning_of}
use Rattle.ad_lexer.specs.Numbers.{has_fraction, number_len}
use Rattle.ad_lexer.specs.Reading.{alone, begin_of, begins_more, front, name, next, number, number_kind, quoted, quoted_by, string, symbol, symbol_len}
use Rattle.ad_lexer.specs.Reading.{IsMarked}
use Rattle.ad_lexer.specs.Symbols.{is_symbol}
use Rattle.ad_lexer.proofs.Begins.{begin_is}
use Rattle.ad_lexer.proofs.ItemLemmas.{symbol_begins}
use Rattle.ad_lexer.proofs.Steps.{next_at}
use Rattle.ad_lexer.proofs.SymbolLemmas.{symbol_passes}

-- the first bytes of a text are those of its first three
pub first_three : (text : List ℕ) (n : ℕ) → n ≤ 3 → n ≤ length text → take n (slice_index text 0 ∷ slice_index text 1 ∷ slice_index text 2 ∷ []) ≡ take n text
first_three text zero few within = refl
first_three [] (suc n) few within = absurd (omega arith)
first_three (a ∷ text) (suc zero) few within = refl
first_three (a ∷ []) (suc (suc n)) few within = absurd (omega arith)
first_three (a ∷ b ∷ text) (suc (suc zero)) few within = refl
first_three (a ∷ b ∷ []) (suc (suc (suc n))) few within = absurd (omega arith)
first_three (a ∷ b ∷ c ∷ text) (suc (suc (suc zero))) few within = refl
first_three (a ∷ b ∷ c ∷ text) (suc (suc (suc (suc n)))) few within = absurd (omega arith)

-- ---- what has no mark

number_by : (text : List ℕ) (marked whole decimal : Bool) (len : ℕ)
    → IsMarked text (cond marked (steps.Fault kinds.Decimal 0) (cond whole (steps.Token (number_kind decimal) len) (steps.Fault kinds.Number 0))) None
number_by text true whole decimal len = tt
number_by text false true true len = refl
number_by text false true false len = refl
number_by text false false decimal len = tt

pub number_unmarked : (text : List ℕ) → IsMarked text (number text) None
unfolding number
number_unmarked text = number_by text _ _ (has_fraction text) (number_len text)

quoted_by_unmarked : (text : List ℕ) (kind : TokenKind) (at : ℕ) (f : Front) (more : ℕ → Step) → ((bytes : List ℕ) → mark_of_kind kind bytes ≡ None)
    → ((len : ℕ) → IsMarked text (more len) None) → IsMarked text (quoted_by kind at f more) None
quoted_by_unmarked text kind at (fronts.Letter len meant) more none each = each len
quoted_by_unmarked text kind at fronts.Close more none each = sym (none _)
quoted_by_unmarked text kind at fronts.LineEnd more none each = tt
quoted_by_unmarked text kind at fronts.Nul more none each = tt
quoted_by_unmarked text kind at fronts.Backslash more none each = tt

quoted_unmarked : (text : List ℕ) (kind : TokenKind) (quote at skip : ℕ) (rest : List ℕ) → ((bytes : List ℕ) → mark_of_kind kind bytes ≡ None)
    → IsMarked text (quoted kind quote at skip rest) None
quoted_unmarked text kind quote at skip [] none = tt
quoted_unmarked text kind quote at (suc skip) (byte ∷ bytes) none = quoted_unmarked text kind quote (at + 1) skip bytes none
quoted_unmarked text kind quote at zero (byte ∷ bytes) none =
    quoted_by_unmarked text kind at (front quote (byte ∷ bytes)) _ none (λ len. quoted_unmarked text kind quote (at + 1) (len - 1) bytes none)

pub string_unmarked : (text : List ℕ) → IsMarked text (string text) None
unfolding string
string_unmarked text = quoted_unmarked text Str 34 1 0 (drop 1 text) (λ bytes. refl)

name_by : (text : List ℕ) (empty : Bool) (step : Step) → IsMarked text step None → IsMarked text (cond empty (steps.Fault kinds.Character 0) step) None
name_by text true step is = tt
name_by text false step is = is

pub name_unmarked : (text : List ℕ) → IsMarked text (name text) None
unfolding name
name_unmarked text =
    name_by text (eqb (slice_index text 1) 39) (quoted Quoted 39 1 0 (drop 1 text)) (quoted_unmarked text Quoted 39 1 0 (drop 1 text) (λ bytes. refl))

-- ---- symbols however the text goes on

meaning_among : (rows : List (List ℕ × Mark)) (bytes : List ℕ) (mark : Mark) → meaning_of rows bytes ≡ Some mark
    → list_any (bytes_eq bytes) (map (λ row. row.0) rows) ≡ true
meaning_among [] bytes mark is = absurd (cc)
meaning_among (row ∷ rows) bytes mark is =
    elim (cases_Bool (bytes_eq bytes row.0)) [
      | inl here ↦ rw here refl
      | inr other ↦ rw other (meaning_among rows bytes mark (rw other at is))
    ]

-- what such a byte is
record Alone (byte : ℕ) (mark : Mark) : Type 0 where
  goes_on : begins_more byte ≡ false
  means : meaning_of marks (byte ∷ []) ≡ Some mark

alone_by : (byte : ℕ) (mark : Mark) (more : Bool) → begins_more byte ≡ more → cond more None (meaning_of marks (byte ∷ [])) ≡ Some mark → Alone byte mark
alone_by byte mark true is means = absurd (cc)
alone_by byte mark false is means = record { goes_on = is; means = means }

-- a longer symbol begins with another byte
longer_not : (byte second : ℕ) (more : List ℕ) → begins_more byte ≡ false → is_symbol (byte ∷ second ∷ more) ≡ false
longer_not byte second more isnt =
    elim (cases_Bool (is_symbol (byte ∷ second ∷ more))) [
      | inl is ↦
          let one = symbol_passes (λ b. begins_more (slice_index b 0) || leb (length b) 1) (byte ∷ second ∷ more) refl is in
          absurd (grind (arith, nat_tests))
      | inr short ↦ short
    ]

begins_symbol : (byte : ℕ) → is_symbol (byte ∷ []) ≡ true → begins_more byte ≡ false → begin_of byte ≡ begins.Symbol
begins_symbol byte is isnt =
    elim (symbol_begins (byte ∷ []) [] is) [
      | inl slashed ↦ absurd (true≢false (sym (ap begins_more (begin_is byte begins.Slash slashed)) ∙ isnt))
      | inr other ↦ other
    ]

one_exactly : (p q r : Bool) → p ≡ false → q ≡ false → r ≡ true → ◌≡◌ {A = ℕ} (cond p 3 (cond q 2 (cond r 1 0))) 1
one_exactly p q r three two one = rw (three, two, one) refl

len_one : (byte second third : ℕ) → is_symbol (byte ∷ []) ≡ true → begins_more byte ≡ false → symbol_len byte second third ≡ 1
unfolding symbol_len
len_one byte second third is isnt = one_exactly _ _ _ (longer_not byte second (third ∷ []) isnt) (longer_not byte second [] isnt) is

symbol_one : (byte : ℕ) (bytes : List ℕ) → is_symbol (byte ∷ []) ≡ true → begins_more byte ≡ false → symbol (byte ∷ bytes) ≡ steps.Token Symbol 1
unfolding symbol
symbol_one byte bytes is isnt =
    let dot : eqb byte 46 ≡ false = grind (arith, nat_tests) in
    rw (dot, len_one byte (slice_index bytes 0) (slice_index bytes 1) is isnt) refl

pub alone_next : (text : List ℕ) (mark : Mark) → 0 < length text → alone (slice_index text 0) ≡ Some mark → next text ≡ steps.Token Symbol 1
alone_next [] mark some is = absurd (omega arith)
alone_next (byte ∷ bytes) mark some is =
    let a = alone_by byte mark (begins_more byte) refl is in
    let one : is_symbol (byte ∷ []) ≡ true = meaning_among marks (byte ∷ []) mark a.means in
    next_at (byte ∷ bytes) begins.Symbol some (begins_symbol byte one a.goes_on) ∙ symbol_one byte bytes one a.goes_on

pub alone_marked : (text : List ℕ) (mark : Mark) → 0 < length text → alone (slice_index text 0) ≡ Some mark → Some mark ≡ meaning_of marks (take 1 text)
alone_marked [] mark some is = absurd (omega arith)
alone_marked (byte ∷ bytes) mark some is = sym (alone_by byte mark (begins_more byte) refl is).means
