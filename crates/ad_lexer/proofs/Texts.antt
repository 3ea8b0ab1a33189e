-- Whole texts: one token list or one fault, and not both, and how far a text was divided. Nothing here knows of the kinds of tokens.
use Rattle.std.proofs.Common.{◌≡◌, ◌⊎◌, ℕ, zero, suc, ◌<◌, ◌≤◌, false, List, map, length, take, slice_index, IsUtf8, sym, ◌∙◌, subst, inl, inr, arith, take_all}
use Rattle.std.proofs.Common.{◌+◌, [], ◌∷◌, ◌++◌, refl, ap, length-append, ◌-◌, true, drop, Option, Result, Ok, Err, append_assoc}
use Rattle.std.proofs.lemmas.Bool.{cases_Bool, cases_lt, true≢false, le-leb}
use Rattle.std.proofs.lemmas.Str.{IsUtf8-from_is_utf8, is_utf8-from_IsUtf8, IsUtf8-nil, utf8_valid_len-IsValidUpTo}
use Rattle.std.specs.Str.{IsValidUpTo, is_utf8}
use Rattle.std.proofs.lemmas.List.{append_cancel_left, take_at, drop_at, drop-drop, append-nil, get_or-drop, map-append}
use Rattle.std.specs.List.{flat_map, slice_range}
use Rattle.std.proofs.lemmas.List.Folds.{list_all-append}
use Rattle.ad_lexer.specs.declared.fault.LexKind.{LexKind}
use Rattle.ad_lexer.specs.declared.fault.LexKind.TheVariants.{Encoding}
use Rattle.ad_lexer.specs.declared.mark.Mark.{Mark}
use Rattle.ad_lexer.specs.declared.next.Step.{Step}
use Rattle.ad_lexer.specs.Faults.{Wrong}
use Rattle.ad_lexer.specs.Lexeme.{Lexeme}
use Rattle.ad_lexer.specs.Marks.{mark_of_kind, mark_of_lexeme, marks_of, opening, openings_in}
use Rattle.ad_lexer.specs.Tokens.{Item, blank, token, bytes_of, IsItem, Divides, lexemes, Tokens, IsIllFormed, HasFault, Fault, Answers, IsOrMemory}
use Rattle.ad_lexer.specs.Reading.{next, PassesBlank}
use Rattle.ad_lexer.specs.declared.fault.LexFault.{LexFault}
use Rattle.ad_lexer.specs.declared.token.Span.{Span}
use Rattle.ad_lexer.specs.declared.token.TokenKind.{TokenKind}
use Rattle.ad_lexer.specs.Spans.{lexeme_of, lexemes_of, is_within, are_within, openings_of, AreMarked}
use Rattle.ad_lexer.specs.declared.next.Step.TheVariants as steps
use Rattle.ad_lexer.specs.declared.fault.LexFault.TheVariants as faults
use Rattle.ad_lexer.proofs.ItemLemmas.{step_of, item_next, item_same, token_found, spelled_some}
use Rattle.ad_lexer.proofs.Steps.{blank_next, wrong_next, next_stands}
use Rattle.ad_lexer.proofs.Fronts.{Stands}

-- the longest of the fronts up to a length that are UTF-8
pub record Longest (text : List ℕ) (most : ℕ) : Type 0 where
  pub len : ℕ
  pub front : IsUtf8 (take len text)
  pub above : (k : ℕ) → len < k → k ≤ most → ¬ (IsUtf8 (take k text))

not_utf8 : (text : List ℕ) → is_utf8 text ≡ false → ¬ (IsUtf8 text)
not_utf8 text isnt is = true≢false (sym (is_utf8-from_IsUtf8 text is) ∙ isnt)

longest : (text : List ℕ) (most : ℕ) → Longest text most
longest text zero = record { len = 0; front = IsUtf8-nil; above = λ k above within. absurd (omega arith) }
longest text (suc most) =
    elim (cases_Bool (is_utf8 (take (suc most) text))) [
      | inl whole ↦ record { len = suc most; front = IsUtf8-from_is_utf8 _ whole; above = λ k above within. absurd (omega arith) }
      | inr isnt ↦
          let rest = longest text most in
          record {
            len = rest.len;
            front = rest.front;
            above = λ k above within is. elim (cases_lt most k) [
              | inl top ↦ let e : k ≡ suc most = omega arith in not_utf8 _ isnt (subst (λ (n : ℕ). IsUtf8 (take n text)) e is)
              | inr low ↦ rest.above k above low is
            ];
          }
    ]

whole_is : (text : List ℕ) (n : ℕ) → length text ≤ n → IsUtf8 (take n text) → IsUtf8 text
whole_is text n most is = subst IsUtf8 (take_all n text most) is

pub utf8_cases : (text : List ℕ) → IsUtf8 text ⊎ ((place : ℕ) × (¬ (IsUtf8 text)) × IsValidUpTo text place)
utf8_cases text =
    let found = longest text (length text) in
    elim (cases_Bool (is_utf8 text)) [
      | inl is ↦ inl (IsUtf8-from_is_utf8 text is)
      | inr isnt ↦
          let none = not_utf8 text isnt in
          inr (
            found.len,
            none,
            record {
              short = elim (cases_lt found.len (length text)) [ inl short ↦ short | inr most ↦ absurd (none (whole_is text found.len most found.front)) ];
              front = found.front;
              longest =
                  λ m above is. elim (cases_lt (length text) m) [
                    | inl past ↦ none (whole_is text m (omega arith) is)
                    | inr within ↦ found.above m above within
                        is
                  ];
            },
          )
    ]

-- ---- divisions

-- a text goes no further where it ends or has a fault
abbrev pub IsLast : Step → Type 0
IsLast steps.End = Unit {0}
IsLast (steps.Blank n) = ⊥
IsLast (steps.Token kind n) = ⊥
IsLast (steps.Fault kind place) = Unit {0}

item_goes : (item : Item) → IsLast (step_of item) → ⊥
item_goes (blank bytes) last = last
item_goes (token kind bytes) last = last

stuck : (text : List ℕ) (item : Item) (after : List ℕ) → text ≡ bytes_of item ++ after → IsItem item after → IsLast (next text) → ⊥
stuck text item after is_text is last = item_goes item (subst IsLast (ap next is_text ∙ item_next item after is) last)

pub record SameDivision (items others : List Item) (rest other_rest : List ℕ) : Type 0 where
  pub items_same : items ≡ others
  pub rest_same : rest ≡ other_rest

-- a text divides in one way up to where it goes no further
pub divides_same : (items others : List Item) (text other_text rest other_rest : List ℕ) → text ≡ other_text → Divides text items rest
    → Divides other_text others other_rest → IsLast (next rest) → IsLast (next other_rest) → SameDivision items others rest other_rest
divides_same [] [] text other_text rest other_rest same a b last other_last = record { items_same = refl; rest_same = sym a ∙ same ∙ b }
divides_same [] (other ∷ others) text other_text rest other_rest same a b last other_last = absurd (stuck rest other b.0 (sym a ∙ same ∙ b.1) b.2 last)
divides_same (item ∷ items) [] text other_text rest other_rest same a b last other_last =
    absurd (stuck other_rest item a.0 (sym b ∙ sym same ∙ a.1) a.2 other_last)
divides_same (item ∷ items) (other ∷ others) text other_text rest other_rest same a b last other_last =
    let joined : bytes_of item ++ a.0 ≡ bytes_of other ++ b.0 = sym a.1 ∙ same ∙ b.1 in
    let items_same : item ≡ other = item_same item other a.0 b.0 joined a.2 b.2 in
    let after_same : a.0 ≡ b.0 = append_cancel_left (bytes_of other) a.0 b.0 (ap (λ (i : Item). bytes_of i ++ a.0) (sym items_same) ∙ joined) in
    let more = divides_same items others a.0 b.0 rest other_rest after_same a.3 b.3 last other_last in
    record { items_same = ap (λ (i : Item). i ∷ items) items_same ∙ ap (λ (is : List Item). other ∷ is) more.items_same; rest_same = more.rest_same }

nil_last : IsLast (next [])
unfolding next
nil_last = tt

pub next_nil : next [] ≡ steps.End
unfolding next
next_nil = refl

wrong_last : (kind : LexKind) (text : List ℕ) (place : ℕ) → Wrong kind text place → IsLast (next text)
wrong_last kind text place wrong = subst IsLast (sym (wrong_next kind text place wrong)) tt

-- ---- a text has one list of tokens

pub tokens_same : (text : List ℕ) (list other : List Lexeme) → Tokens text list → Tokens text other → list ≡ other
tokens_same text list other a b =
    let same = divides_same a.1.0 b.1.0 text text [] [] refl a.1.1 b.1.1 nil_last nil_last in
    a.1.2 ∙ ap (λ (is : List Item). lexemes 0 is) same.items_same ∙ sym b.1.2

-- ---- and one fault

same_place : (kind other : LexKind) (rest other_rest : List ℕ) (place other_place : ℕ) → rest ≡ other_rest → Wrong kind rest place
    → Wrong other other_rest other_place → steps.Fault kind place ≡ steps.Fault other other_place
same_place kind other rest other_rest place other_place same wrong again =
    sym (wrong_next kind rest place wrong) ∙ ap next same ∙ wrong_next other other_rest other_place again

has_same : (text : List ℕ) (kind other : LexKind) (place other_place : ℕ) → HasFault text kind place → HasFault text other other_place
    → (kind ≡ other) × (place ≡ other_place)
has_same text kind other place other_place a b =
    let x = a.1 in
    let y = b.1 in
    let same = divides_same x.0 y.0 text text x.1 y.1 refl x.3 y.3 (wrong_last kind x.1 x.2 x.4) (wrong_last other y.1 y.2 y.4) in
    let fault = same_place kind other x.1 y.1 x.2 y.2 same.rest_same x.4 y.4 in
    let kinds_same : kind ≡ other = cc in
    let at_same : x.2 ≡ y.2 = cc in
    let front : length (flat_map bytes_of x.0) ≡ length (flat_map bytes_of y.0) = ap (λ (is : List Item). length (flat_map bytes_of is)) same.items_same in
    (kinds_same, omega (arith, x.5, y.5))

ill_same : (text : List ℕ) (kind other : LexKind) (place other_place : ℕ) → IsIllFormed text kind place → IsIllFormed text other other_place
    → (kind ≡ other) × (place ≡ other_place)
ill_same text kind other place other_place a b =
    (a.0 ∙ sym b.0, sym (utf8_valid_len-IsValidUpTo text place a.2) ∙ utf8_valid_len-IsValidUpTo text other_place b.2)

pub fault_same : (text : List ℕ) (kind other : LexKind) (place other_place : ℕ) → Fault text kind place → Fault text other other_place
    → (kind ≡ other) × (place ≡ other_place)
fault_same text kind other place other_place (inl a) (inl b) = ill_same text kind other place other_place a b
fault_same text kind other place other_place (inl a) (inr b) = absurd (a.1 b.0)
fault_same text kind other place other_place (inr a) (inl b) = absurd (b.1 a.0)
fault_same text kind other place other_place (inr a) (inr b) = has_same text kind other place other_place a b

-- ---- not both

pub not_both : (text : List ℕ) (list : List Lexeme) (kind : LexKind) (place : ℕ) → Tokens text list → Fault text kind place → ⊥
not_both text list kind place a (inl b) = b.1 a.0
not_both text list kind place a (inr b) =
    let y = b.1 in
    let same = divides_same a.1.0 y.0 text text [] y.1 refl a.1.1 y.3 nil_last (wrong_last kind y.1 y.2 y.4) in
    let steps_same : steps.End ≡ steps.Fault kind y.2 = sym next_nil ∙ ap next same.rest_same ∙ wrong_next kind y.1 y.2 y.4 in
    absurd (cc)

-- ---- one of the two

pub record Ends (text : List ℕ) : Type 0 where
  pub items : List Item
  pub rest : List ℕ
  pub divides : Divides text items rest
  pub last : IsLast (next rest)

ends_more : (text : List ℕ) (item : Item) (after : List ℕ) → text ≡ bytes_of item ++ after → IsItem item after → Ends after → Ends text
ends_more text item after is_text is more =
    record { items = item ∷ more.items; rest = more.rest; divides = (after, is_text, is, more.divides); last = more.last }

-- what follows an item is shorter
item_some : (item : Item) (after : List ℕ) → IsItem item after → 0 < length (bytes_of item)
item_some (blank bytes) after is =
    elim is [
      | inl space ↦ omega (arith, ap (λ (l : List ℕ). length l) space.1)
      | inr (inl line) ↦ omega (arith, ap (λ (l : List ℕ). length l) line.1)
      | inr (inr block) ↦ omega (arith, ap (λ (l : List ℕ). length l) block.1)
    ]
item_some (token kind bytes) after is = spelled_some kind bytes is.spelled

ends_by : (bound : ℕ) (text : List ℕ) (step : Step) → next text ≡ step → Stands text step → length text ≤ suc bound → ((t : List ℕ) → length t ≤ bound → Ends t)
    → Ends text
ends_by bound text steps.End reads stands fits again = record { items = []; rest = text; divides = refl; last = subst IsLast (sym reads) tt }
ends_by bound text (steps.Fault kind place) reads stands fits again = record { items = []; rest = text; divides = refl; last = subst IsLast (sym reads) tt }
ends_by bound text (steps.Blank n) reads stands fits again =
    let some = item_some (blank stands.bytes) stands.after stands.is_blank in
    ends_more text (blank stands.bytes) stands.after stands.text_is stands.is_blank
    (again stands.after (omega (arith, ap (λ (l : List ℕ). length l) stands.text_is, length-append stands.bytes stands.after)))
ends_by bound text (steps.Token kind n) reads stands fits again =
    let is = token_found kind text n stands reads in
    let some = item_some (token kind stands.bytes) stands.after is in
    ends_more text (token kind stands.bytes) stands.after stands.text_is is
    (again stands.after (omega (arith, ap (λ (l : List ℕ). length l) stands.text_is, length-append stands.bytes stands.after)))

ends : (bound : ℕ) (text : List ℕ) → length text ≤ bound → Ends text
ends zero [] fits = record { items = []; rest = []; divides = refl; last = nil_last }
ends zero (byte ∷ bytes) fits = absurd (omega arith)
ends (suc bound) text fits = ends_by bound text (next text) refl (next_stands text) fits (λ t less. ends bound t less)

abbrev pub HasAnswer : List ℕ → Type 0
HasAnswer text = ((list : List Lexeme) × Tokens text list) ⊎ ((kind : LexKind) × (place : ℕ) × Fault text kind place)

answer_by : (text : List ℕ) (found : Ends text) (step : Step) → IsUtf8 text → next found.rest ≡ step → Stands found.rest step → IsLast step → HasAnswer text
answer_by text found steps.End utf8 reads stands last =
    inl (lexemes 0 found.items, (utf8, (found.items, subst (λ (r : List ℕ). Divides text found.items r) stands found.divides, refl)))
answer_by text found (steps.Blank n) utf8 reads stands last = absurd last
answer_by text found (steps.Token kind n) utf8 reads stands last = absurd last
answer_by text found (steps.Fault kind place) utf8 reads stands last =
    inr (kind, length (flat_map bytes_of found.items) + place, inr (utf8, (found.items, found.rest, place, found.divides, stands, refl)))

pub has_answer : (text : List ℕ) → HasAnswer text
has_answer text =
    elim (utf8_cases text) [
      | inl utf8 ↦ let found = ends (length text) text (omega arith) in answer_by text found (next found.rest) utf8 refl (next_stands found.rest) found.last
      | inr ill ↦ inr (Encoding, ill.0, inl (refl, ill.1, ill.2))
    ]

-- ---- how far a text was divided, and what the next step makes of that

-- the length of items
abbrev pub len_of : List Item → ℕ
len_of items = length (flat_map bytes_of items)

-- the text divides up to the rest, with these tokens
pub record Reached (text rest : List ℕ) (list : List Lexeme) (at : ℕ) : Type 0 where
  pub items : List Item
  pub divides : Divides text items rest
  pub list_is : list ≡ lexemes 0 items
  pub at_is : at ≡ len_of items

divides_push : (items : List Item) (text rest : List ℕ) (item : Item) (after : List ℕ) → Divides text items rest → rest ≡ bytes_of item ++ after
    → IsItem item after → Divides text (items ++ item ∷ []) after
divides_push [] text rest item after divides begins is = (after, divides ∙ begins, is, refl)
divides_push (first ∷ items) text rest item after divides begins is =
    (divides.0, divides.1, divides.2, divides_push items divides.0 rest item after divides.3 begins is)

lexemes_push : (at : ℕ) (items : List Item) (item : Item) → lexemes at (items ++ item ∷ []) ≡ lexemes at items ++ lexemes (at + len_of items) (item ∷ [])
lexemes_push at [] item = let e : at ≡ at + 0 = omega arith in ap (λ (n : ℕ). lexemes n (item ∷ [])) e
lexemes_push at (blank bytes ∷ items) item =
    let e : at + length bytes + len_of items ≡ at + length (bytes ++ flat_map bytes_of items) = omega (arith, length-append bytes (flat_map bytes_of items)) in
    lexemes_push (at + length bytes) items item ∙ ap (λ (n : ℕ). lexemes (at + length bytes) items ++ lexemes n (item ∷ [])) e
lexemes_push at (token kind bytes ∷ items) item =
    let e : at + length bytes + len_of items ≡ at + length (bytes ++ flat_map bytes_of items) = omega (arith, length-append bytes (flat_map bytes_of items)) in
    let first : Lexeme = record { kind = kind; start = at; end = at + length bytes; text = bytes } in
    ap (λ (l : List Lexeme). first ∷ l) (lexemes_push (at + length bytes) items item
    ∙ ap (λ (n : ℕ). lexemes (at + length bytes) items ++ lexemes n (item ∷ [])) e)

len_push : (items : List Item) (item : Item) → len_of (items ++ item ∷ []) ≡ len_of items + length (bytes_of item)
len_push [] item = ap (λ (l : List ℕ). length l) (append-nil (bytes_of item)) ∙ (let e : length (bytes_of item) ≡ 0 + length (bytes_of item) = omega arith in e)
len_push (first ∷ items) item =
    omega (
      arith,
      len_push items item,
      length-append (bytes_of first) (flat_map bytes_of items),
      length-append (bytes_of first) (flat_map bytes_of (items ++ item ∷ [])),
    )

-- the bytes behind an item
behind : (rest bytes after : List ℕ) (n : ℕ) → rest ≡ bytes ++ after → length bytes ≡ n → after ≡ drop n rest
behind rest bytes after n begins len = sym (drop_at bytes after n len) ∙ ap (λ (l : List ℕ). drop n l) (sym begins)

pub reached_blank : (text rest : List ℕ) (list : List Lexeme) (at n : ℕ) → Reached text rest list at → steps.Blank n ≡ next rest
    → Reached text (drop n rest) list (at + n)
reached_blank text rest list at n reached reads =
    let here : Stands rest (steps.Blank n) = subst (λ s. Stands rest s) (sym reads) (next_stands rest) in
    let item : Item = blank here.bytes in
    record {
      items = reached.items ++ item ∷ [];
      divides =
          subst (λ (l : List ℕ). Divides text (reached.items ++ item ∷ []) l) (behind rest here.bytes here.after n here.text_is here.length_is)
          (divides_push reached.items text rest item here.after reached.divides here.text_is here.is_blank);
      list_is = reached.list_is ∙ sym (lexemes_push 0 reached.items item ∙ append-nil (lexemes 0 reached.items));
      at_is = omega (arith, reached.at_is, here.length_is, len_push reached.items item);
    }

-- a place of the text further on
pub reached_on : (text : List ℕ) (list : List Lexeme) (at n : ℕ) → Reached text (drop n (drop at text)) list (at + n)
    → Reached text (drop (at + n) text) list (at + n)
reached_on text list at n reached = subst (λ (l : List ℕ). Reached text l list (at + n)) (drop-drop n at text) reached

blank_at : (text : List ℕ) → slice_index text 0 ≡ 32 → next text ≡ steps.Blank 1
blank_at [] is = absurd (omega arith)
blank_at (byte ∷ bytes) is = blank_next (byte ∷ []) bytes (inl (byte, refl, rw is refl))

-- a blank behind a place is passed
pub reached_past : (text : List ℕ) (list : List Lexeme) (at later : ℕ) → Reached text (drop at text) list at → PassesBlank text at later
    → Reached text (drop later text) list later
reached_past text list at later reached (inl same) = subst (λ (n : ℕ). Reached text (drop n text) list n) (sym same) reached
reached_past text list at later reached (inr past) =
    let place : at + 0 ≡ at = omega arith in
    let reads = blank_at (drop at text) (get_or-drop at text 0 0 ∙ ap (λ (n : ℕ). slice_index text n) place ∙ past.0) in
    subst (λ (n : ℕ). Reached text (drop n text) list n) (sym past.1)
    (reached_on text list at 1 (reached_blank text (drop at text) list at 1 reached (sym reads)))

abbrev pub lexeme_at : TokenKind → ℕ → ℕ → List ℕ → Lexeme
lexeme_at kind start end text = record { kind = kind; start = start; end = end; text = text }

lexeme_same : (kind : TokenKind) (start begin end stop : ℕ) (text bytes : List ℕ) → start ≡ begin → end ≡ stop → text ≡ bytes
    → lexeme_at kind start end text ≡ lexeme_at kind begin stop bytes
lexeme_same kind start begin end stop text bytes starts ends texts = cc

pub reached_token : (text rest : List ℕ) (list : List Lexeme) (at : ℕ) (kind : TokenKind) (n : ℕ) → Reached text rest list at → steps.Token kind n ≡ next rest
    → Reached text (drop n rest) (list ++ lexeme_at kind at (at + n) (take n rest) ∷ []) (at + n)
reached_token text rest list at kind n reached reads =
    let here : Stands rest (steps.Token kind n) = subst (λ s. Stands rest s) (sym reads) (next_stands rest) in
    let item : Item = token kind here.bytes in
    let is = token_found kind rest n here (sym reads) in
    record {
      items = reached.items ++ item ∷ [];
      divides =
          subst (λ (l : List ℕ). Divides text (reached.items ++ item ∷ []) l) (behind rest here.bytes here.after n here.text_is here.length_is)
          (divides_push reached.items text rest item here.after reached.divides here.text_is is);
      list_is =
          let starts : at ≡ 0 + len_of reached.items = omega (arith, reached.at_is) in
          let ends : at + n ≡ 0 + len_of reached.items + length here.bytes = omega (arith, reached.at_is, here.length_is) in
          let text_same : take n rest ≡ here.bytes = ap (λ (l : List ℕ). take n l) here.text_is ∙ take_at here.bytes here.after n here.length_is in
          let same =
          lexeme_same kind at (0 + len_of reached.items) (at + n) (0 + len_of reached.items + length here.bytes) (take n rest) here.bytes starts ends
          text_same in
          ap (λ (l : List Lexeme). l ++ lexeme_at kind at (at + n) (take n rest) ∷ []) reached.list_is
          ∙ ap (λ (x : Lexeme). lexemes 0 reached.items ++ x ∷ []) same ∙ sym (lexemes_push 0 reached.items item);
      at_is = omega (arith, reached.at_is, here.length_is, len_push reached.items item);
    }

-- ---- what is pushed for a token

divides_joined : (items : List Item) (text rest : List ℕ) → Divides text items rest → text ≡ flat_map bytes_of items ++ rest
divides_joined [] text rest divides = divides
divides_joined (item ∷ items) text rest divides =
    divides.1 ∙ ap (λ (l : List ℕ). bytes_of item ++ l) (divides_joined items divides.0 rest divides.3)
    ∙ sym (append_assoc (bytes_of item) (flat_map bytes_of items) rest)

-- the front of the rest is a slice of the text
reached_slice : (text rest : List ℕ) (list : List Lexeme) (at n : ℕ) → Reached text rest list at → slice_range text at (at + n) ≡ take n rest
reached_slice text rest list at n reached =
    let gone : drop at text ≡ rest =
    ap (λ (l : List ℕ). drop at l) (divides_joined reached.items text rest reached.divides)
    ∙ drop_at (flat_map bytes_of reached.items) rest at (sym reached.at_is) in
    let len : at + n - at ≡ n = omega arith in
    ap (λ (l : List ℕ). take (at + n - at) l) gone ∙ ap (λ (k : ℕ). take k rest) len

abbrev pub span_at : TokenKind → Option Mark → ℕ → ℕ → Span
span_at kind mark start end = record { kind = kind; mark = mark; start = start; end = end }

pub reached_span : (text rest : List ℕ) (spans : List Span) (at : ℕ) (kind : TokenKind) (mark : Option Mark) (n : ℕ)
    → Reached text rest (lexemes_of text spans) at → steps.Token kind n ≡ next rest
    → Reached text (drop n rest) (lexemes_of text (spans ++ span_at kind mark at (at + n) ∷ [])) (at + n)
reached_span text rest spans at kind mark n reached reads =
    let slice : take n rest ≡ slice_range text at (at + n) = sym (reached_slice text rest (lexemes_of text spans) at n reached) in
    let pushed : lexemes_of text spans ++ lexeme_at kind at (at + n) (take n rest) ∷ [] ≡ lexemes_of text (spans ++ span_at kind mark at (at + n) ∷ []) =
    ap (λ (l : List ℕ). lexemes_of text spans ++ lexeme_at kind at (at + n) l ∷ []) slice
    ∙ sym (map-append (lexeme_of text) spans (span_at kind mark at (at + n) ∷ [])) in
    subst (λ (list : List Lexeme). Reached text (drop n rest) list (at + n)) pushed (reached_token text rest (lexemes_of text spans) at kind n reached reads)

pub marked_push : (text rest : List ℕ) (spans : List Span) (at : ℕ) (kind : TokenKind) (mark : Option Mark) (n : ℕ)
    → Reached text rest (lexemes_of text spans) at → AreMarked text spans → mark ≡ mark_of_kind kind (take n rest)
    → AreMarked text (spans ++ span_at kind mark at (at + n) ∷ [])
marked_push text rest spans at kind mark n reached before is =
    let span = span_at kind mark at (at + n) in
    let here : mark ≡ mark_of_lexeme (lexeme_of text span) = is ∙ ap (mark_of_kind kind) (sym (reached_slice text rest (lexemes_of text spans) at n reached)) in
    map-append (λ (s : Span). s.mark) spans (span ∷ [])
    ∙ ap (λ (ms : List (Option Mark)). ms ++ mark ∷ []) before
    ∙ ap (λ (m : Option Mark). marks_of (lexemes_of text spans) ++ m ∷ []) here
    ∙ sym (map-append mark_of_lexeme (lexemes_of text spans) (lexeme_of text span ∷ []))
    ∙ ap marks_of (sym (map-append (lexeme_of text) spans (span ∷ [])))

pub within_push : (len : ℕ) (spans : List Span) (kind : TokenKind) (mark : Option Mark) (start end : ℕ) → are_within len spans ≡ true → start ≤ end → end ≤ len
    → are_within len (spans ++ span_at kind mark start end ∷ []) ≡ true
within_push len spans kind mark start end before ordered within =
    rw (list_all-append (is_within len) spans (span_at kind mark start end ∷ []), before, le-leb start end ordered, le-leb end len within) refl

-- each mark that is pushed is counted
openings_join : (first last : List (Option Mark)) → openings_in (first ++ last) ≡ openings_in first + openings_in last
openings_join [] last = omega arith
openings_join (m ∷ first) last = omega (arith, openings_join first last)

pub openings_push : (spans : List Span) (kind : TokenKind) (mark : Option Mark) (start end : ℕ)
    → openings_of (spans ++ span_at kind mark start end ∷ []) ≡ openings_of spans + opening mark
openings_push spans kind mark start end =
    let marks : List (Option Mark) = map (λ (s : Span). s.mark) spans in
    let joined = ap openings_in (map-append (λ (s : Span). s.mark) spans (span_at kind mark start end ∷ [])) in
    omega (arith, joined, openings_join marks (mark ∷ []))

pub passes_on : (text : List ℕ) (place next : ℕ) → PassesBlank text place next → place ≤ next
passes_on text place next (inl same) = omega (arith, same)
passes_on text place next (inr passed) = omega (arith, passed.1)

-- ---- the ends

pub reached_end : (text rest : List ℕ) (list : List Lexeme) (at : ℕ) → IsUtf8 text → Reached text rest list at → steps.End ≡ next rest → Tokens text list
reached_end text rest list at utf8 reached reads =
    let here : rest ≡ [] = subst (λ s. Stands rest s) (sym reads) (next_stands rest) in
    (utf8, (reached.items, subst (λ (l : List ℕ). Divides text reached.items l) here reached.divides, reached.list_is))

pub reached_fault : (text rest : List ℕ) (list : List Lexeme) (at : ℕ) (kind : LexKind) (place : ℕ) → IsUtf8 text → Reached text rest list at
    → steps.Fault kind place ≡ next rest → Fault text kind (at + place)
reached_fault text rest list at kind place utf8 reached reads =
    let here : Stands rest (steps.Fault kind place) = subst (λ s. Stands rest s) (sym reads) (next_stands rest) in
    let e : at + place ≡ len_of reached.items + place = omega (arith, reached.at_is) in
    inr (utf8, (reached.items, rest, place, reached.divides, here, e))

-- ---- what an answer leaves open

pub answers_tokens : (text : List ℕ) (answer : Result (List Lexeme) LexFault) → Answers text answer → (list : List Lexeme) → Tokens text list
    → IsOrMemory answer (Ok list)
answers_tokens text (Ok found) is list tokens = inl (ap (λ l. Ok l) (tokens_same text found list is tokens))
answers_tokens text (Err (faults.At kind place)) is list tokens = absurd (not_both text list kind place tokens is)
answers_tokens text (Err faults.OutOfMemory) is list tokens = inr refl

fault_by : (kind other : LexKind) (place other_place : ℕ) → (kind ≡ other) × (place ≡ other_place) → faults.At kind place ≡ faults.At other other_place
fault_by kind other place other_place same = cc (same.0, same.1)

pub answers_fault : (text : List ℕ) (answer : Result (List Lexeme) LexFault) → Answers text answer → (kind : LexKind) (place : ℕ) → Fault text kind place
    → IsOrMemory answer (Err (faults.At kind place))
answers_fault text (Ok found) is kind place fault = absurd (not_both text found kind place is fault)
answers_fault text (Err (faults.At other other_place)) is kind place fault =
    inl (ap (λ f. Err f) (fault_by other kind other_place place (fault_same text other kind other_place place is fault)))
answers_fault text (Err faults.OutOfMemory) is kind place fault = inr refl
