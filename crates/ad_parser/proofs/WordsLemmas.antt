-- The words that are read in a text one behind another are those of its tokens, and the fault that is met is its fault.
use Rattle.std.proofs.Common.{◌≡◌, ℕ, zero, suc, ◌+◌, ◌-◌, ◌<◌, false, List, [], ◌∷◌, ◌++◌, length, drop, Result, Ok, Err, refl}
use Rattle.std.proofs.Common.{sym, ap, ◌∙◌, inl, inr, arith, length-append}
use Rattle.std.proofs.lemmas.Bool.{cases_Bool}
use Rattle.std.proofs.lemmas.List.{take_at, drop_at}
use Rattle.std.proofs.lemmas.Str.{IsUtf8-from_is_utf8, is_utf8-from_IsUtf8, utf8_valid_len-IsValidUpTo}
use Rattle.std.specs.List.{flat_map}
use Rattle.std.specs.Str.{is_utf8}
use Rattle.ad_lexer.specs.Blanks.{IsBlank}
use Rattle.ad_lexer.specs.Faults.{Wrong}
use Rattle.ad_lexer.specs.Lexeme.{Lexeme}
use Rattle.ad_lexer.specs.Tokens.{Item, blank, token, bytes_of, IsItem, Divides, lexemes, Tokens, Fault}
use Rattle.ad_lexer.specs.declared.fault.LexKind.{LexKind}
use Rattle.ad_lexer.specs.declared.fault.LexKind.TheVariants.{Encoding}
use Rattle.ad_lexer.specs.declared.next.Step.{Step}
use Rattle.ad_lexer.specs.declared.next.Step.TheVariants as steps
use Rattle.ad_lexer.proofs.ItemLemmas.{item_next, spelled_some}
use Rattle.ad_lexer.proofs.Steps.{wrong_next}
use Rattle.ad_lexer.proofs.Texts.{next_nil}
use Rattle.ad_grammar.specs.Words.{Word, word_of_kind, words}
use Rattle.ad_parser.specs.declared.fault.ParseFault.{ParseFault}
use Rattle.ad_parser.specs.declared.fault.ParseFault.TheVariants as faults
use Rattle.ad_parser.specs.Outcomes.{put_before, words_at, words_from, words_of}

-- ---- one item

skip-on : (at skip : ℕ) (text : List ℕ) → words_from at skip text ≡ words_from (at + skip) 0 (drop skip text)
skip-on at zero [] = refl
skip-on at zero (byte ∷ rest) = let e : at ≡ at + 0 = omega arith in ap (λ (n : ℕ). words_from n 0 (byte ∷ rest)) e
skip-on at (suc skip) [] = refl
skip-on at (suc skip) (byte ∷ rest) =
    let e : at + 1 + skip ≡ at + suc skip = omega arith in skip-on (at + 1) skip rest ∙ ap (λ (n : ℕ). words_from n 0 (drop skip rest)) e

behind : (at : ℕ) (bytes after : List ℕ) → words_from (at + 1) (suc (length bytes) - 1) (bytes ++ after) ≡ words_from (at + suc (length bytes)) 0 after
behind at bytes after =
    let less : suc (length bytes) - 1 ≡ length bytes = omega arith in
    let e : at + 1 + length bytes ≡ at + suc (length bytes) = omega arith in
    ap (λ (n : ℕ). words_from (at + 1) n (bytes ++ after)) less ∙ skip-on (at + 1) (length bytes) (bytes ++ after)
    ∙ ap (λ (l : List ℕ). words_from (at + 1 + length bytes) 0 l) (drop_at bytes after (length bytes) refl)
    ∙ ap (λ (n : ℕ). words_from n 0 after) e

blank-some : (bytes after : List ℕ) → IsBlank bytes after → 0 < length bytes
blank-some bytes after (inl space) = omega (arith, ap (λ (l : List ℕ). length l) space.1)
blank-some bytes after (inr (inl line)) = omega (arith, ap (λ (l : List ℕ). length l) line.1)
blank-some bytes after (inr (inr block)) = omega (arith, ap (λ (l : List ℕ). length l) block.1)

-- what is read of a text by its first step
abbrev by_step : ℕ → ℕ → List ℕ → Step → Result (List Word) ParseFault
by_step at byte rest step = words_at at (byte ∷ rest) step (λ len. words_from (at + 1) (len - 1) rest)

-- a blank is passed, and a token is a word
abbrev with_item : Item → Result (List Word) ParseFault → Result (List Word) ParseFault
with_item (blank bytes) found = found
with_item (token kind bytes) found = put_before (word_of_kind kind bytes) found

item-read : (at : ℕ) (item : Item) (after : List ℕ) → IsItem item after
    → words_from at 0 (bytes_of item ++ after) ≡ with_item item (words_from (at + length (bytes_of item)) 0 after)
item-read at (blank []) after is = absurd (omega (arith, blank-some [] after is))
item-read at (blank (byte ∷ bytes)) after is = ap (by_step at byte (bytes ++ after)) (item_next (blank (byte ∷ bytes)) after is) ∙ behind at bytes after
item-read at (token kind []) after is = absurd (omega (arith, spelled_some kind [] is.spelled))
item-read at (token kind (byte ∷ bytes)) after is =
    let more : Result (List Word) ParseFault = words_from (at + 1) (suc (length bytes) - 1) (bytes ++ after) in
    ap (by_step at byte (bytes ++ after)) (item_next (token kind (byte ∷ bytes)) after is)
    ∙ ap (λ (l : List ℕ). put_before (word_of_kind kind l) more) (take_at (byte ∷ bytes) after (suc (length bytes)) refl)
    ∙ ap (put_before (word_of_kind kind (byte ∷ bytes))) (behind at bytes after)

-- ---- all of them

read-end : (items : List Item) (text : List ℕ) (at : ℕ) → Divides text items [] → words_from at 0 text ≡ Ok (words (lexemes at items))
read-end [] text at divides = ap (words_from at 0) divides
read-end (blank bytes ∷ items) text at divides =
    ap (words_from at 0) divides.1 ∙ item-read at (blank bytes) divides.0 divides.2 ∙ read-end items divides.0 (at + length bytes) divides.3
read-end (token kind bytes ∷ items) text at divides =
    ap (words_from at 0) divides.1 ∙ item-read at (token kind bytes) divides.0 divides.2
    ∙ ap (put_before (word_of_kind kind bytes)) (read-end items divides.0 (at + length bytes) divides.3)

wrong-read : (kind : LexKind) (text : List ℕ) (at place : ℕ) → Wrong kind text place → words_from at 0 text ≡ Err (faults.Lex kind (at + place))
wrong-read kind [] at place wrong = let both : steps.End ≡ steps.Fault kind place = sym next_nil ∙ wrong_next kind [] place wrong in absurd cc
wrong-read kind (byte ∷ bytes) at place wrong = ap (by_step at byte bytes) (wrong_next kind (byte ∷ bytes) place wrong)

-- a fault is handed on in front of an item
fault-read : (item : Item) (fault : ParseFault) → with_item item (Err fault) ≡ Err fault
fault-read (blank bytes) fault = refl
fault-read (token kind bytes) fault = refl

read-fault : (items : List Item) (text rest : List ℕ) (at : ℕ) (kind : LexKind) (place : ℕ) → Divides text items rest → Wrong kind rest place
    → words_from at 0 text ≡ Err (faults.Lex kind (at + (length (flat_map bytes_of items) + place)))
read-fault [] text rest at kind place divides wrong =
    let e : at + place ≡ at + (0 + place) = omega arith in
    ap (words_from at 0) divides ∙ wrong-read kind rest at place wrong ∙ ap (λ (n : ℕ). Err (faults.Lex kind n)) e
read-fault (item ∷ items) text rest at kind place divides wrong =
    let front : List ℕ = flat_map bytes_of items in
    let e : at + length (bytes_of item) + (length front + place) ≡ at + (length (bytes_of item ++ front) + place) =
    omega (arith, length-append (bytes_of item) front) in
    ap (words_from at 0) divides.1 ∙ item-read at item divides.0 divides.2
    ∙ ap (with_item item) (read-fault items divides.0 rest (at + length (bytes_of item)) kind place divides.3 wrong)
    ∙ fault-read item (faults.Lex kind (at + length (bytes_of item) + (length front + place)))
    ∙ ap (λ (n : ℕ). Err (faults.Lex kind n)) e

pub words_of-tokens : (text : List ℕ) (list : List Lexeme) → Tokens text list → words_of text ≡ Ok (words list)
words_of-tokens text list tokens =
    rw (is_utf8-from_IsUtf8 text tokens.0) (read-end tokens.1.0 text 0 tokens.1.1 ∙ ap (λ (l : List Lexeme). Ok (words l)) (sym tokens.1.2))

pub words_of-fault : (text : List ℕ) (kind : LexKind) (place : ℕ) → Fault text kind place → words_of text ≡ Err (faults.Lex kind place)
words_of-fault text kind place (inl ill) =
    let isnt : is_utf8 text ≡ false = elim (cases_Bool (is_utf8 text)) [ inl is ↦ absurd (ill.1 (IsUtf8-from_is_utf8 text is)) | inr isnt ↦ isnt ] in
    rw isnt (ap (λ (n : ℕ). Err (faults.Lex Encoding n)) (utf8_valid_len-IsValidUpTo text place ill.2)
    ∙ ap (λ (k : LexKind). Err (faults.Lex k place)) (sym ill.0))
words_of-fault text kind place (inr has) =
    let e : 0 + (length (flat_map bytes_of has.1.0) + has.1.2) ≡ place = omega (arith, has.1.5) in
    rw (is_utf8-from_IsUtf8 text has.0) (read-fault has.1.0 text has.1.1 0 kind has.1.2 has.1.3 has.1.4 ∙ ap (λ (n : ℕ). Err (faults.Lex kind n)) e)
