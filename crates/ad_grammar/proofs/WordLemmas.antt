-- The words of tokens, and the word and the mark at a place.
use Rattle.std.proofs.Common.{refl, arith, ◌≡◌, inl, inr, ℕ, zero, suc, ◌+◌, ◌^◌, ◌<◌, ◌≤◌, Bool, true, false, if◌then◌else◌, List, [], ◌∷◌, codes, drop}
use Rattle.std.proofs.Common.{length, ap, subst, sym, ◌∙◌, Option, None, Some, slice_get, add-one}
use Rattle.std.proofs.lemmas.Bool.{and_parts, cases_Bool, ltb-true}
use Rattle.std.proofs.lemmas.List.{drop_all}
use Rattle.std.proofs.lemmas.Slice.Eq.{bytes_eq-Decides}
use Rattle.std.specs.Str.{bytes_eq}
use Rattle.pool_text.specs.Folding.{folded}
use Rattle.pool_text.specs.declared.language.BinOp.TheVariants.{Same, NotSame}
use Rattle.pool_text.specs.declared.language.Lit.TheVariants.{Undefined, Error, Boolean, Str}
use Rattle.ad_lexer.specs.Content.{content}
use Rattle.ad_lexer.specs.Lexeme.{Lexeme}
use Rattle.ad_lexer.specs.Marks.{meaning_of, marks, mark_words, mark_of_kind, mark_of_lexeme, marks_of}
use Rattle.ad_lexer.specs.Numbers.{digits_len, millionths, value}
use Rattle.ad_lexer.specs.Spelling.{Spells}
use Rattle.ad_lexer.specs.declared.mark.Mark.{Mark}
use Rattle.ad_lexer.specs.declared.mark.Mark.TheVariants.{Binary}
use Rattle.ad_lexer.specs.declared.token.TokenKind.{TokenKind}
use Rattle.ad_lexer.specs.declared.token.TokenKind.TheVariants as kinds
use Rattle.ad_grammar.specs.Meaning.{AreSpelled}
use Rattle.ad_lexer.specs.Quoted.{IsQuotation}
use Rattle.ad_lexer.proofs.FractionLemmas.{decimal_small, decimal_within}
use Rattle.ad_grammar.specs.HeldMarks.{front_mark, mark_in, unmarked}
use Rattle.ad_grammar.specs.Words.{Word, plain, quoted, constant, mark, or_undefined, mark_word, reserved_words, word, word_of_kind, words}

pub spelled-at : (ts : List Lexeme) (i : ℕ) (t : Lexeme) → slice_get ts i ≡ Some t → AreSpelled ts → Spells t.kind t.text
spelled-at [] i t e are = absurd (cc)
spelled-at (u ∷ us) zero t e are = let same : u ≡ t = cc in subst (λ x. Spells x.kind x.text) same are.0
spelled-at (u ∷ us) (suc i) t e are = spelled-at us i t e are.1

-- the mark that a word is, is the mark of its token
no-operator : (p q r s : Bool)
    → mark_in (or_undefined (if p then Some (constant (Boolean true)) else (if q then Some
    (constant (Boolean false)) else (if r then Some (constant Undefined) else (if s then Some (constant Error) else None))))) ≡ None
no-operator true q r s = refl
no-operator false true r s = refl
no-operator false false true s = refl
no-operator false false false true = refl
no-operator false false false false = refl

reserved-mark : (b : List ℕ) → mark_in (or_undefined (meaning_of reserved_words b)) ≡ meaning_of mark_words b
reserved-mark b =
    elim (cases_Bool (bytes_eq b (codes "is"))) [
      | inl is ↦ subst (λ (c : List ℕ). mark_in (or_undefined (meaning_of reserved_words c)) ≡ meaning_of mark_words c)
          (sym ((bytes_eq-Decides b (codes "is")).0 is)) refl
      | inr isnt ↦ elim (cases_Bool (bytes_eq b (codes "isnt"))) [
        | inl is ↦ subst (λ (c : List ℕ). mark_in (or_undefined (meaning_of reserved_words c)) ≡ meaning_of mark_words c)
            (sym ((bytes_eq-Decides b (codes "isnt")).0 is)) refl
        | inr neither ↦ rw (isnt, neither) (no-operator (bytes_eq b (codes "true")) (bytes_eq b (codes "false")) (bytes_eq b (codes "undefined")) (bytes_eq b
            (codes "error")))
      ]
    ]

symbol-mark : (found : Option Mark) → mark_in (mark_word found) ≡ found
symbol-mark None = refl
symbol-mark (Some m) = refl

pub kind-mark : (kind : TokenKind) (bytes : List ℕ) → mark_in (word_of_kind kind bytes) ≡ mark_of_kind kind bytes
kind-mark kinds.Plain bytes = refl
kind-mark kinds.Reserved bytes = reserved-mark (folded bytes)
kind-mark kinds.Quoted bytes = refl
kind-mark kinds.Str bytes = refl
kind-mark kinds.Int bytes = refl
kind-mark kinds.Dec bytes = refl
kind-mark kinds.Symbol bytes = symbol-mark (meaning_of marks bytes)

-- the word at a place, with what stands behind it, and the mark that it is
pub record Stands (ts : List Lexeme) (i : ℕ) (m : Option Mark) : Type 0 where
  pub here : Word
  pub behind : drop i (words ts) ≡ here ∷ drop (i + 1) (words ts)
  pub marked : mark_in here ≡ m

pub stands : (ts : List Lexeme) (i : ℕ) (m : Option Mark) → slice_get (marks_of ts) i ≡ Some m → Stands ts i m
stands [] i m e = absurd (cc)
stands (t ∷ ts) zero m e = let same : mark_of_lexeme t ≡ m = cc in record { here = word t; behind = refl; marked = kind-mark t.kind t.text ∙ same }
stands (t ∷ ts) (suc i) m e =
    let rest = stands ts i m e in
    let next : suc (i + 1) ≡ suc i + 1 = omega arith in
    record { here = rest.here; behind = rest.behind ∙ ap (λ (n : ℕ). rest.here ∷ drop n (words (t ∷ ts))) next; marked = rest.marked }

pub mark-at : (ts : List Lexeme) (i : ℕ) (m : Option Mark) → slice_get (marks_of ts) i ≡ Some m → m ≡ front_mark (drop i (words ts))
mark-at ts i m e = let s = stands ts i m e in sym (ap front_mark s.behind ∙ s.marked)

-- a word that is known to be no mark
is-unmarked : (w : Word) → mark_in w ≡ None → w ≡ unmarked w
is-unmarked (plain text) e = refl
is-unmarked (quoted text) e = refl
is-unmarked (constant lit) e = refl
is-unmarked (mark m) e = absurd (cc)

pub unmarked-word : (ts : List Lexeme) (i : ℕ) (t : Lexeme) → slice_get (marks_of ts) i ≡ Some None → slice_get ts i ≡ Some t → unmarked (word t) ≡ word t
unmarked-word [] i t e f = absurd (cc)
unmarked-word (u ∷ us) zero t e f =
    let none : mark_of_lexeme u ≡ None = cc in
    let same : u ≡ t = cc in
    sym (is-unmarked (word t) (ap (λ (x : Lexeme). mark_in (word x)) (sym same) ∙ kind-mark u.kind u.text ∙ none))
unmarked-word (u ∷ us) (suc i) t e f = unmarked-word us i t e f

-- the word at a place, and where it is a plain name
pub word-at : (ts : List Lexeme) (i : ℕ) (t : Lexeme) → slice_get ts i ≡ Some t → drop i (words ts) ≡ word t ∷ drop 1 (drop i (words ts))
word-at [] i t e = absurd (cc)
word-at (u ∷ us) zero t e = let same : u ≡ t = cc in ap (λ (x : Lexeme). word x ∷ words us) same
word-at (u ∷ us) (suc i) t e = word-at us i t e

pub plain-word : (kind : TokenKind) (bytes : List ℕ) → kind ≡ kinds.Plain → word_of_kind kind bytes ≡ plain bytes
plain-word kind bytes is = ap (λ k. word_of_kind k bytes) is

no-plain : (p q r s t u : Bool) (text : List ℕ)
    → or_undefined (if p then Some (constant (Boolean true)) else (if q then Some (constant (Boolean false)) else (if r then Some (constant Undefined)
    else (if s then Some (constant Error) else (if t then Some (mark (Binary Same)) else (if u then Some (mark (Binary NotSame)) else None)))))) ≡ plain text
    → ⊥
no-plain true q r s t u text e = absurd (cc)
no-plain false true r s t u text e = absurd (cc)
no-plain false false true s t u text e = absurd (cc)
no-plain false false false true t u text e = absurd (cc)
no-plain false false false false true u text e = absurd (cc)
no-plain false false false false false true text e = absurd (cc)
no-plain false false false false false false text e = absurd (cc)

no-plain-mark : (found : Option Mark) (text : List ℕ) → mark_word found ≡ plain text → ⊥
no-plain-mark None text e = absurd (cc)
no-plain-mark (Some m) text e = absurd (cc)

plain-kind : (kind : TokenKind) (bytes text : List ℕ) → word_of_kind kind bytes ≡ plain text → kind ≡ kinds.Plain
plain-kind kinds.Plain bytes text e = refl
plain-kind kinds.Reserved bytes text e =
    let is = λ (name : List ℕ). bytes_eq (folded bytes) name in
    absurd (no-plain (is (codes "true")) (is (codes "false")) (is (codes "undefined")) (is (codes "error")) (is (codes "is")) (is (codes "isnt")) text e)
plain-kind kinds.Quoted bytes text e = absurd (cc)
plain-kind kinds.Str bytes text e = absurd (cc)
plain-kind kinds.Int bytes text e = absurd (cc)
plain-kind kinds.Dec bytes text e = absurd (cc)
plain-kind kinds.Symbol bytes text e = absurd (no-plain-mark (meaning_of marks bytes) text e)

pub plain-at : (ts : List Lexeme) (i : ℕ) (t : Lexeme) (text : List ℕ) (rest : List Word) → slice_get ts i ≡ Some t → drop i (words ts) ≡ plain text ∷ rest
    → t.kind ≡ kinds.Plain
plain-at ts i t text rest e is =
    let both : word t ∷ drop 1 (drop i (words ts)) ≡ plain text ∷ rest = sym (word-at ts i t e) ∙ is in
    let same : word t ≡ plain text = cc in
    plain-kind t.kind t.text text same

pub words-many : (ts : List Lexeme) → length (words ts) ≡ length ts
words-many [] = refl
words-many (t ∷ ts) = ap suc (words-many ts)

pub none-behind : (ts : List Lexeme) (i : ℕ) → length ts ≤ i → drop i (words ts) ≡ []
none-behind ts i h = drop_all i (words ts) (omega (arith, h, words-many ts))

pub drop-next : {A : Type 0} (xs : List A) (i : ℕ) → drop (i + 1) xs ≡ drop 1 (drop i xs)
drop-next xs i = ap (λ n. drop n xs) (add-one i) ∙ by xs i
  where
    by : {A : Type 0} (ys : List A) (k : ℕ) → drop (suc k) ys ≡ drop 1 (drop k ys)
    by [] zero = refl
    by [] (suc k) = refl
    by (y ∷ ys) zero = refl
    by (y ∷ ys) (suc k) = by ys k

-- what is spelled as a string or a quoted name is a quotation, and means its content
pub string-quotation : (kind : TokenKind) (bytes : List ℕ) → kind ≡ kinds.Str → Spells kind bytes → IsQuotation bytes
string-quotation kind bytes is spells = let string = subst (λ k. Spells k bytes) is spells in inl (string.0, string.1)

pub name-quotation : (kind : TokenKind) (bytes : List ℕ) → kind ≡ kinds.Quoted → Spells kind bytes → IsQuotation bytes
name-quotation kind bytes is spells = let name = subst (λ k. Spells k bytes) is spells in inr (name.0, name.1)

pub string-word : (kind : TokenKind) (bytes : List ℕ) → kind ≡ kinds.Str → word_of_kind kind bytes ≡ constant (Str (content bytes))
string-word kind bytes is = ap (λ k. word_of_kind k bytes) is

pub name-word : (kind : TokenKind) (bytes : List ℕ) → kind ≡ kinds.Quoted → word_of_kind kind bytes ≡ quoted (content bytes)
name-word kind bytes is = ap (λ k. word_of_kind k bytes) is

-- the token at a place is one
pub same-token : (ts : List Lexeme) (i : ℕ) (t u : Lexeme) → slice_get ts i ≡ Some t → slice_get ts i ≡ Some u → t ≡ u
same-token ts i t u e f = cc (e, f)

pub decimal-fits : (kind : TokenKind) (bytes : List ℕ) → kind ≡ kinds.Dec → Spells kind bytes → (digits_len bytes < length bytes) × (millionths bytes < 2 ^ 63)
decimal-fits kind bytes is spells =
    let spelled : Spells kinds.Dec bytes = subst (λ k. Spells k bytes) is spells in
    (decimal_within bytes spelled, decimal_small bytes spelled)

pub integer-fits : (kind : TokenKind) (bytes : List ℕ) → kind ≡ kinds.Int → Spells kind bytes → value bytes < 2 ^ 63
integer-fits kind bytes is spells = ltb-true (value bytes) (2 ^ 63) (and_parts _ _ (subst (λ k. Spells k bytes) is spells)).1
