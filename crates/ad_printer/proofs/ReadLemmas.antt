-- What words read as by the grammar, by how loosely the tree that they spell binds.
use Rattle.std.proofs.Common.{◌≡◌, ℕ, zero, suc, ◌+◌, ◌-◌, ◌<◌, ◌≤◌, Bool, true, false, leb, List, [], ◌∷◌, ◌++◌, codes}
use Rattle.std.proofs.Common.{Some, refl, sym, ◌∙◌, ap, subst, arith, append_assoc, append-nil}
use Rattle.std.proofs.lemmas.Bool.{leb-true, true≢false}
use Rattle.pool_text.specs.declared.language.BinOp.{BinOp}
use Rattle.pool_text.specs.declared.language.BinOp.TheVariants as between
use Rattle.pool_text.specs.declared.language.UnOp.{UnOp}
use Rattle.pool_text.specs.declared.language.UnOp.TheVariants as before
use Rattle.ad_lexer.specs.Tokens.{Item}
use Rattle.ad_lexer.specs.declared.token.TokenKind.TheVariants as kinds
use Rattle.ad_tree.specs.Inline.{Inline, shape, inner, Inlines, end, next}
use Rattle.ad_tree.specs.Tree.{Label, unary, binary, all, any}
use Rattle.ad_grammar.specs.Grammar as grammar
use Rattle.ad_grammar.specs.Grammar.{IsExpr, IsLevel, IsUnary, IsPostfix, IsPrimary, IsNoScope}
use Rattle.ad_builder.specs.declared.instruction.Infix.{Infix}
use Rattle.ad_builder.specs.declared.instruction.Infix.TheVariants as infixes
use Rattle.ad_grammar.specs.Made.{begins_with_all, begins_with_any}
use Rattle.ad_builder.specs.Shapes.{over_one, over_two, followed_by, joined}
use Rattle.ad_grammar.specs.Operators.{precedence, infix_of}
use Rattle.ad_grammar.specs.Words.{Word, plain, quoted, constant, mark, word_of_kind}
use Rattle.ad_lexer.specs.declared.mark.Mark.{Mark}
use Rattle.ad_lexer.specs.declared.mark.Mark.TheVariants as marks
use Rattle.ad_printer.specs.Pieces.{symbol, spaced, prefix_bytes, infix_bytes, behind, divided}
use Rattle.ad_printer.specs.Printed.{loose, grouped, pieces, operands}
use Rattle.ad_printer.proofs.WordLemmas.{words_of, words_of-append, infix_word}

-- words that spell a tree which binds this loosely
pub record ReadsAs (k : ℕ) (ws : List Word) (x : Inline) : Type 0 where
  pub whole : IsExpr ws x
  pub at_level : (j : ℕ) → k ≤ 2 + j → j ≤ 10 → IsLevel j ws x
  pub as_unary : k ≤ 2 → IsUnary ws x
  pub as_postfix : k ≤ 1 → IsPostfix ws x
  pub no_scope : k ≤ 1 → IsNoScope ws

level_up : (n j : ℕ) (ws : List Word) (x : Inline) → IsLevel j ws x → IsLevel (n + j) ws x
level_up zero j ws x is = let e : j ≡ 0 + j = omega arith in subst (λ (k : ℕ). IsLevel k ws x) e is
level_up (suc n) j ws x is =
    let e : suc (n + j) ≡ suc n + j = omega arith in subst (λ (k : ℕ). IsLevel k ws x) e (grammar.tighter (n + j) ws x (level_up n j ws x is))

level_to : (j k : ℕ) (ws : List Word) (x : Inline) → j ≤ k → IsLevel j ws x → IsLevel k ws x
level_to j k ws x less is = let e : (k - j) + j ≡ k = omega arith in subst (λ (i : ℕ). IsLevel i ws x) e (level_up (k - j) j ws x is)

pub from_postfix : (k : ℕ) (ws : List Word) (x : Inline) → IsPostfix ws x → IsNoScope ws → ReadsAs k ws x
from_postfix k ws x is none =
    let one : IsLevel 0 ws x = grammar.single ws x (grammar.bare ws x is) in
    record {
      whole = grammar.level ws x (level_to 0 10 ws x (omega arith) one);
      at_level = λ j fits within. level_to 0 j ws x (omega arith) one;
      as_unary = λ fits. grammar.bare ws x is;
      as_postfix = λ fits. is;
      no_scope = λ fits. none;
    }

pub from_primary : (k : ℕ) (ws : List Word) (x : Inline) → IsPrimary ws x → IsNoScope ws → ReadsAs k ws x
from_primary k ws x is none = from_postfix k ws x (grammar.operand ws x is) none

pub from_unary : (ws : List Word) (x : Inline) → IsUnary ws x → ReadsAs 2 ws x
from_unary ws x is =
    let one : IsLevel 0 ws x = grammar.single ws x is in
    record {
      whole = grammar.level ws x (level_to 0 10 ws x (omega arith) one);
      at_level = λ j fits within. level_to 0 j ws x (omega arith) one;
      as_unary = λ fits. is;
      as_postfix = λ fits. absurd (omega arith);
      no_scope = λ fits. absurd (omega arith);
    }

pub from_level : (j : ℕ) (ws : List Word) (x : Inline) → 0 < j → j ≤ 10 → IsLevel j ws x → ReadsAs (2 + j) ws x
from_level j ws x some within is = record {
  whole = grammar.level ws x (level_to j 10 ws x within is);
  at_level = λ i fits low. level_to j i ws x (omega arith) is;
  as_unary = λ fits. absurd (omega arith);
  as_postfix = λ fits. absurd (omega arith);
  no_scope = λ fits. absurd (omega arith);
}

pub from_expr : (ws : List Word) (x : Inline) → IsExpr ws x → ReadsAs 13 ws x
from_expr ws x is = record {
  whole = is;
  at_level = λ j fits within. absurd (omega arith);
  as_unary = λ fits. absurd (omega arith);
  as_postfix = λ fits. absurd (omega arith);
  no_scope = λ fits. absurd (omega arith);
}

reads-less : (j k : ℕ) (ws : List Word) (x : Inline) → j ≤ k → ReadsAs j ws x → ReadsAs k ws x
reads-less j k ws x less r = record {
  whole = r.whole;
  at_level = λ i fits within. r.at_level i (omega arith) within;
  as_unary = λ fits. r.as_unary (omega arith);
  as_postfix = λ fits. r.as_postfix (omega arith);
  no_scope = λ fits. r.no_scope (omega arith);
}

pub reads-by : (k : ℕ) (ws vs : List Word) (x : Inline) → ws ≡ vs → ReadsAs k vs x → ReadsAs k ws x
reads-by k ws vs x same r = subst (λ us. ReadsAs k us x) (sym same) r

-- words with a mark inside are no scope alone
pub no_scope-with : (a : List Word) (m : Mark) (rest : List Word) → IsNoScope (a ++ mark m ∷ rest)
no_scope-with [] m rest = tt
no_scope-with (plain text ∷ []) m rest = tt
no_scope-with (plain text ∷ b ∷ bs) m rest = tt
no_scope-with (quoted text ∷ bs) m rest = tt
no_scope-with (constant lit ∷ bs) m rest = tt
no_scope-with (mark n ∷ bs) m rest = tt

-- ---- parentheses

pub closed-words : (left right : List ℕ) (items : List Item)
    → words_of (symbol left ∷ (items ++ symbol right ∷ []))
    ≡ word_of_kind kinds.Symbol left ∷ (words_of items ++ word_of_kind kinds.Symbol right ∷ [])
closed-words left right items = ap (λ ws. word_of_kind kinds.Symbol left ∷ ws) (words_of-append items (symbol right ∷ []))

in_parens : (k : ℕ) (items : List Item) (x : Inline) → IsExpr (words_of items) x
    → ReadsAs k (words_of (symbol (codes "(") ∷ (items ++ symbol (codes ")") ∷ []))) x
in_parens k items x is =
    let ws : List Word = mark marks.OpenParen ∷ (words_of items ++ mark marks.CloseParen ∷ []) in
    reads-by k _ ws x (closed-words (codes "(") (codes ")") items) (from_primary k ws x (grammar.grouped (words_of items) ws x refl is) tt)

part_by : (k : ℕ) (x : Inline) (fits : Bool) → leb (loose x) k ≡ fits → ReadsAs (loose x) (words_of (pieces x)) x
    → ReadsAs k (words_of (grouped fits (pieces x))) x
part_by k x true is r = reads-less (loose x) k (words_of (pieces x)) x (leb-true (loose x) k is) r
part_by k x false is r = in_parens k (pieces x) x r.whole

pub part_reads : (k : ℕ) (x : Inline) → ReadsAs (loose x) (words_of (pieces x)) x → ReadsAs k (words_of (grouped (leb (loose x) k) (pieces x))) x
part_reads k x r = part_by k x (leb (loose x) k) refl r

abbrev pub EachReads : Inlines → Type 0
EachReads end = Unit {0}
EachReads (next x xs) = ReadsAs (loose x) (words_of (pieces x)) x × EachReads xs

-- ---- operators

pub unary_reads : (op : UnOp) (a : List Item) (x : Inline) → ReadsAs 2 (words_of a) x
    → ReadsAs 2 (words_of (symbol (prefix_bytes op) ∷ a)) (over_one (unary op) x)
unary_reads before.Plus a x r =
    from_unary (mark (marks.Binary between.Add) ∷ words_of a) (over_one (unary before.Plus) x)
    (grammar.prefixed (words_of a) (marks.Binary between.Add) before.Plus x refl (r.as_unary (omega arith)))
unary_reads before.Minus a x r =
    from_unary (mark (marks.Binary between.Sub) ∷ words_of a) (over_one (unary before.Minus) x)
    (grammar.prefixed (words_of a) (marks.Binary between.Sub) before.Minus x refl (r.as_unary (omega arith)))
unary_reads before.Not a x r =
    from_unary (mark marks.Not ∷ words_of a) (over_one (unary before.Not) x)
    (grammar.prefixed (words_of a) marks.Not before.Not x refl (r.as_unary (omega arith)))
unary_reads before.Complement a x r =
    from_unary (mark marks.Complement ∷ words_of a) (over_one (unary before.Complement) x)
    (grammar.prefixed (words_of a) marks.Complement before.Complement x refl (r.as_unary (omega arith)))

precedence-within : (op : BinOp) → (1 ≤ precedence op) × (precedence op ≤ 8)
precedence-within between.BitOr = (omega arith, omega arith)
precedence-within between.BitXor = (omega arith, omega arith)
precedence-within between.BitAnd = (omega arith, omega arith)
precedence-within between.Equal = (omega arith, omega arith)
precedence-within between.Unequal = (omega arith, omega arith)
precedence-within between.Same = (omega arith, omega arith)
precedence-within between.NotSame = (omega arith, omega arith)
precedence-within between.Less = (omega arith, omega arith)
precedence-within between.AtMost = (omega arith, omega arith)
precedence-within between.Greater = (omega arith, omega arith)
precedence-within between.AtLeast = (omega arith, omega arith)
precedence-within between.ShiftLeft = (omega arith, omega arith)
precedence-within between.ShiftRight = (omega arith, omega arith)
precedence-within between.ShiftZero = (omega arith, omega arith)
precedence-within between.Add = (omega arith, omega arith)
precedence-within between.Sub = (omega arith, omega arith)
precedence-within between.Mul = (omega arith, omega arith)
precedence-within between.Div = (omega arith, omega arith)
precedence-within between.Rem = (omega arith, omega arith)

-- words with a spaced symbol between them
pub spaced-words : (bytes : List ℕ) (m : Mark) (a b : List Item) → word_of_kind kinds.Symbol bytes ≡ mark m
    → words_of (a ++ (spaced bytes ++ b)) ≡ words_of a ++ mark m ∷ words_of b
spaced-words bytes m a b is = words_of-append a (spaced bytes ++ b) ∙ ap (λ w. words_of a ++ w ∷ words_of b) is

pub binary_reads : (op : BinOp) (a b : List Item) (x y : Inline) → ReadsAs (2 + precedence op) (words_of a) x → ReadsAs (1 + precedence op) (words_of b) y
    → ReadsAs (2 + precedence op) (words_of (a ++ (spaced (infix_bytes op) ++ b))) (over_two (binary op) x y)
binary_reads op a b x y r s =
    let low = precedence-within op in
    let k : ℕ = precedence op - 1 in
    let e : precedence op ≡ suc k = omega arith in
    let ws : List Word = words_of a ++ mark (marks.Binary op) ∷ words_of b in
    let left : IsLevel (suc k) (words_of a) x = r.at_level (suc k) (omega arith) (omega arith) in
    let right : IsLevel k (words_of b) y = s.at_level k (omega arith) (omega arith) in
    let both : IsLevel (suc k) ws (over_two (binary op) x y) =
    grammar.operation k ws (words_of a) (words_of b) (marks.Binary op) (infixes.Binary op) x y refl (ap (λ (n : ℕ). Some (n, infixes.Binary op)) e) left
    right
    in
    reads-by (2 + precedence op) _ ws (over_two (binary op) x y) (spaced-words (infix_bytes op) (marks.Binary op) a b (infix_word op))
    (subst (λ (n : ℕ). ReadsAs (2 + n) ws (over_two (binary op) x y)) (sym e)
    (from_level (suc k) ws (over_two (binary op) x y) (omega arith) (omega arith) both))

-- ---- chains

-- trees added one after another
abbrev added : Inlines → Inlines → Inlines
added xs end = xs
added xs (next y ys) = added (followed_by xs y) ys

added-next : (x : Inline) (xs ys : Inlines) → added (next x xs) ys ≡ next x (added xs ys)
added-next x xs end = refl
added-next x xs (next y ys) = added-next x (followed_by xs y) ys

added-end : (ys : Inlines) → added end ys ≡ ys
added-end end = refl
added-end (next y ys) = added-next y end ys ∙ ap (next y) (added-end ys)

added-two : (x y : Inline) (ys : Inlines) → added (next x (next y end)) ys ≡ next x (next y ys)
added-two x y ys = added-next x (next y end) ys ∙ ap (next x) (added-next y end ys ∙ ap (next y) (added-end ys))

-- a chain of an operator that binds as loosely as suc k: what stands for `&&` and for `||`
module _ (label : Label) (bytes : List ℕ) (m : Mark) (op : Infix) (k : ℕ) (low : k ≤ 9) (word_is : word_of_kind kinds.Symbol bytes ≡ mark m)
    (infix_is : infix_of m ≡ Some (suc k, op)) (goes_on : (xs : Inlines) (y : Inline)
    → joined op (shape label xs) y ≡ shape label (followed_by xs y)) where
  one_more : (ws vs : List Word) (xs : Inlines) (y : Inline) → IsLevel (suc k) ws (shape label xs) → ReadsAs (2 + k) vs y
      → IsLevel (suc k) (ws ++ mark m ∷ vs) (shape label (followed_by xs y))
  one_more ws vs xs y chain r =
      subst (IsLevel (suc k) (ws ++ mark m ∷ vs)) (goes_on xs y)
      (grammar.operation k (ws ++ mark m ∷ vs) ws vs m op (shape label xs) y refl infix_is chain (r.at_level k (omega arith) (omega arith)))

  others : (ys xs : Inlines) (ws : List Word) → IsLevel (suc k) ws (shape label xs) → EachReads ys
      → IsLevel (suc k) (ws ++ words_of (behind (spaced bytes) (operands (2 + k) (2 + k) ys))) (shape label (added xs ys))
  others end xs ws chain each = subst (λ us. IsLevel (suc k) us (shape label xs)) (sym (append-nil ws)) chain
  others (next y ys) xs ws chain each =
      let p : List Item = grouped (leb (loose y) (2 + k)) (pieces y) in
      let rest : List Item = behind (spaced bytes) (operands (2 + k) (2 + k) ys) in
      let same : ws ++ words_of (spaced bytes ++ (p ++ rest)) ≡ (ws ++ mark m ∷ words_of p) ++ words_of rest =
      ap (λ w. ws ++ w ∷ words_of (p ++ rest)) word_is ∙ ap (λ us. ws ++ mark m ∷ us) (words_of-append p rest)
      ∙ sym (append_assoc ws (mark m ∷ words_of p) (words_of rest))
      in
      subst (λ us. IsLevel (suc k) us (shape label (added xs (next y ys)))) (sym same)
      (others ys (followed_by xs y) (ws ++ mark m ∷ words_of p) (one_more ws (words_of p) xs y chain (part_reads (2 + k) y each.0)) each.1)

  pub chain_reads : (x y : Inline) (ys : Inlines) → joined op x y ≡ over_two label x y → EachReads (next x (next y ys))
      → ReadsAs (3 + k) (words_of (divided (spaced bytes) (operands (3 + k) (2 + k) (next x (next y ys))))) (shape label (next x (next y ys)))
  chain_reads x y ys two each =
      let p : List Item = grouped (leb (loose x) (3 + k)) (pieces x) in
      let q : List Item = grouped (leb (loose y) (2 + k)) (pieces y) in
      let rest : List Item = behind (spaced bytes) (operands (2 + k) (2 + k) ys) in
      let ws : List Word = words_of p ++ mark m ∷ words_of q in
      let first = part_reads (3 + k) x each.0 in
      let second = part_reads (2 + k) y each.1.0 in
      let both : IsLevel (suc k) ws (shape label (next x (next y end))) =
      subst (IsLevel (suc k) ws) two
      (grammar.operation k ws (words_of p) (words_of q) m op x y refl infix_is (first.at_level (suc k) (omega arith) (omega arith))
      (second.at_level k (omega arith) (omega arith)))
      in
      let every : IsLevel (suc k) (ws ++ words_of rest) (shape label (next x (next y ys))) =
      subst (λ is. IsLevel (suc k) (ws ++ words_of rest) (shape label is)) (added-two x y ys) (others ys (next x (next y end)) ws both each.1.1)
      in
      let same : words_of (p ++ (spaced bytes ++ (q ++ rest))) ≡ ws ++ words_of rest =
      spaced-words bytes m p (q ++ rest) word_is ∙ ap (λ us. words_of p ++ mark m ∷ us) (words_of-append q rest)
      ∙ sym (append_assoc (words_of p) (mark m ∷ words_of q) (words_of rest))
      in
      let e : 2 + suc k ≡ 3 + k = omega arith in
      reads-by (3 + k) _ (ws ++ words_of rest) (shape label (next x (next y ys))) same
      (subst (λ (n : ℕ). ReadsAs n (ws ++ words_of rest) (shape label (next x (next y ys)))) e
      (from_level (suc k) (ws ++ words_of rest) (shape label (next x (next y ys))) (omega arith) (omega arith) every))

-- what is no chain begins one
all-two : (x y : Inline) (rest : Inlines) → begins_with_all (next x rest) ≡ false → joined infixes.And x y ≡ over_two all x y
all-two (shape all is) y rest isnt = absurd (true≢false isnt)
all-two (shape label is) y rest isnt = refl
all-two (inner ds) y rest isnt = refl

any-two : (x y : Inline) (rest : Inlines) → begins_with_any (next x rest) ≡ false → joined infixes.Or x y ≡ over_two any x y
any-two (shape any is) y rest isnt = absurd (true≢false isnt)
any-two (shape label is) y rest isnt = refl
any-two (inner ds) y rest isnt = refl

pub all_reads : (x y : Inline) (ys : Inlines) → begins_with_all (next x (next y ys)) ≡ false → EachReads (next x (next y ys))
    → ReadsAs 11 (words_of (divided (spaced (codes "&&")) (operands 11 10 (next x (next y ys))))) (shape all (next x (next y ys)))
all_reads x y ys isnt each =
    chain_reads all (codes "&&") marks.And infixes.And 8 (omega arith) refl refl (λ xs z. refl) x y ys (all-two x y (next y ys) isnt) each

pub any_reads : (x y : Inline) (ys : Inlines) → begins_with_any (next x (next y ys)) ≡ false → EachReads (next x (next y ys))
    → ReadsAs 12 (words_of (divided (spaced (codes "||")) (operands 12 11 (next x (next y ys))))) (shape any (next x (next y ys)))
any_reads x y ys isnt each =
    chain_reads any (codes "||") marks.Or infixes.Or 9 (omega arith) refl refl (λ xs z. refl) x y ys (any-two x y (next y ys) isnt) each
