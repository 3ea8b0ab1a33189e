-- The words of a tree open no more constructs at once than twice its height.
use Rattle.std.proofs.Common.{◌≡◌, ℕ, suc, ◌+◌, ◌*◌, ◌≤◌, Bool, true, false, ltb, List, [], ◌∷◌, ◌++◌, codes, refl, sym}
use Rattle.std.proofs.Common.{◌∙◌, ap, subst, arith, leb, append_assoc, append-nil}
use Rattle.std.proofs.lemmas.Bool.Decides.{nat_tests}
use Rattle.pool_text.specs.declared.language.BinOp.{BinOp}
use Rattle.pool_text.specs.declared.language.Lit.{Lit}
use Rattle.pool_text.specs.declared.language.Lit.TheVariants as literals
use Rattle.pool_text.specs.declared.language.UnOp.{UnOp}
use Rattle.pool_text.specs.declared.language.UnOp.TheVariants as before
use Rattle.ad_lexer.specs.Tokens.{Item}
use Rattle.ad_lexer.specs.declared.token.TokenKind.TheVariants as kinds
use Rattle.ad_tree.specs.Inline.{Inline, shape, inner, Inlines, end, next, Defs, no_defs, def, height, highest, highest_def}
use Rattle.ad_tree.specs.Tree.{Label, literal, name, unary, binary, all, any, choice, select, subscript, call, list}
use Rattle.ad_tree.specs.declared.tree.Scope.{Scope}
use Rattle.ad_tree.specs.declared.tree.Scope.TheVariants as scopes
use Rattle.ad_grammar.specs.Nesting.{nesting_limit, opening, closing, nests_deeper, nests_too_deep}
use Rattle.ad_grammar.specs.Words.{Word, plain, constant, mark, word_of_kind}
use Rattle.ad_lexer.specs.declared.mark.Mark.TheVariants as marks
use Rattle.ad_printer.specs.Pieces.{space, symbol, spaced, then_space, is_plain_name, name_piece, scoped, literal_piece, prefix_bytes, infix_bytes, behind}
use Rattle.ad_printer.specs.Pieces.{divided, enclosed}
use Rattle.ad_printer.specs.Printed.{loose, first_bound, other_bound, grouped, around, pieces, operands, definition_pieces}
use Rattle.ad_printer.proofs.WordLemmas.{word_in, words_of, words_of-append, infix_word}

-- words that close what they open, with at most n more open in between
pub record Flat (n : ℕ) (ws : List Word) : Type 0 where
  pub passes : (o c : ℕ) (more : List Word) → o + n ≤ c + nesting_limit
      → (d : ℕ) × (nests_deeper o c (ws ++ more) ≡ nests_deeper (o + d) (c + d) more)

flat-none : (n : ℕ) → Flat n []
flat-none n =
    record {
      passes =
          λ o c more fits. let a : o ≡ o + 0 =
          omega arith in let b : c ≡ c + 0 = omega arith in (0, ap (λ (p : ℕ). nests_deeper p c more) a ∙ ap (λ (q : ℕ). nests_deeper (o + 0) q more) b);
    }

flat-append : (n : ℕ) (a b : List Word) → Flat n a → Flat n b → Flat n (a ++ b)
flat-append n a b f g = record {
  passes = λ o c more fits.
      let one = f.passes o c (b ++ more) fits in
      let two = g.passes (o + one.0) (c + one.0) more (omega arith) in
      let p : o + one.0 + two.0 ≡ o + (one.0 + two.0) = omega arith in
      let q : c + one.0 + two.0 ≡ c + (one.0 + two.0) = omega arith in (
        one.0 + two.0,
        ap (λ ws. nests_deeper o c ws) (append_assoc a b more) ∙ one.1 ∙ two.1
            ∙ ap (λ (i : ℕ). nests_deeper i (c + one.0 + two.0) more) p ∙ ap (λ (i : ℕ). nests_deeper (o + (one.0 + two.0)) i more) q,
      );
}

flat-more : (n m : ℕ) (ws : List Word) → n ≤ m → Flat n ws → Flat m ws
flat-more n m ws less f = record { passes = λ o c more fits. f.passes o c more (omega arith) }

-- one word, by what it opens and closes
step : (o c : ℕ) (w : Word) (more : List Word) (p q : ℕ) → opening w ≡ p → closing w ≡ q → o + p ≤ c + q + nesting_limit
    → nests_deeper o c (w ∷ more) ≡ nests_deeper (o + p) (c + q) more
step o c w more p q opens closes fits =
    let test : ltb (c + closing w + nesting_limit) (o + opening w) ≡ false = grind (arith, nat_tests) in
    rw test (ap (λ (i : ℕ). nests_deeper (o + i) (c + closing w) more) opens ∙ ap (λ (i : ℕ). nests_deeper (o + p) (c + i) more) closes)

pub flat-word : (n : ℕ) (w : Word) → opening w ≡ 0 → closing w ≡ 0 → Flat n (w ∷ [])
flat-word n w opens closes = record { passes = λ o c more fits. (0, step o c w more 0 0 opens closes (omega arith)) }

flat-inside : (n : ℕ) (left right : Word) (ws : List Word) → opening left ≡ 1 → closing left ≡ 0 → opening right ≡ 0 → closing right ≡ 1
    → Flat n ws → Flat (suc n) (left ∷ (ws ++ right ∷ []))
flat-inside n left right ws a b x y f = record {
  passes = λ o c more fits.
      let one = step o c left ((ws ++ right ∷ []) ++ more) 1 0 a b (omega arith) in
      let two = f.passes (o + 1) (c + 0) (right ∷ more) (omega arith) in
      let three = step (o + 1 + two.0) (c + 0 + two.0) right more 0 1 x y (omega arith) in
      let p : o + 1 + two.0 + 0 ≡ o + suc two.0 = omega arith in
      let q : c + 0 + two.0 + 1 ≡ c + suc two.0 = omega arith in (
        suc two.0,
        one ∙ ap (λ us. nests_deeper (o + 1) (c + 0) us) (append_assoc ws (right ∷ []) more) ∙ two.1 ∙ three
            ∙ ap (λ (i : ℕ). nests_deeper i (c + 0 + two.0 + 1) more) p ∙ ap (λ (i : ℕ). nests_deeper (o + suc two.0) i more) q,
      );
}

pub shallow : (ws : List Word) (n : ℕ) → n ≤ nesting_limit → Flat n ws → nests_too_deep ws ≡ false
shallow ws n low f =
    let e : ws ≡ ws ++ [] = sym (append-nil ws) in
    ap nests_too_deep e ∙ (f.passes 0 0 [] (omega arith)).1

-- ---- pieces

pieces-append : (n : ℕ) (a b : List Item) → Flat n (words_of a) → Flat n (words_of b) → Flat n (words_of (a ++ b))
pieces-append n a b f g = subst (Flat n) (sym (words_of-append a b)) (flat-append n (words_of a) (words_of b) f g)

-- a row of pieces between brackets
pieces-inside : (n : ℕ) (left right : List ℕ) (items : List Item) → opening (word_of_kind kinds.Symbol left) ≡ 1
    → closing (word_of_kind kinds.Symbol left) ≡ 0 → opening (word_of_kind kinds.Symbol right) ≡ 0 → closing (word_of_kind kinds.Symbol right) ≡ 1
    → Flat n (words_of items) → Flat (suc n) (words_of (symbol left ∷ (items ++ symbol right ∷ [])))
pieces-inside n left right items a b x y f =
    let l : Word = word_of_kind kinds.Symbol left in
    let r : Word = word_of_kind kinds.Symbol right in
    subst (Flat (suc n)) (ap (λ ws. l ∷ ws) (sym (words_of-append items (symbol right ∷ [])))) (flat-inside n l r (words_of items) a b x y f)

part_flat : (n : ℕ) (items : List Item) (fits : Bool) → Flat n (words_of items) → Flat (suc n) (words_of (grouped fits items))
part_flat n items true f = flat-more n (suc n) (words_of items) (omega arith) f
part_flat n items false f = pieces-inside n (codes "(") (codes ")") items refl refl refl refl f

-- a word before pieces
word-flat : (n : ℕ) (w : Word) (items : List Item) → opening w ≡ 0 → closing w ≡ 0 → Flat n (words_of items) → Flat n (w ∷ words_of items)
word-flat n w items a b f = flat-append n (w ∷ []) (words_of items) (flat-word n w a b) f

-- ---- leaves

name_by : (n : ℕ) (text : List ℕ) (is : Bool) → is_plain_name text ≡ is → Flat n (word_in (name_piece text))
name_by n text true is = rw is (flat-word n (word_of_kind kinds.Plain text) refl refl)
name_by n text false is = rw is (flat-word n _ refl refl)

name_flat : (n : ℕ) (text : List ℕ) → Flat n (word_in (name_piece text))
name_flat n text = name_by n text (is_plain_name text) refl

name_before : (n : ℕ) (text : List ℕ) (items : List Item) → Flat n (words_of items) → Flat n (words_of (name_piece text ∷ items))
name_before n text items f = flat-append n (word_in (name_piece text)) (words_of items) (name_flat n text) f

scoped_flat : (n : ℕ) (scope : Scope) (text : List ℕ) → Flat n (words_of (scoped scope text))
scoped_flat n scopes.Bare text = name_before n text [] (flat-none n)
scoped_flat n scopes.My text =
    word-flat n (plain (codes "MY")) (symbol (codes ".") ∷ name_piece text ∷ []) refl refl
    (word-flat n (mark marks.Dot) (name_piece text ∷ []) refl refl (name_before n text [] (flat-none n)))
scoped_flat n scopes.Target text =
    word-flat n (plain (codes "TARGET")) (symbol (codes ".") ∷ name_piece text ∷ []) refl refl
    (word-flat n (mark marks.Dot) (name_piece text ∷ []) refl refl (name_before n text [] (flat-none n)))

literal_flat : (n : ℕ) (lit : Lit) → Flat n (words_of (literal_piece lit ∷ []))
literal_flat n literals.Undefined = flat-word n (constant literals.Undefined) refl refl
literal_flat n literals.Error = flat-word n (constant literals.Error) refl refl
literal_flat n (literals.Boolean true) = flat-word n (constant (literals.Boolean true)) refl refl
literal_flat n (literals.Boolean false) = flat-word n (constant (literals.Boolean false)) refl refl
literal_flat n (literals.Integer i) = flat-word n _ refl refl
literal_flat n (literals.Decimal i) = flat-word n _ refl refl
literal_flat n (literals.Str text) = flat-word n _ refl refl

-- ---- rows

abbrev AllFlat : ℕ → List (List Item) → Type 0
AllFlat n [] = Unit {0}
AllFlat n (p ∷ ps) = Flat n (words_of p) × AllFlat n ps

behind_flat : (n : ℕ) (divider : List Item) (ps : List (List Item)) → Flat n (words_of divider) → AllFlat n ps → Flat n (words_of (behind divider ps))
behind_flat n divider [] d each = flat-none n
behind_flat n divider (p ∷ ps) d each =
    pieces-append n divider (p ++ behind divider ps) d (pieces-append n p (behind divider ps) each.0 (behind_flat n divider ps d each.1))

row_flat : (n : ℕ) (divider : List Item) (ps : List (List Item)) → Flat n (words_of divider) → AllFlat n ps → Flat n (words_of (divided divider ps))
row_flat n divider [] d each = flat-none n
row_flat n divider (p ∷ ps) d each = pieces-append n p (behind divider ps) each.0 (behind_flat n divider ps d each.1)

enclosed_flat : (n : ℕ) (left right : List ℕ) (divider : List Item) (ps : List (List Item)) → opening (word_of_kind kinds.Symbol left) ≡ 1
    → closing (word_of_kind kinds.Symbol left) ≡ 0 → opening (word_of_kind kinds.Symbol right) ≡ 0 → closing (word_of_kind kinds.Symbol right) ≡ 1
    → Flat n (words_of divider) → AllFlat n ps → Flat (suc n) (words_of (enclosed left right divider ps))
enclosed_flat n left right divider [] a b x y d each = flat-inside n (word_of_kind kinds.Symbol left) (word_of_kind kinds.Symbol right) [] a b x y (flat-none n)
enclosed_flat n left right divider (p ∷ ps) a b x y d each =
    let row : List Item = divided divider (p ∷ ps) in
    subst (Flat (suc n)) (ap (λ ws. word_of_kind kinds.Symbol left ∷ ws) (sym (words_of-append row (space ∷ symbol right ∷ []))))
    (flat-inside n (word_of_kind kinds.Symbol left) (word_of_kind kinds.Symbol right) (words_of row) a b x y (row_flat n divider (p ∷ ps) d each))

-- ---- nodes

prefix_flat : (n : ℕ) (op : UnOp) → Flat n (words_of (symbol (prefix_bytes op) ∷ []))
prefix_flat n before.Plus = flat-word n (word_of_kind kinds.Symbol (codes "+")) refl refl
prefix_flat n before.Minus = flat-word n (word_of_kind kinds.Symbol (codes "-")) refl refl
prefix_flat n before.Not = flat-word n (word_of_kind kinds.Symbol (codes "!")) refl refl
prefix_flat n before.Complement = flat-word n (word_of_kind kinds.Symbol (codes "~")) refl refl

infix_flat : (n : ℕ) (op : BinOp) → Flat n (words_of (spaced (infix_bytes op)))
infix_flat n op = subst (λ w. Flat n (w ∷ [])) (sym (infix_word op)) (flat-word n (mark (marks.Binary op)) refl refl)

symbol_flat : (n : ℕ) (bytes : List ℕ) → opening (word_of_kind kinds.Symbol bytes) ≡ 0 → closing (word_of_kind kinds.Symbol bytes) ≡ 0
    → Flat n (words_of (symbol bytes ∷ []))
symbol_flat n bytes a b = flat-word n (word_of_kind kinds.Symbol bytes) a b

choice_flat : (n : ℕ) (a b c : List Item) → Flat n (words_of a) → Flat n (words_of b) → Flat n (words_of c)
    → Flat (suc n) (words_of (a ++ (spaced (codes "?") ++ (b ++ (spaced (codes ":") ++ c)))))
choice_flat n a b c f g h =
    let wa : List Word = words_of a in
    let wb : List Word = words_of b in
    let wc : List Word = words_of c in
    let inside : List Word = mark marks.Question ∷ (wb ++ mark marks.Colon ∷ []) in
    let same : words_of (a ++ (spaced (codes "?") ++ (b ++ (spaced (codes ":") ++ c)))) ≡ wa ++ (inside ++ wc) =
    words_of-append a (spaced (codes "?") ++ (b ++ (spaced (codes ":") ++ c)))
    ∙ ap (λ ws. wa ++ mark marks.Question ∷ ws) (words_of-append b (spaced (codes ":") ++ c) ∙ sym (append_assoc wb (mark marks.Colon ∷ []) wc))
    in
    let up : (ws : List Word) → Flat n ws → Flat (suc n) ws = λ ws k. flat-more n (suc n) ws (omega arith) k in
    subst (Flat (suc n)) (sym same)
    (flat-append (suc n) wa (inside ++ wc) (up wa f) (flat-append (suc n) inside wc (flat-inside n (mark marks.Question) (mark marks.Colon) wb refl refl refl
    refl g) (up wc h)))

-- a node of any kind over parts that are flat
node_flat : (n : ℕ) (label : Label) (ps : List (List Item)) → AllFlat n ps → Flat (suc n) (words_of (around label ps))
node_flat n (literal lit) [] each = literal_flat (suc n) lit
node_flat n (literal lit) (a ∷ ps) each = flat-none (suc n)
node_flat n (name scope text) [] each = scoped_flat (suc n) scope text
node_flat n (name scope text) (a ∷ ps) each = flat-none (suc n)
node_flat n (unary op) [] each = flat-none (suc n)
node_flat n (unary op) (a ∷ []) each =
    flat-more n (suc n) (words_of (symbol (prefix_bytes op) ∷ a)) (omega arith)
    (pieces-append n (symbol (prefix_bytes op) ∷ []) a (prefix_flat n op) each.0)
node_flat n (unary op) (a ∷ b ∷ ps) each = flat-none (suc n)
node_flat n (binary op) [] each = flat-none (suc n)
node_flat n (binary op) (a ∷ []) each = flat-none (suc n)
node_flat n (binary op) (a ∷ b ∷ []) each =
    flat-more n (suc n) (words_of (a ++ (spaced (infix_bytes op) ++ b))) (omega arith)
    (pieces-append n a (spaced (infix_bytes op) ++ b) each.0 (pieces-append n (spaced (infix_bytes op)) b (infix_flat n op) each.1.0))
node_flat n (binary op) (a ∷ b ∷ c ∷ ps) each = flat-none (suc n)
node_flat n all ps each =
    flat-more n (suc n) (words_of (divided (spaced (codes "&&")) ps)) (omega arith)
    (row_flat n (spaced (codes "&&")) ps (symbol_flat n (codes "&&") refl refl) each)
node_flat n any ps each =
    flat-more n (suc n) (words_of (divided (spaced (codes "||")) ps)) (omega arith)
    (row_flat n (spaced (codes "||")) ps (symbol_flat n (codes "||") refl refl) each)
node_flat n choice [] each = flat-none (suc n)
node_flat n choice (a ∷ []) each = flat-none (suc n)
node_flat n choice (a ∷ b ∷ []) each = flat-none (suc n)
node_flat n choice (a ∷ b ∷ c ∷ []) each = choice_flat n a b c each.0 each.1.0 each.1.1.0
node_flat n choice (a ∷ b ∷ c ∷ d ∷ ps) each = flat-none (suc n)
node_flat n (select text) [] each = flat-none (suc n)
node_flat n (select text) (a ∷ []) each =
    flat-more n (suc n) (words_of (a ++ (symbol (codes ".") ∷ name_piece text ∷ []))) (omega arith)
    (pieces-append n a (symbol (codes ".") ∷ name_piece text ∷ []) each.0
    (word-flat n (mark marks.Dot) (name_piece text ∷ []) refl refl (name_before n text [] (flat-none n))))
node_flat n (select text) (a ∷ b ∷ ps) each = flat-none (suc n)
node_flat n subscript [] each = flat-none (suc n)
node_flat n subscript (a ∷ []) each = flat-none (suc n)
node_flat n subscript (a ∷ b ∷ []) each =
    pieces-append (suc n) a (symbol (codes "[") ∷ (b ++ symbol (codes "]") ∷ [])) (flat-more n (suc n) (words_of a) (omega arith) each.0)
    (pieces-inside n (codes "[") (codes "]") b refl refl refl refl each.1.0)
node_flat n subscript (a ∷ b ∷ c ∷ ps) each = flat-none (suc n)
node_flat n (call text) ps each =
    word-flat (suc n) (plain text) (symbol (codes "(") ∷ (divided (then_space (codes ",")) ps ++ symbol (codes ")") ∷ [])) refl refl
    (pieces-inside n (codes "(") (codes ")") (divided (then_space (codes ",")) ps) refl refl refl refl
    (row_flat n (then_space (codes ",")) ps (symbol_flat n (codes ",") refl refl) each))
node_flat n list ps each = enclosed_flat n (codes "{") (codes "}") (then_space (codes ",")) ps refl refl refl refl (symbol_flat n (codes ",") refl refl) each

-- ---- trees

mutual
  pub tree_flat : (x : Inline) (n : ℕ) → 2 * height x ≤ n → Flat n (words_of (pieces x))
  tree_flat (shape label is) n within =
      let k : ℕ = 2 * highest is + 1 in
      flat-more (suc k) n (words_of (pieces (shape label is))) (omega arith)
      (node_flat k label (operands (first_bound label) (other_bound label) is) (operands_flat is (first_bound label) (other_bound label) k (omega arith)))
  tree_flat (inner ds) n within =
      let k : ℕ = 2 * highest_def ds + 1 in
      flat-more (suc k) n (words_of (pieces (inner ds))) (omega arith)
      (enclosed_flat k (codes "[") (codes "]") (then_space (codes ";")) (definition_pieces ds) refl refl refl refl (symbol_flat k (codes ";") refl refl)
      (definitions_flat ds k (omega arith)))

  operands_flat : (is : Inlines) (first other n : ℕ) → 2 * highest is + 1 ≤ n → AllFlat n (operands first other is)
  operands_flat end first other n within = tt
  operands_flat (next x xs) first other n within =
      let k : ℕ = 2 * height x in (
        flat-more (suc k) n (words_of (grouped (leb (loose x) first) (pieces x))) (omega arith)
            (part_flat k (pieces x) (leb (loose x) first) (tree_flat x k (omega arith))),
        operands_flat xs other other n (omega arith),
      )

  definitions_flat : (ds : Defs) (n : ℕ) → 2 * highest_def ds + 1 ≤ n → AllFlat n (definition_pieces ds)
  definitions_flat no_defs n within = tt
  definitions_flat (def text x ds) n within = (
    name_before n text (spaced (codes "=") ++ pieces x) (word-flat n (mark marks.Assign) (pieces x) refl refl (tree_flat x n (omega arith))),
    definitions_flat ds n (omega arith),
  )
