-- The tree of an expression of each kind, by its parts as the code reads them.
use Rattle.std.proofs.Common.{◌≡◌, ℕ, List, ap, ◌∙◌, sym}
use Rattle.std.specs.declared.boxed.Box.{Box}
use Rattle.std.specs.declared.alloc.Global.{Global}
use Rattle.pool_text.specs.declared.language.Lit.{Lit}
use Rattle.pool_text.specs.declared.language.UnOp.{UnOp}
use Rattle.pool_text.specs.declared.language.BinOp.{BinOp}
use Rattle.ad_tree.specs.declared.tree.Expr.{Expr}
use Rattle.ad_tree.specs.declared.tree.Expr.TheVariants as expr
use Rattle.ad_tree.specs.declared.tree.Exprs.{Exprs}
use Rattle.ad_tree.specs.declared.tree.Scope.{Scope}
use Rattle.ad_tree.specs.Tree.{literal, name, unary, binary, all, any, choice, select, subscript, call, list, one, two, three, node, frame, none, pack, tree}
use Rattle.ad_tree.specs.Tree.{trees}
use Rattle.ad_tree.proofs.TreeLemmas.{tree-And, tree-Binary, tree-Call, tree-Cond, tree-Frame, tree-List, tree-Literal, tree-Name, tree-Or, tree-Select}
use Rattle.ad_tree.proofs.TreeLemmas.{tree-Subscript, tree-Unary}

module _ (e : Expr) where
  pub shape-Literal : (lit : Lit) → e ≡ expr.Literal lit → tree e ≡ node (literal lit) none
  shape-Literal lit is = ap tree is ∙ tree-Literal lit

  pub shape-Frame : (f : ℕ) → e ≡ expr.Frame f → tree e ≡ frame f
  shape-Frame f is = ap tree is ∙ tree-Frame f

  pub shape-Name : (scope : Scope) (text x : List ℕ) → e ≡ expr.Name scope text → x ≡ text → tree e ≡ node (name scope x) none
  shape-Name scope text x is same = ap tree is ∙ tree-Name scope text ∙ ap (λ y. node (name scope y) none) (sym same)

  pub shape-Unary : (op : UnOp) (a : Box Expr Global) (x : Expr) → e ≡ expr.Unary op a → x ≡ a.value → tree e ≡ node (unary op) (one (tree x))
  shape-Unary op a x is same = ap tree is ∙ tree-Unary op a ∙ ap (λ (z : Expr). node (unary op) (one (tree z))) (sym same)

  pub shape-Binary : (op : BinOp) (a b : Box Expr Global) (x y : Expr) → e ≡ expr.Binary op a b → x ≡ a.value → y ≡ b.value
      → tree e ≡ node (binary op) (two (tree x) (tree y))
  shape-Binary op a b x y is left right =
      ap tree is ∙ tree-Binary op a b ∙ ap (λ (z : Expr). node (binary op) (two (tree z) (tree b.value))) (sym left)
      ∙ ap (λ (z : Expr). node (binary op) (two (tree x) (tree z))) (sym right)

  pub shape-And : (items : Exprs) → e ≡ expr.And items → tree e ≡ node all (pack (trees items))
  shape-And items is = ap tree is ∙ tree-And items

  pub shape-Or : (items : Exprs) → e ≡ expr.Or items → tree e ≡ node any (pack (trees items))
  shape-Or items is = ap tree is ∙ tree-Or items

  pub shape-Cond : (a b c : Box Expr Global) (x y z : Expr) → e ≡ expr.Cond a b c → x ≡ a.value → y ≡ b.value → z ≡ c.value
      → tree e ≡ node choice (three (tree x) (tree y) (tree z))
  shape-Cond a b c x y z is first second third =
      ap tree is ∙ tree-Cond a b c
      ∙ ap (λ (u : Expr). node choice (three (tree u) (tree b.value) (tree c.value))) (sym first)
      ∙ ap (λ (u : Expr). node choice (three (tree x) (tree u) (tree c.value))) (sym second)
      ∙ ap (λ (u : Expr). node choice (three (tree x) (tree y) (tree u))) (sym third)

  pub shape-Select : (a : Box Expr Global) (text : List ℕ) (x : Expr) (y : List ℕ) → e ≡ expr.Select a text → x ≡ a.value → y ≡ text
      → tree e ≡ node (select y) (one (tree x))
  shape-Select a text x y is base named =
      ap tree is ∙ tree-Select a text ∙ ap (λ (z : Expr). node (select text) (one (tree z))) (sym base)
      ∙ ap (λ (z : List ℕ). node (select z) (one (tree x))) (sym named)

  pub shape-Subscript : (a b : Box Expr Global) (x y : Expr) → e ≡ expr.Subscript a b → x ≡ a.value → y ≡ b.value
      → tree e ≡ node subscript (two (tree x) (tree y))
  shape-Subscript a b x y is base index =
      ap tree is ∙ tree-Subscript a b ∙ ap (λ (z : Expr). node subscript (two (tree z) (tree b.value))) (sym base)
      ∙ ap (λ (z : Expr). node subscript (two (tree x) (tree z))) (sym index)

  pub shape-Call : (text : List ℕ) (items : Box Exprs Global) (x : List ℕ) (y : Exprs) → e ≡ expr.Call text items → x ≡ text → y ≡ items.value
      → tree e ≡ node (call x) (pack (trees y))
  shape-Call text items x y is named same =
      ap tree is ∙ tree-Call text items
      ∙ ap (λ (z : List ℕ). node (call z) (pack (trees items.value))) (sym named)
      ∙ ap (λ (z : Exprs). node (call x) (pack (trees z))) (sym same)

  pub shape-List : (items : Exprs) → e ≡ expr.List items → tree e ≡ node list (pack (trees items))
  shape-List items is = ap tree is ∙ tree-List items
