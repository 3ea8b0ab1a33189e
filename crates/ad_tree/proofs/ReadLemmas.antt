-- The plain tree of an expression of each kind, as a walk reads its parts.
use Rattle.std.proofs.Common.{◌≡◌, ℕ, List, ap, sym, ◌∙◌, ◌⊎◌, inl, inr}
use Rattle.std.specs.declared.boxed.Box.{Box}
use Rattle.std.specs.declared.alloc.Global.{Global}
use Rattle.pool_text.specs.declared.language.Lit.{Lit}
use Rattle.pool_text.specs.declared.language.UnOp.{UnOp}
use Rattle.pool_text.specs.declared.language.BinOp.{BinOp}
use Rattle.ad_tree.specs.declared.tree.Expr.{Expr}
use Rattle.ad_tree.specs.declared.tree.Exprs.{Exprs}
use Rattle.ad_tree.specs.declared.tree.Scope.{Scope}
use Rattle.ad_tree.specs.declared.tree.Expr.TheVariants as expr
use Rattle.ad_tree.specs.Tree.{none, literal, name, Label, Tree, Trees, tree, trees, node, pack, unary, binary, all, any, choice, select, subscript, call, list}
use Rattle.ad_tree.specs.Tree.{one, two, three}
use Rattle.ad_tree.proofs.TreeLemmas.{tree-Literal, tree-Name, tree-Unary, tree-Binary, tree-And, tree-Or, tree-Cond, tree-Select, tree-Subscript, tree-Call}
use Rattle.ad_tree.proofs.TreeLemmas.{tree-List}

pub read-Unary : (op : UnOp) (a : Box Expr Global) {e x : Expr} → e ≡ expr.Unary op a → x ≡ a.value → tree e ≡ node (unary op) (one (tree x))
read-Unary op a is x_is = ap tree is ∙ tree-Unary op a ∙ ap (λ (x : Expr). node (unary op) (one (tree x))) (sym x_is)

pub read-Select : (a : Box Expr Global) (text : List ℕ) {e x : Expr} → e ≡ expr.Select a text → x ≡ a.value → tree e ≡ node (select text) (one (tree x))
read-Select a text is x_is = ap tree is ∙ tree-Select a text ∙ ap (λ (x : Expr). node (select text) (one (tree x))) (sym x_is)

pub read-Binary : (op : BinOp) (a b : Box Expr Global) {e x y : Expr} → e ≡ expr.Binary op a b → x ≡ a.value → y ≡ b.value
    → tree e ≡ node (binary op) (two (tree x) (tree y))
read-Binary op a b {e} {x} {y} is x_is y_is =
    ap tree is ∙ tree-Binary op a b
    ∙ ap (λ (x : Expr). node (binary op) (two (tree x) (tree b.value))) (sym x_is)
    ∙ ap (λ (y : Expr). node (binary op) (two (tree x) (tree y))) (sym y_is)

pub read-Subscript : (a b : Box Expr Global) {e x y : Expr} → e ≡ expr.Subscript a b → x ≡ a.value → y ≡ b.value
    → tree e ≡ node subscript (two (tree x) (tree y))
read-Subscript a b {e} {x} {y} is x_is y_is =
    ap tree is ∙ tree-Subscript a b
    ∙ ap (λ (x : Expr). node subscript (two (tree x) (tree b.value))) (sym x_is)
    ∙ ap (λ (y : Expr). node subscript (two (tree x) (tree y))) (sym y_is)

pub read-Cond : (a b c : Box Expr Global) {e x y z : Expr} → e ≡ expr.Cond a b c → x ≡ a.value → y ≡ b.value → z ≡ c.value
    → tree e ≡ node choice (three (tree x) (tree y) (tree z))
read-Cond a b c {e} {x} {y} {z} is x_is y_is z_is =
    ap tree is ∙ tree-Cond a b c
    ∙ ap (λ (x : Expr). node choice (three (tree x) (tree b.value) (tree c.value))) (sym x_is)
    ∙ ap (λ (y : Expr). node choice (three (tree x) (tree y) (tree c.value))) (sym y_is)
    ∙ ap (λ (z : Expr). node choice (three (tree x) (tree y) (tree z))) (sym z_is)

pub read-Call : (text : List ℕ) (items : Box Exprs Global) {e : Expr} {x : Exprs} → e ≡ expr.Call text items → x ≡ items.value
    → tree e ≡ node (call text) (pack (trees x))
read-Call text items is x_is = ap tree is ∙ tree-Call text items ∙ ap (λ (x : Exprs). node (call text) (pack (trees x))) (sym x_is)

-- a tree is a node over these trees
pub record IsNode (t : Tree) (ts : Trees) : Type 0 where
  pub label : Label
  pub read : t ≡ node label ts

-- the kinds of expression with no, one and two parts, and those over a list
pub node_of_none : {e : Expr} → ((lit : Lit) × (e ≡ expr.Literal lit)) ⊎ ((scope : Scope) × (text : List ℕ) × (e ≡ expr.Name scope text)) → IsNode (tree e) none
node_of_none kind = elim kind [
  | inl is ↦ record { label = literal is.0; read = ap tree is.1 ∙ tree-Literal is.0 }
  | inr is ↦ record { label = name is.0 is.1; read = ap tree is.2 ∙ tree-Name is.0 is.1 }
]

pub node_of_one : (a : Box Expr Global) {e x : Expr} → ((op : UnOp) × (e ≡ expr.Unary op a)) ⊎ ((text : List ℕ) × (e ≡ expr.Select a text)) → x ≡ a.value
    → IsNode (tree e) (one (tree x))
node_of_one a kind x_is = elim kind [
  | inl is ↦ record { label = unary is.0; read = read-Unary is.0 a is.1 x_is }
  | inr is ↦ record { label = select is.0; read = read-Select a is.0 is.1 x_is }
]

pub node_of_two : (a b : Box Expr Global) {e x y : Expr} → ((op : BinOp) × (e ≡ expr.Binary op a b)) ⊎ (e ≡ expr.Subscript a b) → x ≡ a.value → y ≡ b.value
    → IsNode (tree e) (two (tree x) (tree y))
node_of_two a b kind x_is y_is = elim kind [
  | inl is ↦ record { label = binary is.0; read = read-Binary is.0 a b is.1 x_is y_is }
  | inr is ↦ record { label = subscript; read = read-Subscript a b is x_is y_is }
]

pub node_of_list : (items : Exprs) {e : Expr} → (e ≡ expr.And items) ⊎ ((e ≡ expr.Or items) ⊎ (e ≡ expr.List items)) → IsNode (tree e) (pack (trees items))
node_of_list items kind = elim kind [
  | inl is ↦ record { label = all; read = ap tree is ∙ tree-And items }
  | inr kind ↦ elim kind [
    | inl is ↦ record { label = any; read = ap tree is ∙ tree-Or items }
    | inr is ↦ record { label = list; read = ap tree is ∙ tree-List items }
  ]
]
