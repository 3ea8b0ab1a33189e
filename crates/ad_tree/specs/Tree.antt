-- Plain trees: what contracts see of an expression. Equal expressions are those whose plain trees are equal.
use Rattle.std.specs.Prelude.{ℕ, suc, ◌+◌, max, List, [], ◌∷◌, ◌++◌}
use Rattle.pool_text.specs.declared.language.Lit.{Lit}
use Rattle.pool_text.specs.declared.language.UnOp.{UnOp}
use Rattle.pool_text.specs.declared.language.BinOp.{BinOp}
use Rattle.ad_tree.specs.declared.tree.Scope.{Scope}
use Rattle.ad_tree.specs.declared.tree.Expr.{Expr}
use Rattle.ad_tree.specs.declared.tree.Expr.TheOpen.{Expr-F}
use Rattle.ad_tree.specs.declared.tree.Expr.TheFolds.{fold-Expr}
use Rattle.ad_tree.specs.declared.tree.Exprs.{Exprs, fold-Exprs}

-- what stands at a node, beside the nodes below it: `all` is a chain of `&&`, `any` of `||`, `choice` is `? :`
pub data Label : Type 0 where
  literal : Lit → Label
  name : Scope → List ℕ → Label
  unary : UnOp → Label
  binary : BinOp → Label
  all : Label
  any : Label
  choice : Label
  select : List ℕ → Label
  subscript : Label
  call : List ℕ → Label
  list : Label

-- a node with the trees below it from left to right, or the number of the frame that an ad literal opens
mutual
  pub data Tree : Type 0 where
    node : Label → Trees → Tree
    frame : ℕ → Tree

  pub data Trees : Type 0 where
    none : Trees
    more : Tree → Trees → Trees

-- one tree
abbrev pub one : Tree → Trees
one a = more a none

-- two trees
abbrev pub two : Tree → Tree → Trees
two a b = more a (one b)

-- three trees
abbrev pub three : Tree → Tree → Tree → Trees
three a b c = more a (two b c)

-- the trees of a list
abbrev pub pack : List Tree → Trees
pack [] = none
pack (t ∷ ts) = more t (pack ts)

-- one layer of an expression, with a plain tree in each place below it
abbrev pub layer : Expr-F Tree (List Tree) → Tree
layer (Expr-F.Literal lit) = node (literal lit) none
layer (Expr-F.Name scope text) = node (name scope text) none
layer (Expr-F.Unary op a) = node (unary op) (one a.value)
layer (Expr-F.Binary op a b) = node (binary op) (two a.value b.value)
layer (Expr-F.And ts) = node all (pack ts)
layer (Expr-F.Or ts) = node any (pack ts)
layer (Expr-F.Cond a b c) = node choice (three a.value b.value c.value)
layer (Expr-F.Select a text) = node (select text) (one a.value)
layer (Expr-F.Subscript a b) = node subscript (two a.value b.value)
layer (Expr-F.Call text ts) = node (call text) (pack ts.value)
layer (Expr-F.List ts) = node list (pack ts)
layer (Expr-F.Frame f) = frame f

-- the plain tree of an expression
abbrev pub tree : Expr → Tree
tree = fold-Expr Tree (List Tree) layer (λ l. l.items.items)

-- the plain trees of a list of expressions
abbrev pub trees : Exprs → List Tree
trees = fold-Exprs Tree (List Tree) layer (λ l. l.items.items)

-- how many nodes and frames' numbers a tree has
abbrev mutual
  pub size : Tree → ℕ
  size (node label ts) = suc (size_all ts)
  size (frame f) = 1

  pub size_all : Trees → ℕ
  size_all none = 0
  size_all (more t ts) = size t + size_all ts

-- the height of a tree, where the number of a frame is a leaf
abbrev mutual
  pub height_of : Tree → ℕ
  height_of (node label ts) = suc (highest_of ts)
  height_of (frame f) = 1

  pub highest_of : Trees → ℕ
  highest_of none = 0
  highest_of (more t ts) = max (height_of t) (highest_of ts)

-- the frames whose numbers stand in a tree, from left to right
abbrev mutual
  pub cited : Tree → List ℕ
  cited (node label ts) = cited_all ts
  cited (frame f) = f ∷ []

  pub cited_all : Trees → List ℕ
  cited_all none = []
  cited_all (more t ts) = cited t ++ cited_all ts
