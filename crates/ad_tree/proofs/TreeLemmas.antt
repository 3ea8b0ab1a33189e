-- Laws of plain trees: lists item by item, and sizes, by which recursions over trees end.
use Rattle.std.proofs.Common.{arith, ◌≡◌, ◌≤◌, ◌<◌, ℕ, zero, suc, ◌+◌, List, [], ◌∷◌, drop, map, Some, slice_get, ap, sym, ◌∙◌}
use Rattle.std.specs.declared.boxed.Box.{Box}
use Rattle.std.specs.declared.alloc.Global.{Global}
use Rattle.pool_text.specs.declared.language.Lit.{Lit}
use Rattle.pool_text.specs.declared.language.UnOp.{UnOp}
use Rattle.pool_text.specs.declared.language.BinOp.{BinOp}
use Rattle.ad_tree.specs.declared.tree.Expr.{Expr, fold-roll-Expr}
use Rattle.ad_tree.specs.declared.tree.Expr.TheVariants as expr
use Rattle.ad_tree.specs.declared.tree.Scope.{Scope}
use Rattle.ad_tree.specs.declared.tree.Exprs.{Exprs, fold_out-Exprs}
use Rattle.ad_tree.specs.Tree.{literal, name, unary, binary, all, any, choice, select, subscript, call, list, one, two, three, Tree, node, frame, none, more}
use Rattle.ad_tree.specs.Tree.{tree, trees, layer, pack, size, size_all, height_of, highest_of}

-- a list of expressions is seen item by item
pub trees-items : (l : Exprs) → trees l ≡ map tree l.items.items
trees-items l = fold_out-Exprs Tree (List Tree) layer (λ l. l.items.items) l

-- a tree has a size
pub size-positive : (t : Tree) → 0 < size t
size-positive (node label ts) = omega arith
size-positive (frame f) = omega arith

-- a tree of a list is no larger than the list
pub size-at : (ts : List Tree) (k : ℕ) (t : Tree) → slice_get ts k ≡ Some t → size t ≤ size_all (pack ts)
size-at [] k t e = absurd (cc)
size-at (u ∷ us) zero t e = let same : u ≡ t = cc in rw (← same) (omega arith)
size-at (u ∷ us) (suc k) t e = omega (arith, size-at us k t e)

-- nor higher
pub height_of-at : (ts : List Tree) (k : ℕ) (t : Tree) → slice_get ts k ≡ Some t → height_of t ≤ highest_of (pack ts)
height_of-at [] k t e = absurd (cc)
height_of-at (u ∷ us) zero t e = let same : u ≡ t = cc in omega (arith, ap height_of same)
height_of-at (u ∷ us) (suc k) t e = omega (arith, height_of-at us k t e)

-- the trees of a list from a place on, as a loop over the list reads them
pub pack-drop : (ts : List Tree) (k : ℕ) (t : Tree) → slice_get ts k ≡ Some t → pack (drop k ts) ≡ more t (pack (drop (k + 1) ts))
pack-drop ts k t h = by ts k h ∙ ap (λ n. more t (pack (drop n ts))) one_more
  where
    one_more : suc k ≡ k + 1
    one_more = omega arith

    by : (us : List Tree) (j : ℕ) → slice_get us j ≡ Some t → pack (drop j us) ≡ more t (pack (drop (suc j) us))
    by [] j e = absurd (cc)
    by (u ∷ us) zero e = let same : u ≡ t = cc in ap (λ v. more v (pack us)) same
    by (u ∷ us) (suc j) e = by us j e

-- ---- the plain tree of each kind of expression ----

pub tree-Literal : (lit : Lit) → tree (expr.Literal lit) ≡ node (literal lit) none
tree-Literal lit = ap tree (sym (expr.rolls-Literal lit)) ∙ fold-roll-Expr Tree (List Tree) layer (λ l. l.items.items) _

pub tree-Name : (scope : Scope) (text : List ℕ) → tree (expr.Name scope text) ≡ node (name scope text) none
tree-Name scope text = ap tree (sym (expr.rolls-Name scope text)) ∙ fold-roll-Expr Tree (List Tree) layer (λ l. l.items.items) _

pub tree-Unary : (op : UnOp) (a : Box Expr Global) → tree (expr.Unary op a) ≡ node (unary op) (one (tree a.value))
tree-Unary op a = ap tree (sym (expr.rolls-Unary op a)) ∙ fold-roll-Expr Tree (List Tree) layer (λ l. l.items.items) _

pub tree-Binary : (op : BinOp) (a b : Box Expr Global) → tree (expr.Binary op a b) ≡ node (binary op) (two (tree a.value) (tree b.value))
tree-Binary op a b = ap tree (sym (expr.rolls-Binary op a b)) ∙ fold-roll-Expr Tree (List Tree) layer (λ l. l.items.items) _

pub tree-And : (items : Exprs) → tree (expr.And items) ≡ node all (pack (trees items))
tree-And items = ap tree (sym (expr.rolls-And items)) ∙ fold-roll-Expr Tree (List Tree) layer (λ l. l.items.items) _

pub tree-Or : (items : Exprs) → tree (expr.Or items) ≡ node any (pack (trees items))
tree-Or items = ap tree (sym (expr.rolls-Or items)) ∙ fold-roll-Expr Tree (List Tree) layer (λ l. l.items.items) _

pub tree-Cond : (a b c : Box Expr Global) → tree (expr.Cond a b c) ≡ node choice (three (tree a.value) (tree b.value) (tree c.value))
tree-Cond a b c = ap tree (sym (expr.rolls-Cond a b c)) ∙ fold-roll-Expr Tree (List Tree) layer (λ l. l.items.items) _

pub tree-Select : (a : Box Expr Global) (text : List ℕ) → tree (expr.Select a text) ≡ node (select text) (one (tree a.value))
tree-Select a text = ap tree (sym (expr.rolls-Select a text)) ∙ fold-roll-Expr Tree (List Tree) layer (λ l. l.items.items) _

pub tree-Subscript : (a b : Box Expr Global) → tree (expr.Subscript a b) ≡ node subscript (two (tree a.value) (tree b.value))
tree-Subscript a b = ap tree (sym (expr.rolls-Subscript a b)) ∙ fold-roll-Expr Tree (List Tree) layer (λ l. l.items.items) _

pub tree-Call : (text : List ℕ) (items : Box Exprs Global) → tree (expr.Call text items) ≡ node (call text) (pack (trees items.value))
tree-Call text items = ap tree (sym (expr.rolls-Call text items)) ∙ fold-roll-Expr Tree (List Tree) layer (λ l. l.items.items) _

pub tree-List : (items : Exprs) → tree (expr.List items) ≡ node list (pack (trees items))
tree-List items = ap tree (sym (expr.rolls-List items)) ∙ fold-roll-Expr Tree (List Tree) layer (λ l. l.items.items) _

pub tree-Frame : (f : ℕ) → tree (expr.Frame f) ≡ frame f
tree-Frame f = ap tree (sym (expr.rolls-Frame f)) ∙ fold-roll-Expr Tree (List Tree) layer (λ l. l.items.items) _
