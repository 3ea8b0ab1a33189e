-- Expressions of different kinds have different trees.
use Rattle.std.proofs.Common.{◌≡◌, ℕ, List, false, ap, sym, subst, ◌∙◌}
use Rattle.std.specs.Prelude.{◌↔◌, IsTrue}
use Rattle.std.specs.declared.boxed.Box.{Box}
use Rattle.std.specs.declared.alloc.Global.{Global}
use Rattle.pool_text.specs.declared.language.Lit.{Lit}
use Rattle.pool_text.specs.declared.language.UnOp.{UnOp}
use Rattle.pool_text.specs.declared.language.BinOp.{BinOp}
use Rattle.ad_tree.specs.declared.tree.Expr.{Expr, roll-Expr}
use Rattle.ad_tree.specs.declared.tree.Expr.TheVariants as expr
use Rattle.ad_tree.specs.declared.tree.Expr.TheOpen.{Expr-F}
use Rattle.ad_tree.specs.declared.tree.Expr.TheFolds.{ind-Expr}
use Rattle.ad_tree.specs.declared.tree.Exprs.{Exprs}
use Rattle.ad_tree.specs.declared.tree.Scope.{Scope}
use Rattle.ad_tree.specs.Tree.{Tree, literal, name, unary, binary, all, any, choice, select, subscript, call, list, node, frame, tree}
use Rattle.ad_tree.proofs.TreeLemmas.{tree-And, tree-Binary, tree-Call, tree-Cond, tree-Frame, tree-List, tree-Literal, tree-Name, tree-Or, tree-Select}
use Rattle.ad_tree.proofs.TreeLemmas.{tree-Subscript, tree-Unary}

-- an expression is of the kind that a tree shows
abbrev pub IsOf : Tree → Expr → Type 0
IsOf (node (literal lit) ts) e = (lit0 : Lit) × (e ≡ expr.Literal lit0)
IsOf (node (name scope text) ts) e = (scope0 : Scope) × (text0 : List ℕ) × (e ≡ expr.Name scope0 text0)
IsOf (node (unary op) ts) e = (op0 : UnOp) × (a0 : Box Expr Global) × (e ≡ expr.Unary op0 a0)
IsOf (node (binary op) ts) e = (op0 : BinOp) × (a0 : Box Expr Global) × (b0 : Box Expr Global) × (e ≡ expr.Binary op0 a0 b0)
IsOf (node all ts) e = (items0 : Exprs) × (e ≡ expr.And items0)
IsOf (node any ts) e = (items0 : Exprs) × (e ≡ expr.Or items0)
IsOf (node choice ts) e = (a0 : Box Expr Global) × (b0 : Box Expr Global) × (d0 : Box Expr Global) × (e ≡ expr.Cond a0 b0 d0)
IsOf (node (select text) ts) e = (a0 : Box Expr Global) × (text0 : List ℕ) × (e ≡ expr.Select a0 text0)
IsOf (node subscript ts) e = (a0 : Box Expr Global) × (b0 : Box Expr Global) × (e ≡ expr.Subscript a0 b0)
IsOf (node (call text) ts) e = (text0 : List ℕ) × (items0 : Box Exprs Global) × (e ≡ expr.Call text0 items0)
IsOf (node list ts) e = (items0 : Exprs) × (e ≡ expr.List items0)
IsOf (frame f) e = (f0 : ℕ) × (e ≡ expr.Frame f0)

-- so is each of its own tree
of_layer : (o : Expr-F Expr Exprs) → IsOf (tree (roll-Expr o)) (roll-Expr o)
of_layer (Expr-F.Literal lit) =
    subst (λ t. IsOf t (roll-Expr (Expr-F.Literal lit))) (sym (ap tree (expr.rolls-Literal lit) ∙ tree-Literal lit)) (lit, expr.rolls-Literal lit)
of_layer (Expr-F.Name scope text) =
    subst (λ t. IsOf t (roll-Expr (Expr-F.Name scope text))) (sym (ap tree (expr.rolls-Name scope text) ∙ tree-Name scope text))
    (scope, text, expr.rolls-Name scope text)
of_layer (Expr-F.Unary op a) =
    subst (λ t. IsOf t (roll-Expr (Expr-F.Unary op a))) (sym (ap tree (expr.rolls-Unary op a) ∙ tree-Unary op a)) (op, a, expr.rolls-Unary op a)
of_layer (Expr-F.Binary op a b) =
    subst (λ t. IsOf t (roll-Expr (Expr-F.Binary op a b))) (sym (ap tree (expr.rolls-Binary op a b) ∙ tree-Binary op a b)) (op, a, b, expr.rolls-Binary op a b)
of_layer (Expr-F.And items) =
    subst (λ t. IsOf t (roll-Expr (Expr-F.And items))) (sym (ap tree (expr.rolls-And items) ∙ tree-And items)) (items, expr.rolls-And items)
of_layer (Expr-F.Or items) =
    subst (λ t. IsOf t (roll-Expr (Expr-F.Or items))) (sym (ap tree (expr.rolls-Or items) ∙ tree-Or items)) (items, expr.rolls-Or items)
of_layer (Expr-F.Cond a b d) =
    subst (λ t. IsOf t (roll-Expr (Expr-F.Cond a b d))) (sym (ap tree (expr.rolls-Cond a b d) ∙ tree-Cond a b d)) (a, b, d, expr.rolls-Cond a b d)
of_layer (Expr-F.Select a text) =
    subst (λ t. IsOf t (roll-Expr (Expr-F.Select a text))) (sym (ap tree (expr.rolls-Select a text) ∙ tree-Select a text)) (a, text, expr.rolls-Select a text)
of_layer (Expr-F.Subscript a b) =
    subst (λ t. IsOf t (roll-Expr (Expr-F.Subscript a b))) (sym (ap tree (expr.rolls-Subscript a b) ∙ tree-Subscript a b)) (a, b, expr.rolls-Subscript a b)
of_layer (Expr-F.Call text items) =
    subst (λ t. IsOf t (roll-Expr (Expr-F.Call text items))) (sym (ap tree (expr.rolls-Call text items) ∙ tree-Call text items))
    (text, items, expr.rolls-Call text items)
of_layer (Expr-F.List items) =
    subst (λ t. IsOf t (roll-Expr (Expr-F.List items))) (sym (ap tree (expr.rolls-List items) ∙ tree-List items)) (items, expr.rolls-List items)
of_layer (Expr-F.Frame f) = subst (λ t. IsOf t (roll-Expr (Expr-F.Frame f))) (sym (ap tree (expr.rolls-Frame f) ∙ tree-Frame f)) (f, expr.rolls-Frame f)

is_of : (e : Expr) → IsOf (tree e) e
is_of = ind-Expr (λ e. IsOf (tree e) e) (λ l. Unit {0}) (λ o p is. of_layer o) (λ o p is. tt)

-- two expressions of which only one is of a kind
pub differ : (a b : Expr) (t : Tree) → tree a ≡ t → (IsOf t b → ⊥) → IsTrue false ↔ (tree a ≡ tree b)
differ a b t shape other = (λ wrong. absurd (cc), λ same. absurd (other (subst (λ u. IsOf u b) (sym same ∙ shape) (is_of b))))
