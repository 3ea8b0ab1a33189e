-- The tests of a requirement: conjuncts that compare one attribute of the other side with a literal.
use Rattle.std.specs.Prelude.{ℕ, Bool, true, false, List, [], ◌∷◌, ◌++◌, map, Option, None, Some, if◌then◌else◌}
use Rattle.std.specs.List.{filter_map}
use Rattle.std.specs.Option.{option_and_then, option_map_or}
use Rattle.pool_text.specs.declared.language.Lit.{Lit}
use Rattle.pool_text.specs.declared.language.BinOp.{BinOp}
use Rattle.ad_tree.specs.declared.tree.Scope.{Scope}
use Rattle.ad_tree.specs.declared.request.Port.{Port}
use Rattle.ad_tree.specs.Tree.{Tree, Trees, node, none, more, literal, name, binary, all}
use Rattle.ad_tree.specs.Names.{has_name}
use Rattle.ad_tree.specs.Frames.{Frame, expr_at}
use Rattle.ad_tree.specs.Enclosing.{enclosed_expr, expr_named}
use Rattle.ad_tree.specs.Special.{requirement_of}
use Rattle.conjunct_plan.specs.declared.test.Test.{Test}

-- ---- conjuncts

-- the conjuncts of a chain of `&&` are those of its elements; any other expression is its own only conjunct
abbrev mutual
  pub conjuncts : Tree → List Tree
  conjuncts (node all ts) = conjuncts_of_all ts
  conjuncts t = t ∷ []

  pub conjuncts_of_all : Trees → List Tree
  conjuncts_of_all none = []
  conjuncts_of_all (more t ts) = conjuncts t ++ conjuncts_of_all ts

-- ---- what stands on a side of a test

-- an attribute of the other side, a literal, or anything else
pub data Side : Type 0 where
  named : List ℕ → Side
  constant : Lit → Side
  neither : Side

-- the name of the attribute that is asked for
abbrev pub name_of : Side → Option (List ℕ)
name_of (named n) = Some n
name_of side = None

-- an own attribute whose expression is a literal
abbrev pub own_side : Option Tree → Side
own_side (Some (node (literal lit) ts)) = constant lit
own_side found = neither

-- a bare name: an own attribute where there is one; else a label, which is no test, or an attribute of the other side
abbrev pub bare_side : List (List ℕ) → List ℕ → Option Tree → Side
bare_side labels n None = if has_name n labels then neither else named n
bare_side labels n (Some t) = own_side (Some t)

-- an expression that stands in frame f of an ad whose ports have these labels
abbrev pub side_of : List Frame → ℕ → List (List ℕ) → Tree → Side
side_of fs f labels (node (literal lit) ts) = constant lit
side_of fs f labels (node (name Scope.Target n) ts) = named n
side_of fs f labels (node (name Scope.My n) ts) = own_side (expr_named fs 0 n)
side_of fs f labels (node (name Scope.Bare n) ts) = bare_side labels n (enclosed_expr fs f n)
side_of fs f labels t = neither

-- ---- tests

-- the operators of tests
abbrev pub is_comparison : BinOp → Bool
is_comparison BinOp.Equal = true
is_comparison BinOp.Unequal = true
is_comparison BinOp.Same = true
is_comparison BinOp.NotSame = true
is_comparison BinOp.Less = true
is_comparison BinOp.AtMost = true
is_comparison BinOp.Greater = true
is_comparison BinOp.AtLeast = true
is_comparison op = false

-- an attribute of the other side compared with a literal, on either side of the operator
abbrev pub comparison_of : BinOp → Side → Side → Option Test
comparison_of op (named n) (constant lit) = if is_comparison op then Some (Test.Compare n op lit true) else None
comparison_of op (constant lit) (named n) = if is_comparison op then Some (Test.Compare n op lit false) else None
comparison_of op a b = None

-- an attribute of the other side alone
abbrev pub truth_of : Side → Option Test
truth_of (named n) = Some (Test.Truth n)
truth_of side = None

-- the test that a conjunct is, if it is one
abbrev pub test_of : List Frame → ℕ → List (List ℕ) → Tree → Option Test
test_of fs f labels (node (binary op) (more a (more b none))) = comparison_of op (side_of fs f labels a) (side_of fs f labels b)
test_of fs f labels t = truth_of (side_of fs f labels t)

-- the labels of ports
abbrev pub labels_of : List Port → List (List ℕ)
labels_of ports = map (λ port. port.label) ports

-- the expression of the requirement of frame f
abbrev pub requirement_expr : List Frame → ℕ → Option Tree
requirement_expr fs f = option_and_then (λ k. expr_at fs f k) (requirement_of fs f)

-- the conjuncts of the requirement of frame f, none where it has no requirement
abbrev pub conjuncts_at : List Frame → ℕ → List Tree
conjuncts_at fs f = option_map_or conjuncts (requirement_expr fs f) []

-- the tests of the requirement of frame f, in the order of the conjuncts
abbrev pub tests_of : List Frame → ℕ → List (List ℕ) → List Test
tests_of fs f labels = option_map_or (λ t. filter_map (test_of fs f labels) (conjuncts t)) (requirement_expr fs f) []
