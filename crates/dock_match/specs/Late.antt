-- The tests that a port's requirement has by what is docked to the ports before it.
use Rattle.std.specs.Prelude.{ℕ, Bool, List, [], Option, None, Some}
use Rattle.std.specs.List.{filter_map, list_any}
use Rattle.std.specs.Option.{option_and_then, option_map_or, option_or}
use Rattle.pool_text.specs.declared.language.BinOp.{BinOp}
use Rattle.pool_text.specs.declared.language.Lit.{Lit}
use Rattle.ad_tree.specs.declared.tree.Scope.{Scope}
use Rattle.ad_tree.specs.Tree.{Tree, node, none, more, name, binary, select}
use Rattle.ad_tree.specs.Frames.{Frame}
use Rattle.ad_tree.specs.Enclosing.{expr_named}
use Rattle.eval_scope.specs.declared.found.Found.{Found}
use Rattle.eval_scope.specs.World.{PlainWorld, frames_of_ad, literal_of, next_side}
use Rattle.eval_scope.specs.Look.{find}
use Rattle.conjunct_plan.specs.declared.test.Test.{Test}
use Rattle.conjunct_plan.specs.Decided.{is_decided}
use Rattle.conjunct_plan.specs.Tests.{Side, comparison_of, conjuncts, constant, labels_of, requirement_expr, side_of}

-- the literal that an attribute counts as: Undefined where it is absent, and none where its expression is anything but a literal
abbrev pub literal_counted : Option Tree → Option Lit
literal_counted None = Some Lit.Undefined
literal_counted (Some t) = literal_of (Some t)

-- the literal of an attribute of the docked ad for which a label was found to stand
abbrev pub literal_in : PlainWorld → List ℕ → Found → Option Lit
literal_in w x (Found.Place place) = literal_counted (expr_named (frames_of_ad w place.ad) place.frame x)
literal_in w x found = None

-- the bare name that an expression is
abbrev pub bare_name : Tree → Option (List ℕ)
bare_name (node (name Scope.Bare n) ts) = Some n
bare_name t = None

-- the literal that an expression of the next port stands for, where it selects an attribute of a docked ad by the label of the ad's port
abbrev pub docked_literal : PlainWorld → Tree → Option Lit
docked_literal w (node (select x) (more a none)) = option_and_then (λ label. literal_in w x (find w (next_side w) Scope.Bare label)) (bare_name a)
docked_literal w t = None

-- what an expression of the next port is by the request alone
abbrev pub next_operand : PlainWorld → Tree → Side
next_operand w t = side_of w.request (next_side w).frame (labels_of w.ports) t

-- the test that compares a docked literal with an attribute of the other side, where an operand is such a literal: on the left or on the right
abbrev pub late_test_of : PlainWorld → BinOp → Tree → Tree → Option Test
late_test_of w op a b =
    option_or (option_and_then (λ lit. comparison_of op (constant lit) (next_operand w b)) (docked_literal w a))
    (option_and_then (λ lit. comparison_of op (next_operand w a) (constant lit)) (docked_literal w b))

-- the test that a conjunct of the next port is by what is docked
abbrev pub late_test : PlainWorld → Tree → Option Test
late_test w (node (binary op) (more a (more b none))) = late_test_of w op a b
late_test w t = None

-- the tests that the requirement of the next port has by what is docked, in the order of its conjuncts
abbrev pub late_tests : PlainWorld → List Test
late_tests w = option_map_or (λ t. filter_map (late_test w) (conjuncts t)) (requirement_expr w.request (next_side w).frame) []

-- the root of an ad decides against one of these tests
abbrev pub is_ruled_out : List Test → List Frame → Bool
is_ruled_out tests ad = list_any (λ test. is_decided test ad 0) tests
