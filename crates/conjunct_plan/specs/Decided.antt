-- Which tests are decided against by the other side's literals.
use Rattle.std.specs.Prelude.{ℕ, Bool, true, false, not, List, [], Option, None, Some, ◌||◌}
use Rattle.std.specs.List.{filter_map, list_all, list_any}
use Rattle.std.specs.Option.{option_map, option_map_or}
use Rattle.ad_tree.specs.Tree.{Tree, node, literal}
use Rattle.ad_tree.specs.Frames.{Frame}
use Rattle.ad_tree.specs.Enclosing.{enclosed_expr}
use Rattle.ad_value.specs.Plain.{Plain, undefined, plain_of_lit}
use Rattle.ad_value.specs.Operators.{binary_value}
use Rattle.ad_value.specs.Logic.{is_true}
use Rattle.conjunct_plan.specs.declared.test.Test.{Test}
use Rattle.conjunct_plan.specs.declared.verdict.Verdict.{Verdict}
use Rattle.conjunct_plan.specs.Tests.{conjuncts, requirement_expr, test_of, tests_of}

-- what an attribute counts as: Undefined where it is absent, its literal, and nothing where its expression is anything else
abbrev pub counted : Option Tree → Option Plain
counted None = Some undefined
counted (Some (node (literal lit) ts)) = Some (plain_of_lit lit)
counted (Some t) = None

-- the name of the attribute that a test asks for
abbrev pub asked : Test → List ℕ
asked (Test.Truth n) = n
asked (Test.Compare n op lit attr_left) = n

-- the value of a test where its attribute has this value
abbrev pub value_with : Test → Plain → Plain
value_with (Test.Truth n) x = x
value_with (Test.Compare n op lit true) x = binary_value op x (plain_of_lit lit)
value_with (Test.Compare n op lit false) x = binary_value op (plain_of_lit lit) x

-- the value that a test has by frame f of the other side and the frames that enclose it, if it has one
abbrev pub test_value : Test → List Frame → ℕ → Option Plain
test_value test fs f = option_map (value_with test) (counted (enclosed_expr fs f (asked test)))

-- the test has a value that isn't true
abbrev pub is_decided : Test → List Frame → ℕ → Bool
is_decided test fs f = option_map_or (λ value. not (is_true value)) (test_value test fs f) false

-- some test of one side's frame is decided against by the other side's
abbrev pub rules_out : List Frame → ℕ → List (List ℕ) → List Frame → ℕ → Bool
rules_out fs f labels other g = list_any (λ test. is_decided test other g) (tests_of fs f labels)

-- a test is met: it has a value, and that is true
abbrev pub is_met : Test → List Frame → ℕ → Bool
is_met test fs f = option_map_or is_true (test_value test fs f) false

-- a conjunct is a test, and that is met
abbrev pub is_met_test : List Frame → ℕ → List (List ℕ) → List Frame → ℕ → Tree → Bool
is_met_test fs f labels other g t = option_map_or (λ test. is_met test other g) (test_of fs f labels t) false

-- one side's frame is met by the other's: it has a requirement, and each of its conjuncts is a test that is met
abbrev pub is_side_met : List Frame → ℕ → List (List ℕ) → List Frame → ℕ → Bool
is_side_met fs f labels other g = option_map_or (λ t. list_all (is_met_test fs f labels other g) (conjuncts t)) (requirement_expr fs f) false

-- what tests say, by whether one is decided against, and whether all are met
abbrev pub verdict_by : Bool → Bool → Verdict
verdict_by true met = Verdict.Against
verdict_by false true = Verdict.For
verdict_by false false = Verdict.Open

-- what the tests of one side's frame say by the other side's
abbrev pub verdict_of : List Frame → ℕ → List (List ℕ) → List Frame → ℕ → Verdict
verdict_of fs f labels other g = verdict_by (rules_out fs f labels other g) (is_side_met fs f labels other g)

-- the same of conjuncts alone
abbrev pub verdict_on : List Frame → ℕ → List (List ℕ) → List Frame → ℕ → List Tree → Verdict
verdict_on fs f labels other g ts =
    verdict_by (list_any (λ test. is_decided test other g) (filter_map (test_of fs f labels) ts)) (list_all (is_met_test fs f labels other g) ts)

-- the dock of a request at frame f, whose ports have these labels, and a resource is decided: so it is not true
abbrev pub is_dock_decided : List Frame → ℕ → List (List ℕ) → List Frame → Bool
is_dock_decided request f labels resource =
    rules_out request f labels resource 0 || rules_out resource 0 [] request f
