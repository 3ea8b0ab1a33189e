-- The tests of a requirement that are found once.
use Rattle.std.specs.Prelude.{◌≡◌, ℕ, Bool, true, false, ◌&&◌, List, map}
use Rattle.std.specs.List.{filter_map, list_all, list_any}
use Rattle.std.specs.Option.{option_map_or}
use Rattle.ad_tree.specs.Frames.{Frame}
use Rattle.ad_tree.specs.Tree.{Tree}
use Rattle.conjunct_plan.specs.declared.side_plan.SidePlan.{SidePlan}
use Rattle.conjunct_plan.specs.declared.test.Test.{Test}
use Rattle.conjunct_plan.specs.declared.verdict.Verdict.{Verdict}
use Rattle.conjunct_plan.specs.Decided.{is_decided, is_met, verdict_by}
use Rattle.conjunct_plan.specs.Seen.{test_seen}
use Rattle.conjunct_plan.specs.Tests.{conjuncts, requirement_expr, test_of, tests_of}

-- a conjunct is a test
abbrev pub is_test : List Frame → ℕ → List (List ℕ) → Tree → Bool
is_test fs f labels t = option_map_or (λ test. true) (test_of fs f labels t) false

-- frame f has a requirement, and each of its conjuncts is a test
abbrev pub has_tests_alone : List Frame → ℕ → List (List ℕ) → Bool
has_tests_alone fs f labels = option_map_or (λ t. list_all (is_test fs f labels) (conjuncts t)) (requirement_expr fs f) false

-- a plan has the tests among these conjuncts, and tells whether all are tests
abbrev pub ArePlanned : SidePlan → List Frame → ℕ → List (List ℕ) → List Tree → Type 0
ArePlanned plan fs f labels ts =
    (map test_seen plan.tests.items ≡ filter_map (test_of fs f labels) ts) × (plan.is_whole ≡ list_all (is_test fs f labels) ts)

-- a plan is that of frame f: it has the tests of its requirement, and tells whether it has no other conjuncts
abbrev pub IsPlanOf : SidePlan → List Frame → ℕ → List (List ℕ) → Type 0
IsPlanOf plan fs f labels = (map test_seen plan.tests.items ≡ tests_of fs f labels) × (plan.is_whole ≡ has_tests_alone fs f labels)

-- what tests say, where `met` tells whether all that stands beside them is met
abbrev pub verdict_by_all : List Frame → ℕ → Bool → List Test → Verdict
verdict_by_all other g met tests = verdict_by (list_any (λ test. is_decided test other g) tests) (met && list_all (λ test. is_met test other g) tests)
