use Rattle.std.proofs.Common.{◌≡◌, map, take}
use Rattle.std.specs.List.{filter_map}
use Rattle.ad_tree.specs.Tree.{tree}
use Rattle.eval_scope.specs.Shown.{world_of}
use Rattle.dock_match.specs.Late.{late_test}
use Rattle.dock_match.proofs.late.late_tests.Given as goal

-- the tests among the conjuncts so far
abbrev pub invariant-loop-conjunct : goal.invariant-loop-conjunct
invariant-loop-conjunct l =
    l.tests ≡ filter_map (late_test (world_of l.world)) (map (λ e. tree e.now) (take l.conjunct-index l.conjunct-items))
