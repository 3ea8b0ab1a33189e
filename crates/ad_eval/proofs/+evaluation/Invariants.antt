use Rattle.std.proofs.Common.{◌+◌, ◌*◌, drop, option_map}
use Rattle.ad_tree.specs.Tree.{pack, size, size_all, three, tree, trees}
use Rattle.ad_value.specs.Plain.{plain, plains}
use Rattle.ad_value.specs.Demands.{all_demanded}
use Rattle.ad_eval.specs.Chain.{chained, start}
use Rattle.ad_eval.specs.Kept.{Counts}
use Rattle.ad_eval.specs.Listed.{listed_with}
use Rattle.ad_eval.specs.Scene.{listed_in, results_in, world_in}
use Rattle.ad_eval.proofs.KeptLemmas.{IsPartly}
use Rattle.ad_eval.proofs.NodeLemmas.{values_and}
use Rattle.ad_eval.proofs.MeasureLemmas.{turn}
use Rattle.ad_eval.proofs.+evaluation.Given as goal

-- each reference is worth a turn through the world, and each node eight steps
abbrev pub decreases-evaluation::evaluate : goal.decreases-evaluation::evaluate
decreases-evaluation::evaluate g l = 8 * (l.scene.now.left * turn (world_in l.scene.now)) + 8 * size (tree l.expr.now)

abbrev pub decreases-evaluation::follow : goal.decreases-evaluation::follow
decreases-evaluation::follow g l = 8 * (l.scene.now.left * turn (world_in l.scene.now)) + 4

abbrev pub decreases-evaluation::attribute : goal.decreases-evaluation::attribute
decreases-evaluation::attribute g l = 8 * (l.scene.now.left * turn (world_in l.scene.now)) + 3

abbrev pub decreases-evaluation::known : goal.decreases-evaluation::known
decreases-evaluation::known g l = 8 * (l.scene.now.left * turn (world_in l.scene.now)) + 2

abbrev pub decreases-evaluation::enter : goal.decreases-evaluation::enter
decreases-evaluation::enter g l = 8 * (l.scene.now.left * turn (world_in l.scene.now)) + 1

abbrev pub decreases-operands::unary_operation : goal.decreases-operands::unary_operation
decreases-operands::unary_operation g l = 8 * (l.scene.now.left * turn (world_in l.scene.now)) + (8 * size (tree l.a.now) + 4)

abbrev pub decreases-operands::binary_operation : goal.decreases-operands::binary_operation
decreases-operands::binary_operation g l = 8 * (l.scene.now.left * turn (world_in l.scene.now)) + (8 * (size (tree l.a.now) + size (tree l.b.now)) + 4)

abbrev pub decreases-operands::selection : goal.decreases-operands::selection
decreases-operands::selection g l = 8 * (l.scene.now.left * turn (world_in l.scene.now)) + (8 * size (tree l.base.now) + 5)

abbrev pub decreases-operands::subscription : goal.decreases-operands::subscription
decreases-operands::subscription g l = 8 * (l.scene.now.left * turn (world_in l.scene.now)) + (8 * (size (tree l.base.now) + size (tree l.index.now)) + 5)

abbrev pub decreases-chains::list_literal : goal.decreases-chains::list_literal
decreases-chains::list_literal g l = 8 * (l.scene.now.left * turn (world_in l.scene.now)) + (8 * size_all (pack (trees l.items.now)) + 2)

abbrev pub decreases-chains::call_function : goal.decreases-chains::call_function
decreases-chains::call_function g l = 8 * (l.scene.now.left * turn (world_in l.scene.now)) + (8 * size_all (pack (trees l.items.now)) + 5)

abbrev pub decreases-chains::conditional : goal.decreases-chains::conditional
decreases-chains::conditional g l =
    8 * (l.scene.now.left * turn (world_in l.scene.now)) + (8 * size_all (three (tree l.condition.now) (tree l.first.now) (tree l.second.now)) + 3)

abbrev pub decreases-chains::all_of : goal.decreases-chains::all_of
decreases-chains::all_of g l = 8 * (l.scene.now.left * turn (world_in l.scene.now)) + (8 * size_all (pack (trees l.items.now)) + 1)

abbrev pub decreases-chains::chain : goal.decreases-chains::chain
decreases-chains::chain g l = 8 * (l.scene.now.left * turn (world_in l.scene.now)) + (8 * size_all (pack (trees l.items.now)) + 1)

-- what is evaluated of a chain, and what is left of it
abbrev pub invariant-chains::chain-loop-i : goal.invariant-chains::chain-loop-i
invariant-chains::chain-loop-i g l = record {
  partly : IsPartly (world_in l.scene) (λ n. chained l.kind (start l.kind) (results_in l.scene (pack (trees l.items)) n)) l.scene.left l.fn.guard l.guard
      (λ n. chained l.kind (plain l.so_far.value) (results_in l.scene (pack (drop l.i (trees l.items))) n)) l.so_far.height;
  counted : Counts (world_in l.scene) l.fn.entry l.entry l.fn.guard l.guard;
}

-- what is gathered of a list literal, and what is left of it
abbrev pub invariant-chains::list_literal-loop-i : goal.invariant-chains::list_literal-loop-i
invariant-chains::list_literal-loop-i g l = record {
  partly : IsPartly (world_in l.scene) (listed_in l.scene (pack (trees l.items))) l.scene.left l.fn.guard l.guard
      (λ n. option_map (listed_with l.all.values) (all_demanded (results_in l.scene (pack (drop l.i (trees l.items))) n))) l.all.height;
  counted : Counts (world_in l.scene) l.fn.entry l.entry l.fn.guard l.guard;
}

abbrev pub invariant-chains::all_of-loop-i : goal.invariant-chains::all_of-loop-i
invariant-chains::all_of-loop-i g l = record {
  partly : IsPartly (world_in l.scene) (λ n. all_demanded (results_in l.scene (pack (trees l.items)) n)) l.scene.left l.fn.guard l.guard
      (λ n. values_and (plains l.all.values) (all_demanded (results_in l.scene (pack (drop l.i (trees l.items))) n))) l.all.height;
  counted : Counts (world_in l.scene) l.fn.entry l.entry l.fn.guard l.guard;
}
