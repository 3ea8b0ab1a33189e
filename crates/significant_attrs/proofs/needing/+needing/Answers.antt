use Rattle.std.proofs.Common.{arith, refl}
use Rattle.ad_tree.specs.Ad.{ad_frames}
use Rattle.ad_tree.specs.Frames.{attributes_at}
use Rattle.ad_tree.specs.Inline.{defs_of, inlined, inlined_all, inside}
use Rattle.ad_tree.specs.Tree.{pack, tree, trees}
use Rattle.ad_tree.proofs.Measures.{levels-down}
use Rattle.ad_tree.proofs.TreeLemmas.{size-at}
use Rattle.significant_attrs.specs.Names.{needed_in, needed_in_all, needed_in_defs}
use Rattle.significant_attrs.proofs.AddLemmas.{added, attribute-added, attributes-weight, no_frame, no_turns, value-size}
use Rattle.significant_attrs.proofs.needing.+needing.Goals as goal
use Rattle.significant_attrs.proofs.needing.+needing.Goals.{add_of_frame-then-turns-eq0-via-then-turns-eq0}
use Rattle.significant_attrs.proofs.needing.+needing.Goals.{add_of_frame-then-turns-eq0-via-else-turns-eq0+then-frame-frames}

pub add_of_all-add_needed-requires : goal.add_of_all-add_needed-requires
add_of_all-add_needed-requires t c = (omega (arith, c.decreases, size-at (trees c.args.list.now) c.loop-i.i (tree c.at.result.now) c.at.ensures), tt)

pub add_of_all-loop-i-preserved : goal.add_of_all-loop-i-preserved
add_of_all-loop-i-preserved t c =
    added (λ ts. needed_in_all (inlined_all (inside (ad_frames c.args.ad.now) c.args.turns) (pack ts)))
    (λ u. needed_in (inlined (inside (ad_frames c.args.ad.now) c.args.turns) u)) (λ x xs. refl)
    (trees c.args.list.now) c.loop-i.i (tree c.at.result.now) c.loop-i.names c.add_needed.new.names _ c.at.ensures c.in_ok-add_needed.ensures c.loop-i.invariant

pub add_of_definitions-add_needed-requires : goal.add_of_definitions-add_needed-requires
add_of_definitions-add_needed-requires t c =
    (omega (arith, c.decreases, value-size (attributes_at (ad_frames c.args.ad.now) c.args.frame) c.loop-attr.attr (tree c.expr.result.now) c.expr.ensures), tt)

pub add_of_definitions-loop-attr-preserved : goal.add_of_definitions-loop-attr-preserved
add_of_definitions-loop-attr-preserved t c =
    attribute-added (λ attributes. needed_in_defs (defs_of (inside (ad_frames c.args.ad.now) c.args.turns) attributes))
    (λ u. needed_in (inlined (inside (ad_frames c.args.ad.now) c.args.turns) u)) (λ a rest. refl)
    (attributes_at (ad_frames c.args.ad.now) c.args.frame) c.loop-attr.attr (tree c.expr.result.now) c.loop-attr.names c.add_needed.new.names _ c.expr.ensures
    c.in_ok-add_needed.ensures c.loop-attr.invariant

pub add_of_frame-returns-then-turns-eq0 : goal.add_of_frame-returns-then-turns-eq0
add_of_frame-returns-then-turns-eq0 t c =
    elim c.then-turns-eq0.branch [
      | add_of_frame-then-turns-eq0-via-then-turns-eq0 w ↦ no_turns (ad_frames c.args.ad.now) c.args.turns c.args.frame c.args.names.now
          (omega (arith, w.if-turns-eq0.true))
      | add_of_frame-then-turns-eq0-via-else-turns-eq0+then-frame-frames w ↦
          no_frame (ad_frames c.args.ad.now) c.args.turns c.args.frame c.args.names.now (omega (arith, w.frames.ensures, w.if-frame-frames.true))
    ]

pub add_of_frame-add_of_definitions-requires : goal.add_of_frame-add_of_definitions-requires
add_of_frame-add_of_definitions-requires t c = (
  omega (
    arith,
    c.decreases,
    levels-down c.args.turns (ad_frames c.args.ad.now) (omega (arith, c.if-turns-eq0.false)),
    attributes-weight (ad_frames c.args.ad.now) c.args.frame,
  ),
  omega (arith, c.frames.ensures, c.if-frame-frames.false),
)
