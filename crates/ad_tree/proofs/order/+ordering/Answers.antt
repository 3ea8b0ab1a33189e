use Rattle.std.proofs.Common.{arith, ap, subst, sym, take, ◌∙◌}
use Rattle.std.proofs.lemmas.List.{take_all}
use Rattle.ad_tree.specs.Tree.{pack, size, tree, trees}
use Rattle.ad_tree.specs.Inline.{defs_of, inlined_all, inside}
use Rattle.ad_tree.specs.Placed.{AreAllPlaced, AreDefinitionsPlaced}
use Rattle.ad_tree.specs.Table.{frame_of}
use Rattle.ad_tree.specs.Draft.{draft_frames}
use Rattle.ad_tree.proofs.Measures.{attributes_size-at, weight-at, levels-down}
use Rattle.ad_tree.proofs.OrderLemmas.{if_some, list-in_order, defs-in_order, frame-in_order}
use Rattle.ad_tree.proofs.PlacedLemmas.{next-placed, none-placed, one-placed, read-placed, frame_read-placed}
use Rattle.ad_tree.proofs.ReadLemmas.{node_of_none, node_of_one, node_of_two, node_of_list, read-Call, read-Cond}
use Rattle.ad_tree.proofs.TreeLemmas.{size-at, tree-Frame}
use Rattle.ad_tree.proofs.order.+ordering.Goals as goal

pub follow_two-returns : goal.follow_two-returns
follow_two-returns t c = if_some c.follow-2.result (λ after h. next-placed c.in_ok-next.ensures (one-placed h)) c.follow-2.ensures

pub follow_three-returns : goal.follow_three-returns
follow_three-returns t c = if_some c.follow_two.result (λ after h. next-placed c.in_ok-next.ensures h) c.follow_two.ensures

pub follow_all-follow-requires : goal.follow_all-follow-requires
follow_all-follow-requires t c = (omega (arith, c.decreases, size-at (trees c.args.list.now) c.loop-i.i (tree c.at.result.now) c.at.ensures), tt)

pub follow_all-loop-i-preserved : goal.follow_all-loop-i-preserved
follow_all-loop-i-preserved t c =
    list-in_order (inside (draft_frames c.args.draft.now) c.args.turns) (trees c.args.list.now) c.loop-i.i (tree c.at.result.now)
    c.at.ensures c.loop-i.invariant c.in_ok-after.ensures

pub follow_definitions-follow-requires : goal.follow_definitions-follow-requires
follow_definitions-follow-requires t c =
    (omega (arith, c.decreases, attributes_size-at (frame_of c.args.source.now).attributes c.loop-i.i _ c.at.ensures), tt)

pub follow_definitions-loop-i-preserved : goal.follow_definitions-loop-i-preserved
follow_definitions-loop-i-preserved t c =
    defs-in_order (inside (draft_frames c.args.draft.now) c.args.turns) (frame_of c.args.source.now).attributes c.loop-i.i
    c.at.result.now.name (tree c.at.result.now.expr)
    c.args.source.now.apart c.at.ensures c.loop-i.invariant c.in_ok-after.ensures

pub follow_frame-follow_definitions-requires : goal.follow_frame-follow_definitions-requires
follow_frame-follow_definitions-requires t c = (
  omega (
    arith,
    c.decreases,
    levels-down c.args.turns (draft_frames c.args.draft.now) (omega arith),
    weight-at (draft_frames c.args.draft.now) c.args.frame (frame_of c.in_ok-source.source.now) (sym c.in_ok-source.ensures),
  ),
  tt,
)

pub follow_frame-returns : goal.follow_frame-returns
follow_frame-returns t c =
    if_some c.follow_definitions.result
    (λ after h.
    frame-in_order (draft_frames c.args.draft.now) c.args.turns c.args.parent c.args.frame c.args.next (frame_of c.in_ok-source.source.now)
    c.if-turns-eq0.false c.if-frame-next.false c.in_ok-source.ensures c.if-source-parent.false h)
    c.follow_definitions.ensures

pub follow_parts-returns-in-Literal-2 : goal.follow_parts-returns-in-Literal-2
follow_parts-returns-in-Literal-2 t c =
    let is = node_of_none c.in-Literal.is in
    read-placed (inside (draft_frames c.args.draft.now) c.args.turns) is.read is.read (none-placed _)

pub follow_parts-follow-requires : goal.follow_parts-follow-requires
follow_parts-follow-requires t c = (omega (arith, c.decreases, ap size (node_of_one c.in-Unary.a c.in-Unary.is c.deref-in-Unary.ensures).read), tt)

pub follow_parts-returns-in-Unary : goal.follow_parts-returns-in-Unary
follow_parts-returns-in-Unary t c =
    let is = node_of_one c.in-Unary.a c.in-Unary.is c.deref-in-Unary.ensures in
    if_some c.follow.result (λ after h. read-placed (inside (draft_frames c.args.draft.now) c.args.turns) is.read is.read (one-placed h)) c.follow.ensures

pub follow_parts-follow_two-requires : goal.follow_parts-follow_two-requires
follow_parts-follow_two-requires t c = (
  omega (arith, c.decreases, ap size (node_of_two c.in-Binary.a c.in-Binary.b c.in-Binary.is c.deref-in-Binary.ensures c.deref-in-Binary-2.ensures).read),
  tt,
)

pub follow_parts-returns-in-Binary : goal.follow_parts-returns-in-Binary
follow_parts-returns-in-Binary t c =
    let is = node_of_two c.in-Binary.a c.in-Binary.b c.in-Binary.is c.deref-in-Binary.ensures c.deref-in-Binary-2.ensures in
    if_some c.follow_two.result (λ after h. read-placed (inside (draft_frames c.args.draft.now) c.args.turns) is.read is.read h) c.follow_two.ensures

pub follow_parts-follow_all-requires-in-And : goal.follow_parts-follow_all-requires-in-And
follow_parts-follow_all-requires-in-And t c = (omega (arith, c.decreases, ap size (node_of_list c.in-And.list c.in-And.is).read), tt)

pub follow_parts-returns-in-And : goal.follow_parts-returns-in-And
follow_parts-returns-in-And t c =
    let is = node_of_list c.in-And.list c.in-And.is in
    if_some c.follow_all-in-And.result (λ after h. read-placed (inside (draft_frames c.args.draft.now) c.args.turns) is.read is.read h)
    c.follow_all-in-And.ensures

pub follow_parts-follow_all-requires : goal.follow_parts-follow_all-requires
follow_parts-follow_all-requires t c = (omega (arith, c.decreases, ap size (read-Call c.in-Call.field-0 c.in-Call.list c.in-Call.is c.deref.ensures)), tt)

pub follow_parts-returns-in-Call : goal.follow_parts-returns-in-Call
follow_parts-returns-in-Call t c =
    let is = read-Call c.in-Call.field-0 c.in-Call.list c.in-Call.is c.deref.ensures in
    if_some c.follow_all.result (λ after h. read-placed (inside (draft_frames c.args.draft.now) c.args.turns) is is h) c.follow_all.ensures

pub follow_parts-follow_three-requires : goal.follow_parts-follow_three-requires
follow_parts-follow_three-requires t c = (
  omega (
    arith,
    c.decreases,
    ap size (read-Cond c.in-Cond.a c.in-Cond.b c.in-Cond.c c.in-Cond.is c.deref-in-Cond.ensures c.deref-in-Cond-2.ensures
        c.deref-in-Cond-3.ensures),
  ),
  tt,
)

pub follow_parts-returns-in-Cond : goal.follow_parts-returns-in-Cond
follow_parts-returns-in-Cond t c =
    let is = read-Cond c.in-Cond.a c.in-Cond.b c.in-Cond.c c.in-Cond.is c.deref-in-Cond.ensures c.deref-in-Cond-2.ensures c.deref-in-Cond-3.ensures in
    if_some c.follow_three.result (λ after h. read-placed (inside (draft_frames c.args.draft.now) c.args.turns) is is h) c.follow_three.ensures

pub follow_parts-follow_frame-requires : goal.follow_parts-follow_frame-requires
follow_parts-follow_frame-requires t c = (omega (arith, c.decreases, ap size (ap tree c.in-Frame.is ∙ tree-Frame c.in-Frame.frame)), tt)

pub follow_parts-returns-in-Frame : goal.follow_parts-returns-in-Frame
follow_parts-returns-in-Frame t c =
    let is = ap tree c.in-Frame.is ∙ tree-Frame c.in-Frame.frame in
    if_some c.follow_frame.result (λ after h. frame_read-placed (inside (draft_frames c.args.draft.now) c.args.turns) is is h) c.follow_frame.ensures

pub follow_all-returns : goal.follow_all-returns
follow_all-returns t c =
    subst
    (λ ts. AreAllPlaced c.args.parent (inlined_all (inside (draft_frames c.args.draft.now) c.args.turns) (pack ts)) (pack ts)
    (take c.args.next (draft_frames c.args.draft.now)) (take c.loop-i.after (draft_frames c.args.draft.now)))
    (take_all c.loop-i.i (trees c.args.list.now) (omega (arith, c.len-i-end.ensures, c.loop-i-test.false)))
    c.loop-i.invariant

pub follow_definitions-returns : goal.follow_definitions-returns
follow_definitions-returns t c =
    let source = frame_of c.args.source.now in
    subst
    (λ attributes. AreDefinitionsPlaced source.parent c.args.parent (defs_of (inside (draft_frames c.args.draft.now) c.args.turns) attributes)
    (record { parent = source.parent; attributes = attributes })
    (take c.args.next (draft_frames c.args.draft.now)) (take c.loop-i.after (draft_frames c.args.draft.now)))
    (take_all c.loop-i.i source.attributes (omega (arith, c.count-i-end.ensures, c.loop-i-test.false)))
    c.loop-i.invariant
