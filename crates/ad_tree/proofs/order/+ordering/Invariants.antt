use Rattle.std.proofs.Common.{◌+◌, ◌*◌, take}
use Rattle.ad_tree.specs.Tree.{tree, trees, pack, size, size_all}
use Rattle.ad_tree.specs.Inline.{inside, inlined_all, defs_of}
use Rattle.ad_tree.specs.Placed.{AreAllPlaced, AreDefinitionsPlaced}
use Rattle.ad_tree.specs.Table.{frame_of}
use Rattle.ad_tree.specs.Draft.{draft_frames}
use Rattle.ad_tree.proofs.Measures.{levels, attributes_size}
use Rattle.ad_tree.proofs.order.+ordering.Given as goal

abbrev pub decreases-follow : goal.decreases-follow
decreases-follow l = levels l.turns (draft_frames l.draft.now) + 4 * size (tree l.expr.now) + 1

abbrev pub decreases-follow_parts : goal.decreases-follow_parts
decreases-follow_parts l = levels l.turns (draft_frames l.draft.now) + 4 * size (tree l.expr.now)

abbrev pub decreases-follow_two : goal.decreases-follow_two
decreases-follow_two l = levels l.turns (draft_frames l.draft.now) + 4 * (size (tree l.a.now) + size (tree l.b.now)) + 2

abbrev pub decreases-follow_three : goal.decreases-follow_three
decreases-follow_three l =
    levels l.turns (draft_frames l.draft.now) + 4 * (size (tree l.exprs.0.now) + (size (tree l.exprs.1.now) + size (tree l.exprs.2.now))) + 3

abbrev pub decreases-follow_all : goal.decreases-follow_all
decreases-follow_all l = levels l.turns (draft_frames l.draft.now) + 4 * size_all (pack (trees l.list.now)) + 2

abbrev pub decreases-follow_frame : goal.decreases-follow_frame
decreases-follow_frame l = levels l.turns (draft_frames l.draft.now) + 3

abbrev pub decreases-follow_definitions : goal.decreases-follow_definitions
decreases-follow_definitions l = levels l.turns (draft_frames l.draft.now) + 4 * attributes_size (frame_of l.source.now).attributes + 2

abbrev pub invariant-follow_all-loop-i : goal.invariant-follow_all-loop-i
invariant-follow_all-loop-i l =
    AreAllPlaced l.parent (inlined_all (inside (draft_frames l.draft) l.turns) (pack (take l.i (trees l.list)))) (pack (take l.i (trees l.list)))
    (take l.initial.next (draft_frames l.draft)) (take l.after (draft_frames l.draft))

abbrev pub invariant-follow_definitions-loop-i : goal.invariant-follow_definitions-loop-i
invariant-follow_definitions-loop-i l =
    AreDefinitionsPlaced (frame_of l.source).parent l.parent (defs_of (inside (draft_frames l.draft) l.turns) (take l.i (frame_of l.source).attributes))
    (record { parent = (frame_of l.source).parent; attributes = take l.i (frame_of l.source).attributes })
    (take l.initial.next (draft_frames l.draft)) (take l.after (draft_frames l.draft))
