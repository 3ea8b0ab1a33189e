use Rattle.std.proofs.Common.{◌≡◌, ◌<◌, ◌+◌, ◌*◌, ℕ, List, [], ◌∷◌, ◌++◌, length, take}
use Rattle.ad_tree.specs.Tree.{tree, trees, pack, size, size_all}
use Rattle.ad_tree.specs.Inline.{inside, inlined_all, defs_of}
use Rattle.ad_tree.specs.Frames.{Frame, empty_frame}
use Rattle.ad_tree.specs.Placed.{AreAllPlaced, HasDefined}
use Rattle.ad_tree.specs.Table.{frame_of}
use Rattle.ad_tree.specs.Draft.{draft_frames}
use Rattle.ad_tree.proofs.Measures.{levels, attributes_size}
use Rattle.ad_tree.proofs.placing.+placing.Given as goal

abbrev pub decreases-open : goal.decreases-open
decreases-open l = levels l.turns (draft_frames l.draft.now) + 3

abbrev pub decreases-place : goal.decreases-place
decreases-place l = levels l.turns (draft_frames l.draft.now) + 4 * size (tree l.expr.now)

abbrev pub decreases-place_boxed : goal.decreases-place_boxed
decreases-place_boxed l = levels l.turns (draft_frames l.draft.now) + 4 * size (tree l.expr.now) + 1

abbrev pub decreases-place_two : goal.decreases-place_two
decreases-place_two l = levels l.turns (draft_frames l.draft.now) + 4 * (size (tree l.a.now) + size (tree l.b.now)) + 2

abbrev pub decreases-place_three : goal.decreases-place_three
decreases-place_three l =
    levels l.turns (draft_frames l.draft.now) + 4 * (size (tree l.exprs.0.now) + (size (tree l.exprs.1.now) + size (tree l.exprs.2.now))) + 3

abbrev pub decreases-place_all : goal.decreases-place_all
decreases-place_all l = levels l.turns (draft_frames l.draft.now) + 4 * size_all (pack (trees l.list.now)) + 1

abbrev pub decreases-place_definitions : goal.decreases-place_definitions
decreases-place_definitions l = levels l.turns (draft_frames l.draft.now) + 4 * attributes_size (frame_of l.source.now).attributes + 1

abbrev pub invariant-place_all-loop-i : goal.invariant-place_all-loop-i
invariant-place_all-loop-i l =
    AreAllPlaced l.parent (inlined_all (inside (draft_frames l.draft) l.turns) (pack (take l.i (trees l.list)))) (pack (trees l.copies))
    (draft_frames l.initial.out) (draft_frames l.out)

abbrev pub invariant-place_definitions-loop-i : goal.invariant-place_definitions-loop-i
invariant-place_definitions-loop-i l = record {
  within : l.at < length (draft_frames l.out);
  defined : (parent : ℕ) (before : List Frame) → l.at ≡ length before → draft_frames l.initial.out ≡ before ++ empty_frame parent ∷ []
      → HasDefined parent (defs_of (inside (draft_frames l.draft) l.turns) (take l.i (frame_of l.source).attributes)) before (draft_frames l.out);
}
