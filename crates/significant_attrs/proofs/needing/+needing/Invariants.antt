use Rattle.std.proofs.Common.{◌≡◌, ◌+◌, ◌*◌, ◌++◌, drop}
use Rattle.ad_tree.specs.Ad.{ad_frames}
use Rattle.ad_tree.specs.Frames.{attributes_at}
use Rattle.ad_tree.specs.Inline.{defs_of, inlined_all, inside}
use Rattle.ad_tree.specs.Tree.{pack, size, size_all, tree, trees}
use Rattle.ad_tree.proofs.Measures.{levels, attributes_size}
use Rattle.significant_attrs.specs.Names.{needed_in_all, needed_in_defs}
use Rattle.significant_attrs.proofs.needing.+needing.Given as goal

-- levels of frames first, then the trees that are left

abbrev pub decreases-add_needed : goal.decreases-add_needed
decreases-add_needed l = levels l.turns (ad_frames l.ad.now) + 4 * size (tree l.expr.now)

abbrev pub decreases-add_of_two : goal.decreases-add_of_two
decreases-add_of_two l = levels l.turns (ad_frames l.ad.now) + 4 * (size (tree l.a.now) + size (tree l.b.now)) + 1

abbrev pub decreases-add_of_three : goal.decreases-add_of_three
decreases-add_of_three l = levels l.turns (ad_frames l.ad.now) + 4 * (size (tree l.a.now) + (size (tree l.b.now) + size (tree l.c.now))) + 2

abbrev pub decreases-add_of_all : goal.decreases-add_of_all
decreases-add_of_all l = levels l.turns (ad_frames l.ad.now) + 4 * size_all (pack (trees l.list.now)) + 1

abbrev pub decreases-add_of_frame : goal.decreases-add_of_frame
decreases-add_of_frame l = levels l.turns (ad_frames l.ad.now) + 3

abbrev pub decreases-add_of_definitions : goal.decreases-add_of_definitions
decreases-add_of_definitions l = levels l.turns (ad_frames l.ad.now) + 4 * attributes_size (attributes_at (ad_frames l.ad.now) l.frame) + 1

-- what was added, and what is left

abbrev pub invariant-add_of_all-loop-i : goal.invariant-add_of_all-loop-i
invariant-add_of_all-loop-i l =
    l.names ++ needed_in_all (inlined_all (inside (ad_frames l.ad) l.turns) (pack (drop l.i (trees l.list))))
    ≡ l.initial.names ++ needed_in_all (inlined_all (inside (ad_frames l.ad) l.turns) (pack (trees l.list)))

abbrev pub invariant-add_of_definitions-loop-attr : goal.invariant-add_of_definitions-loop-attr
invariant-add_of_definitions-loop-attr l =
    l.names ++ needed_in_defs (defs_of (inside (ad_frames l.ad) l.turns) (drop l.attr (attributes_at (ad_frames l.ad) l.frame)))
    ≡ l.initial.names ++ needed_in_defs (defs_of (inside (ad_frames l.ad) l.turns) (attributes_at (ad_frames l.ad) l.frame))
