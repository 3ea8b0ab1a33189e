use Rattle.std.proofs.Common.{◌≡◌, ◌+◌, ◌*◌, ◌++◌, [], ◌∷◌, codes, drop}
use Rattle.ad_lexer.specs.Tokens.{blank}
use Rattle.ad_tree.specs.Ad.{ad_frames}
use Rattle.ad_tree.specs.Frames.{attributes_at}
use Rattle.ad_tree.specs.Tree.{tree, trees, pack, size, size_all}
use Rattle.ad_tree.proofs.Measures.{levels, attributes_size}
use Rattle.ad_printer.specs.Pieces.{then_space}
use Rattle.ad_printer.proofs.AddLemmas.{rest_of_row, rest_of_definitions}
use Rattle.ad_printer.proofs.writing.+writing.Given as goal

-- levels of frames first, then the trees that are left

abbrev pub decreases-write : goal.decreases-write
decreases-write l = levels l.turns (ad_frames l.ad.now) + 4 * size (tree l.expr.now)

abbrev pub decreases-write_part : goal.decreases-write_part
decreases-write_part l = levels l.turns (ad_frames l.ad.now) + 4 * size (tree l.expr.now) + 1

abbrev pub decreases-write_unary : goal.decreases-write_unary
decreases-write_unary l = levels l.turns (ad_frames l.ad.now) + 4 * size (tree l.a.now) + 2

abbrev pub decreases-write_binary : goal.decreases-write_binary
decreases-write_binary l = levels l.turns (ad_frames l.ad.now) + 4 * (size (tree l.a.now) + size (tree l.b.now)) + 2

abbrev pub decreases-write_and : goal.decreases-write_and
decreases-write_and l = levels l.turns (ad_frames l.ad.now) + 4 * size_all (pack (trees l.list.now)) + 3

abbrev pub decreases-write_or : goal.decreases-write_or
decreases-write_or l = levels l.turns (ad_frames l.ad.now) + 4 * size_all (pack (trees l.list.now)) + 3

abbrev pub decreases-write_choice : goal.decreases-write_choice
decreases-write_choice l = levels l.turns (ad_frames l.ad.now) + 4 * (size (tree l.condition.now) + (size (tree l.first.now) + size (tree l.second.now))) + 2

abbrev pub decreases-write_selection : goal.decreases-write_selection
decreases-write_selection l = levels l.turns (ad_frames l.ad.now) + 4 * size (tree l.base.now) + 2

abbrev pub decreases-write_subscript : goal.decreases-write_subscript
decreases-write_subscript l = levels l.turns (ad_frames l.ad.now) + 4 * (size (tree l.base.now) + size (tree l.place.now)) + 2

abbrev pub decreases-write_call : goal.decreases-write_call
decreases-write_call l = levels l.turns (ad_frames l.ad.now) + 4 * size_all (pack (trees l.list.now)) + 3

abbrev pub decreases-write_list : goal.decreases-write_list
decreases-write_list l = levels l.turns (ad_frames l.ad.now) + 4 * size_all (pack (trees l.list.now)) + 3

abbrev pub decreases-write_row : goal.decreases-write_row
decreases-write_row l = levels l.turns (ad_frames l.ad.now) + 4 * size_all (pack (trees l.list.now)) + 2

abbrev pub decreases-write_frame : goal.decreases-write_frame
decreases-write_frame l = levels l.turns (ad_frames l.ad.now) + 3

abbrev pub decreases-write_definitions : goal.decreases-write_definitions
decreases-write_definitions l = levels l.turns (ad_frames l.ad.now) + 4 * attributes_size (attributes_at (ad_frames l.ad.now) l.frame) + 2

abbrev pub decreases-write_definition : goal.decreases-write_definition
decreases-write_definition l = levels l.turns (ad_frames l.ad.now) + 4 * size (tree l.expr.now) + 1

-- what is written, and the row that is left

abbrev pub invariant-write_row-loop-i : goal.invariant-write_row-loop-i
invariant-write_row-loop-i l =
    l.out.items ++ rest_of_row (ad_frames l.ad) l.turns (blank l.divider.between.now ∷ []) l.divider.other (drop l.i (trees l.list))
    ≡ l.initial.out.items ++ rest_of_row (ad_frames l.ad) l.turns (blank l.divider.between.now ∷ []) l.divider.other (drop 1 (trees l.list))

abbrev pub invariant-write_definitions-loop-attr : goal.invariant-write_definitions-loop-attr
invariant-write_definitions-loop-attr l =
    l.out.items ++ rest_of_definitions (ad_frames l.ad) l.turns (then_space (codes ";")) (drop l.attr (attributes_at (ad_frames l.ad) l.frame))
    ≡ l.initial.out.items ++ rest_of_definitions (ad_frames l.ad) l.turns (then_space (codes ";")) (drop 1 (attributes_at (ad_frames l.ad) l.frame))
