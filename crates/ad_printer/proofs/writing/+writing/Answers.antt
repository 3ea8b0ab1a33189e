use Rattle.std.proofs.Common.{arith, ◌++◌, [], ◌∷◌, codes, Some, sym, ◌∙◌, ap, append-nil}
use Rattle.ad_lexer.specs.Tokens.{blank}
use Rattle.ad_tree.specs.Ad.{ad_frames}
use Rattle.ad_tree.specs.Frames.{attributes_at}
use Rattle.ad_tree.specs.Tree.{tree, trees}
use Rattle.ad_tree.proofs.Measures.{levels-down}
use Rattle.ad_tree.proofs.TreeLemmas.{size-at, tree-And, tree-Or}
use Rattle.ad_printer.specs.Pieces.{then_space}
use Rattle.ad_printer.proofs.AddLemmas.{row_step, definition_step, and_arm, or_arm, call_text, list_text, definitions_text, no_turns_text, missing_text}
use Rattle.ad_printer.proofs.AddLemmas.{no_attributes_text, frame_text, attributes-weight, value-size}
use Rattle.ad_printer.proofs.writing.+writing.Goals as goal
use Rattle.ad_printer.proofs.writing.+writing.Goals.{write_frame-then-turns-eq0-via-then-turns-eq0}
use Rattle.ad_printer.proofs.writing.+writing.Goals.{write_frame-then-turns-eq0-via-else-turns-eq0+then-frame-frames}
use Rattle.ad_printer.proofs.writing.+writing.Goals.{write_frame-then-turns-eq0-via-else-turns-eq0+else-frame-frames+then-count-eq0}

pub write-returns-in-And : goal.write-returns-in-And
write-returns-in-And t c =
    and_arm (ad_frames c.args.ad.now) c.args.turns c.write_and.result (tree c.args.expr.now) (trees c.in-And.list) c.args.out.now.items
    c.write_and.new.out.items (ap tree c.in-And.is ∙ tree-And c.in-And.list) c.write_and.ensures

pub write-returns-in-Or : goal.write-returns-in-Or
write-returns-in-Or t c =
    or_arm (ad_frames c.args.ad.now) c.args.turns c.write_or.result (tree c.args.expr.now) (trees c.in-Or.list) c.args.out.now.items c.write_or.new.out.items
    (ap tree c.in-Or.is ∙ tree-Or c.in-Or.list) c.write_or.ensures

pub write_call-returns : goal.write_call-returns
write_call-returns t c =
    call_text (ad_frames c.args.ad.now) c.args.turns c.args.name.now (trees c.args.list.now) c.args.out.now.items c.add.new.out.items c.add-2.new.out.items
    c.write_row.new.out.items c.add-3.new.out.items
    c.in_ok-add.ensures c.in_ok-add-2.ensures c.in_ok-write_row.ensures c.in_ok-add-3.ensures

pub write_list-returns : goal.write_list-returns
write_list-returns t c =
    list_text (ad_frames c.args.ad.now) c.args.turns (trees c.args.list.now) c.args.out.now.items c.add-2.new.out.items c.write_row.new.out.items
    c.add-3.new.out.items
    (omega (arith, c.len.ensures, c.if-len-eq0.false)) c.in_ok-add-2.ensures c.in_ok-write_row.ensures c.in_ok-add-3.ensures

pub write_row-write_part-requires : goal.write_row-write_part-requires
write_row-write_part-requires t c = (omega (arith, c.decreases, size-at (trees c.args.list.now) 0 (tree c.at.result.now) c.at.ensures), tt)

pub write_row-write_part-requires-in-loop-i : goal.write_row-write_part-requires-in-loop-i
write_row-write_part-requires-in-loop-i t c =
    (omega (arith, c.decreases, size-at (trees c.args.list.now) c.loop-i.i (tree c.at-in-loop-i.result.now) c.at-in-loop-i.ensures), tt)

pub write_row-loop-i-preserved : goal.write_row-loop-i-preserved
write_row-loop-i-preserved t c =
    row_step (ad_frames c.args.ad.now) c.args.turns (blank c.args.divider.between.now ∷ []) c.args.divider.other (trees c.args.list.now) c.loop-i.i
    (tree c.at-in-loop-i.result.now) c.loop-i.out.items c.add_few.new.out.items c.write_part-in-loop-i.new.out.items _
    c.at-in-loop-i.ensures (c.in_ok-add_few.ensures ∙ ap (λ bytes. c.loop-i.out.items ++ bytes) (sym (append-nil c.args.divider.between.now)))
    c.in_ok-write_part-2.ensures c.loop-i.invariant

pub write_definitions-write_definition-requires : goal.write_definitions-write_definition-requires
write_definitions-write_definition-requires t c =
    (omega (arith, c.decreases, value-size (attributes_at (ad_frames c.args.ad.now) c.args.frame) 0 (tree c.expr.result.now) c.expr.ensures), tt)

pub write_definitions-write_definition-requires-in-loop-attr : goal.write_definitions-write_definition-requires-in-loop-attr
write_definitions-write_definition-requires-in-loop-attr t c = (
  omega (
    arith,
    c.decreases,
    value-size (attributes_at (ad_frames c.args.ad.now) c.args.frame) c.loop-attr.attr (tree
        c.expr-in-loop-attr.result.now) c.expr-in-loop-attr.ensures,
  ),
  tt,
)

pub write_definitions-loop-attr-preserved : goal.write_definitions-loop-attr-preserved
write_definitions-loop-attr-preserved t c =
    definition_step (ad_frames c.args.ad.now) c.args.turns (then_space (codes ";")) (attributes_at (ad_frames c.args.ad.now) c.args.frame) c.loop-attr.attr
    c.bytes-in-loop-attr.result.now (tree c.expr-in-loop-attr.result.now)
    c.loop-attr.out.items c.add.new.out.items c.write_definition-in-loop-attr.new.out.items _
    (c.name-in-loop-attr.ensures ∙ ap Some (sym c.bytes-in-loop-attr.ensures)) c.expr-in-loop-attr.ensures c.in_ok-add.ensures
    c.in_ok-write_definition-2.ensures c.loop-attr.invariant

pub write_definitions-returns : goal.write_definitions-returns
write_definitions-returns t c =
    definitions_text (ad_frames c.args.ad.now) c.args.turns (attributes_at (ad_frames c.args.ad.now) c.args.frame) c.bytes.result.now (tree c.expr.result.now)
    c.loop-attr.attr c.args.out.now.items c.write_definition.new.out.items c.loop-attr.out.items
    (c.name.ensures ∙ ap Some (sym c.bytes.ensures)) c.expr.ensures c.in_ok-write_definition.ensures c.loop-attr.invariant
    (omega (arith, c.count-attr-end.ensures, c.loop-attr-test.false))

pub write_frame-returns-then-turns-eq0 : goal.write_frame-returns-then-turns-eq0
write_frame-returns-then-turns-eq0 t c =
    elim c.then-turns-eq0.branch [
      | write_frame-then-turns-eq0-via-then-turns-eq0 w ↦ no_turns_text (ad_frames c.args.ad.now) c.args.turns c.args.frame c.args.out.now.items
          c.add.new.out.items (omega (arith, w.if-turns-eq0.true)) c.in_ok-add.ensures
      | write_frame-then-turns-eq0-via-else-turns-eq0+then-frame-frames w ↦
          missing_text (ad_frames c.args.ad.now) c.args.turns c.args.frame c.args.out.now.items c.add.new.out.items
          (omega (arith, w.frames.ensures, w.if-frame-frames.true)) c.in_ok-add.ensures
      | write_frame-then-turns-eq0-via-else-turns-eq0+else-frame-frames+then-count-eq0 w ↦
          no_attributes_text (ad_frames c.args.ad.now) c.args.turns c.args.frame c.args.out.now.items c.add.new.out.items
          (omega (arith, w.count.ensures, w.if-count-eq0.true)) c.in_ok-add.ensures
    ]

pub write_frame-write_definitions-requires : goal.write_frame-write_definitions-requires
write_frame-write_definitions-requires t c = (
  omega (
    arith,
    c.decreases,
    levels-down c.args.turns (ad_frames c.args.ad.now) (omega (arith, c.if-turns-eq0.false)),
    attributes-weight (ad_frames c.args.ad.now) c.args.frame,
  ),
  (omega (arith, c.frames.ensures, c.if-frame-frames.false), omega (arith, c.count.ensures, c.if-count-eq0.false)),
)

pub write_frame-returns : goal.write_frame-returns
write_frame-returns t c =
    frame_text (ad_frames c.args.ad.now) c.args.turns c.args.frame c.args.out.now.items c.add-2.new.out.items c.write_definitions.new.out.items
    c.add-3.new.out.items
    (omega (arith, c.if-turns-eq0.false)) (omega (arith, c.count.ensures, c.if-count-eq0.false)) c.in_ok-add-2.ensures c.in_ok-write_definitions.ensures
    c.in_ok-add-3.ensures
