use Rattle.std.proofs.Common.{arith, ◌∙◌, ap, sym, subst}
use Rattle.std.proofs.lemmas.List.{take_all}
use Rattle.ad_tree.specs.Tree.{node, literal, name, select, call, none, one, pack, size, tree, trees}
use Rattle.ad_tree.specs.Frames.{defined}
use Rattle.ad_tree.specs.Inline.{defs_of, inlined_all, inside, no_defs}
use Rattle.ad_tree.specs.Placed.{AreAllPlaced, HasDefined}
use Rattle.ad_tree.specs.Table.{frame_of}
use Rattle.ad_tree.specs.Draft.{draft_frames}
use Rattle.ad_tree.proofs.Measures.{attributes_size-at, weight-at, levels-down}
use Rattle.ad_tree.proofs.PlacedLemmas.{next-placed, none-placed, one-placed, new-defined, longer-placed, read-placed, frame_read-placed}
use Rattle.ad_tree.proofs.ReadLemmas.{read-Unary, read-Binary, read-Cond, read-Select, read-Subscript, read-Call}
use Rattle.ad_tree.proofs.TreeLemmas.{size-at, tree-Literal, tree-Name, tree-Unary, tree-Binary, tree-And, tree-Or, tree-Cond, tree-Select, tree-Subscript}
use Rattle.ad_tree.proofs.TreeLemmas.{tree-Call, tree-List, tree-Frame}
use Rattle.ad_tree.proofs.WalkLemmas.{list-placed, defs-defined, closed-placed, missing-placed, new-within, frame_opened}
use Rattle.ad_tree.proofs.placing.+placing.Goals as goal

pub place_two-returns : goal.place_two-returns
place_two-returns t c = next-placed c.in_ok-a.ensures (one-placed c.in_ok-b.ensures)

pub place_three-returns : goal.place_three-returns
place_three-returns t c = next-placed c.in_ok-a.ensures c.in_ok-b.ensures

pub place_all-place-requires : goal.place_all-place-requires
place_all-place-requires t c = (omega (arith, c.decreases, size-at (trees c.args.list.now) c.loop-i.i (tree c.at.result.now) c.at.ensures), tt)

pub place_all-loop-i-preserved : goal.place_all-loop-i-preserved
place_all-loop-i-preserved t c =
    list-placed (inside (draft_frames c.args.draft.now) c.args.turns) (trees c.args.list.now) c.loop-i.i (tree c.at.result.now)
    (trees c.loop-i.copies) (trees c.push.new.self) (tree c.in_ok-copy.copy)
    c.at.ensures c.in_ok-push.ensures.ok c.loop-i.invariant c.in_ok-copy.ensures

pub place-returns-in_ok-copy_literal-in-Literal : goal.place-returns-in_ok-copy_literal-in-Literal
place-returns-in_ok-copy_literal-in-Literal t c =
    read-placed (inside (draft_frames c.args.draft.now) c.args.turns)
    (ap tree c.in-Literal.is ∙ tree-Literal c.in-Literal.literal)
    (tree-Literal c.in_ok-copy_literal-in-Literal.field-0 ∙ ap (λ l. node (literal l) none) c.in_ok-copy_literal-in-Literal.ensures)
    (none-placed _)

pub place-returns-in_ok-copy-in-Name : goal.place-returns-in_ok-copy-in-Name
place-returns-in_ok-copy-in-Name t c =
    read-placed (inside (draft_frames c.args.draft.now) c.args.turns)
    (ap tree c.in-Name.is ∙ tree-Name c.in-Name.scope c.in-Name.name)
    (tree-Name c.in-Name.scope c.in_ok-copy-in-Name.field-0 ∙ ap (λ n. node (name c.in-Name.scope n) none) c.in_ok-copy-in-Name.ensures.text)
    (none-placed _)

pub place-place_boxed-requires : goal.place-place_boxed-requires
place-place_boxed-requires t c = (omega (arith, c.decreases, ap size (read-Unary c.in-Unary.op c.in-Unary.a c.in-Unary.is c.deref.ensures)), tt)

pub place-returns-in_ok-place_boxed-in-Unary : goal.place-returns-in_ok-place_boxed-in-Unary
place-returns-in_ok-place_boxed-in-Unary t c =
    read-placed (inside (draft_frames c.args.draft.now) c.args.turns)
    (read-Unary c.in-Unary.op c.in-Unary.a c.in-Unary.is c.deref.ensures)
    (tree-Unary c.in-Unary.op c.in_ok-place_boxed-in-Unary.field-0)
    (one-placed c.in_ok-place_boxed-in-Unary.ensures)

pub place-place_two-requires : goal.place-place_two-requires
place-place_two-requires t c = (
  omega (
    arith,
    c.decreases,
    ap size (read-Binary c.in-Binary.op c.in-Binary.a c.in-Binary.b c.in-Binary.is c.deref-in-Binary.ensures
        c.deref-in-Binary-2.ensures),
  ),
  tt,
)

pub place-returns-in_ok-a-in-Binary : goal.place-returns-in_ok-a-in-Binary
place-returns-in_ok-a-in-Binary t c =
    read-placed (inside (draft_frames c.args.draft.now) c.args.turns)
    (read-Binary c.in-Binary.op c.in-Binary.a c.in-Binary.b c.in-Binary.is c.deref-in-Binary.ensures c.deref-in-Binary-2.ensures)
    (tree-Binary c.in-Binary.op c.in_ok-a-in-Binary.a c.in_ok-a-in-Binary.b)
    (c.in_ok-a-in-Binary.ensures)

pub place-place_all-requires : goal.place-place_all-requires
place-place_all-requires t c = (omega (arith, c.decreases, ap size (ap tree c.in-And.is ∙ tree-And c.in-And.list)), tt)

pub place-returns-in_ok-place_all-in-And : goal.place-returns-in_ok-place_all-in-And
place-returns-in_ok-place_all-in-And t c =
    read-placed (inside (draft_frames c.args.draft.now) c.args.turns)
    (ap tree c.in-And.is ∙ tree-And c.in-And.list)
    (tree-And c.in_ok-place_all-in-And.field-0)
    (c.in_ok-place_all-in-And.ensures)

pub place-place_all-requires-in-Or : goal.place-place_all-requires-in-Or
place-place_all-requires-in-Or t c = (omega (arith, c.decreases, ap size (ap tree c.in-Or.is ∙ tree-Or c.in-Or.list)), tt)

pub place-returns-in_ok-place_all-in-Or : goal.place-returns-in_ok-place_all-in-Or
place-returns-in_ok-place_all-in-Or t c =
    read-placed (inside (draft_frames c.args.draft.now) c.args.turns)
    (ap tree c.in-Or.is ∙ tree-Or c.in-Or.list)
    (tree-Or c.in_ok-place_all-in-Or.field-0)
    (c.in_ok-place_all-in-Or.ensures)

pub place-place_all-requires-in-List : goal.place-place_all-requires-in-List
place-place_all-requires-in-List t c = (omega (arith, c.decreases, ap size (ap tree c.in-List.is ∙ tree-List c.in-List.list)), tt)

pub place-returns-in_ok-place_all-in-List : goal.place-returns-in_ok-place_all-in-List
place-returns-in_ok-place_all-in-List t c =
    read-placed (inside (draft_frames c.args.draft.now) c.args.turns)
    (ap tree c.in-List.is ∙ tree-List c.in-List.list)
    (tree-List c.in_ok-place_all-in-List.field-0)
    (c.in_ok-place_all-in-List.ensures)

pub place-place_three-requires : goal.place-place_three-requires
place-place_three-requires t c = (
  omega (
    arith,
    c.decreases,
    ap size (read-Cond c.in-Cond.a c.in-Cond.b c.in-Cond.c c.in-Cond.is c.deref-in-Cond.ensures c.deref-in-Cond-2.ensures
        c.deref-in-Cond-3.ensures),
  ),
  tt,
)

pub place-returns-in_ok-a-in-Cond : goal.place-returns-in_ok-a-in-Cond
place-returns-in_ok-a-in-Cond t c =
    read-placed (inside (draft_frames c.args.draft.now) c.args.turns)
    (read-Cond c.in-Cond.a c.in-Cond.b c.in-Cond.c c.in-Cond.is c.deref-in-Cond.ensures c.deref-in-Cond-2.ensures c.deref-in-Cond-3.ensures)
    (tree-Cond c.in_ok-a-in-Cond.a c.in_ok-a-in-Cond.b c.in_ok-a-in-Cond.c)
    (c.in_ok-a-in-Cond.ensures)

pub place-place_boxed-requires-in-Select : goal.place-place_boxed-requires-in-Select
place-place_boxed-requires-in-Select t c =
    (omega (arith, c.decreases, ap size (read-Select c.in-Select.a c.in-Select.name c.in-Select.is c.deref-in-Select.ensures)), tt)

pub place-returns-in_ok-copy-in-Select : goal.place-returns-in_ok-copy-in-Select
place-returns-in_ok-copy-in-Select t c =
    read-placed (inside (draft_frames c.args.draft.now) c.args.turns)
    (read-Select c.in-Select.a c.in-Select.name c.in-Select.is c.deref-in-Select.ensures)
    (tree-Select c.in_ok-a-in-Select.a c.in_ok-copy-in-Select.field-0
    ∙ ap (λ n. node (select n) (one (tree c.in_ok-a-in-Select.a.value))) c.in_ok-copy-in-Select.ensures.text)
    (one-placed c.in_ok-a-in-Select.ensures)

pub place-place_two-requires-in-Subscript : goal.place-place_two-requires-in-Subscript
place-place_two-requires-in-Subscript t c = (
  omega (
    arith,
    c.decreases,
    ap size (read-Subscript c.in-Subscript.a c.in-Subscript.b c.in-Subscript.is c.deref-in-Subscript.ensures
        c.deref-in-Subscript-2.ensures),
  ),
  tt,
)

pub place-returns-in_ok-a-in-Subscript : goal.place-returns-in_ok-a-in-Subscript
place-returns-in_ok-a-in-Subscript t c =
    read-placed (inside (draft_frames c.args.draft.now) c.args.turns)
    (read-Subscript c.in-Subscript.a c.in-Subscript.b c.in-Subscript.is c.deref-in-Subscript.ensures c.deref-in-Subscript-2.ensures)
    (tree-Subscript c.in_ok-a-in-Subscript.a c.in_ok-a-in-Subscript.b)
    (c.in_ok-a-in-Subscript.ensures)

pub place-place_all-requires-in-Call : goal.place-place_all-requires-in-Call
place-place_all-requires-in-Call t c = (omega (arith, c.decreases, ap size (read-Call c.in-Call.name c.in-Call.list c.in-Call.is c.deref-in-Call.ensures)), tt)

pub place-returns-in_ok-new-in-Call : goal.place-returns-in_ok-new-in-Call
place-returns-in_ok-new-in-Call t c =
    let made = c.in_ok-new-in-Call.field-0 in
    read-placed (inside (draft_frames c.args.draft.now) c.args.turns)
    (read-Call c.in-Call.name c.in-Call.list c.in-Call.is c.deref-in-Call.ensures)
    (tree-Call c.in_ok-copy-in-Call.field-0 made
    ∙ ap (λ n. node (call n) (pack (trees made.value))) c.in_ok-copy-in-Call.ensures.text
    ∙ ap (λ list. node (call c.in-Call.name) (pack (trees list))) c.in_ok-new-in-Call.ensures.ok)
    (c.in_ok-list-in-Call.ensures)

pub place-open-requires : goal.place-open-requires
place-open-requires t c = (omega (arith, c.decreases, ap size (ap tree c.in-Frame.is ∙ tree-Frame c.in-Frame.frame)), tt)

pub place-returns-in_ok-open-in-Frame : goal.place-returns-in_ok-open-in-Frame
place-returns-in_ok-open-in-Frame t c =
    frame_read-placed (inside (draft_frames c.args.draft.now) c.args.turns)
    (ap tree c.in-Frame.is ∙ tree-Frame c.in-Frame.frame)
    (tree-Frame c.in_ok-open-in-Frame.field-0)
    c.in_ok-open-in-Frame.ensures

pub place_definitions-loop-i-init : goal.place_definitions-loop-i-init
place_definitions-loop-i-init t c =
    record { within = c.requires; defined = λ parent before at is. subst (HasDefined parent no_defs before) (sym is) (new-defined parent before) }

pub place_definitions-place-requires : goal.place_definitions-place-requires
place_definitions-place-requires t c =
    (omega (arith, c.decreases, attributes_size-at (frame_of c.args.source.now).attributes c.loop-i.i _ c.at-attribute.ensures), tt)

pub place_definitions-define-requires : goal.place_definitions-define-requires
place_definitions-define-requires t c = omega (arith, c.loop-i.invariant.within, longer-placed c.in_ok-expr.ensures)

pub place_definitions-loop-i-preserved : goal.place_definitions-loop-i-preserved
place_definitions-loop-i-preserved t c =
    record {
      within = omega (arith, c.loop-i.invariant.within, longer-placed c.in_ok-expr.ensures, c.in_ok-define.ensures.len);
      defined = λ parent before at is.
          defs-defined (inside (draft_frames c.args.draft.now) c.args.turns) (frame_of c.args.source.now).attributes c.loop-i.i
          c.at-attribute.result.now.name (tree c.at-attribute.result.now.expr) (tree c.in_ok-expr.expr) c.args.at at
          c.at-attribute.ensures
          (c.loop-i.invariant.defined parent before at is)
          c.in_ok-expr.ensures
          (c.in_ok-define.ensures.ok ∙ ap (λ name. defined (draft_frames c.place.new.out) c.args.at name (tree c.in_ok-expr.expr)) c.in_ok-name.ensures.text);
    }

pub open-returns-then-turns-eq0 : goal.open-returns-then-turns-eq0
open-returns-then-turns-eq0 t c =
    closed-placed c.args.parent c.in_ok-at.at (draft_frames c.args.draft.now) c.args.turns c.args.frame
    c.in_ok-at.ensures.number c.if-turns-eq0.true c.in_ok-at.ensures.ok

pub open-returns-in_default : goal.open-returns-in_default
open-returns-in_default t c =
    missing-placed c.args.parent c.in_ok-at.at (draft_frames c.args.draft.now) c.args.turns c.args.frame
    c.in_ok-at.ensures.number c.in_default.ensures c.in_ok-at.ensures.ok

pub open-place_definitions-requires : goal.open-place_definitions-requires
open-place_definitions-requires t c = (
  omega (
    arith,
    c.decreases,
    levels-down c.args.turns (draft_frames c.args.draft.now) (omega arith),
    weight-at (draft_frames c.args.draft.now) c.args.frame (frame_of c.in-Some.source.now) (sym c.in-Some.ensures),
  ),
  new-within c.args.parent (draft_frames c.args.out.now) c.in_ok-at.ensures.number c.in_ok-at.ensures.ok,
)

pub open-returns : goal.open-returns
open-returns t c =
    frame_opened c.args.parent c.in_ok-at.at (draft_frames c.args.draft.now) c.args.turns c.args.frame (frame_of c.in-Some.source.now)
    c.in_ok-at.ensures.number
    c.if-turns-eq0.false
    c.in-Some.ensures
    (c.in_ok-place_definitions.ensures c.args.parent (draft_frames c.args.out.now) c.in_ok-at.ensures.number c.in_ok-at.ensures.ok)

pub place_all-returns : goal.place_all-returns
place_all-returns t c =
    subst
    (λ ts. AreAllPlaced c.args.parent (inlined_all (inside (draft_frames c.args.draft.now) c.args.turns) (pack ts)) (pack (trees c.loop-i.copies))
    (draft_frames c.args.out.now) (draft_frames c.loop-i.out))
    (take_all c.loop-i.i (trees c.args.list.now) (omega (arith, c.len-i-end.ensures, c.loop-i-test.false)))
    c.loop-i.invariant

pub place_definitions-returns : goal.place_definitions-returns
place_definitions-returns t c =
    λ parent before at is.
    subst (λ attributes. HasDefined parent (defs_of (inside (draft_frames c.args.draft.now) c.args.turns) attributes) before (draft_frames c.loop-i.out))
    (take_all c.loop-i.i (frame_of c.args.source.now).attributes (omega (arith, c.count-i-end.ensures, c.loop-i-test.false)))
    (c.loop-i.invariant.defined parent before at is)
