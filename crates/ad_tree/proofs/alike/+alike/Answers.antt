use Rattle.std.proofs.Common.{ap, arith, refl, sym, ◌∙◌}
use Rattle.std.specs.Cmp.Lexicographic.{same_text}
use Rattle.ad_tree.specs.Tree.{all, any, binary, call, choice, frame, list, literal, name, node, none, one, pack, select, subscript, three, tree, trees, two}
use Rattle.ad_tree.specs.Tree.{unary}
use Rattle.ad_tree.proofs.TreeLemmas.{size-at, tree-And, tree-Binary, tree-Call, tree-Cond, tree-Frame, tree-List, tree-Literal, tree-Name, tree-Or}
use Rattle.ad_tree.proofs.TreeLemmas.{tree-Select, tree-Subscript, tree-Unary}
use Rattle.ad_tree.proofs.DifferLemmas.{differ}
use Rattle.ad_tree.proofs.SameLemmas.{same-more, same-nodes}
use Rattle.ad_tree.proofs.alike.+alike.Goals as goal

pub same_all-same_expr-requires : goal.same_all-same_expr-requires
same_all-same_expr-requires t c =
    let smaller = size-at (trees c.args.a.now) c.loop-i.i (tree c.at.result.now) c.at.ensures in
    (omega arith, tt)

pub same_all-loop-i-preserved : goal.same_all-loop-i-preserved
same_all-loop-i-preserved t c =
    same-more (trees c.args.a.now) (trees c.args.b.now) c.loop-i.i (tree c.at.result.now) (tree c.at-in-loop-i.result.now) c.loop-i.invariant c.at.ensures
    c.at-in-loop-i.ensures (c.if-not-same_expr.ensures.0 refl)

pub same_expr-returns-in-And-And : goal.same_expr-returns-in-And-And
same_expr-returns-in-And-And t c =
    let both = c.in-And-And in
    rw (both.is-0, both.is-1, tree-And both.x, tree-And both.y) (same-nodes all (trees both.x) (trees both.y) c.same_all.result c.same_all.ensures)

pub same_expr-returns-in-Or-Or : goal.same_expr-returns-in-Or-Or
same_expr-returns-in-Or-Or t c =
    let both = c.in-Or-Or in
    rw (both.is-0, both.is-1, tree-Or both.x, tree-Or both.y)
    (same-nodes any (trees both.x) (trees both.y) c.same_all-in-Or-Or.result c.same_all-in-Or-Or.ensures)

pub same_expr-returns-then-eq-2 : goal.same_expr-returns-then-eq-2
same_expr-returns-then-eq-2 t c =
    let both = c.in-Call-Call in
    let called = same_text both.x both.y (sym c.if-eq-2.true ∙ c.eq-in-Call-Call.ensures) in
    let here = c.deref-then-eq-2-2 in
    let there = c.deref-then-eq-2-3 in
    rw (both.is-0, both.is-1, tree-Call both.x both.v, tree-Call both.y both.w, called, ← here.ensures, ← there.ensures)
    (same-nodes (call both.y) (trees here.result.now) (trees there.result.now) c.same_all-then-eq-2.result c.same_all-then-eq-2.ensures)

pub same_expr-returns-in-List-List : goal.same_expr-returns-in-List-List
same_expr-returns-in-List-List t c =
    let both = c.in-List-List in
    rw (both.is-0, both.is-1, tree-List both.x, tree-List both.y)
    (same-nodes list (trees both.x) (trees both.y) c.same_all-in-List-List.result c.same_all-in-List-List.ensures)

pub same_expr-returns-in_default : goal.same_expr-returns-in_default
same_expr-returns-in_default t c =
    differ c.args.a.now c.args.b.now (node (literal c.in_default.field-0-0) none) (ap tree c.in_default.is-0 ∙ tree-Literal c.in_default.field-0-0)
    (λ of. c.in_default.not-Literal-1 of.0 of.1)

pub same_expr-returns-in_default-2 : goal.same_expr-returns-in_default-2
same_expr-returns-in_default-2 t c =
    differ c.args.a.now c.args.b.now (node (name c.in_default.field-0-0 c.in_default.field-1-0) none)
    (ap tree c.in_default.is-0 ∙ tree-Name c.in_default.field-0-0 c.in_default.field-1-0) (λ of. c.in_default.not-Name-1 of.0 of.1 of.2)

pub same_expr-returns-in_default-3 : goal.same_expr-returns-in_default-3
same_expr-returns-in_default-3 t c =
    differ c.args.a.now c.args.b.now (node (unary c.in_default.field-0-0) (one (tree c.in_default.field-1-0.value)))
    (ap tree c.in_default.is-0 ∙ tree-Unary c.in_default.field-0-0 c.in_default.field-1-0) (λ of. c.in_default.not-Unary-1 of.0 of.1 of.2)

pub same_expr-returns-in_default-4 : goal.same_expr-returns-in_default-4
same_expr-returns-in_default-4 t c =
    differ c.args.a.now c.args.b.now (node (binary c.in_default.field-0-0) (two (tree c.in_default.field-1-0.value) (tree c.in_default.field-2-0.value)))
    (ap tree c.in_default.is-0 ∙ tree-Binary c.in_default.field-0-0 c.in_default.field-1-0 c.in_default.field-2-0)
    (λ of. c.in_default.not-Binary-1 of.0 of.1 of.2 of.3)

pub same_expr-returns-in_default-5 : goal.same_expr-returns-in_default-5
same_expr-returns-in_default-5 t c =
    differ c.args.a.now c.args.b.now (node all (pack (trees c.in_default.field-0-0))) (ap tree c.in_default.is-0 ∙ tree-And c.in_default.field-0-0)
    (λ of. c.in_default.not-And-1 of.0 of.1)

pub same_expr-returns-in_default-6 : goal.same_expr-returns-in_default-6
same_expr-returns-in_default-6 t c =
    differ c.args.a.now c.args.b.now (node any (pack (trees c.in_default.field-0-0))) (ap tree c.in_default.is-0 ∙ tree-Or c.in_default.field-0-0)
    (λ of. c.in_default.not-Or-1 of.0 of.1)

pub same_expr-returns-in_default-7 : goal.same_expr-returns-in_default-7
same_expr-returns-in_default-7 t c =
    differ c.args.a.now c.args.b.now (node choice (three (tree c.in_default.field-0-0.value) (tree c.in_default.field-1-0.value)
    (tree c.in_default.field-2-0.value))) (ap tree c.in_default.is-0 ∙ tree-Cond c.in_default.field-0-0 c.in_default.field-1-0 c.in_default.field-2-0)
    (λ of. c.in_default.not-Cond-1 of.0 of.1 of.2 of.3)

pub same_expr-returns-in_default-8 : goal.same_expr-returns-in_default-8
same_expr-returns-in_default-8 t c =
    differ c.args.a.now c.args.b.now (node (select c.in_default.field-1-0) (one (tree c.in_default.field-0-0.value)))
    (ap tree c.in_default.is-0 ∙ tree-Select c.in_default.field-0-0 c.in_default.field-1-0) (λ of. c.in_default.not-Select-1 of.0 of.1 of.2)

pub same_expr-returns-in_default-9 : goal.same_expr-returns-in_default-9
same_expr-returns-in_default-9 t c =
    differ c.args.a.now c.args.b.now (node subscript (two (tree c.in_default.field-0-0.value) (tree c.in_default.field-1-0.value)))
    (ap tree c.in_default.is-0 ∙ tree-Subscript c.in_default.field-0-0 c.in_default.field-1-0) (λ of. c.in_default.not-Subscript-1 of.0 of.1 of.2)

pub same_expr-returns-in_default-10 : goal.same_expr-returns-in_default-10
same_expr-returns-in_default-10 t c =
    differ c.args.a.now c.args.b.now (node (call c.in_default.field-0-0) (pack (trees c.in_default.field-1-0.value)))
    (ap tree c.in_default.is-0 ∙ tree-Call c.in_default.field-0-0 c.in_default.field-1-0) (λ of. c.in_default.not-Call-1 of.0 of.1 of.2)

pub same_expr-returns-in_default-11 : goal.same_expr-returns-in_default-11
same_expr-returns-in_default-11 t c =
    differ c.args.a.now c.args.b.now (node list (pack (trees c.in_default.field-0-0))) (ap tree c.in_default.is-0 ∙ tree-List c.in_default.field-0-0)
    (λ of. c.in_default.not-List-1 of.0 of.1)

pub same_expr-returns-in_default-12 : goal.same_expr-returns-in_default-12
same_expr-returns-in_default-12 t c =
    differ c.args.a.now c.args.b.now (frame c.in_default.field-0-0) (ap tree c.in_default.is-0 ∙ tree-Frame c.in_default.field-0-0)
    (λ of. c.in_default.not-Frame-1 of.0 of.1)
