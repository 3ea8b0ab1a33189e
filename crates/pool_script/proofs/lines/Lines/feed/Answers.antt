use Rattle.std.proofs.Common.{◌≡◌, ℕ, false, List, [], ◌∷◌, ◌++◌, refl, sym, ◌∙◌, ap, subst}
use Rattle.pool_script.specs.GivenLines.{given_line, given_lines}
use Rattle.pool_script.specs.Standing.{Held}
use Rattle.pool_script.specs.declared.lines.Line.{Line}
use Rattle.pool_script.proofs.LinesLemmas.{Leaves, Leaves-end, Leaves-line, begun_with, none_given}
use Rattle.pool_script.proofs.StandingLemmas.{Promises, fed_waiting, stands_fed}
use Rattle.pool_script.proofs.lines.Lines.feed.Goals as goal

pub invariant_of-self-in-Some : goal.invariant_of-self-in-Some
invariant_of-self-in-Some c =
    rw c.in_ok-extend_line.ensures.ok (begun_with c.self.inside.line.items c.in-Some.line.now c.self.invariant c.in-Some.ensures.one_line)

pub returns-in_err-end_line-clause-bounded : goal.returns-in_err-end_line-clause-bounded
returns-in_err-end_line-clause-bounded c =
    let begun = begun_with c.self.inside.line.items c.in-Some.line.now c.self.invariant c.in-Some.ensures.one_line in
    rw (c.in_err-end_line.ensures.kept, c.in_ok-extend_line.ensures.ok) begun.short

pub loop-line-preserved : goal.loop-line-preserved
loop-line-preserved c = record {
  over = c.in_ok-end_line.ensures.over ∙ ap (λ (h : Held Line). h.over) c.self.view_is ∙ c.loop-line.invariant.over;
  leaves =
      let waits = c.in_ok-end_line.ensures.waiting ∙ ap (λ (l : List ℕ). c.self.inside.waiting.items ++ given_line l ∷ []) c.in_ok-extend_line.ensures.ok in
      Leaves-line c.args.self.now (record { waiting = c.self.inside.waiting.items; rest = c.self.inside.line.items; over = c.self.inside.over })
      c.end_line.new.self c.args.piece.now c.loop-line.left.now c.in-Some.line.now _ c.in-Some.behind.now c.self.invariant c.in-Some.ensures waits
      c.in_ok-end_line.ensures.rest
      (subst (λ (h : Held Line). Leaves c.args.self.now c.args.piece.now h c.loop-line.left.now) (sym c.self.view_is) c.loop-line.invariant.leaves);
}

pub invariant_of-self-2 : goal.invariant_of-self-2
invariant_of-self-2 c = rw c.in_ok-extend_line-2.ensures.ok (begun_with c.self-2.inside.line.items c.loop-line.left.now c.self-2.invariant c.in_default.ensures)

-- the lines behind the piece
abbrev fed : goal.In_ok-extend_line-2 → Held Line
fed c = record { waiting = c.self-2.inside.waiting.items; rest = c.extend_line-2.new.line.items; over = c.self-2.inside.over }

promises : (c : goal.In_ok-extend_line-2) → Promises given_lines c.args.self.now c.args.piece.now (fed c)
promises c =
    Leaves-end c.args.self.now (record { waiting = c.self-2.inside.waiting.items; rest = c.self-2.inside.line.items; over = c.self-2.inside.over }) (fed c)
    c.args.piece.now c.loop-line.left.now c.self-2.invariant c.in_default.ensures refl c.in_ok-extend_line-2.ensures.ok
    (subst (λ (h : Held Line). Leaves c.args.self.now c.args.piece.now h c.loop-line.left.now) (sym c.self-2.view_is) c.loop-line.invariant.leaves)

pub returns-clause-stands : goal.returns-clause-stands
returns-clause-stands c = λ bytes n stands.
    let over : (fed c).over ≡ false = ap (λ (h : Held Line). h.over) c.self-2.view_is ∙ c.loop-line.invariant.over ∙ c.requires in
    let none = none_given c.extend_line-2.new.line.items (invariant_of-self-2 c) in
    stands_fed given_lines c.args.self.now (fed c) c.args.piece.now bytes n c.requires over (promises c) none stands

pub returns-clause-waiting : goal.returns-clause-waiting
returns-clause-waiting c =
    fed_waiting given_lines c.args.self.now (fed c) c.args.piece.now (promises c) (none_given c.extend_line-2.new.line.items (invariant_of-self-2 c))

pub returns-clause-bounded : goal.returns-clause-bounded
returns-clause-bounded c =
    rw c.in_ok-extend_line-2.ensures.ok (begun_with c.self-2.inside.line.items c.loop-line.left.now c.self-2.invariant c.in_default.ensures).short
