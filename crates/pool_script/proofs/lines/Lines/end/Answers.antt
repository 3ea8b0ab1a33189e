use Rattle.std.proofs.Common.{◌≡◌, ◌<◌, List, ◌++◌, length, refl, ◌∙◌, ap, arith}
use Rattle.std.proofs.lemmas.Bool.Decides.{nat_tests}
use Rattle.std.proofs.lemmas.List.{nil_from_length}
use Rattle.pool_script.specs.GivenLines.{given_lines, whole_lines}
use Rattle.pool_script.specs.Standing.{Held}
use Rattle.pool_script.specs.declared.lines.Line.{Line}
use Rattle.pool_script.proofs.LinesLemmas.{last_given, none_last}
use Rattle.pool_script.proofs.StandingLemmas.{stands_ended}
use Rattle.pool_script.proofs.lines.Lines.end.Goals as goal

pub returns-in_ok-end_line-clause-waiting : goal.returns-in_ok-end_line-clause-waiting
returns-in_ok-end_line-clause-waiting c =
    let empty = c.if-not-is_empty.ensures in
    let counted = c.self.inside.line.ok.0 in
    let some : 0 < length c.self.inside.line.items = grind (arith, nat_tests) in
    c.in_ok-end_line.ensures.waiting ∙ ap (λ (l : List Line). c.self.inside.waiting.items ++ l) (last_given c.self.inside.line.items c.self.invariant some)
    ∙ ap (λ (h : Held Line). h.waiting ++ whole_lines h.rest) c.self.view_is

pub returns-in_ok-end_line-clause-stands : goal.returns-in_ok-end_line-clause-stands
returns-in_ok-end_line-clause-stands c =
    λ bytes n stands. stands_ended given_lines c.args.self.now c.end_line.new.self bytes n c.requires c.in_ok-end_line.ensures.over
    (returns-in_ok-end_line-clause-waiting c) stands

nothing_waits : (c : goal.Else-not-is_empty) → c.self.inside.waiting.items ≡ c.args.self.now.waiting ++ whole_lines c.args.self.now.rest
nothing_waits c =
    let empty = c.if-not-is_empty.ensures in
    let counted = c.self.inside.line.ok.0 in
    let none : length c.self.inside.line.items ≡ 0 = grind (arith, nat_tests) in
    none_last c.self.inside.waiting.items c.self.inside.line.items (nil_from_length c.self.inside.line.items none)
    ∙ ap (λ (h : Held Line). h.waiting ++ whole_lines h.rest) c.self.view_is

pub returns-else-not-is_empty-clause-stands : goal.returns-else-not-is_empty-clause-stands
returns-else-not-is_empty-clause-stands c = λ bytes n stands. stands_ended given_lines c.args.self.now _ bytes n c.requires refl (nothing_waits c) stands
