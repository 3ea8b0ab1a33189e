use Rattle.std.proofs.Common.{List, Option, None, ap, sym, ◌∙◌}
use Rattle.std.specs.Option.{option_or}
use Rattle.cycle_guard.specs.declared.guard.Entry.{Entry}
use Rattle.cycle_guard.specs.declared.guard.Kept.{Kept}
use Rattle.cycle_guard.specs.Shown.{entry_of, other_of, sight_of, sight_of_entry}
use Rattle.cycle_guard.proofs.GuardLemmas.{entered_first, entered_other, entry_of-pushed}
use Rattle.cycle_guard.proofs.guard.Guard.enter.Goals as goal

pub returns-in_ok-push-clause-ok : goal.returns-in_ok-push-clause-ok
returns-in_ok-push-clause-ok c = λ q.
    let g = c.args.self.now in
    let pos = c.args.pos in
    let m = other_of g.others q in
    ap (λ (es : List Entry). sight_of_entry (option_or (entry_of es q) m)) c.in_ok-push.ensures.ok
    ∙ ap (λ (o : Option (Option Kept)). sight_of_entry (option_or o m)) (entry_of-pushed g.first.items (record { pos = pos; kept = None }) q)
    ∙ entered_first (entry_of g.first.items q) m pos q (λ same. ap (sight_of g) (sym same) ∙ c.requires)

pub returns-in_ok-enter_other-clause-ok : goal.returns-in_ok-enter_other-clause-ok
returns-in_ok-enter_other-clause-ok c = λ q.
    let g = c.args.self.now in
    let pos = c.args.pos in
    let o = entry_of g.first.items q in
    ap (λ (x : Option (Option Kept)). sight_of_entry (option_or o x)) (c.in_ok-enter_other.ensures.ok q)
    ∙ entered_other o (other_of g.others q) pos q (λ same. ap (sight_of g) (sym same) ∙ c.requires)
