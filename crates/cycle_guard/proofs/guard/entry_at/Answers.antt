use Rattle.std.proofs.Common.{sym, ◌∙◌}
use Rattle.std.proofs.lemmas.List.Quantifiers.{position-Some}
use Rattle.cycle_guard.specs.Sights.{same_pos}
use Rattle.cycle_guard.proofs.GuardLemmas.{entry_of-first, entry_of-none}
use Rattle.cycle_guard.proofs.guard.entry_at.Goals as goal

pub returns-in-Some : goal.returns-in-Some
returns-in-Some c =
    let es = c.args.entries.now in
    let d = c.index-entries-place.result in
    let first = position-Some (λ e. same_pos e.pos c.args.pos) es c.in-Some.place d (sym c.place_of.ensures ∙ c.in-Some.is) in
    sym (entry_of-first es c.args.pos c.in-Some.place d first.0 first.1 first.2)

pub returns-in-None : goal.returns-in-None
returns-in-None c = sym (entry_of-none c.args.entries.now c.args.pos (sym c.place_of.ensures ∙ c.in-None.is))
