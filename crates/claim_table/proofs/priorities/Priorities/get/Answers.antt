use Rattle.std.proofs.Common.{None, Some, ap, sym, ◌∙◌, subst, ◌≤◌, ℕ}
use Rattle.std.specs.Option.{option_map_or}
use Rattle.claim_table.specs.Priorities.{Setting, default_priority}
use Rattle.claim_table.specs.Settings.{settings_of}
use Rattle.claim_table.proofs.PriorityLemmas.{in-range, number-at, shown, stands}
use Rattle.claim_table.proofs.priorities.Priorities.get.Goals as goal

pub returns-in-Some-clause-number : goal.returns-in-Some-clause-number
returns-in-Some-clause-number c =
    let user = c.args.user.now in
    let settings = settings_of c.args.self.now in
    let place = c.in-Some.place in
    let is = sym c.in-Some.is ∙ c.get.ensures ∙ c.args.self.now.placed user in
    let there = stands user settings place (sym is) in
    let at = shown c.args.self.now.settings.items place there.0 c.index.result.now there.1 c.index.ensures in
    sym (number-at user settings (Some place) is ∙ ap (λ s. option_map_or (λ (s : Setting). s.number) s default_priority) at)

pub returns-in-Some-clause-least : goal.returns-in-Some-clause-least
returns-in-Some-clause-least c =
    let P : ℕ → Type 0 = λ n. 1 ≤ n in
    subst P (sym (returns-in-Some-clause-number c)) ((in-range c.args.user.now (settings_of c.args.self.now) c.args.self.now.within).0)

pub returns-in-Some-clause-most : goal.returns-in-Some-clause-most
returns-in-Some-clause-most c =
    let P : ℕ → Type 0 = λ n. n ≤ 1000000 in
    subst P (sym (returns-in-Some-clause-number c)) ((in-range c.args.user.now (settings_of c.args.self.now) c.args.self.now.within).1)

pub returns-in-None-clause-number : goal.returns-in-None-clause-number
returns-in-None-clause-number c =
    let user = c.args.user.now in
    sym (number-at user (settings_of c.args.self.now) None (sym c.in-None.is ∙ c.get.ensures ∙ c.args.self.now.placed user))
