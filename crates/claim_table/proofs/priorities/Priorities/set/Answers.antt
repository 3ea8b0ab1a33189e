use Rattle.std.proofs.Common.{◌≡◌, ◌≤◌, nat_le, true, All, List, None, Some, length, sym, ◌∙◌, subst, arith}
use Rattle.std.proofs.lemmas.Bool.Decides.{nat_tests}
use Rattle.std.proofs.lemmas.List.{length-map, length-set}
use Rattle.std.proofs.lemmas.List.Elements.{All-set}
use Rattle.slot_order.specs.Names.{slot_at}
use Rattle.claim_table.specs.Priorities.{ArePlaced, IsInRange, Setting, setting_of, settings_limit}
use Rattle.claim_table.specs.Settings.{settings_of}
use Rattle.claim_table.proofs.PriorityLemmas.{change, places-stay, room-is, with-placed}
use Rattle.claim_table.proofs.priorities.Priorities.set.Goals as goal

pub invariant_of-self : goal.invariant_of-self
invariant_of-self c =
    let old = c.args.self.now in
    let user = c.args.user.now in
    let setting : Setting = record { user = user; number = c.args.n } in
    let place = c.in-Some.place in
    let changes =
    change old.settings.items place c.args.n user c.index_mut.result.now c.index_mut.ensures.value
    (sym (old.placed user) ∙ sym c.get.ensures ∙ c.in-Some.is)
    in
    record {
      placed =
          subst (ArePlaced (slot_at old.places)) (sym changes.is)
          (places-stay setting (slot_at old.places) (settings_of old) place changes.was changes.at changes.same old.placed);
      within =
          subst (All IsInRange) (sym changes.is) (All-set IsInRange (settings_of old) place setting (c.requires.least, c.requires.most) old.within);
      few =
          subst (λ (l : List Setting). length l ≤ settings_limit) (sym changes.is)
          (omega (arith, length-set (settings_of old) place setting, old.few));
    }

pub returns-in-Some-clause-ok : goal.returns-in-Some-clause-ok
returns-in-Some-clause-ok c =
    let old = c.args.self.now in
    let user = c.args.user.now in
    let placed = sym (old.placed user) ∙ sym c.get.ensures ∙ c.in-Some.is in
    let changes = change old.settings.items c.in-Some.place c.args.n user c.index_mut.result.now c.index_mut.ensures.value placed in
    changes.is ∙ sym (with-placed (record { user = user; number = c.args.n }) (settings_of old) (Some c.in-Some.place) placed)

pub returns-in-Some-clause-room : goal.returns-in-Some-clause-room
returns-in-Some-clause-room c =
    let old = c.args.self.now in
    room-is c.args.user.now (settings_of old) (Some c.in-Some.place) (sym c.in-Some.is ∙ c.get.ensures ∙ old.placed c.args.user.now)

pub returns-then-len-ge-SETTINGS_LIMIT-clause-cause : goal.returns-then-len-ge-SETTINGS_LIMIT-clause-cause
returns-then-len-ge-SETTINGS_LIMIT-clause-cause c =
    let old = c.args.self.now in
    let all : length (settings_of old) ≡ c.len.result =
    omega (arith, c.len.ensures, old.settings.ok.0, length-map old.settings.items setting_of) in
    let full : nat_le settings_limit (length (settings_of old)) ≡ true = grind (arith, nat_tests, all, c.if-len-ge-SETTINGS_LIMIT.true) in
    room-is c.args.user.now (settings_of old) None (sym c.in_default.is ∙ c.get.ensures ∙ old.placed c.args.user.now) ∙ full

pub returns-in-Ok-clause-ok : goal.returns-in-Ok-clause-ok
returns-in-Ok-clause-ok c =
    let old = c.args.self.now in
    let user = c.args.user.now in
    let setting : Setting = record { user = user; number = c.args.n } in
    c.in-Ok.ensures.ok ∙ sym (with-placed setting (settings_of old) None (sym (old.placed user) ∙ sym c.get.ensures ∙ c.in_default.is))
