use Rattle.std.proofs.Common.{◌≡◌, ◌≤◌, ◌++◌, ◌∷◌, [], All, List, length, map, Some, cond, bytes_eq, sym, ◌∙◌, ap, subst, arith}
use Rattle.std.proofs.lemmas.List.{length-append, length-map}
use Rattle.std.proofs.lemmas.List.Elements.{All-append, All-cons, All-nil}
use Rattle.slot_order.specs.Names.{slot_at}
use Rattle.claim_table.specs.Priorities.{ArePlaced, IsInRange, Setting, setting_of, settings_limit}
use Rattle.claim_table.specs.Settings.{settings_of}
use Rattle.claim_table.proofs.PriorityLemmas.{last-setting, place-comes}
use Rattle.claim_table.proofs.priorities.Priorities.add.Goals as goal

pub invariant_of-self-2 : goal.invariant_of-self-2
invariant_of-self-2 c =
    let old = c.args.self.now in
    let settings = settings_of old in
    let setting : Setting = record { user = c.args.user.now; number = c.args.n } in
    let is : map setting_of c.push_reserved.new.self.items ≡ settings ++ setting ∷ [] =
    ap (map setting_of) (c.push_reserved.ensures.items ∙ ap (λ l. l ++ record { user = c.in_ok-name.name; number = c.args.n } ∷ []) c.reserve.ensures.items)
    ∙ last-setting old.settings.items c.in_ok-name.name c.args.n c.args.user.now c.in_ok-name.ensures.items in
    let place : c.len-place.result ≡ length settings =
    omega (arith, c.len-place.ensures, c.reserve.ensures.len, old.settings.ok.0, length-map old.settings.items setting_of) in
    record {
      placed =
          subst (ArePlaced (slot_at c.insert.new.self)) (sym is)
          (place-comes setting (slot_at old.places) (slot_at c.insert.new.self) settings c.requires.new old.placed
          (λ other. c.in_ok-insert.ensures.ok other ∙ ap (λ p. cond (bytes_eq c.args.user.now other) (Some p) (slot_at old.places other)) place));
      within = subst (All IsInRange) (sym is)
          (All-append IsInRange settings (setting ∷ []) old.within (All-cons IsInRange setting [] (c.requires.least, c.requires.most) (All-nil IsInRange)));
      few = subst (λ (l : List Setting). length l ≤ settings_limit) (sym is) (omega (arith, length-append settings (setting ∷ []), c.requires.few));
    }
