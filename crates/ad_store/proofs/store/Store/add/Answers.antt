use Rattle.std.proofs.Common.{◌≡◌, length, not, is_some, Some, cond, refl, ◌++◌, ◌∷◌, [], sym, ◌∙◌, ap, subst, arith}
use Rattle.std.proofs.lemmas.List.{length-append, length-map}
use Rattle.std.proofs.lemmas.List.Sums.{sum_by_push}
use Rattle.std.proofs.lemmas.Slice.Eq.{bytes_eq-Decides}
use Rattle.slab.specs.Slab.{get}
use Rattle.slot_order.specs.Names.{slot_at}
use Rattle.ad_store.specs.declared.entry.Entry.{Entry}
use Rattle.ad_store.specs.Held.{AreHeld, advert_of, adverts, named_content}
use Rattle.ad_store.specs.Stock.{EndFrom, is_named, slot_beside, text_held}
use Rattle.ad_store.proofs.HeldLemmas.{has-named, named-beside, placed-new}
use Rattle.ad_store.proofs.ChangeLemmas.{entered_ads, entered_held, vacant_apart}
use Rattle.ad_store.proofs.EndLemmas.{ends-last, ends-sooner}
use Rattle.ad_store.proofs.RoomLemmas.{new-full, new-none, new-text}
use Rattle.ad_store.proofs.store.Store.add.Goals as goal

pub returns-then-len-ge-ADS_LIMIT-clause-cause : goal.returns-then-len-ge-ADS_LIMIT-clause-cause
returns-then-len-ge-ADS_LIMIT-clause-cause c =
    let old = c.args.self.now in
    new-full (adverts old.table old.order) c.args.name.now c.args.content.size old.text c.len.result old.counted
    (c.len.ensures ∙ sym (length-map old.order (λ s. advert_of (get old.table s))))
    (has-named old.table old.order (slot_at old.names) old.held c.args.name.now
    ∙ ap is_some (sym (named-beside old.table old.order (slot_at old.names) old.held c.args.name.now) ∙ c.requires)) (omega arith)

pub returns-then-saturating_add-gt-TEXT_LIMIT-clause-cause : goal.returns-then-saturating_add-gt-TEXT_LIMIT-clause-cause
returns-then-saturating_add-gt-TEXT_LIMIT-clause-cause c =
    let old = c.args.self.now in
    new-text (adverts old.table old.order) c.args.name.now c.args.content.size old.text c.len.result old.counted
    (c.len.ensures ∙ sym (length-map old.order (λ s. advert_of (get old.table s))))
    (has-named old.table old.order (slot_at old.names) old.held c.args.name.now
    ∙ ap is_some (sym (named-beside old.table old.order (slot_at old.names) old.held c.args.name.now) ∙ c.requires)) (omega arith)
    (omega (arith, c.saturating_add.ensures))

pub returns-in_default-clause-cause : goal.returns-in_default-clause-cause
returns-in_default-clause-cause c =
    let old = c.args.self.now in
    new-none (adverts old.table old.order) c.args.name.now c.args.content.size old.text c.len.result old.counted
    (c.len.ensures ∙ sym (length-map old.order (λ s. advert_of (get old.table s))))
    (has-named old.table old.order (slot_at old.names) old.held c.args.name.now
    ∙ ap is_some (sym (named-beside old.table old.order (slot_at old.names) old.held c.args.name.now) ∙ c.requires)) (omega arith)
    (omega (arith, c.saturating_add.ensures, old.within))

pub returns-clause-ads : goal.returns-clause-ads
returns-clause-ads c =
    let old = c.args.self.now in
    ap (adverts c.enter.new.table) c.in-Ok.ensures.order
    ∙ entered_ads old.table c.enter.new.table old.order (slot_at old.names) c.in-Ok.slot old.held
    (Some (record { name = c.args.name.now; content = c.args.content })) c.in-Ok.ensures.changes
    (vacant_apart old.table old.order c.in-Ok.slot old.held.filled c.in-Ok.ensures.vacant)
    ∙ sym (placed-new (named_content c.args.name.now c.args.content) (adverts old.table old.order)
    (has-named old.table old.order (slot_at old.names) old.held c.args.name.now
    ∙ ap is_some (sym (named-beside old.table old.order (slot_at old.names) old.held c.args.name.now) ∙ c.requires)))

pub invariant_of-self-2 : goal.invariant_of-self-2
invariant_of-self-2 c =
    let old = c.args.self.now in
    let absent = vacant_apart old.table old.order c.in-Ok.slot old.held.filled c.in-Ok.ensures.vacant in
    let entry : Entry = record { name = c.args.name.now; content = c.args.content } in
    let ads : adverts c.enter.new.table c.enter.new.order ≡ adverts old.table old.order ++ named_content c.args.name.now c.args.content ∷ [] =
    ap (adverts c.enter.new.table) c.in-Ok.ensures.order
    ∙ entered_ads old.table c.enter.new.table old.order (slot_at old.names) c.in-Ok.slot old.held (Some entry) c.in-Ok.ensures.changes absent in
    let total = ap text_held ads ∙ sum_by_push (λ advert. advert.size) (adverts old.table old.order) (named_content c.args.name.now c.args.content) in
    record {
      held = subst (λ l. AreHeld c.enter.new.table l (slot_at c.enter.new.names)) (sym c.in-Ok.ensures.order)
          (entered_held old.table c.enter.new.table old.order (slot_at old.names) c.in-Ok.slot old.held (slot_at c.enter.new.names) c.args.name.now entry
          c.in-Ok.ensures.changes refl absent
          (sym (named-beside old.table old.order (slot_at old.names) old.held c.args.name.now) ∙ c.requires) c.in-Ok.ensures.turns);
      counted = omega (arith, old.counted, total);
      within = omega (arith, c.saturating_add.ensures, old.within);
      few = omega (arith, c.len.ensures, ap length c.in-Ok.ensures.order, length-append old.order (c.in-Ok.slot ∷ []));
      due = subst (EndFrom c.min-self.result) (sym ads)
          (ends-last c.min-self.result (named_content c.args.name.now c.args.content) (adverts old.table old.order)
          (ends-sooner old.soonest c.min-self.result (adverts old.table old.order) (omega (arith, c.min-self.ensures)) old.due)
          (omega (arith, c.min-self.ensures, c.saturating_add-end.ensures)));
    }

pub returns-clause-slot : goal.returns-clause-slot
returns-clause-slot c =
    let old = c.args.self.now in
    let name = c.args.name.now in
    let absent = vacant_apart old.table old.order c.in-Ok.slot old.held.filled c.in-Ok.ensures.vacant in
    let entry : Entry = record { name = name; content = c.args.content } in
    let held : AreHeld c.enter.new.table (old.order ++ c.in-Ok.slot ∷ []) (slot_at c.enter.new.names) =
    entered_held old.table c.enter.new.table old.order (slot_at old.names) c.in-Ok.slot old.held (slot_at c.enter.new.names) name entry c.in-Ok.ensures.changes
    refl absent
    (sym (named-beside old.table old.order (slot_at old.names) old.held c.args.name.now) ∙ c.requires) c.in-Ok.ensures.turns in
    ap (λ l. slot_beside (is_named name) (adverts c.enter.new.table l) l) c.in-Ok.ensures.order
    ∙ named-beside c.enter.new.table (old.order ++ c.in-Ok.slot ∷ []) (slot_at c.enter.new.names) held name
    ∙ c.in-Ok.ensures.turns name
    ∙ ap (λ b. cond b (Some c.in-Ok.slot) (slot_at old.names name)) ((bytes_eq-Decides name name).1 refl)

pub returns-clause-added : goal.returns-clause-added
returns-clause-added c =
    let old = c.args.self.now in
    sym (ap not (has-named old.table old.order (slot_at old.names) old.held c.args.name.now
    ∙ ap is_some (sym (named-beside old.table old.order (slot_at old.names) old.held c.args.name.now) ∙ c.requires)))

pub returns-clause-room : goal.returns-clause-room
returns-clause-room c =
    let old = c.args.self.now in
    new-none (adverts old.table old.order) c.args.name.now c.args.content.size old.text c.len.result old.counted
    (c.len.ensures ∙ sym (length-map old.order (λ s. advert_of (get old.table s))))
    (has-named old.table old.order (slot_at old.names) old.held c.args.name.now
    ∙ ap is_some (sym (named-beside old.table old.order (slot_at old.names) old.held c.args.name.now) ∙ c.requires)) (omega arith)
    (omega (arith, c.saturating_add.ensures, old.within))
