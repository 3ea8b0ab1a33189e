use Rattle.std.proofs.Common.{◌≡◌, ◌∙◌, ap, is_some, length, subst, sym, arith}
use Rattle.std.specs.Option.{option_map_or}
use Rattle.slot_order.specs.Names.{slot_at}
use Rattle.ad_store.specs.Held.{AreHeld, adverts}
use Rattle.ad_store.specs.Stock.{EndFrom, text_held, without}
use Rattle.ad_store.proofs.HeldLemmas.{has-named, named-beside}
use Rattle.ad_store.proofs.ChangeLemmas.{length-gone}
use Rattle.ad_store.proofs.ReplaceLemmas.{is_held, is_there, left_ads, left_held, left_slots, others_text}
use Rattle.ad_store.proofs.EndLemmas.{ends-without}
use Rattle.ad_store.proofs.store.Store.withdraw.Goals as goal

pub returns-in_default-clause-none : goal.returns-in_default-clause-none
returns-in_default-clause-none c =
    let old = c.args.self.now in
    has-named old.table old.order (slot_at old.names) old.held c.args.name.now
    ∙ ap is_some (sym (named-beside old.table old.order (slot_at old.names) old.held c.args.name.now) ∙ sym c.in_default.ensures.slot)

pub remove-entry-requires : goal.remove-entry-requires
remove-entry-requires c =
    let old = c.args.self.now in
    is_there old.table old.order (slot_at old.names) c.args.name.now c.in-Some.slot old.text old.held c.slots_are_apart.ensures old.counted
    c.in-Some.ensures.slot

pub overflow_sub-self : goal.overflow_sub-self
overflow_sub-self c =
    let old = c.args.self.now in
    let size = ap (λ o. option_map_or (λ e. e.content.size) o 0) c.remove-entry.ensures.value in
    omega (
      arith,
      size,
      others_text old.table old.order (slot_at
          old.names) c.args.name.now c.in-Some.slot old.text old.held c.slots_are_apart.ensures old.counted c.in-Some.ensures.slot,
    )

pub invariant_of-self : goal.invariant_of-self
invariant_of-self c =
    let old = c.args.self.now in
    let size = ap (λ o. option_map_or (λ e. e.content.size) o 0) c.remove-entry.ensures.value in
    let total =
    others_text old.table old.order (slot_at old.names) c.args.name.now c.in-Some.slot old.text old.held c.slots_are_apart.ensures old.counted
    c.in-Some.ensures.slot in
    let left : adverts c.remove-entry.new.self c.remove-2.new.self ≡ without c.args.name.now (adverts old.table old.order) =
    ap (adverts c.remove-entry.new.self) c.remove-2.ensures.left
    ∙ left_ads old.table old.order (slot_at old.names) c.args.name.now c.in-Some.slot old.text old.held c.slots_are_apart.ensures old.counted
    c.in-Some.ensures.slot c.remove-entry.new.self c.remove-entry.ensures.updates in
    record {
      held = subst (λ l. AreHeld c.remove-entry.new.self l (slot_at c.remove.new.self)) (sym c.remove-2.ensures.left)
          (left_held old.table old.order (slot_at old.names) c.args.name.now c.in-Some.slot old.text old.held c.slots_are_apart.ensures old.counted
          c.in-Some.ensures.slot c.remove-entry.new.self c.remove-entry.ensures.updates (slot_at c.remove.new.self) c.remove.ensures);
      counted = omega (arith, old.counted, total, size, ap text_held left);
      within = omega (arith, old.within);
      few = omega (arith, old.few, ap length c.remove-2.ensures.left, length-gone c.in-Some.slot old.order);
      due = subst (EndFrom old.soonest) (sym left) (ends-without old.soonest c.args.name.now (adverts old.table old.order) old.due);
    }

pub returns-clause-held : goal.returns-clause-held
returns-clause-held c =
    let old = c.args.self.now in
    is_held old.table old.order (slot_at old.names) c.args.name.now c.in-Some.slot old.text old.held c.slots_are_apart.ensures old.counted
    c.in-Some.ensures.slot

pub returns-clause-ads : goal.returns-clause-ads
returns-clause-ads c =
    let old = c.args.self.now in
    ap (adverts c.remove-entry.new.self) c.remove-2.ensures.left
    ∙ left_ads old.table old.order (slot_at old.names) c.args.name.now c.in-Some.slot old.text old.held c.slots_are_apart.ensures old.counted
    c.in-Some.ensures.slot c.remove-entry.new.self c.remove-entry.ensures.updates

pub returns-clause-slots : goal.returns-clause-slots
returns-clause-slots c =
    let old = c.args.self.now in
    c.remove-2.ensures.left
    ∙ left_slots old.table old.order (slot_at old.names) c.args.name.now c.in-Some.slot old.text old.held c.slots_are_apart.ensures old.counted
    c.in-Some.ensures.slot
