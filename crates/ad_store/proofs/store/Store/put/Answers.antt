use Rattle.std.proofs.Common.{sym, subst, arith}
use Rattle.slot_order.specs.Names.{slot_at}
use Rattle.ad_store.specs.Held.{adverts}
use Rattle.ad_store.specs.Stock.{EndFrom}
use Rattle.ad_store.proofs.ReplaceLemmas.{held-none, held-text, is_there, no_addition, others_text, renewed_ads, renewed_held, renewed_slot, renewed_text}
use Rattle.ad_store.proofs.EndLemmas.{ends-placed, ends-sooner}
use Rattle.ad_store.proofs.store.Store.put.Goals as goal

pub overflow_sub-others : goal.overflow_sub-others
overflow_sub-others c =
    let old = c.args.self.now in
    omega (
      arith,
      others_text old.table old.order (slot_at
          old.names) c.args.name.now c.in-Some.slot old.text old.held c.slots_are_apart.ensures old.counted c.in-Some.ensures.slot,
      c.size_at.ensures,
    )

pub returns-then-saturating_add-gt-TEXT_LIMIT-clause-cause : goal.returns-then-saturating_add-gt-TEXT_LIMIT-clause-cause
returns-then-saturating_add-gt-TEXT_LIMIT-clause-cause c =
    let old = c.args.self.now in
    held-text old.table old.order (slot_at old.names) c.args.name.now c.in-Some.slot old.text old.held c.slots_are_apart.ensures old.counted
    c.in-Some.ensures.slot c.args.text_len c.size_at.result c.size_at.ensures (omega (arith, c.saturating_add.ensures))

pub renew-requires : goal.renew-requires
renew-requires c =
    let old = c.args.self.now in
    is_there old.table old.order (slot_at old.names) c.args.name.now c.in-Some.slot old.text old.held c.slots_are_apart.ensures old.counted
    c.in-Some.ensures.slot

pub invariant_of-self : goal.invariant_of-self
invariant_of-self c =
    let old = c.args.self.now in
    record {
      held = renewed_held old.table old.order (slot_at old.names) c.args.name.now c.in-Some.slot old.text old.held c.slots_are_apart.ensures old.counted
          c.in-Some.ensures.slot c.renew.new.table _ c.renew.ensures;
      counted =
          renewed_text old.table old.order (slot_at old.names) c.args.name.now c.in-Some.slot old.text old.held c.slots_are_apart.ensures old.counted
          c.in-Some.ensures.slot c.renew.new.table _ c.renew.ensures c.size_at.result c.size_at.ensures;
      within = omega (arith, c.saturating_add.ensures);
      few = old.few;
      due = subst (EndFrom c.min-self.result) (sym (renewed_ads old.table old.order (slot_at old.names) c.args.name.now c.in-Some.slot old.text old.held
          c.slots_are_apart.ensures old.counted c.in-Some.ensures.slot c.renew.new.table _ c.renew.ensures))
          (ends-placed c.min-self.result _ (adverts old.table old.order) (omega (arith, c.min-self.ensures, c.saturating_add-2.ensures))
          (ends-sooner old.soonest c.min-self.result (adverts old.table old.order) (omega (arith, c.min-self.ensures)) old.due));
    }

pub returns-clause-ads : goal.returns-clause-ads
returns-clause-ads c =
    let old = c.args.self.now in
    renewed_ads old.table old.order (slot_at old.names) c.args.name.now c.in-Some.slot old.text old.held c.slots_are_apart.ensures old.counted
    c.in-Some.ensures.slot c.renew.new.table _ c.renew.ensures

pub returns-clause-slot : goal.returns-clause-slot
returns-clause-slot c =
    let old = c.args.self.now in
    renewed_slot old.table old.order (slot_at old.names) c.args.name.now c.in-Some.slot old.text old.held c.slots_are_apart.ensures old.counted
    c.in-Some.ensures.slot c.renew.new.table _ c.renew.ensures

pub returns-clause-added : goal.returns-clause-added
returns-clause-added c =
    let old = c.args.self.now in
    sym (no_addition old.table old.order (slot_at old.names) c.args.name.now c.in-Some.slot old.text old.held c.slots_are_apart.ensures old.counted
    c.in-Some.ensures.slot)

pub returns-clause-room : goal.returns-clause-room
returns-clause-room c =
    let old = c.args.self.now in
    held-none old.table old.order (slot_at old.names) c.args.name.now c.in-Some.slot old.text old.held c.slots_are_apart.ensures old.counted
    c.in-Some.ensures.slot c.args.text_len c.size_at.result c.size_at.ensures (omega (arith, c.saturating_add.ensures))
