use Rattle.std.proofs.Common.{sym, ◌∙◌, ap}
use Rattle.slab.specs.Slab.{get}
use Rattle.slot_order.specs.Slots.{without}
use Rattle.ad_store.proofs.ChangeLemmas.{undone, vacant_apart}
use Rattle.ad_store.proofs.store.enter.Goals as goal

pub returns-then-is_err-clause-order_left : goal.returns-then-is_err-clause-order_left
returns-then-is_err-clause-order_left c =
    let slot = c.vacant_key-slot.result in
    let slots = c.args.order.now in
    let vacant = sym (ap (λ t. get t slot) c.reserve.ensures.rest_kept) ∙ c.vacant_key-slot.ensures.vacant in
    c.remove.ensures.left ∙ ap (without slot) c.in_ok-push.ensures.ok ∙ undone slot slots (vacant_apart c.args.table.now slots slot c.requires vacant)
