use Rattle.slot_order.specs.Names.{slot_at}
use Rattle.ad_store.proofs.SlotLemmas.{one_name}
use Rattle.ad_store.proofs.store.Store.names_are_apart.Goals as goal

pub returns : goal.returns
returns c = λ i j a b at_i at_j same.
    let store = c.args.self.now in
    one_name store.table store.order (slot_at store.names) store.held c.slots_are_apart.ensures i j a b at_i at_j same
