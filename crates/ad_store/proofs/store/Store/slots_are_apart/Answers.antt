use Rattle.ad_store.proofs.SlotLemmas.{one_slot}
use Rattle.ad_store.proofs.store.Store.slots_are_apart.Goals as goal

pub returns : goal.returns
returns c = λ i j slot at_i at_j. one_slot c.args.self.now.order c.slots_are_apart.ensures i j slot at_i at_j
