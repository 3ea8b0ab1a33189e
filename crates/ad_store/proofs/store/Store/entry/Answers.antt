use Rattle.ad_store.proofs.HeldLemmas.{contained-among}
use Rattle.ad_store.proofs.SlotLemmas.{advert_there}
use Rattle.ad_store.proofs.store.Store.entry.Goals as goal

pub index-requires : goal.index-requires
index-requires c =
    let store = c.args.self.now in
    store.held.filled c.args.slot (contained-among store.order c.args.slot c.requires)

pub returns-clause-advert : goal.returns-clause-advert
returns-clause-advert c = λ i at.
    let store = c.args.self.now in
    advert_there store.table c.args.slot _ store.order i c.index.ensures at
