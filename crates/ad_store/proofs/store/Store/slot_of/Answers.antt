use Rattle.std.proofs.Common.{sym, ◌∙◌}
use Rattle.slot_order.specs.Names.{slot_at}
use Rattle.ad_store.specs.Stock.{is_named}
use Rattle.ad_store.proofs.HeldLemmas.{named-beside}
use Rattle.ad_store.proofs.SlotLemmas.{held_if_some}
use Rattle.ad_store.proofs.store.Store.slot_of.Goals as goal

pub returns-clause-slot : goal.returns-clause-slot
returns-clause-slot c =
    let store = c.args.self.now in
    c.get.ensures ∙ sym (named-beside store.table store.order (slot_at store.names) store.held c.args.name.now)

pub returns-clause-held : goal.returns-clause-held
returns-clause-held c = held_if_some (is_named c.args.name.now) c.args.self.now.table c.args.self.now.order c.get.result (returns-clause-slot c)
