use Rattle.std.proofs.Common.{subst, All, ◌≤◌}
use Rattle.slab.specs.Slab.{get}
use Rattle.ad_store.specs.Held.{end_of}
use Rattle.ad_store.proofs.EndLemmas.{ends-slots}
use Rattle.ad_store.proofs.store.Store.note_soonest.Goals as goal

pub invariant_of-self-clause-due : goal.invariant_of-self-clause-due
invariant_of-self-clause-due c =
    let store = c.args.self.now in
    ends-slots c.soonest_end-self.result store.table store.order
    (subst (All (λ slot. c.soonest_end-self.result ≤ end_of (get store.table slot))) c.cells.ensures c.soonest_end-self.ensures)
