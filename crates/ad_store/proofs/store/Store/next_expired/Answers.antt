use Rattle.std.proofs.Common.{not, ◌∙◌, ap, sym, arith}
use Rattle.std.specs.List.{find}
use Rattle.slab.specs.Slab.{get}
use Rattle.ad_store.specs.Held.{advert_of, adverts}
use Rattle.ad_store.specs.Stock.{is_live}
use Rattle.ad_store.proofs.EndLemmas.{all-live, none-expired}
use Rattle.ad_store.proofs.SlotLemmas.{find-slot_beside, held_if_some, live_if_none}
use Rattle.ad_store.proofs.store.Store.next_expired.Goals as goal

pub returns-clause-first : goal.returns-clause-first
returns-clause-first c =
    let store = c.args.self.now in
    c.first_expired.ensures
    ∙ ap (find (λ s. not (is_live c.args.now (advert_of (get store.table s))))) c.cells.ensures
    ∙ find-slot_beside store.table c.args.now store.order

pub returns-clause-held : goal.returns-clause-held
returns-clause-held c =
    held_if_some (λ a. not (is_live c.args.now a)) c.args.self.now.table c.args.self.now.order c.first_expired.result (returns-clause-first c)

pub returns-clause-all_live : goal.returns-clause-all_live
returns-clause-all_live c =
    live_if_none c.args.self.now.table c.args.now c.args.self.now.order c.first_expired.result (returns-clause-first c)

pub returns-then-now-self-clause-first : goal.returns-then-now-self-clause-first
returns-then-now-self-clause-first c =
    let store = c.args.self.now in
    sym (none-expired store.soonest c.args.now (omega (arith, c.if-now-self.true)) (adverts store.table store.order) store.order store.due)

pub returns-then-now-self-clause-all_live : goal.returns-then-now-self-clause-all_live
returns-then-now-self-clause-all_live c =
    let store = c.args.self.now in
    all-live store.soonest c.args.now (omega (arith, c.if-now-self.true)) (adverts store.table store.order) store.due
