use Rattle.std.proofs.Common.{◌≡◌, not, filter, ◌∙◌, ap, sym, subst, arith, IfOk}
use Rattle.slab.specs.Slab.{get}
use Rattle.ad_store.specs.Held.{advert_of, adverts}
use Rattle.ad_store.specs.Stock.{is_live}
use Rattle.ad_store.proofs.EndLemmas.{no-expired}
use Rattle.ad_store.proofs.SlotLemmas.{filter-slots_beside, held_if_told}
use Rattle.ad_store.proofs.store.Store.expired.Goals as goal

pub returns-clause-slots : goal.returns-clause-slots
returns-clause-slots c =
    let store = c.args.self.now in
    subst (λ l. IfOk c.expired_in.result (λ slots. slots ≡ l))
    (ap (filter (λ s. not (is_live c.args.now (advert_of (get store.table s))))) c.cells.ensures ∙ filter-slots_beside store.table c.args.now store.order)
    c.expired_in.ensures

pub returns-clause-held : goal.returns-clause-held
returns-clause-held c =
    let store = c.args.self.now in
    held_if_told (λ a. not (is_live c.args.now a)) (adverts store.table store.order) store.order c.expired_in.result (returns-clause-slots c)

pub returns-then-now-self-clause-slots : goal.returns-then-now-self-clause-slots
returns-then-now-self-clause-slots c =
    let store = c.args.self.now in
    c.new.ensures ∙ sym (no-expired store.soonest c.args.now (omega (arith, c.if-now-self.true)) (adverts store.table store.order) store.order store.due)
