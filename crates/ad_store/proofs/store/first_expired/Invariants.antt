use Rattle.std.proofs.Common.{◌≡◌, not, drop}
use Rattle.std.specs.List.{find}
use Rattle.slab.specs.Slab.{get}
use Rattle.slot_order.specs.Cells.{listed}
use Rattle.ad_store.specs.Held.{advert_of}
use Rattle.ad_store.specs.Stock.{is_live}
use Rattle.ad_store.proofs.store.first_expired.Given as goal

abbrev pub invariant-loop-k : goal.invariant-loop-k
invariant-loop-k l =
    find (λ slot. not (is_live l.now (advert_of (get l.table slot)))) (listed (drop l.k l.cells))
    ≡ find (λ slot. not (is_live l.now (advert_of (get l.table slot)))) (listed l.cells)
