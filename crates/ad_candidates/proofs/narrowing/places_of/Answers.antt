use Rattle.std.proofs.Common.{All, Contains, sym, subst, ℕ, List}
use Rattle.ad_store.specs.Store.{stock_of}
use Rattle.ad_candidates.proofs.narrowing.places_of.Goals as goal

pub place-requires : goal.place-requires
place-requires c =
    subst (λ (slots : List ℕ). All (Contains (stock_of c.args.store.now).slots) slots) (sym c.as_slice-slot-items.ensures) c.requires c.loop-slot.slot-index
    0 c.loop-slot-test.true
