use Rattle.std.proofs.Common.{◌<◌, ℕ, List, All, Contains, length, sym, ◌∙◌, ap, subst}
use Rattle.std.proofs.lemmas.List.Elements.{All-get_or}
use Rattle.std.proofs.lemmas.Option.{slice_get-get_or}
use Rattle.ad_store.specs.Store.{stock_of}
use Rattle.claim_table.specs.Claims.{once}
use Rattle.claim_table.specs.Table.{jobs_of}
use Rattle.pool_books.proofs.AdLemmas.{stock-length}
use Rattle.pool_books.proofs.NameLemmas.{AreBeside}
use Rattle.pool_state.proofs.LossLemmas.{holders-next, within-once}
use Rattle.pool_state.proofs.losses.holders.Goals as goal

pub loop-slot-preserved : goal.loop-slot-preserved
loop-slot-preserved c =
    let books = c.args.books.now in
    let stock = stock_of books.ads.store in
    let jobs = jobs_of books.claims in
    let slots = c.args.slots.now in
    let i = c.loop-slot.slot-index in
    let beside : AreBeside stock.ads stock.slots =
    record { long = stock-length books.ads.store; names = c.names_are_apart.ensures; apart = c.slots_are_apart.ensures } in
    let old = c.loop-slot.places in
    record {
      places =
          holders-next stock beside jobs books.listed slots i _ (slice_get-get_or slots i _ c.loop-slot-test.true)
          (All-get_or (Contains stock.slots) slots i _ c.loop-slot-test.true c.requires) old c.add_place.new.places c.loop-slot.invariant.places
          (c.in_ok-add_place.ensures ∙ ap (once old) c.claimed_by.ensures.number);
      within =
          subst (λ (l : List ℕ). All (λ k. k < length jobs) l) (sym c.in_ok-add_place.ensures)
          (within-once (length jobs) old c.claimed_by.result c.claimed_by.ensures.within c.loop-slot.invariant.within);
    }
