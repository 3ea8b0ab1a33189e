use Rattle.std.proofs.Common.{All, map, sym, ◌∙◌, ap, subst}
use Rattle.ad_store.specs.Store.{stock_of}
use Rattle.pool_books.specs.Rows.{IsSpinHeld, spin_row}
use Rattle.pool_books.specs.declared.indexed.IndexedStore.{IndexedStore}
use Rattle.pool_commands.proofs.negotiation.negotiate.Goals as goal

pub spin_rows-rows-requires : goal.spin_rows-rows-requires
spin_rows-rows-requires g c =
    subst (λ (ads : IndexedStore). All (IsSpinHeld (stock_of ads.store).slots) c.in_ok-spins.spins) (sym c.in_ok-spins.ensures.ads) c.in_ok-spins.ensures.held

pub returns-clause-step : goal.returns-clause-step
returns-clause-step g c =
    c.in_ok-spins.ensures.cycle c.in_ok-rows.field-0
    (c.in_ok-rows.ensures ∙ ap (λ (ads : IndexedStore). map (spin_row (stock_of ads.store)) c.in_ok-spins.spins) c.in_ok-spins.ensures.ads)
