use Rattle.std.proofs.Common.{ℕ, All, Contains, List, map, sym, ◌∙◌, ap, subst}
use Rattle.ad_store.specs.Store.{stock_of}
use Rattle.pool_books.specs.Books.{queue_of, name_in}
use Rattle.pool_books.proofs.AdLemmas.{stock-length}
use Rattle.pool_books.proofs.HitLemmas.{if_ok}
use Rattle.pool_state.specs.Notices.{had_by, losses}
use Rattle.pool_state.proofs.ExpiryLemmas.{expired-named}
use Rattle.pool_state.proofs.losses.losses_at.Goals as goal

pub returns : goal.returns
returns c =
    let books = c.args.books.now in
    let queue = queue_of books in
    let stock = stock_of books.ads.store in
    if_ok c.losses.result _ _
    (λ list is. is ∙ ap (losses queue)
    (c.in_ok-places.ensures.places ∙ ap (λ (slots : List ℕ). had_by queue (map (name_in stock) slots)) c.as_slice.ensures ∙ ap (had_by queue)
    (ap (map (name_in stock)) c.in_ok-slots.ensures.slots ∙ expired-named stock (stock-length books.ads.store) c.slots_are_apart.ensures c.args.now)))
    c.losses.ensures

pub had_by-requires : goal.had_by-requires
had_by-requires c =
    subst (λ (slots : List ℕ). All (Contains (stock_of c.args.books.now.ads.store).slots) slots) (sym c.as_slice.ensures) c.in_ok-slots.ensures.held

pub losses-requires : goal.losses-requires
losses-requires c = c.in_ok-places.ensures.within
