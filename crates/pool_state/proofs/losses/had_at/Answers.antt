use Rattle.std.proofs.Common.{◌<◌, ◌∷◌, [], All, List, ℕ, length, refl, sym, ◌∙◌, ap, arith, subst}
use Rattle.ad_store.specs.Store.{stock_of}
use Rattle.claim_table.specs.Claims.{once}
use Rattle.claim_table.specs.Table.{jobs_of}
use Rattle.pool_books.proofs.AdLemmas.{stock-length}
use Rattle.pool_books.proofs.NameLemmas.{AreBeside}
use Rattle.pool_state.proofs.LossLemmas.{had-next, within-once}
use Rattle.pool_state.proofs.losses.had_at.Goals as goal

pub returns-clause-places : goal.returns-clause-places
returns-clause-places c =
    let books = c.args.books.now in
    let stock = stock_of books.ads.store in
    let beside : AreBeside stock.ads stock.slots =
    record { long = stock-length books.ads.store; names = c.names_are_apart.ensures; apart = c.slots_are_apart.ensures } in
    let mid = c.add_place.new.places in
    had-next stock beside (jobs_of books.claims) books.listed (c.args.slot ∷ []) 0 c.args.slot refl c.requires [] mid c.add_place-2.new.places refl
    (c.in_ok-add_place.ensures ∙ (λ k. once (c.new-places.ensures k) (c.claimed_by.ensures.number k)))
    (c.in_ok-add_place-2.ensures ∙ ap (once mid) c.offered_to.ensures.number)

pub returns-clause-within : goal.returns-clause-within
returns-clause-within c =
    let jobs = jobs_of c.args.books.now.claims in
    let within = λ (l : List ℕ). All (λ k. k < length jobs) l in
    let none = c.new-places.result in
    let mid = c.add_place.new.places in
    let empty : within none = subst within (sym c.new-places.ensures) (λ k d less. absurd (omega (arith, less))) in
    let first : within mid =
    subst within (sym c.in_ok-add_place.ensures) (within-once (length jobs) none c.claimed_by.result c.claimed_by.ensures.within empty)
    in
    subst within (sym c.in_ok-add_place-2.ensures) (within-once (length jobs) mid c.offered_to.result c.offered_to.ensures.within first)
