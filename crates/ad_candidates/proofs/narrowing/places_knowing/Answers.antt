use Rattle.std.proofs.Common.{◌≡◌, ◌≤◌, ℕ, length, sym, ◌∙◌, subst}
use Rattle.ad_store.specs.Store.{stock_of}
use Rattle.ad_candidates.specs.Counts.{least_within}
use Rattle.ad_candidates.proofs.KnownPlaceLemmas.{many-within, of-listed, one-of}
use Rattle.ad_candidates.proofs.PlaceLemmas.{of-lookup}
use Rattle.ad_candidates.proofs.narrowing.places_knowing.Goals as goal

pub narrowest-requires-clause-all : goal.narrowest-requires-clause-all
narrowest-requires-clause-all c =
    let ads = (stock_of c.args.store.now).ads in
    subst (λ (n : ℕ). n ≤ length ads) (sym c.many.ensures)
    (many-within ads c.args.tests.now c.len-count.result c.len-count.ensures.ads c.fewest-listed.result c.fewest-listed.ensures.few)

pub returns-in_default-clause-places : goal.returns-in_default-clause-places
returns-in_default-clause-places c =
    let ads = (stock_of c.args.store.now).ads in
    of-listed ads c.args.tests.now c.len-count.result c.len-count.ensures.ads c.fewest-listed.result c.in_ok-listed_or_all.field-0 c.fewest-listed.ensures.few
    (one-of ads c.args.known.now c.args.tests.now c.fewest-listed.result c.requires.known c.fewest-listed.ensures.places)
    (subst (λ (n : ℕ). n ≡ least_within n ads c.args.tests.now) c.many.ensures c.in_default.ensures.all) c.in_ok-listed_or_all.ensures

pub returns-clause-places : goal.returns-clause-places
returns-clause-places c =
    let stock = stock_of c.args.store.now in
    of-lookup stock.ads c.args.tests.now stock.slots c.in-Some.lookup c.in_ok-places.places (sym c.len-count.ensures.ads ∙ c.len-count.ensures.slots)
    c.in-Some.ensures.among c.in-Some.ensures.few c.in_ok-places.ensures

pub returns-clause-known : goal.returns-clause-known
returns-clause-known c = c.list.ensures (stock_of c.args.store.now).ads c.requires.known c.in_ok-places.ensures

pub returns-in_err-list-clause-known : goal.returns-in_err-list-clause-known
returns-in_err-list-clause-known c = c.list.ensures (stock_of c.args.store.now).ads c.requires.known c.in_ok-places.ensures
