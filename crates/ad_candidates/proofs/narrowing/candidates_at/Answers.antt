use Rattle.std.proofs.Common.{◌≡◌, arith, length, ap, sym, ◌∙◌}
use Rattle.std.specs.List.{range_with_len}
use Rattle.ad_tree.specs.Ad.{ad_frames}
use Rattle.ad_store.specs.Store.{stock_of}
use Rattle.conjunct_plan.specs.Tests.{labels_of}
use Rattle.ad_candidates.specs.Counts.{least_within}
use Rattle.ad_candidates.proofs.PlaceLemmas.{candidates-within, of-all, of-lookup, request-candidates}
use Rattle.ad_candidates.proofs.narrowing.candidates_at.Goals as goal

pub returns-in_default-clause-places : goal.returns-in_default-clause-places
returns-in_default-clause-places c =
    let stock = stock_of c.args.store.now in
    let tests = c.in_ok-tests.tests in
    let whole : c.len-count.result ≡ length stock.ads = c.len-count.ensures.ads in
    request-candidates (ad_frames c.args.request.now.ad) c.args.frame (labels_of c.args.request.now.ports) stock.ads tests c.in_ok-all_places.field-0
    c.in_ok-tests.ensures
    (of-all stock.ads tests c.in_ok-all_places.field-0 (omega (arith, whole, c.in_default.ensures.all, ap (λ n. least_within n stock.ads tests) whole))
    (c.in_ok-all_places.ensures ∙ ap (range_with_len 0) whole))

pub returns-in_default-clause-held : goal.returns-in_default-clause-held
returns-in_default-clause-held c =
    let stock = stock_of c.args.store.now in
    candidates-within (ad_frames c.args.request.now.ad) c.args.frame (labels_of c.args.request.now.ports) stock.ads c.in_ok-all_places.field-0
    (returns-in_default-clause-places c) (length stock.slots)
    (omega (arith, c.len-count.ensures.ads, c.len-count.ensures.slots))

pub returns-clause-places : goal.returns-clause-places
returns-clause-places c =
    let stock = stock_of c.args.store.now in
    let tests = c.in_ok-tests.tests in
    request-candidates (ad_frames c.args.request.now.ad) c.args.frame (labels_of c.args.request.now.ports) stock.ads tests c.in_ok-places.field-0
    c.in_ok-tests.ensures
    (of-lookup stock.ads tests stock.slots c.in-Some.lookup c.in_ok-places.field-0 (sym c.len-count.ensures.ads ∙ c.len-count.ensures.slots)
    c.in-Some.ensures.among c.in-Some.ensures.few c.in_ok-places.ensures)

pub returns-clause-held : goal.returns-clause-held
returns-clause-held c =
    let stock = stock_of c.args.store.now in
    candidates-within (ad_frames c.args.request.now.ad) c.args.frame (labels_of c.args.request.now.ports) stock.ads c.in_ok-places.field-0
    (returns-clause-places c) (length stock.slots)
    (omega (arith, c.len-count.ensures.ads, c.len-count.ensures.slots))

pub narrowest-requires-clause-known : goal.narrowest-requires-clause-known
narrowest-requires-clause-known c = c.new-known.ensures (stock_of c.args.store.now).ads
