use Rattle.std.proofs.Common.{List, [], length, ap, arith, subst, sym, ◌∙◌, ◌≤◌, All, ℕ}
use Rattle.ad_tree.specs.Ad.{ad_frames}
use Rattle.ad_tree.specs.declared.request.Port.{Port}
use Rattle.ad_store.specs.Store.{stock_of}
use Rattle.conjunct_plan.specs.declared.test.Test.{Test}
use Rattle.conjunct_plan.specs.Tests.{labels_of, tests_of}
use Rattle.ad_candidates.specs.Counts.{left_by}
use Rattle.ad_candidates.proofs.KnownPlaceLemmas.{each-leaves}
use Rattle.ad_candidates.proofs.PlaceLemmas.{candidates-within, request-candidates}
use Rattle.ad_candidates.proofs.narrowing.candidates_knowing.Goals as goal

pub returns-in_err-note_least-clause-known : goal.returns-in_err-note_least-clause-known
returns-in_err-note_least-clause-known c =
    let ads = (stock_of c.args.store.now).ads in
    c.note_least.ensures ads c.places_knowing.ensures.known
    (subst (λ (n : ℕ). All (λ (test : Test). n ≤ left_by ads test) c.in_ok-tests.tests) (sym c.len.ensures)
    (each-leaves (length c.in_ok-places.places) (length ads) ads c.in_ok-tests.tests c.in_ok-places.ensures.places.few))

pub returns-clause-known : goal.returns-clause-known
returns-clause-known c =
    let ads = (stock_of c.args.store.now).ads in
    c.note_least.ensures ads c.places_knowing.ensures.known
    (subst (λ (n : ℕ). All (λ (test : Test). n ≤ left_by ads test) c.in_ok-tests.tests) (sym c.len.ensures)
    (each-leaves (length c.in_ok-places.places) (length ads) ads c.in_ok-tests.tests c.in_ok-places.ensures.places.few))

pub returns-clause-places : goal.returns-clause-places
returns-clause-places c =
    request-candidates (ad_frames c.args.request.now.ad) 0 [] (stock_of c.args.store.now).ads c.in_ok-tests.tests c.in_ok-places.places
    (c.in_ok-tests.ensures ∙ ap (λ (ports : List Port). tests_of (ad_frames c.args.request.now.ad) 0 (labels_of ports)) c.requires.single)
    c.in_ok-places.ensures.places

pub returns-clause-held : goal.returns-clause-held
returns-clause-held c =
    let stock = stock_of c.args.store.now in
    candidates-within (ad_frames c.args.request.now.ad) 0 [] stock.ads c.in_ok-places.places (returns-clause-places c) (length stock.slots)
    (omega (arith, c.len-len.ensures.ads, c.len-len.ensures.slots))
