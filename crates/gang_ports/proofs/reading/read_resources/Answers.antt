use Rattle.std.proofs.Common.{◌≡◌, true, filter, ap, ◌∙◌, arith}
use Rattle.std.proofs.lemmas.List.{take_all}
use Rattle.ad_tree.specs.Ad.{ad_frames}
use Rattle.dock_match.specs.Pool.{Pool}
use Rattle.gang_ports.specs.declared.weighing.Resource.{Resource}
use Rattle.gang_ports.specs.Scenes.{pool_in}
use Rattle.gang_ports.specs.Search.{HasSides, is_unknown}
use Rattle.gang_ports.proofs.ReadingLemmas.{ads-next, asked-next, asked-places, found-hold, is_asked}
use Rattle.gang_ports.proofs.reading.read_resources.Goals as goal

pub loop-place-preserved : goal.loop-place-preserved
loop-place-preserved g c =
    let pool : Pool = pool_in g.H.Holdings.is_offered g.H.Holdings.holding c.args.scene.now in
    let request = ad_frames c.args.request.now.ad in
    let ports = c.args.request.now.ports in
    let so_far = c.loop-place.resources.items in
    let new = c.keep.new.resources.items in
    let items = c.as_slice-place-items.result.now in
    record {
      places =
          asked-next pool request ports c.args.frame so_far new items c.loop-place.place-index c.loop-place-test.true c.resource_at-found.result
          c.in_ok-keep.ensures c.loop-place.invariant.places c.resource_at-found.ensures.found;
      ads = ads-next pool request ports c.args.frame so_far new items c.loop-place.place-index c.loop-place-test.true c.resource_at-found.result
          c.in_ok-keep.ensures c.loop-place.invariant.ads c.resource_at-found.ensures.ad;
      tests =
          found-hold (HasSides request ports c.args.frame) so_far new c.resource_at-found.result c.in_ok-keep.ensures c.loop-place.invariant.tests
          c.resource_at-found.ensures.tests;
      unknown =
          found-hold (λ (r : Resource). is_unknown r.kept ≡ true) so_far new c.resource_at-found.result c.in_ok-keep.ensures c.loop-place.invariant.unknown
          c.resource_at-found.ensures.unknown;
      looks = omega (arith, c.loop-place.invariant.looks, c.resource_at-found.ensures.looks);
    }

pub returns-clause-resources : goal.returns-clause-resources
returns-clause-resources g c =
    let pool : Pool = pool_in g.H.Holdings.is_offered g.H.Holdings.holding c.args.scene.now in
    let request = ad_frames c.args.request.now.ad in
    let ports = c.args.request.now.ports in
    asked-places pool request ports c.args.frame c.in_ok-places.places c.in_ok-places.ensures.places c.loop-place.resources.items
    (c.loop-place.invariant.places ∙ ap (filter (is_asked pool request ports c.args.frame)) (take_all c.loop-place.place-index
    c.as_slice-place-items.result.now c.loop-place-test.false ∙ c.as_slice-place-items.ensures))
    c.loop-place.invariant.ads
