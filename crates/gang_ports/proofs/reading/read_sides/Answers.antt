use Rattle.std.proofs.Common.{◌≡◌, ◌+◌, ◌<◌, ◌≤◌, ℕ, suc, List, Some, length, slice_get, sum_by, ap, sym, ◌∙◌, subst, arith}
use Rattle.std.proofs.lemmas.Option.{slice_get-get_or}
use Rattle.ad_tree.specs.Ad.{ad_frames}
use Rattle.ad_tree.specs.declared.request.Port.{Port}
use Rattle.conjunct_plan.specs.Tests.{labels_of, tests_of}
use Rattle.ad_candidates.specs.Counts.{least_left}
use Rattle.dock_match.specs.Pool.{Pool}
use Rattle.gang_ports.specs.declared.weighing.Side.{Side}
use Rattle.gang_ports.specs.FreePorts.{is_free_port}
use Rattle.gang_ports.specs.Scenes.{pool_in, stock_in}
use Rattle.gang_ports.proofs.ListLemmas.{count-next, count-within, length-more}
use Rattle.gang_ports.proofs.ReadingLemmas.{have-next, sides-next}
use Rattle.gang_ports.proofs.reading.read_sides.Goals as goal

pub returns-in_err-resources-clause-looks : goal.returns-in_err-resources-clause-looks
returns-in_err-resources-clause-looks g c =
    let stock = stock_in c.args.scene.now in
    let request = c.args.request.now in
    let left = λ (port : Port). least_left stock.ads (tests_of (ad_frames request.ad) port.frame (labels_of request.ports)) in
    subst (λ (ports : List Port). c.read_resources.new.touch ≤ c.args.touch.now + sum_by left ports) c.as_slice-port-items.ensures
    (count-within left c.as_slice-port-items.result.now c.loop-port.port-index c.args.touch.now c.loop-port.touch c.loop-port.invariant.looks
    c.port-item.result c.read_resources.new.touch c.loop-port-test.true c.port-item.is c.read_resources.ensures.looks)

pub returns-in_err-push-clause-looks : goal.returns-in_err-push-clause-looks
returns-in_err-push-clause-looks g c =
    let stock = stock_in c.args.scene.now in
    let request = c.args.request.now in
    let left = λ (port : Port). least_left stock.ads (tests_of (ad_frames request.ad) port.frame (labels_of request.ports)) in
    subst (λ (ports : List Port). c.read_resources.new.touch ≤ c.args.touch.now + sum_by left ports) c.as_slice-port-items.ensures
    (count-within left c.as_slice-port-items.result.now c.loop-port.port-index c.args.touch.now c.loop-port.touch c.loop-port.invariant.looks
    c.port-item.result c.read_resources.new.touch c.loop-port-test.true c.port-item.is c.read_resources.ensures.looks)

pub loop-port-preserved : goal.loop-port-preserved
loop-port-preserved g c =
    let stock = stock_in c.args.scene.now in
    let request = c.args.request.now in
    let pool : Pool = pool_in g.H.Holdings.is_offered g.H.Holdings.holding c.args.scene.now in
    let left = λ (port : Port). least_left stock.ads (tests_of (ad_frames request.ad) port.frame (labels_of request.ports)) in
    let port = c.port-item.result in
    let i = c.loop-port.port-index in
    let at : slice_get request.ports i ≡ Some port =
    subst (λ (ports : List Port). slice_get ports i ≡ Some port) c.as_slice-port-items.ensures
    (slice_get-get_or c.as_slice-port-items.result.now i port c.loop-port-test.true ∙ ap (λ (p : Port). Some p) (sym c.port-item.is)) in
    let counted : c.len.result ≡ length c.loop-port.sides.items = omega arith in
    let side : Side = record { is_free = c.is_free_port-is_free.result; resources = c.in_ok-resources.resources } in
    record {
      sides =
          sides-next pool (ad_frames request.ad) request.ports c.loop-port.sides.items c.push.new.self.items side i port c.in_ok-push.ensures.items
          c.loop-port.invariant.sides c.loop-port.invariant.many at
          (c.is_free_port-is_free.ensures ∙ ap (λ (n : ℕ). is_free_port (ad_frames request.ad) request.ports n) counted)
          c.in_ok-resources.ensures.resources c.in_ok-resources.ensures.unknown;
      tests =
          have-next pool (ad_frames request.ad) request.ports c.loop-port.sides.items c.push.new.self.items side i port c.in_ok-push.ensures.items
          c.loop-port.invariant.tests c.loop-port.invariant.many at c.in_ok-resources.ensures.tests;
      many = let long : length c.push.new.self.items ≡ suc (length c.loop-port.sides.items) =
          ap length c.in_ok-push.ensures.items ∙ length-more c.loop-port.sides.items side in omega (arith, long, c.loop-port.invariant.many);
      looks =
          count-next left c.as_slice-port-items.result.now i c.args.touch.now c.loop-port.touch c.loop-port.invariant.looks port c.read_resources.new.touch
          c.loop-port-test.true c.port-item.is c.read_resources.ensures.looks;
    }

pub is_free_port-is_free-requires : goal.is_free_port-is_free-requires
is_free_port-is_free-requires g c =
    let within : c.loop-port.port-index < length c.args.request.now.ports =
    subst (λ (ports : List Port). c.loop-port.port-index < length ports) c.as_slice-port-items.ensures c.loop-port-test.true in
    omega (arith, within, c.loop-port.invariant.many)
