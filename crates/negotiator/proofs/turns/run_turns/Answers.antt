use Rattle.std.proofs.Common.{◌<◌, List, [], ap, arith, get_or, length, refl, slice_get, subst, sym}
use Rattle.std.specs.Option.{option_map_or}
use Rattle.std.proofs.lemmas.List.{length-map}
use Rattle.pool_steps.proofs.MeterLemmas.{same-none, same-on}
use Rattle.claim_table.specs.Table.{jobs_of}
use Rattle.job_clusters.specs.Scenes.{settings_in, stock_in}
use Rattle.negotiator.specs.declared.answers.Turn.{Turn}
use Rattle.negotiator.specs.declared.queues.Queue.{Queue}
use Rattle.negotiator.specs.Budget.{counted_with}
use Rattle.negotiator.specs.Cycle.{offers_in}
use Rattle.negotiator.specs.Scenes.{users_at}
use Rattle.negotiator.proofs.ActiveLemmas.{user-here}
use Rattle.negotiator.proofs.BudgetLemmas.{paid-none, paid-on, paid-within, within-on}
use Rattle.negotiator.proofs.HeadLemmas.{head-later}
use Rattle.negotiator.proofs.SmallLemmas.{small-offers}
use Rattle.negotiator.proofs.SpinLoopLemmas.{TurnsLoop, on_err, own-here, turns-list, turns-more, turns-start, turns-stopped, turns-stopped-behind, turns-table}
use Rattle.negotiator.proofs.turns.run_turns.Goals as goal

pub loop-k-init : goal.loop-k-init
loop-k-init g c =
    let began = jobs_of c.args.claims.now in
    let start = counted_with c.args.meter.now c.args.clusters.now in
    let users = users_at c.args.shares.now.queues.now c.args.shares.now.active.now in
    record {
      turns =
          subst (λ (list : List Turn). TurnsLoop c.args.scene.now began users c.args.shares.now.slices.now c.args.failed.now start 0 list began
          c.args.failed.now start) (sym c.new-turns.ensures)
          (turns-start c.args.scene.now began users c.args.shares.now.slices.now c.args.failed.now start c.requires.ready
          (paid-none c.args.scene.now.moment (stock_in c.args.scene.now) (settings_in c.args.scene.now) began c.args.failed.now start));
      clusters = c.requires.clusters;
      same = same-none c.args.meter.now;
      ratio = λ ads small. omega arith;
    }

pub bounds-shares-shares : goal.bounds-shares-shares
bounds-shares-shares g c = c.requires.active c.loop-k.k _ c.loop-k-test.true

pub bounds-shares-k-in-loop-k : goal.bounds-shares-k-in-loop-k
bounds-shares-k-in-loop-k g c = omega (arith, c.loop-k-test.true, c.requires.slices)

pub run_turn-requires-clause-own : goal.run_turn-requires-clause-own
run_turn-requires-clause-own g c =
    let began = jobs_of c.args.claims.now in
    own-here c.args.scene.now began c.loop-k.invariant.turns
    (get_or c.args.shares.now.queues.now (get_or c.args.shares.now.active.now c.loop-k.k 0) c.index-shares-shares.result)
    (c.requires.own _ c.index-shares-shares.result (c.requires.active c.loop-k.k 0 c.loop-k-test.true))

pub run_turn-requires-clause-ahead : goal.run_turn-requires-clause-ahead
run_turn-requires-clause-ahead g c =
    let began = jobs_of c.args.claims.now in
    let jobs = jobs_of c.loop-k.claims in
    head-later began jobs c.args.failed.now c.loop-k.failed
    (get_or c.args.shares.now.queues.now (get_or c.args.shares.now.active.now c.loop-k.k 0) c.index-shares-shares.result)
    c.loop-k.invariant.turns.paid.others
    (c.requires.ahead _ c.index-shares-shares.result (c.requires.active c.loop-k.k 0 c.loop-k-test.true))

pub run_turn-requires-clause-clusters : goal.run_turn-requires-clause-clusters
run_turn-requires-clause-clusters g c = c.loop-k.invariant.clusters

pub run_turn-requires-clause-ready : goal.run_turn-requires-clause-ready
run_turn-requires-clause-ready g c = c.loop-k.invariant.turns.ready

pub returns-in_err-offers-clause-part : goal.returns-in_err-offers-clause-part
returns-in_err-offers-clause-part g c =
    let began = jobs_of c.args.claims.now in
    let users = users_at c.args.shares.now.queues.now c.args.shares.now.active.now in
    let long = length-map c.args.shares.now.active.now (λ k. option_map_or (λ (q : Queue). q.user) (slice_get c.args.shares.now.queues.now k) []) in
    let within : c.loop-k.k < length c.args.shares.now.active.now = c.loop-k-test.true in
    let us : c.loop-k.k < length users = omega (arith, long, within) in
    let ss : c.loop-k.k < length c.args.shares.now.slices.now = omega (arith, within, c.requires.slices) in
    let here = get_or c.args.shares.now.active.now c.loop-k.k 0 in
    let queue = get_or c.args.shares.now.queues.now here c.index-shares-shares.result in
    let user =
    user-here c.args.shares.now.queues.now c.args.shares.now.active.now c.loop-k.k here queue within refl (c.requires.active c.loop-k.k 0 within)
    (ap (get_or c.args.shares.now.queues.now here) (sym c.index-shares-shares.is)) in
    on_err _ (turns-stopped c.args.scene.now began c.loop-k.invariant.turns queue.user (get_or c.args.shares.now.slices.now c.loop-k.k 0) us ss user
    refl (jobs_of c.run_turn.new.claims) c.in_err-offers.ensures.part)

pub returns-in_err-offers-clause-within : goal.returns-in_err-offers-clause-within
returns-in_err-offers-clause-within g c =
    let began = jobs_of c.args.claims.now in
    let jobs = jobs_of c.loop-k.claims in
    let start = counted_with c.args.meter.now c.args.clusters.now in
    let now = counted_with c.loop-k.meter c.loop-k.clusters in
    let after = counted_with c.run_turn.new.meter c.run_turn.new.clusters in
    within-on c.args.scene.now.moment (stock_in c.args.scene.now) (settings_in c.args.scene.now) began jobs c.args.failed.now c.loop-k.failed start now after
    c.loop-k.invariant.turns.paid c.in_err-offers.ensures.within

pub returns-in_err-offers-clause-ratio : goal.returns-in_err-offers-clause-ratio
returns-in_err-offers-clause-ratio g c ads small =
    let turns = c.loop-k.invariant.turns in
    omega (
      arith,
      c.loop-k.invariant.ratio ads small,
      c.run_turn.ensures.ratio ads (small-offers (offers_in turns.done) (jobs_of c.args.claims.now)
          (jobs_of c.loop-k.claims) turns.table small),
    )

pub returns-in_err-keep-clause-part : goal.returns-in_err-keep-clause-part
returns-in_err-keep-clause-part g c =
    let began = jobs_of c.args.claims.now in
    let users = users_at c.args.shares.now.queues.now c.args.shares.now.active.now in
    let long = length-map c.args.shares.now.active.now (λ k. option_map_or (λ (q : Queue). q.user) (slice_get c.args.shares.now.queues.now k) []) in
    let within : c.loop-k.k < length c.args.shares.now.active.now = c.loop-k-test.true in
    let us : c.loop-k.k < length users = omega (arith, long, within) in
    let ss : c.loop-k.k < length c.args.shares.now.slices.now = omega (arith, within, c.requires.slices) in
    let here = get_or c.args.shares.now.active.now c.loop-k.k 0 in
    let queue = get_or c.args.shares.now.queues.now here c.index-shares-shares.result in
    let user =
    user-here c.args.shares.now.queues.now c.args.shares.now.active.now c.loop-k.k here queue within refl (c.requires.active c.loop-k.k 0 within)
    (ap (get_or c.args.shares.now.queues.now here) (sym c.index-shares-shares.is)) in
    on_err _ (turns-stopped-behind c.args.scene.now began c.loop-k.invariant.turns queue.user (get_or c.args.shares.now.slices.now c.loop-k.k 0) us
    ss user refl (jobs_of c.run_turn.new.claims) c.in_ok-offers.ensures.table)

pub returns-in_err-keep-clause-within : goal.returns-in_err-keep-clause-within
returns-in_err-keep-clause-within g c =
    let began = jobs_of c.args.claims.now in
    let jobs = jobs_of c.loop-k.claims in
    let start = counted_with c.args.meter.now c.args.clusters.now in
    let now = counted_with c.loop-k.meter c.loop-k.clusters in
    let after = counted_with c.run_turn.new.meter c.run_turn.new.clusters in
    paid-within c.args.scene.now.moment (stock_in c.args.scene.now) (settings_in c.args.scene.now) began (jobs_of c.run_turn.new.claims) c.args.failed.now
    c.run_turn.new.failed start after
    (paid-on c.args.scene.now.moment (stock_in c.args.scene.now) (settings_in c.args.scene.now) began jobs (jobs_of c.run_turn.new.claims) c.args.failed.now
    c.loop-k.failed c.run_turn.new.failed start now after c.loop-k.invariant.turns.paid c.in_ok-offers.ensures.paid)

pub returns-in_err-keep-clause-ratio : goal.returns-in_err-keep-clause-ratio
returns-in_err-keep-clause-ratio g c ads small =
    let turns = c.loop-k.invariant.turns in
    omega (
      arith,
      c.loop-k.invariant.ratio ads small,
      c.run_turn.ensures.ratio ads (small-offers (offers_in turns.done) (jobs_of c.args.claims.now)
          (jobs_of c.loop-k.claims) turns.table small),
    )

pub loop-k-preserved : goal.loop-k-preserved
loop-k-preserved g c =
    let began = jobs_of c.args.claims.now in
    let jobs = jobs_of c.loop-k.claims in
    let start = counted_with c.args.meter.now c.args.clusters.now in
    let now = counted_with c.loop-k.meter c.loop-k.clusters in
    let after = counted_with c.run_turn.new.meter c.run_turn.new.clusters in
    let users = users_at c.args.shares.now.queues.now c.args.shares.now.active.now in
    let long = length-map c.args.shares.now.active.now (λ k. option_map_or (λ (q : Queue). q.user) (slice_get c.args.shares.now.queues.now k) []) in
    let within : c.loop-k.k < length c.args.shares.now.active.now = c.loop-k-test.true in
    let us : c.loop-k.k < length users = omega (arith, long, within) in
    let ss : c.loop-k.k < length c.args.shares.now.slices.now = omega (arith, within, c.requires.slices) in
    let here = get_or c.args.shares.now.active.now c.loop-k.k 0 in
    let queue = get_or c.args.shares.now.queues.now here c.index-shares-shares.result in
    let user =
    user-here c.args.shares.now.queues.now c.args.shares.now.active.now c.loop-k.k here queue within refl (c.requires.active c.loop-k.k 0 within)
    (ap (get_or c.args.shares.now.queues.now here) (sym c.index-shares-shares.is)) in
    record {
      turns =
          turns-more c.args.scene.now began c.loop-k.invariant.turns queue.user (get_or c.args.shares.now.slices.now c.loop-k.k 0) us ss user refl
          c.in_ok-offers.offers c.in_ok-offers.ensures.offers c.keep.new.turns c.in_ok-keep.ensures (jobs_of c.run_turn.new.claims) c.in_ok-offers.ensures.table
          c.run_turn.new.failed after c.in_ok-offers.ensures.ready
          (paid-on c.args.scene.now.moment (stock_in c.args.scene.now) (settings_in c.args.scene.now) began jobs (jobs_of c.run_turn.new.claims)
          c.args.failed.now c.loop-k.failed c.run_turn.new.failed start now after c.loop-k.invariant.turns.paid c.in_ok-offers.ensures.paid);
      clusters = c.in_ok-offers.ensures.clusters;
      same = same-on c.loop-k.invariant.same c.in_ok-offers.ensures.same;
      ratio =
          λ ads small. omega (
            arith,
            c.loop-k.invariant.ratio ads small,
            c.run_turn.ensures.ratio ads (small-offers (offers_in c.loop-k.invariant.turns.done) began jobs c.loop-k.invariant.turns.table small),
          );
    }

pub returns-clause-turns : goal.returns-clause-turns
returns-clause-turns g c =
    let long = length-map c.args.shares.now.active.now (λ k. option_map_or (λ (q : Queue). q.user) (slice_get c.args.shares.now.queues.now k) []) in
    turns-list c.args.scene.now (jobs_of c.args.claims.now) c.loop-k.invariant.turns (omega (arith, long, c.loop-k-test.false))

pub returns-clause-table : goal.returns-clause-table
returns-clause-table g c =
    let long = length-map c.args.shares.now.active.now (λ k. option_map_or (λ (q : Queue). q.user) (slice_get c.args.shares.now.queues.now k) []) in
    turns-table c.args.scene.now (jobs_of c.args.claims.now) c.loop-k.invariant.turns (omega (arith, long, c.loop-k-test.false))

pub returns-clause-clusters : goal.returns-clause-clusters
returns-clause-clusters g c = c.loop-k.invariant.clusters

pub returns-clause-ready : goal.returns-clause-ready
returns-clause-ready g c = c.loop-k.invariant.turns.ready

pub returns-clause-paid : goal.returns-clause-paid
returns-clause-paid g c = c.loop-k.invariant.turns.paid

pub returns-clause-within : goal.returns-clause-within
returns-clause-within g c =
    paid-within c.args.scene.now.moment (stock_in c.args.scene.now) (settings_in c.args.scene.now) (jobs_of c.args.claims.now) (jobs_of c.loop-k.claims)
    c.args.failed.now c.loop-k.failed
    (counted_with c.args.meter.now c.args.clusters.now)
    (counted_with c.loop-k.meter c.loop-k.clusters) c.loop-k.invariant.turns.paid

pub returns-clause-ratio : goal.returns-clause-ratio
returns-clause-ratio g c = c.loop-k.invariant.ratio
