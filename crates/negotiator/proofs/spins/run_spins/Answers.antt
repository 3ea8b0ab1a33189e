use Rattle.std.proofs.Common.{List, arith, subst, sym, ◌∙◌}
use Rattle.pool_steps.proofs.MeterLemmas.{same-none, same-on}
use Rattle.claim_table.specs.Table.{jobs_of}
use Rattle.job_clusters.specs.Scenes.{settings_in, stock_in}
use Rattle.negotiator.specs.declared.answers.Spin.{Spin}
use Rattle.negotiator.specs.Budget.{counted_with}
use Rattle.negotiator.specs.Cycle.{offers_of}
use Rattle.negotiator.specs.Scenes.{market_in}
use Rattle.negotiator.proofs.BudgetLemmas.{paid-none, paid-on, paid-within, within-on}
use Rattle.negotiator.proofs.SmallLemmas.{small-offers}
use Rattle.negotiator.proofs.SpinLoopLemmas.{SpinsLoop, on_err, queues-here, spins-fewer, spins-list, spins-more, spins-start, spins-stopped}
use Rattle.negotiator.proofs.SpinLoopLemmas.{spins-stopped-behind, spins-table}
use Rattle.negotiator.proofs.spins.run_spins.Goals as goal

pub loop-spins-init : goal.loop-spins-init
loop-spins-init g c =
    let began = jobs_of c.args.claims.now in
    let start = counted_with c.args.meter.now c.args.clusters.now in
    record {
      spins =
          subst (λ (list : List Spin). SpinsLoop c.args.scene.now began c.args.failed.now start list began c.args.failed.now start) (sym c.new-spins.ensures)
          (spins-start c.args.scene.now began c.args.failed.now start c.requires.ready
          (paid-none c.args.scene.now.moment (stock_in c.args.scene.now) (settings_in c.args.scene.now) began c.args.failed.now start));
      queues = c.requires.queues;
      ahead = c.requires.ahead;
      clusters = c.requires.clusters;
      same = same-none c.args.meter.now;
      ratio = λ ads small. omega arith;
    }

pub run_spin-requires-clause-queues : goal.run_spin-requires-clause-queues
run_spin-requires-clause-queues g c =
    queues-here c.args.scene.now (jobs_of c.args.claims.now) c.loop-spins.invariant.spins c.loop-spins.queues c.loop-spins.invariant.queues

pub run_spin-requires-clause-ahead : goal.run_spin-requires-clause-ahead
run_spin-requires-clause-ahead g c = c.loop-spins.invariant.ahead

pub run_spin-requires-clause-clusters : goal.run_spin-requires-clause-clusters
run_spin-requires-clause-clusters g c = c.loop-spins.invariant.clusters

pub run_spin-requires-clause-ready : goal.run_spin-requires-clause-ready
run_spin-requires-clause-ready g c = c.loop-spins.invariant.spins.ready

pub returns-in_err-spin-clause-part : goal.returns-in_err-spin-clause-part
returns-in_err-spin-clause-part g c =
    on_err _ (spins-stopped c.args.scene.now (jobs_of c.args.claims.now) c.loop-spins.invariant.spins (jobs_of c.run_spin.new.claims)
    c.in_err-spin.ensures.part)

pub returns-in_err-spin-clause-within : goal.returns-in_err-spin-clause-within
returns-in_err-spin-clause-within g c =
    let began = jobs_of c.args.claims.now in
    let jobs = jobs_of c.loop-spins.claims in
    let later = jobs_of c.run_spin.new.claims in
    let start = counted_with c.args.meter.now c.args.clusters.now in
    let now = counted_with c.loop-spins.meter c.loop-spins.clusters in
    let after = counted_with c.run_spin.new.meter c.run_spin.new.clusters in
    within-on c.args.scene.now.moment (stock_in c.args.scene.now) (settings_in c.args.scene.now) began jobs c.args.failed.now c.loop-spins.failed start now
    after c.loop-spins.invariant.spins.paid c.in_err-spin.ensures.within

pub returns-in_err-spin-clause-ratio : goal.returns-in_err-spin-clause-ratio
returns-in_err-spin-clause-ratio g c ads small =
    let spins = c.loop-spins.invariant.spins in
    omega (
      arith,
      c.loop-spins.invariant.ratio ads small,
      c.run_spin.ensures.ratio ads (small-offers (offers_of spins.done) (jobs_of c.args.claims.now) (jobs_of c.loop-spins.claims) spins.table small),
    )

pub returns-in_err-push-clause-part : goal.returns-in_err-push-clause-part
returns-in_err-push-clause-part g c =
    on_err _ (spins-stopped-behind c.args.scene.now (jobs_of c.args.claims.now) c.loop-spins.invariant.spins (jobs_of c.run_spin.new.claims)
    c.in_ok-spin.ensures.table)

pub returns-in_err-push-clause-within : goal.returns-in_err-push-clause-within
returns-in_err-push-clause-within g c =
    let began = jobs_of c.args.claims.now in
    let jobs = jobs_of c.loop-spins.claims in
    let later = jobs_of c.run_spin.new.claims in
    let start = counted_with c.args.meter.now c.args.clusters.now in
    let now = counted_with c.loop-spins.meter c.loop-spins.clusters in
    let after = counted_with c.run_spin.new.meter c.run_spin.new.clusters in
    paid-within c.args.scene.now.moment (stock_in c.args.scene.now) (settings_in c.args.scene.now) began later c.args.failed.now c.run_spin.new.failed start
    after
    (paid-on c.args.scene.now.moment (stock_in c.args.scene.now) (settings_in c.args.scene.now) began jobs later c.args.failed.now c.loop-spins.failed
    c.run_spin.new.failed start now after c.loop-spins.invariant.spins.paid c.in_ok-spin.ensures.paid)

pub returns-in_err-push-clause-ratio : goal.returns-in_err-push-clause-ratio
returns-in_err-push-clause-ratio g c ads small =
    let spins = c.loop-spins.invariant.spins in
    omega (
      arith,
      c.loop-spins.invariant.ratio ads small,
      c.run_spin.ensures.ratio ads (small-offers (offers_of spins.done) (jobs_of c.args.claims.now) (jobs_of c.loop-spins.claims) spins.table small),
    )

pub returns-then-last-clause-cycle : goal.returns-then-last-clause-cycle
returns-then-last-clause-cycle g c =
    spins-list c.args.scene.now (jobs_of c.args.claims.now) c.loop-spins.invariant.spins c.in_ok-spin.spin c.in_ok-spin.ensures.spin c.push.new.self
    c.in_ok-push.ensures.ok (jobs_of c.run_spin.new.claims) c.in_ok-spin.ensures.table (sym c.len-last.ensures ∙ c.if-last.true)

pub returns-then-last-clause-table : goal.returns-then-last-clause-table
returns-then-last-clause-table g c =
    spins-table c.args.scene.now (jobs_of c.args.claims.now) c.loop-spins.invariant.spins c.in_ok-spin.spin c.in_ok-spin.ensures.spin c.push.new.self
    c.in_ok-push.ensures.ok (jobs_of c.run_spin.new.claims) c.in_ok-spin.ensures.table (sym c.len-last.ensures ∙ c.if-last.true)

pub returns-then-last-clause-within : goal.returns-then-last-clause-within
returns-then-last-clause-within g c =
    let began = jobs_of c.args.claims.now in
    let jobs = jobs_of c.loop-spins.claims in
    let later = jobs_of c.run_spin.new.claims in
    let start = counted_with c.args.meter.now c.args.clusters.now in
    let now = counted_with c.loop-spins.meter c.loop-spins.clusters in
    let after = counted_with c.run_spin.new.meter c.run_spin.new.clusters in
    paid-within c.args.scene.now.moment (stock_in c.args.scene.now) (settings_in c.args.scene.now) began later c.args.failed.now c.run_spin.new.failed start
    after
    (paid-on c.args.scene.now.moment (stock_in c.args.scene.now) (settings_in c.args.scene.now) began jobs later c.args.failed.now c.loop-spins.failed
    c.run_spin.new.failed start now after c.loop-spins.invariant.spins.paid c.in_ok-spin.ensures.paid)

pub returns-then-last-clause-ratio : goal.returns-then-last-clause-ratio
returns-then-last-clause-ratio g c ads small =
    let spins = c.loop-spins.invariant.spins in
    omega (
      arith,
      c.loop-spins.invariant.ratio ads small,
      c.run_spin.ensures.ratio ads (small-offers (offers_of spins.done) (jobs_of c.args.claims.now) (jobs_of c.loop-spins.claims) spins.table small),
    )

pub loop-spins-smaller : goal.loop-spins-smaller
loop-spins-smaller g c =
    spins-fewer c.args.scene.now (jobs_of c.args.claims.now) c.loop-spins.invariant.spins c.in_ok-spin.spin c.in_ok-spin.ensures.spin c.push.new.self
    c.in_ok-push.ensures.ok (jobs_of c.run_spin.new.claims) c.in_ok-spin.ensures.table (omega (arith, c.len-last.ensures, c.if-last.false))

pub loop-spins-preserved : goal.loop-spins-preserved
loop-spins-preserved g c =
    let began = jobs_of c.args.claims.now in
    let jobs = jobs_of c.loop-spins.claims in
    let later = jobs_of c.run_spin.new.claims in
    let start = counted_with c.args.meter.now c.args.clusters.now in
    let now = counted_with c.loop-spins.meter c.loop-spins.clusters in
    let after = counted_with c.run_spin.new.meter c.run_spin.new.clusters in
    record {
      spins =
          spins-more c.args.scene.now began c.loop-spins.invariant.spins c.in_ok-spin.spin c.in_ok-spin.ensures.spin c.push.new.self c.in_ok-push.ensures.ok
          (jobs_of c.run_spin.new.claims) c.in_ok-spin.ensures.table (omega (arith, c.len-last.ensures, c.if-last.false))
          c.run_spin.new.failed after c.in_ok-spin.ensures.ready
          (paid-on c.args.scene.now.moment (stock_in c.args.scene.now) (settings_in c.args.scene.now) began jobs later c.args.failed.now c.loop-spins.failed
          c.run_spin.new.failed start now after c.loop-spins.invariant.spins.paid c.in_ok-spin.ensures.paid);
      queues = c.in_ok-spin.ensures.queues (market_in c.args.scene.now began) c.loop-spins.invariant.queues;
      ahead = c.in_ok-spin.ensures.ahead;
      clusters = c.in_ok-spin.ensures.clusters;
      same = same-on c.loop-spins.invariant.same c.in_ok-spin.ensures.same;
      ratio =
          λ ads small. omega (
            arith,
            c.loop-spins.invariant.ratio ads small,
            c.run_spin.ensures.ratio ads (small-offers (offers_of c.loop-spins.invariant.spins.done) began jobs c.loop-spins.invariant.spins.table small),
          );
    }
