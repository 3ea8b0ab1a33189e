use Rattle.std.proofs.Common.{◌≤◌, All, Bool, List, ℕ, ap, arith, false, replicate, subst, sym, ◌∙◌}
use Rattle.ad_store.specs.Store.{stock_of}
use Rattle.claim_table.specs.Table.{jobs_of}
use Rattle.job_clusters.proofs.ClusterLemmas.{no-clusters}
use Rattle.negotiator.specs.declared.queues.Queue.{Queue}
use Rattle.negotiator.specs.Budget.{counted_with, is_marked}
use Rattle.negotiator.specs.Markets.{market_of}
use Rattle.negotiator.specs.Queues.{AreQueues, IsAhead}
use Rattle.claim_table.specs.Settings.{settings_of}
use Rattle.negotiator.proofs.BudgetLemmas.{entries-start, evaluations-start, looks-start, none-marked}
use Rattle.negotiator.proofs.HeadLemmas.{fresh-ahead}
use Rattle.negotiator.proofs.ReadyLemmas.{ready-start}
use Rattle.negotiator.proofs.SpinLoopLemmas.{on_err, part-none}
use Rattle.negotiator.proofs.StoredLemmas.{cycle-stored}
use Rattle.negotiator.proofs.spins.cycle.Goals as goal

pub returns-in_err-queues-clause-part : goal.returns-in_err-queues-clause-part
returns-in_err-queues-clause-part g c = on_err _ (part-none _ (jobs_of c.args.claims.now))

pub returns-in_err-queues-clause-stored : goal.returns-in_err-queues-clause-stored
returns-in_err-queues-clause-stored g c = cycle-stored c.args.store.now c.args.moment (settings_of c.args.priorities.now) (jobs_of c.args.claims.now)

pub returns-in_err-failed-clause-part : goal.returns-in_err-failed-clause-part
returns-in_err-failed-clause-part g c = on_err _ (part-none _ (jobs_of c.args.claims.now))

pub returns-in_err-failed-clause-stored : goal.returns-in_err-failed-clause-stored
returns-in_err-failed-clause-stored g c = cycle-stored c.args.store.now c.args.moment (settings_of c.args.priorities.now) (jobs_of c.args.claims.now)

pub run_spins-requires-clause-queues : goal.run_spins-requires-clause-queues
run_spins-requires-clause-queues g c =
    subst (λ (queues : List Queue). AreQueues (market_of c.args.moment (stock_of c.args.store.now) (settings_of c.args.priorities.now)
    (jobs_of c.args.claims.now)) queues) (sym c.deref_mut.ensures.value) c.in_ok-queues.ensures.are

pub run_spins-requires-clause-ahead : goal.run_spins-requires-clause-ahead
run_spins-requires-clause-ahead g c =
    let jobs = jobs_of c.args.claims.now in
    subst (All (IsAhead jobs c.deref_mut-2.result.now)) (sym c.deref_mut.ensures.value)
    (fresh-ahead (market_of c.args.moment (stock_of c.args.store.now) (settings_of c.args.priorities.now) jobs) jobs c.deref_mut-2.result.now
    c.in_ok-queues.queues.items c.in_ok-queues.ensures)

pub run_spins-requires-clause-ready : goal.run_spins-requires-clause-ready
run_spins-requires-clause-ready g c =
    let none = c.deref_mut-2.ensures.value ∙ c.in_ok-failed.ensures in
    ready-start _ (jobs_of c.args.claims.now) c.deref_mut-2.result.now c.requires.index c.requires.stored c.requires.ports
    (subst (λ (n : ℕ). n ≤ 10000) c.len.ensures.len c.len.ensures.few)
    (none ∙ ap (λ (n : ℕ). replicate n false) c.len.ensures.len)

pub run_spins-requires-clause-clusters : goal.run_spins-requires-clause-clusters
run_spins-requires-clause-clusters g c =
    no-clusters c.args.moment (stock_of c.args.store.now) (settings_of c.args.priorities.now) (jobs_of c.args.claims.now) c.new-clusters.result
    c.new-clusters.ensures.reach c.new-clusters.ensures.classes (c.new-clusters.ensures.known c.args.moment (stock_of c.args.store.now).ads)
    (c.new-clusters.ensures.free ∙ c.free_count.ensures.free) (omega (arith, c.new-clusters.ensures.free, c.free_count.ensures.few))

pub returns-clause-stored : goal.returns-clause-stored
returns-clause-stored g c = cycle-stored c.args.store.now c.args.moment (settings_of c.args.priorities.now) (jobs_of c.args.claims.now)

pub returns-clause-evaluations : goal.returns-clause-evaluations
returns-clause-evaluations g c =
    let none = c.deref_mut-2.ensures.value ∙ c.in_ok-failed.ensures in
    let most =
    evaluations-start c.args.moment (stock_of c.args.store.now) (settings_of c.args.priorities.now) (jobs_of c.args.claims.now) c.deref_mut-2.result.now
    (λ k. ap (λ (f : List Bool). is_marked f k) none ∙ none-marked c.len.result k) (counted_with c.new-meter.result c.new-clusters.result)
    (counted_with c.run_spins.new.meter c.run_spins.new.clusters) c.run_spins.ensures.within in
    omega (arith, most, c.run_spins.ensures.same.tops, c.new-meter.ensures.tops)

pub returns-clause-entries : goal.returns-clause-entries
returns-clause-entries g c =
    let none = c.deref_mut-2.ensures.value ∙ c.in_ok-failed.ensures in
    let most =
    entries-start c.args.moment (stock_of c.args.store.now) (settings_of c.args.priorities.now) (jobs_of c.args.claims.now) c.deref_mut-2.result.now
    (λ k. ap (λ (f : List Bool). is_marked f k) none ∙ none-marked c.len.result k) (counted_with c.new-meter.result c.new-clusters.result)
    (counted_with c.run_spins.new.meter c.run_spins.new.clusters) c.run_spins.ensures.within in
    omega (arith, most, c.run_spins.ensures.same.entry, c.new-meter.ensures.entry)

pub returns-clause-looks : goal.returns-clause-looks
returns-clause-looks g c =
    let none = c.deref_mut-2.ensures.value ∙ c.in_ok-failed.ensures in
    let most =
    looks-start c.args.moment (stock_of c.args.store.now) (settings_of c.args.priorities.now) (jobs_of c.args.claims.now) c.deref_mut-2.result.now
    (λ k. ap (λ (f : List Bool). is_marked f k) none ∙ none-marked c.len.result k) (counted_with c.new-meter.result c.new-clusters.result)
    (counted_with c.run_spins.new.meter c.run_spins.new.clusters) c.run_spins.ensures.within in
    omega (arith, most, c.new-clusters.ensures.saved, c.run_spins.ensures.same.touch, c.new-meter.ensures.touch)
