use Rattle.std.proofs.Common.{◌≡◌, ◌≢◌, ℕ, AllPairs, List, Some, ap, arith, count_by, length, refl, slice_get, subst, sym, ◌∙◌}
use Rattle.std.specs.Prelude.{IfSome, option_map}
use Rattle.std.specs.Option.{option_map_or}
use Rattle.claim_table.specs.declared.job.Job.{Job}
use Rattle.claim_table.specs.declared.job.Stage.{Stage}
use Rattle.claim_table.specs.Jobs.{AreFree, wanted, with_standing}
use Rattle.claim_table.specs.Table.{jobs_of}
use Rattle.job_clusters.specs.Pools.{is_free}
use Rattle.job_clusters.specs.Scenes.{settings_in, stock_in}
use Rattle.negotiator.specs.Budget.{ArePaid, counted_with}
use Rattle.negotiator.specs.Markets.{found, offer_named}
use Rattle.negotiator.specs.Scenes.{IsReady}
use Rattle.negotiator.proofs.BudgetLemmas.{fail-paid, idle-within, offer-paid, paid-none, paid-within, search-within}
use Rattle.negotiator.proofs.KeptLemmas.{clusters-later, same-clusters}
use Rattle.negotiator.proofs.CycleLemmas.{offer}
use Rattle.negotiator.proofs.FreeLemmas.{free-given}
use Rattle.negotiator.proofs.ReadyLemmas.{ready-given, ready-marked}
use Rattle.negotiator.proofs.SpinLoopLemmas.{on_err}
use Rattle.negotiator.proofs.search.try_job.Goals as goal

pub bounds-failed-i : goal.bounds-failed-i
bounds-failed-i g c =
    let place = idle-within (jobs_of c.args.claims.now) c.args.i c.requires.idle in
    omega (arith, place, c.requires.ready.marks)

pub bounds-failed-i-in_default : goal.bounds-failed-i-in_default
bounds-failed-i-in_default g c =
    let place = idle-within (jobs_of c.args.claims.now) c.args.i c.requires.idle in
    omega (arith, place, c.requires.ready.marks)

pub returns-then-failed-i-clause-offered : goal.returns-then-failed-i-clause-offered
returns-then-failed-i-clause-offered g c =
    let jobs = jobs_of c.args.claims.now in
    sym (ap (option_map (λ slots. offer_named jobs (offer c.args.i slots))) (c.requires.ready.known c.args.i c.if-failed-i.true))

pub returns-then-failed-i-clause-table : goal.returns-then-failed-i-clause-table
returns-then-failed-i-clause-table g c =
    let jobs = jobs_of c.args.claims.now in
    sym (ap (λ o. option_map_or (λ slots. with_standing jobs c.args.i (Stage.Matched slots)) o jobs) (c.requires.ready.known c.args.i c.if-failed-i.true))

pub returns-then-failed-i-clause-paid : goal.returns-then-failed-i-clause-paid
returns-then-failed-i-clause-paid g c =
    let here = counted_with c.args.meter.now c.args.clusters.now in
    paid-none c.args.scene.now.moment (stock_in c.args.scene.now) (settings_in c.args.scene.now) (jobs_of c.args.claims.now) c.args.failed.now here

pub returns-then-failed-i-clause-within : goal.returns-then-failed-i-clause-within
returns-then-failed-i-clause-within g c =
    let here = counted_with c.args.meter.now c.args.clusters.now in
    let jobs = jobs_of c.args.claims.now in
    paid-within c.args.scene.now.moment (stock_in c.args.scene.now) (settings_in c.args.scene.now) jobs jobs c.args.failed.now c.args.failed.now here here
    (paid-none c.args.scene.now.moment (stock_in c.args.scene.now) (settings_in c.args.scene.now) jobs c.args.failed.now here)

pub returns-then-failed-i-clause-ready : goal.returns-then-failed-i-clause-ready
returns-then-failed-i-clause-ready g c = c.requires.ready

pub returns-then-failed-i-clause-clusters : goal.returns-then-failed-i-clause-clusters
returns-then-failed-i-clause-clusters g c = c.requires.clusters

pub returns-then-failed-i-clause-ratio : goal.returns-then-failed-i-clause-ratio
returns-then-failed-i-clause-ratio g c ads small = omega arith

pub search-requires-clause-place : goal.search-requires-clause-place
search-requires-clause-place g c = idle-within (jobs_of c.args.claims.now) c.args.i c.requires.idle

pub search-requires-clause-index : goal.search-requires-clause-index
search-requires-clause-index g c = c.requires.ready.index

pub search-requires-clause-stored : goal.search-requires-clause-stored
search-requires-clause-stored g c = c.requires.ready.stored

pub search-requires-clause-ports : goal.search-requires-clause-ports
search-requires-clause-ports g c = c.requires.ready.ports

pub search-requires-clause-clusters : goal.search-requires-clause-clusters
search-requires-clause-clusters g c = c.requires.clusters

pub returns-in_err-slots-clause-ready : goal.returns-in_err-slots-clause-ready
returns-in_err-slots-clause-ready g c = c.requires.ready

pub returns-in_err-slots-clause-clusters : goal.returns-in_err-slots-clause-clusters
returns-in_err-slots-clause-clusters g c = c.search.ensures.clusters

pub returns-in_err-slots-clause-ratio : goal.returns-in_err-slots-clause-ratio
returns-in_err-slots-clause-ratio g c = c.search.ensures.ratio

pub returns-in_err-slots-clause-within : goal.returns-in_err-slots-clause-within
returns-in_err-slots-clause-within g c =
    let jobs = jobs_of c.args.claims.now in
    let place = idle-within jobs c.args.i c.requires.idle in
    search-within c.args.scene.now.moment (stock_in c.args.scene.now) (settings_in c.args.scene.now) jobs c.args.failed.now c.args.i c.requires.idle
    c.if-failed-i.false (omega (arith, place, c.requires.ready.marks))
    (counted_with c.args.meter.now c.args.clusters.now)
    (counted_with c.search.new.meter c.search.new.clusters) c.search.ensures.counted

pub returns-in_default-clause-offered : goal.returns-in_default-clause-offered
returns-in_default-clause-offered g c =
    let jobs = jobs_of c.args.claims.now in
    sym (ap (option_map (λ slots. offer_named jobs (offer c.args.i slots))) (sym c.in_ok-slots.ensures.found ∙ c.in_default.is))

pub returns-in_default-clause-table : goal.returns-in_default-clause-table
returns-in_default-clause-table g c =
    let jobs = jobs_of c.args.claims.now in
    sym (ap (λ o. option_map_or (λ slots. with_standing jobs c.args.i (Stage.Matched slots)) o jobs) (sym c.in_ok-slots.ensures.found ∙ c.in_default.is))

pub returns-in_default-clause-ready : goal.returns-in_default-clause-ready
returns-in_default-clause-ready g c =
    ready-marked c.args.scene.now (jobs_of c.args.claims.now) c.args.failed.now c.requires.ready c.args.i (sym c.in_ok-slots.ensures.found ∙ c.in_default.is)

pub returns-in_default-clause-paid : goal.returns-in_default-clause-paid
returns-in_default-clause-paid g c =
    let jobs = jobs_of c.args.claims.now in
    let place = idle-within jobs c.args.i c.requires.idle in
    fail-paid c.args.scene.now.moment (stock_in c.args.scene.now) (settings_in c.args.scene.now) jobs c.args.failed.now c.args.i c.requires.idle
    c.if-failed-i.false (omega (arith, place, c.requires.ready.marks))
    (counted_with c.args.meter.now c.args.clusters.now)
    (counted_with c.search.new.meter c.search.new.clusters) c.search.ensures.counted

pub returns-in_default-clause-within : goal.returns-in_default-clause-within
returns-in_default-clause-within g c =
    let jobs = jobs_of c.args.claims.now in
    let place = idle-within jobs c.args.i c.requires.idle in
    search-within c.args.scene.now.moment (stock_in c.args.scene.now) (settings_in c.args.scene.now) jobs c.args.failed.now c.args.i c.requires.idle
    c.if-failed-i.false (omega (arith, place, c.requires.ready.marks))
    (counted_with c.args.meter.now c.args.clusters.now)
    (counted_with c.search.new.meter c.search.new.clusters) c.search.ensures.counted

pub returns-in_default-clause-clusters : goal.returns-in_default-clause-clusters
returns-in_default-clause-clusters g c = c.search.ensures.clusters

pub returns-in_default-clause-ratio : goal.returns-in_default-clause-ratio
returns-in_default-clause-ratio g c = c.search.ensures.ratio

pub give-requires-clause-free : goal.give-requires-clause-free
give-requires-clause-free g c = subst (λ o. IfSome o (λ list. AreFree list (jobs_of c.args.claims.now))) c.in-Some.is c.in_ok-slots.ensures.free

pub give-requires-clause-distinct : goal.give-requires-clause-distinct
give-requires-clause-distinct g c = subst (λ o. IfSome o (AllPairs (λ (a b : ℕ). a ≢ b))) c.in-Some.is c.in_ok-slots.ensures.distinct

pub give-requires-clause-enough : goal.give-requires-clause-enough
give-requires-clause-enough g c =
    subst (λ o. IfSome o (λ (list : List ℕ). option_map (λ (job : Job). wanted job.request) (slice_get (jobs_of c.args.claims.now) c.args.i)
    ≡ Some (length list))) c.in-Some.is c.in_ok-slots.ensures.enough

pub overflow_sub-clusters : goal.overflow_sub-clusters
overflow_sub-clusters g c =
    let scene = c.args.scene.now in
    let jobs = jobs_of c.args.claims.now in
    let slots = c.in-Some.slots in
    let is_found : found scene.moment (stock_in scene) (settings_in scene) jobs c.args.i ≡ Some slots = sym c.in_ok-slots.ensures.found ∙ c.in-Some.is in
    let fewer = free-given scene jobs c.args.i slots c.free_in-taken.result c.requires.idle c.slots_are_apart.ensures
    (subst (λ o. IfSome o (AllPairs (λ (a b : ℕ). a ≢ b))) c.in-Some.is c.in_ok-slots.ensures.distinct) is_found
    (c.free_in-taken.ensures ∙ ap (count_by (is_free jobs)) c.as_slice.ensures) in
    omega (arith, fewer, c.search.ensures.clusters.free)

pub returns-in_err-offered-clause-err : goal.returns-in_err-offered-clause-err
returns-in_err-offered-clause-err g c = on_err _ c.in_err-offered.ensures.err

pub returns-in_err-offered-clause-ready : goal.returns-in_err-offered-clause-ready
returns-in_err-offered-clause-ready g c = subst (λ js. IsReady c.args.scene.now js c.args.failed.now) (sym c.in_err-offered.ensures.err) c.requires.ready

pub returns-in_err-offered-clause-clusters : goal.returns-in_err-offered-clause-clusters
returns-in_err-offered-clause-clusters g c = same-clusters c.args.scene.now c.in_err-offered.ensures.err refl c.search.ensures.clusters

pub returns-in_err-offered-clause-within : goal.returns-in_err-offered-clause-within
returns-in_err-offered-clause-within g c =
    let jobs = jobs_of c.args.claims.now in
    let place = idle-within jobs c.args.i c.requires.idle in
    search-within c.args.scene.now.moment (stock_in c.args.scene.now) (settings_in c.args.scene.now) jobs c.args.failed.now c.args.i c.requires.idle
    c.if-failed-i.false (omega (arith, place, c.requires.ready.marks))
    (counted_with c.args.meter.now c.args.clusters.now)
    (counted_with c.search.new.meter c.search.new.clusters) c.search.ensures.counted

pub returns-in_err-offered-clause-ratio : goal.returns-in_err-offered-clause-ratio
returns-in_err-offered-clause-ratio g c = c.search.ensures.ratio

pub returns-clause-offered : goal.returns-clause-offered
returns-clause-offered g c =
    let jobs = jobs_of c.args.claims.now in
    ap Some c.in_ok-offered.ensures.offered ∙ sym (ap (option_map (λ slots. offer_named jobs (offer c.args.i slots)))
    (sym c.in_ok-slots.ensures.found ∙ c.in-Some.is))

pub returns-clause-table : goal.returns-clause-table
returns-clause-table g c =
    let jobs = jobs_of c.args.claims.now in
    c.in_ok-offered.ensures.ok ∙ sym (ap (λ o. option_map_or (λ slots. with_standing jobs c.args.i (Stage.Matched slots)) o jobs)
    (sym c.in_ok-slots.ensures.found ∙ c.in-Some.is))

pub returns-clause-ready : goal.returns-clause-ready
returns-clause-ready g c =
    subst (λ js. IsReady c.args.scene.now js c.args.failed.now) (sym c.in_ok-offered.ensures.ok)
    (ready-given c.args.scene.now (jobs_of c.args.claims.now) c.args.failed.now c.requires.ready c.args.i c.in-Some.slots c.requires.idle)

pub returns-clause-clusters : goal.returns-clause-clusters
returns-clause-clusters g c =
    let scene = c.args.scene.now in
    let jobs = jobs_of c.args.claims.now in
    let slots = c.in-Some.slots in
    let is_found : found scene.moment (stock_in scene) (settings_in scene) jobs c.args.i ≡ Some slots = sym c.in_ok-slots.ensures.found ∙ c.in-Some.is in
    let fewer = free-given scene jobs c.args.i slots c.free_in-taken.result c.requires.idle c.slots_are_apart.ensures
    (subst (λ o. IfSome o (AllPairs (λ (a b : ℕ). a ≢ b))) c.in-Some.is c.in_ok-slots.ensures.distinct) is_found
    (c.free_in-taken.ensures ∙ ap (count_by (is_free jobs)) c.as_slice.ensures) in
    same-clusters scene c.in_ok-offered.ensures.ok refl
    (clusters-later scene.moment (stock_in scene) (settings_in scene) jobs c.args.i slots c.requires.idle c.search.new.clusters c.free_in-taken.result fewer
    c.search.ensures.clusters)

pub returns-clause-paid : goal.returns-clause-paid
returns-clause-paid g c =
    let jobs = jobs_of c.args.claims.now in
    let place = idle-within jobs c.args.i c.requires.idle in
    let x = counted_with c.args.meter.now c.args.clusters.now in
    let y = counted_with c.search.new.meter c.search.new.clusters in
    subst (λ js. ArePaid c.args.scene.now.moment (stock_in c.args.scene.now) (settings_in c.args.scene.now) jobs js c.args.failed.now c.args.failed.now x y)
    (sym c.in_ok-offered.ensures.ok)
    (offer-paid c.args.scene.now.moment (stock_in c.args.scene.now) (settings_in c.args.scene.now) jobs c.args.failed.now c.args.i c.requires.idle
    c.if-failed-i.false (omega (arith, place, c.requires.ready.marks)) x y c.search.ensures.counted c.in-Some.slots)

pub returns-clause-within : goal.returns-clause-within
returns-clause-within g c =
    let jobs = jobs_of c.args.claims.now in
    let place = idle-within jobs c.args.i c.requires.idle in
    search-within c.args.scene.now.moment (stock_in c.args.scene.now) (settings_in c.args.scene.now) jobs c.args.failed.now c.args.i c.requires.idle
    c.if-failed-i.false (omega (arith, place, c.requires.ready.marks))
    (counted_with c.args.meter.now c.args.clusters.now)
    (counted_with c.search.new.meter c.search.new.clusters) c.search.ensures.counted

pub returns-clause-ratio : goal.returns-clause-ratio
returns-clause-ratio g c = c.search.ensures.ratio
