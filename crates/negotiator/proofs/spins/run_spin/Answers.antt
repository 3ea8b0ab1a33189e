use Rattle.std.proofs.Common.{◌≤◌, ◌<◌, ◌^◌, List, ℕ, All, ap, arith, get_or, length, map, subst, sym, ◌∙◌}
use Rattle.claim_table.specs.Table.{jobs_of}
use Rattle.claim_table.specs.Priorities.{priority_of}
use Rattle.job_clusters.specs.Scenes.{settings_in, stock_in}
use Rattle.negotiator.specs.Budget.{counted_with}
use Rattle.negotiator.specs.Scenes.{market_in, users_at}
use Rattle.claim_table.specs.Settings.{settings_of}
use Rattle.negotiator.proofs.BudgetLemmas.{within-none}
use Rattle.negotiator.proofs.HeadLemmas.{head-later}
use Rattle.negotiator.proofs.SpinLoopLemmas.{few-weights, on_err, part-none, slices-length, spin-part, spin-shown, spin-table}
use Rattle.pie_slices.specs.Slices.{weight_of}
use Rattle.negotiator.proofs.spins.run_spin.Goals as goal

pub active_of-requires-clause-queues : goal.active_of-requires-clause-queues
active_of-requires-clause-queues g c = c.requires.queues

pub active_of-requires-clause-marks : goal.active_of-requires-clause-marks
active_of-requires-clause-marks g c = c.requires.ready.marks

pub active_of-requires-clause-ahead : goal.active_of-requires-clause-ahead
active_of-requires-clause-ahead g c = c.requires.ahead

pub returns-in_err-active-clause-part : goal.returns-in_err-active-clause-part
returns-in_err-active-clause-part g c = on_err _ (part-none _ (jobs_of c.args.claims.now))

pub returns-in_err-active-clause-ready : goal.returns-in_err-active-clause-ready
returns-in_err-active-clause-ready g c = c.requires.ready

pub returns-in_err-active-clause-clusters : goal.returns-in_err-active-clause-clusters
returns-in_err-active-clause-clusters g c = c.requires.clusters

pub returns-in_err-active-clause-ratio : goal.returns-in_err-active-clause-ratio
returns-in_err-active-clause-ratio g c ads small = omega arith

pub returns-in_err-active-clause-within : goal.returns-in_err-active-clause-within
returns-in_err-active-clause-within g c =
    within-none c.args.scene.now.moment (stock_in c.args.scene.now) (settings_in c.args.scene.now) (jobs_of c.args.claims.now) c.args.failed.now
    (counted_with c.args.meter.now c.args.clusters.now)

pub weights_of-requires : goal.weights_of-requires
weights_of-requires g c = subst (All (λ (k : ℕ). k < length c.active_of.new.queues)) (sym c.as_slice.ensures) c.in_ok-active.ensures.within

pub returns-in_err-weights-clause-part : goal.returns-in_err-weights-clause-part
returns-in_err-weights-clause-part g c = on_err _ (part-none _ (jobs_of c.args.claims.now))

pub returns-in_err-weights-clause-ready : goal.returns-in_err-weights-clause-ready
returns-in_err-weights-clause-ready g c = c.requires.ready

pub returns-in_err-weights-clause-clusters : goal.returns-in_err-weights-clause-clusters
returns-in_err-weights-clause-clusters g c = c.requires.clusters

pub returns-in_err-weights-clause-ratio : goal.returns-in_err-weights-clause-ratio
returns-in_err-weights-clause-ratio g c ads small = omega arith

pub returns-in_err-weights-clause-within : goal.returns-in_err-weights-clause-within
returns-in_err-weights-clause-within g c =
    within-none c.args.scene.now.moment (stock_in c.args.scene.now) (settings_in c.args.scene.now) (jobs_of c.args.claims.now) c.args.failed.now
    (counted_with c.args.meter.now c.args.clusters.now)

pub slices-requires-clause-users : goal.slices-requires-clause-users
slices-requires-clause-users g c =
    few-weights c.args.scene.now (jobs_of c.args.claims.now) c.active_of.new.queues c.as_slice.result.now c.as_slice-2.result.now c.requires.ready.few
    (ap (users_at c.active_of.new.queues) c.as_slice.ensures ∙ c.in_ok-active.ensures.users) (c.as_slice-2.ensures ∙ c.in_ok-weights.ensures.weights)

pub slices-requires-clause-least : goal.slices-requires-clause-least
slices-requires-clause-least g c = subst (All (λ (w : ℕ). 1 ≤ w)) (sym c.as_slice-2.ensures) c.in_ok-weights.ensures.least

pub slices-requires-clause-most : goal.slices-requires-clause-most
slices-requires-clause-most g c = subst (All (λ (w : ℕ). w ≤ 10 ^ 12)) (sym c.as_slice-2.ensures) c.in_ok-weights.ensures.most

pub returns-in_err-slices-clause-part : goal.returns-in_err-slices-clause-part
returns-in_err-slices-clause-part g c = on_err _ (part-none _ (jobs_of c.args.claims.now))

pub returns-in_err-slices-clause-ready : goal.returns-in_err-slices-clause-ready
returns-in_err-slices-clause-ready g c = c.requires.ready

pub returns-in_err-slices-clause-clusters : goal.returns-in_err-slices-clause-clusters
returns-in_err-slices-clause-clusters g c = c.requires.clusters

pub returns-in_err-slices-clause-ratio : goal.returns-in_err-slices-clause-ratio
returns-in_err-slices-clause-ratio g c ads small = omega arith

pub returns-in_err-slices-clause-within : goal.returns-in_err-slices-clause-within
returns-in_err-slices-clause-within g c =
    within-none c.args.scene.now.moment (stock_in c.args.scene.now) (settings_in c.args.scene.now) (jobs_of c.args.claims.now) c.args.failed.now
    (counted_with c.args.meter.now c.args.clusters.now)

pub slices-requires-clause-free : goal.slices-requires-clause-free
slices-requires-clause-free g c = c.requires.clusters.few

pub run_turns-requires-clause-own : goal.run_turns-requires-clause-own
run_turns-requires-clause-own g c = (c.in_ok-active.ensures.queues (market_in c.args.scene.now (jobs_of c.args.claims.now)) c.requires.queues).places

pub run_turns-requires-clause-ahead : goal.run_turns-requires-clause-ahead
run_turns-requires-clause-ahead g c = c.in_ok-active.ensures.ahead

pub run_turns-requires-clause-active : goal.run_turns-requires-clause-active
run_turns-requires-clause-active g c = subst (All (λ (k : ℕ). k < length c.active_of.new.queues)) (sym c.as_slice-3.ensures) c.in_ok-active.ensures.within

pub run_turns-requires-clause-slices : goal.run_turns-requires-clause-slices
run_turns-requires-clause-slices g c =
    let users = ap (users_at c.active_of.new.queues) c.as_slice-3.ensures ∙ c.in_ok-active.ensures.users in
    let weights =
    c.as_slice-2.ensures ∙ c.in_ok-weights.ensures.weights
    ∙ ap (λ (l : List ℕ). map (λ user. weight_of (priority_of user (settings_of c.args.scene.now.priorities.now)))
    (users_at c.active_of.new.queues l)) (c.as_slice.ensures ∙ sym c.as_slice-3.ensures) in
    slices-length c.args.scene.now (jobs_of c.args.claims.now) c.active_of.new.queues c.as_slice-3.result.now c.as_slice-2.result.now c.as_slice-4.result.now
    c.args.clusters.now.free c.requires.clusters.free users weights (c.as_slice-4.ensures ∙ c.in_ok-slices.ensures)

pub run_turns-requires-clause-ready : goal.run_turns-requires-clause-ready
run_turns-requires-clause-ready g c = c.requires.ready

pub run_turns-requires-clause-clusters : goal.run_turns-requires-clause-clusters
run_turns-requires-clause-clusters g c = c.requires.clusters

pub returns-in_err-turns-clause-part : goal.returns-in_err-turns-clause-part
returns-in_err-turns-clause-part g c =
    let users = ap (users_at c.active_of.new.queues) c.as_slice-3.ensures ∙ c.in_ok-active.ensures.users in
    let weights =
    c.as_slice-2.ensures ∙ c.in_ok-weights.ensures.weights
    ∙ ap (λ (l : List ℕ). map (λ user. weight_of (priority_of user (settings_of c.args.scene.now.priorities.now)))
    (users_at c.active_of.new.queues l)) (c.as_slice.ensures ∙ sym c.as_slice-3.ensures) in
    on_err _ (spin-part c.args.scene.now (jobs_of c.args.claims.now) c.active_of.new.queues c.as_slice-3.result.now c.as_slice-2.result.now
    c.as_slice-4.result.now c.args.clusters.now.free c.requires.clusters.free users weights (c.as_slice-4.ensures ∙ c.in_ok-slices.ensures)
    (jobs_of c.run_turns.new.claims) c.in_err-turns.ensures.part)

pub returns-in_err-turns-clause-ready : goal.returns-in_err-turns-clause-ready
returns-in_err-turns-clause-ready g c = c.run_turns.ensures.ready

pub returns-in_err-turns-clause-clusters : goal.returns-in_err-turns-clause-clusters
returns-in_err-turns-clause-clusters g c = c.run_turns.ensures.clusters

pub returns-in_err-turns-clause-within : goal.returns-in_err-turns-clause-within
returns-in_err-turns-clause-within g c = c.run_turns.ensures.within

pub returns-in_err-turns-clause-ratio : goal.returns-in_err-turns-clause-ratio
returns-in_err-turns-clause-ratio g c = c.run_turns.ensures.ratio

pub returns-clause-spin : goal.returns-clause-spin
returns-clause-spin g c =
    let users = ap (users_at c.active_of.new.queues) c.as_slice-3.ensures ∙ c.in_ok-active.ensures.users in
    let weights =
    c.as_slice-2.ensures ∙ c.in_ok-weights.ensures.weights
    ∙ ap (λ (l : List ℕ). map (λ user. weight_of (priority_of user (settings_of c.args.scene.now.priorities.now)))
    (users_at c.active_of.new.queues l)) (c.as_slice.ensures ∙ sym c.as_slice-3.ensures) in
    spin-shown c.args.scene.now (jobs_of c.args.claims.now) c.active_of.new.queues c.as_slice-3.result.now c.as_slice-2.result.now c.as_slice-4.result.now
    c.args.clusters.now.free c.requires.clusters.free users weights (c.as_slice-4.ensures ∙ c.in_ok-slices.ensures) c.in_ok-turns.turns
    c.in_ok-turns.ensures.turns

pub returns-clause-table : goal.returns-clause-table
returns-clause-table g c =
    let users = ap (users_at c.active_of.new.queues) c.as_slice-3.ensures ∙ c.in_ok-active.ensures.users in
    let weights =
    c.as_slice-2.ensures ∙ c.in_ok-weights.ensures.weights
    ∙ ap (λ (l : List ℕ). map (λ user. weight_of (priority_of user (settings_of c.args.scene.now.priorities.now)))
    (users_at c.active_of.new.queues l)) (c.as_slice.ensures ∙ sym c.as_slice-3.ensures) in
    spin-table c.args.scene.now (jobs_of c.args.claims.now) c.active_of.new.queues c.as_slice-3.result.now c.as_slice-2.result.now c.as_slice-4.result.now
    c.args.clusters.now.free c.requires.clusters.free users weights (c.as_slice-4.ensures ∙ c.in_ok-slices.ensures) (jobs_of c.run_turns.new.claims)
    c.in_ok-turns.ensures.table

pub returns-clause-ready : goal.returns-clause-ready
returns-clause-ready g c = c.run_turns.ensures.ready

pub returns-clause-clusters : goal.returns-clause-clusters
returns-clause-clusters g c = c.run_turns.ensures.clusters

pub returns-clause-paid : goal.returns-clause-paid
returns-clause-paid g c = c.in_ok-turns.ensures.paid

pub returns-clause-within : goal.returns-clause-within
returns-clause-within g c = c.run_turns.ensures.within

pub returns-clause-ratio : goal.returns-clause-ratio
returns-clause-ratio g c = c.run_turns.ensures.ratio

pub returns-clause-queues : goal.returns-clause-queues
returns-clause-queues g c = c.in_ok-active.ensures.queues

pub returns-clause-ahead : goal.returns-clause-ahead
returns-clause-ahead g c k d within =
    head-later (jobs_of c.args.claims.now) (jobs_of c.run_turns.new.claims) c.args.failed.now c.run_turns.new.failed (get_or c.active_of.new.queues k d)
    c.in_ok-turns.ensures.paid.others
    (c.in_ok-active.ensures.ahead k d within)
