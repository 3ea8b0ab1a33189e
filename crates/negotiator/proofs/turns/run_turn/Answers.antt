use Rattle.std.proofs.Common.{List, ℕ, ap, arith, false, get_or, map, refl, subst, sym, ◌∙◌}
use Rattle.pool_steps.proofs.MeterLemmas.{same-none, same-on}
use Rattle.claim_table.specs.Small.{AreSmallJobs}
use Rattle.claim_table.specs.Table.{jobs_of}
use Rattle.job_clusters.specs.Scenes.{settings_in, stock_in}
use Rattle.negotiator.specs.declared.answers.Offered.{Offered}
use Rattle.negotiator.specs.Budget.{counted_with}
use Rattle.negotiator.specs.Cycle.{Offer}
use Rattle.negotiator.specs.Markets.{IsPart, offer_named, with_offers}
use Rattle.negotiator.proofs.BudgetLemmas.{paid-none, paid-on, paid-within, within-on}
use Rattle.negotiator.proofs.KeptLemmas.{counted-same, same-clusters}
use Rattle.negotiator.proofs.SmallLemmas.{small-offers}
use Rattle.negotiator.proofs.SpinLoopLemmas.{on_err}
use Rattle.negotiator.proofs.TurnLoopLemmas.{TurnLoop, ended-all, ended-offers, ended-table, in-slice-either, length-here, loop-same, over-slice, own-place}
use Rattle.negotiator.proofs.TurnLoopLemmas.{own-turn, own-within, stopped, tried-none, tried-some, tried-stopped, turn-passes, turn-start, turn-stops}
use Rattle.negotiator.proofs.TurnLoopLemmas.{wants-here}
use Rattle.negotiator.proofs.turns.run_turn.Goals.{then-is_idle+else-given+in_ok-offer+in-Some+in_ok-push, then-is_idle+else-given+in_ok-offer+in_default}
use Rattle.negotiator.proofs.turns.run_turn.Goals.{else-is_idle}
use Rattle.negotiator.proofs.turns.run_turn.Goals as goal

pub loop-place-init : goal.loop-place-init
loop-place-init g c =
    let began = jobs_of c.args.claims.now in
    let start = counted_with c.args.meter.now c.args.clusters.now in
    let items = c.rest-place-items.result.now in
    record {
      turn = subst (λ (list : List Offered). TurnLoop c.args.scene.now began c.args.share.now.queue.now.user items c.args.share.now.slice c.args.failed.now
          start 0 c.args.share.now.slice false list began c.args.failed.now start) (sym c.new-offers.ensures)
          (turn-start c.args.scene.now began c.args.share.now.queue.now.user items c.args.share.now.slice c.args.failed.now start c.requires.ready
          (paid-none c.args.scene.now.moment (stock_in c.args.scene.now) (settings_in c.args.scene.now) began c.args.failed.now start));
      clusters = c.requires.clusters;
      same = same-none c.args.meter.now;
      ratio = λ ads small. omega arith;
    }

pub is_idle-requires : goal.is_idle-requires
is_idle-requires g c =
    let within =
    own-within c.args.scene.now (jobs_of c.args.claims.now) c.args.share.now.queue.now.user c.args.failed.now c.rest-place-items.result.now
    c.loop-place.place-index (record {
      queue = c.args.share.now.queue.now;
      from = c.rest-place-items.ensures;
      own = c.requires.own;
      ahead = c.requires.ahead;
      ready = c.requires.ready;
    })
    c.loop-place-test.true in
    omega (arith, within, length-here c.args.scene.now (jobs_of c.args.claims.now) c.loop-place.invariant.turn)

pub wants-wants-requires : goal.wants-wants-requires
wants-wants-requires g c =
    let within =
    own-within c.args.scene.now (jobs_of c.args.claims.now) c.args.share.now.queue.now.user c.args.failed.now c.rest-place-items.result.now
    c.loop-place.place-index (record {
      queue = c.args.share.now.queue.now;
      from = c.rest-place-items.ensures;
      own = c.requires.own;
      ahead = c.requires.ahead;
      ready = c.requires.ready;
    })
    c.loop-place-test.true in
    omega (arith, within, length-here c.args.scene.now (jobs_of c.args.claims.now) c.loop-place.invariant.turn)

pub returns-then-left-wants-clause-offers : goal.returns-then-left-wants-clause-offers
returns-then-left-wants-clause-offers g c =
    let items = c.rest-place-items.result.now in
    let i = get_or items c.loop-place.place-index 0 in
    let own =
    own-place c.args.scene.now (jobs_of c.args.claims.now) c.args.share.now.queue.now.user c.args.failed.now items c.loop-place.place-index
    (record { queue = c.args.share.now.queue.now; from = c.rest-place-items.ensures; own = c.requires.own; ahead = c.requires.ahead; ready = c.requires.ready })
    c.loop-place-test.true in
    let wants_is = wants-here c.args.scene.now (jobs_of c.args.claims.now) c.loop-place.invariant.turn i c.wants-wants.result c.wants-wants.ensures in
    ended-offers c.args.scene.now (jobs_of c.args.claims.now) c.loop-place.invariant.turn
    (turn-stops c.args.scene.now (jobs_of c.args.claims.now) c.loop-place.invariant.turn i c.loop-place-test.true refl own
    (sym c.is_idle.ensures ∙ c.if-is_idle.true)
    (over-slice c.loop-place.given c.loop-place.left c.wants-wants.result _ wants_is c.if-given.true c.if-left-wants.true))
    ∙ ap (map (offer_named (jobs_of c.args.claims.now)))
    (own-turn c.args.scene.now (jobs_of c.args.claims.now) c.args.share.now.queue.now.user c.args.failed.now c.rest-place-items.result.now
    c.args.share.now.slice (record {
      queue = c.args.share.now.queue.now;
      from = c.rest-place-items.ensures;
      own = c.requires.own;
      ahead = c.requires.ahead;
      ready = c.requires.ready;
    }))

pub returns-then-left-wants-clause-table : goal.returns-then-left-wants-clause-table
returns-then-left-wants-clause-table g c =
    let items = c.rest-place-items.result.now in
    let i = get_or items c.loop-place.place-index 0 in
    let own =
    own-place c.args.scene.now (jobs_of c.args.claims.now) c.args.share.now.queue.now.user c.args.failed.now items c.loop-place.place-index
    (record { queue = c.args.share.now.queue.now; from = c.rest-place-items.ensures; own = c.requires.own; ahead = c.requires.ahead; ready = c.requires.ready })
    c.loop-place-test.true in
    let wants_is = wants-here c.args.scene.now (jobs_of c.args.claims.now) c.loop-place.invariant.turn i c.wants-wants.result c.wants-wants.ensures in
    ended-table c.args.scene.now (jobs_of c.args.claims.now) c.loop-place.invariant.turn
    (turn-stops c.args.scene.now (jobs_of c.args.claims.now) c.loop-place.invariant.turn i c.loop-place-test.true refl own
    (sym c.is_idle.ensures ∙ c.if-is_idle.true)
    (over-slice c.loop-place.given c.loop-place.left c.wants-wants.result _ wants_is c.if-given.true c.if-left-wants.true))
    ∙ ap (λ (os : List (Offer ℕ)). with_offers os (jobs_of c.args.claims.now))
    (own-turn c.args.scene.now (jobs_of c.args.claims.now) c.args.share.now.queue.now.user c.args.failed.now c.rest-place-items.result.now
    c.args.share.now.slice (record {
      queue = c.args.share.now.queue.now;
      from = c.rest-place-items.ensures;
      own = c.requires.own;
      ahead = c.requires.ahead;
      ready = c.requires.ready;
    }))

pub returns-then-left-wants-clause-clusters : goal.returns-then-left-wants-clause-clusters
returns-then-left-wants-clause-clusters g c = c.loop-place.invariant.clusters

pub returns-then-left-wants-clause-ready : goal.returns-then-left-wants-clause-ready
returns-then-left-wants-clause-ready g c = c.loop-place.invariant.turn.ready

pub returns-then-left-wants-clause-paid : goal.returns-then-left-wants-clause-paid
returns-then-left-wants-clause-paid g c = c.loop-place.invariant.turn.paid

pub returns-then-left-wants-clause-within : goal.returns-then-left-wants-clause-within
returns-then-left-wants-clause-within g c =
    paid-within c.args.scene.now.moment (stock_in c.args.scene.now) (settings_in c.args.scene.now) (jobs_of c.args.claims.now) (jobs_of c.loop-place.claims)
    c.args.failed.now c.loop-place.failed (counted_with c.args.meter.now c.args.clusters.now)
    (counted_with c.loop-place.meter c.loop-place.clusters) c.loop-place.invariant.turn.paid

pub returns-then-left-wants-clause-ratio : goal.returns-then-left-wants-clause-ratio
returns-then-left-wants-clause-ratio g c = c.loop-place.invariant.ratio

pub try_job-requires-clause-idle : goal.try_job-requires-clause-idle
try_job-requires-clause-idle g c = sym c.is_idle.ensures ∙ c.if-is_idle.true

pub try_job-requires-clause-clusters : goal.try_job-requires-clause-clusters
try_job-requires-clause-clusters g c = c.loop-place.invariant.clusters

pub try_job-requires-clause-ready : goal.try_job-requires-clause-ready
try_job-requires-clause-ready g c = c.loop-place.invariant.turn.ready

pub returns-in_err-offer-clause-part : goal.returns-in_err-offer-clause-part
returns-in_err-offer-clause-part g c =
    let began = jobs_of c.args.claims.now in
    on_err _ (subst (λ (os : List (Offer ℕ)). IsPart os (jobs_of c.args.claims.now) (jobs_of c.try_job.new.claims))
    (own-turn c.args.scene.now (jobs_of c.args.claims.now) c.args.share.now.queue.now.user c.args.failed.now c.rest-place-items.result.now
    c.args.share.now.slice (record {
      queue = c.args.share.now.queue.now;
      from = c.rest-place-items.ensures;
      own = c.requires.own;
      ahead = c.requires.ahead;
      ready = c.requires.ready;
    }))
    (subst (IsPart _ began) (sym c.in_err-offer.ensures.err) (stopped c.args.scene.now (jobs_of c.args.claims.now) c.loop-place.invariant.turn)))

pub returns-in_err-offer-clause-within : goal.returns-in_err-offer-clause-within
returns-in_err-offer-clause-within g c =
    let began = jobs_of c.args.claims.now in
    let jobs = jobs_of c.loop-place.claims in
    let start = counted_with c.args.meter.now c.args.clusters.now in
    let now = counted_with c.loop-place.meter c.loop-place.clusters in
    let after = counted_with c.try_job.new.meter c.try_job.new.clusters in
    within-on c.args.scene.now.moment (stock_in c.args.scene.now) (settings_in c.args.scene.now) began jobs c.args.failed.now c.loop-place.failed start now
    after c.loop-place.invariant.turn.paid c.in_err-offer.ensures.within

pub returns-in_err-offer-clause-ratio : goal.returns-in_err-offer-clause-ratio
returns-in_err-offer-clause-ratio g c ads small =
    let turn = c.loop-place.invariant.turn in
    omega (
      arith,
      c.loop-place.invariant.ratio ads small,
      c.try_job.ensures.ratio ads (small-offers turn.made (jobs_of c.args.claims.now) (jobs_of c.loop-place.claims) turn.table small),
    )

pub returns-in_err-push-clause-part : goal.returns-in_err-push-clause-part
returns-in_err-push-clause-part g c =
    let items = c.rest-place-items.result.now in
    let i = get_or items c.loop-place.place-index 0 in
    let own =
    own-place c.args.scene.now (jobs_of c.args.claims.now) c.args.share.now.queue.now.user c.args.failed.now items c.loop-place.place-index
    (record { queue = c.args.share.now.queue.now; from = c.rest-place-items.ensures; own = c.requires.own; ahead = c.requires.ahead; ready = c.requires.ready })
    c.loop-place-test.true in
    let wants_is = wants-here c.args.scene.now (jobs_of c.args.claims.now) c.loop-place.invariant.turn i c.wants-wants.result c.wants-wants.ensures in
    on_err _ (subst (λ (os : List (Offer ℕ)). IsPart os (jobs_of c.args.claims.now) (jobs_of c.try_job.new.claims))
    (own-turn c.args.scene.now (jobs_of c.args.claims.now) c.args.share.now.queue.now.user c.args.failed.now c.rest-place-items.result.now
    c.args.share.now.slice (record {
      queue = c.args.share.now.queue.now;
      from = c.rest-place-items.ensures;
      own = c.requires.own;
      ahead = c.requires.ahead;
      ready = c.requires.ready;
    }))
    (tried-stopped c.args.scene.now (jobs_of c.args.claims.now) c.loop-place.invariant.turn i c.loop-place-test.true refl own
    (sym c.is_idle.ensures ∙ c.if-is_idle.true) (in-slice-either c.loop-place.given c.loop-place.left c.wants-wants.result _ wants_is c.else-given.either)
    c.in_ok-offer.field-0 c.in_ok-offer.ensures.offered (jobs_of c.try_job.new.claims) c.in_ok-offer.ensures.table c.in-Some.offer c.in-Some.is))

pub returns-in_err-push-clause-within : goal.returns-in_err-push-clause-within
returns-in_err-push-clause-within g c =
    let began = jobs_of c.args.claims.now in
    let jobs = jobs_of c.loop-place.claims in
    let start = counted_with c.args.meter.now c.args.clusters.now in
    let now = counted_with c.loop-place.meter c.loop-place.clusters in
    let after = counted_with c.try_job.new.meter c.try_job.new.clusters in
    paid-within c.args.scene.now.moment (stock_in c.args.scene.now) (settings_in c.args.scene.now) began (jobs_of c.try_job.new.claims) c.args.failed.now
    c.try_job.new.failed start after
    (paid-on c.args.scene.now.moment (stock_in c.args.scene.now) (settings_in c.args.scene.now) began jobs (jobs_of c.try_job.new.claims) c.args.failed.now
    c.loop-place.failed c.try_job.new.failed start now after c.loop-place.invariant.turn.paid c.in_ok-offer.ensures.paid)

pub returns-in_err-push-clause-ratio : goal.returns-in_err-push-clause-ratio
returns-in_err-push-clause-ratio g c ads small =
    let turn = c.loop-place.invariant.turn in
    omega (
      arith,
      c.loop-place.invariant.ratio ads small,
      c.try_job.ensures.ratio ads (small-offers turn.made (jobs_of c.args.claims.now) (jobs_of c.loop-place.claims) turn.table small),
    )

pub loop-place-preserved : goal.loop-place-preserved
loop-place-preserved g c =
    let scene = c.args.scene.now in
    let began = jobs_of c.args.claims.now in
    let items = c.rest-place-items.result.now in
    let i = get_or items c.loop-place.place-index 0 in
    let own =
    own-place scene began c.args.share.now.queue.now.user c.args.failed.now items c.loop-place.place-index
    (record { queue = c.args.share.now.queue.now; from = c.rest-place-items.ensures; own = c.requires.own; ahead = c.requires.ahead; ready = c.requires.ready })
    c.loop-place-test.true in
    let here =
    λ (small : AreSmallJobs began). small-offers c.loop-place.invariant.turn.made began (jobs_of c.loop-place.claims) c.loop-place.invariant.turn.table
    small in
    record {
      turn = elim c.if-is_idle.branch [
        | then-is_idle+else-given+in_ok-offer+in-Some+in_ok-push w ↦
            let wants_is = wants-here scene began c.loop-place.invariant.turn i w.wants-wants.result w.wants-wants.ensures in
            let after = counted_with w.try_job.new.meter w.try_job.new.clusters in
            loop-same scene began
            (tried-some scene began c.loop-place.invariant.turn i c.loop-place-test.true refl own (sym c.is_idle.ensures ∙ w.if-is_idle.true)
            (in-slice-either c.loop-place.given c.loop-place.left w.wants-wants.result _ wants_is w.else-given.either)
            w.in_ok-offer.field-0 w.in_ok-offer.ensures.offered (jobs_of w.try_job.new.claims) w.in_ok-offer.ensures.table w.in-Some.offer w.in-Some.is
            w.wants-wants.result wants_is w.push.new.self w.in_ok-push.ensures.ok _ w.saturating_sub-left.ensures w.try_job.new.failed after
            w.in_ok-offer.ensures.ready w.in_ok-offer.ensures.paid)
            w.left-is w.given-is w.offers-is (ap jobs_of w.claims-is) w.failed-is (counted-same w.meter-is w.clusters-is)
        | then-is_idle+else-given+in_ok-offer+in_default w ↦
            let wants_is = wants-here scene began c.loop-place.invariant.turn i w.wants-wants.result w.wants-wants.ensures in
            let after = counted_with w.try_job.new.meter w.try_job.new.clusters in
            loop-same scene began
            (tried-none scene began c.loop-place.invariant.turn i c.loop-place-test.true refl own (sym c.is_idle.ensures ∙ w.if-is_idle.true)
            (in-slice-either c.loop-place.given c.loop-place.left w.wants-wants.result _ wants_is w.else-given.either)
            w.in_ok-offer.field-0 w.in_ok-offer.ensures.offered (jobs_of w.try_job.new.claims) w.in_ok-offer.ensures.table w.in_default.is w.try_job.new.failed
            after w.in_ok-offer.ensures.ready w.in_ok-offer.ensures.paid)
            w.left-is w.given-is w.offers-is (ap jobs_of w.claims-is) w.failed-is (counted-same w.meter-is w.clusters-is)
        | else-is_idle w ↦
            loop-same scene began (turn-passes scene began c.loop-place.invariant.turn i c.loop-place-test.true refl own
            (sym c.is_idle.ensures ∙ w.if-is_idle.false))
            w.left-is w.given-is w.offers-is (ap jobs_of w.claims-is) w.failed-is (counted-same w.meter-is w.clusters-is)
      ];
      clusters = elim c.if-is_idle.branch [
        | then-is_idle+else-given+in_ok-offer+in-Some+in_ok-push w ↦ same-clusters scene (ap jobs_of w.claims-is) w.clusters-is w.in_ok-offer.ensures.clusters
        | then-is_idle+else-given+in_ok-offer+in_default w ↦ same-clusters scene (ap jobs_of w.claims-is) w.clusters-is w.in_ok-offer.ensures.clusters
        | else-is_idle w ↦ same-clusters scene (ap jobs_of w.claims-is) w.clusters-is c.loop-place.invariant.clusters
      ];
      same = elim c.if-is_idle.branch [
        | then-is_idle+else-given+in_ok-offer+in-Some+in_ok-push w ↦ rw w.meter-is (same-on c.loop-place.invariant.same w.in_ok-offer.ensures.same)
        | then-is_idle+else-given+in_ok-offer+in_default w ↦ rw w.meter-is (same-on c.loop-place.invariant.same w.in_ok-offer.ensures.same)
        | else-is_idle w ↦ rw w.meter-is c.loop-place.invariant.same
      ];
      ratio = λ ads small. elim c.if-is_idle.branch [
        | then-is_idle+else-given+in_ok-offer+in-Some+in_ok-push w ↦ rw w.meter-is
            (omega (arith, c.loop-place.invariant.ratio ads small, w.in_ok-offer.ensures.ratio ads (here small)))
        | then-is_idle+else-given+in_ok-offer+in_default w ↦ rw w.meter-is
            (omega (arith, c.loop-place.invariant.ratio ads small, w.in_ok-offer.ensures.ratio ads (here small)))
        | else-is_idle w ↦ rw w.meter-is (c.loop-place.invariant.ratio ads small)
      ];
    }

pub returns-clause-offers : goal.returns-clause-offers
returns-clause-offers g c =
    ended-offers c.args.scene.now (jobs_of c.args.claims.now) c.loop-place.invariant.turn
    (ended-all c.args.scene.now (jobs_of c.args.claims.now) c.loop-place.invariant.turn c.loop-place-test.false)
    ∙ ap (map (offer_named (jobs_of c.args.claims.now)))
    (own-turn c.args.scene.now (jobs_of c.args.claims.now) c.args.share.now.queue.now.user c.args.failed.now c.rest-place-items.result.now
    c.args.share.now.slice (record {
      queue = c.args.share.now.queue.now;
      from = c.rest-place-items.ensures;
      own = c.requires.own;
      ahead = c.requires.ahead;
      ready = c.requires.ready;
    }))

pub returns-clause-table : goal.returns-clause-table
returns-clause-table g c =
    ended-table c.args.scene.now (jobs_of c.args.claims.now) c.loop-place.invariant.turn
    (ended-all c.args.scene.now (jobs_of c.args.claims.now) c.loop-place.invariant.turn c.loop-place-test.false)
    ∙ ap (λ (os : List (Offer ℕ)). with_offers os (jobs_of c.args.claims.now))
    (own-turn c.args.scene.now (jobs_of c.args.claims.now) c.args.share.now.queue.now.user c.args.failed.now c.rest-place-items.result.now
    c.args.share.now.slice (record {
      queue = c.args.share.now.queue.now;
      from = c.rest-place-items.ensures;
      own = c.requires.own;
      ahead = c.requires.ahead;
      ready = c.requires.ready;
    }))

pub returns-clause-clusters : goal.returns-clause-clusters
returns-clause-clusters g c = c.loop-place.invariant.clusters

pub returns-clause-ready : goal.returns-clause-ready
returns-clause-ready g c = c.loop-place.invariant.turn.ready

pub returns-clause-paid : goal.returns-clause-paid
returns-clause-paid g c = c.loop-place.invariant.turn.paid

pub returns-clause-within : goal.returns-clause-within
returns-clause-within g c =
    paid-within c.args.scene.now.moment (stock_in c.args.scene.now) (settings_in c.args.scene.now) (jobs_of c.args.claims.now) (jobs_of c.loop-place.claims)
    c.args.failed.now c.loop-place.failed (counted_with c.args.meter.now c.args.clusters.now)
    (counted_with c.loop-place.meter c.loop-place.clusters) c.loop-place.invariant.turn.paid

pub returns-clause-ratio : goal.returns-clause-ratio
returns-clause-ratio g c = c.loop-place.invariant.ratio
