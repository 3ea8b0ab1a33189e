use Rattle.std.proofs.Common.{◌<◌, ℕ, All, ap, arith, length, set, subst, sym, ◌∙◌}
use Rattle.std.proofs.lemmas.List.{length-set}
use Rattle.std.proofs.lemmas.List.Elements.{All-nil, All-push}
use Rattle.claim_table.specs.Table.{jobs_of}
use Rattle.job_clusters.specs.Scenes.{stock_in}
use Rattle.negotiator.specs.Scenes.{market_in, users_at}
use Rattle.claim_table.specs.Settings.{settings_of}
use Rattle.negotiator.proofs.ActiveLemmas.{active-all, active-more, active-same}
use Rattle.negotiator.proofs.HeadLemmas.{advanced-more, told-active, users-at-same}
use Rattle.negotiator.proofs.TurnLoopLemmas.{all-within}
use Rattle.negotiator.proofs.spins.active_of.Goals.{else-has_idle, then-has_idle+in_ok-push}
use Rattle.negotiator.proofs.spins.active_of.Goals as goal

pub loop-k-init : goal.loop-k-init
loop-k-init c = record {
  advanced = record {
    kept = λ market are. are;
    within = λ k d inside. all-within c.args.scene.now (jobs_of c.args.claims.now) _ _ (c.requires.queues.places k d inside);
    ahead = c.requires.ahead;
    at_head = λ j d low high. absurd (omega (arith, low));
  };
  users = ap (users_at c.args.queues.now) c.new-active.ensures;
  within = subst (All (λ (k : ℕ). k < length c.args.queues.now)) (sym c.new-active.ensures) (All-nil (λ (k : ℕ). k < length c.args.queues.now));
}

pub advance-requires-clause-within : goal.advance-requires-clause-within
advance-requires-clause-within c =
    c.loop-k.invariant.advanced.within c.loop-k.k c.index-queues-k.result (omega (arith, c.loop-k-test.true, c.loop-k.auto.queues))

pub advance-requires-clause-ahead : goal.advance-requires-clause-ahead
advance-requires-clause-ahead c = c.loop-k.invariant.advanced.ahead c.loop-k.k c.index-queues-k.result (omega (arith, c.loop-k-test.true, c.loop-k.auto.queues))

pub loop-k-preserved : goal.loop-k-preserved
loop-k-preserved c =
    let scene = c.args.scene.now in
    let jobs = jobs_of c.args.claims.now in
    let began = c.args.queues.now in
    let k = c.loop-k.k in
    let inside : k < length c.loop-k.queues = omega (arith, c.loop-k-test.true, c.loop-k.auto.queues) in
    let later = set c.loop-k.queues k c.advance.new.self in
    let size = length-set c.loop-k.queues k c.advance.new.self in
    let advanced = advanced-more jobs c.args.failed.now began k c.loop-k.queues c.loop-k.invariant.advanced inside
    c.index-queues-k.result c.advance.new.self c.advance.ensures.same c.advance.ensures.ahead c.advance.ensures.at_head in
    let told = told-active scene jobs c.args.failed.now began c.requires.queues k later (size ∙ c.loop-k.auto.queues) advanced (omega (arith, inside, size))
    c.index-queues-k-in-loop-k.result c.index-queues-k.result in
    let here = sym told ∙ sym c.has_idle.ensures in
    record {
      advanced = advanced;
      users = elim c.if-has_idle.branch [
        | then-has_idle+in_ok-push w ↦
            active-more scene.moment (stock_in scene) (settings_of scene.priorities.now) jobs began k c.index-queues-k.result c.loop-k-test.true c.loop-k.active
            c.loop-k.invariant.users
            c.if-has_idle.active (w.active-is ∙ w.in_ok-push.ensures.ok) (here ∙ w.if-has_idle.true)
        | else-has_idle w ↦
            ap (users_at began) w.active-is
            ∙ active-same scene.moment (stock_in scene) (settings_of scene.priorities.now) jobs began k c.index-queues-k.result c.loop-k-test.true
            c.loop-k.active c.loop-k.invariant.users (here ∙ w.if-has_idle.false)
      ];
      within = elim c.if-has_idle.branch [
        | then-has_idle+in_ok-push w ↦
            subst (All (λ (k : ℕ). k < length began)) (sym (w.active-is ∙ w.in_ok-push.ensures.ok))
            (All-push (λ (k : ℕ). k < length began) c.loop-k.active k c.loop-k.invariant.within c.loop-k-test.true)
        | else-has_idle w ↦ subst (All (λ (k : ℕ). k < length began)) (sym w.active-is) c.loop-k.invariant.within
      ];
    }

pub returns-clause-users : goal.returns-clause-users
returns-clause-users c =
    let market = market_in c.args.scene.now (jobs_of c.args.claims.now) in
    users-at-same c.loop-k.queues c.args.queues.now c.loop-k.active
    ((c.loop-k.invariant.advanced.kept market c.requires.queues).users ∙ sym c.requires.queues.users)
    ∙ active-all c.args.scene.now.moment (stock_in c.args.scene.now) (settings_of c.args.scene.now.priorities.now) (jobs_of c.args.claims.now)
    c.args.queues.now
    c.loop-k.k c.loop-k.active c.requires.queues c.loop-k-test.false c.loop-k.invariant.users

pub returns-clause-within : goal.returns-clause-within
returns-clause-within c = subst (λ (n : ℕ). All (λ (k : ℕ). k < n) c.loop-k.active) (sym c.loop-k.auto.queues) c.loop-k.invariant.within

pub returns-clause-queues : goal.returns-clause-queues
returns-clause-queues c = c.loop-k.invariant.advanced.kept

pub returns-clause-ahead : goal.returns-clause-ahead
returns-clause-ahead c = c.loop-k.invariant.advanced.ahead
