use Rattle.std.proofs.Common.{◌≤◌, ◌^◌, List, ℕ, All, ap, arith, map, refl, subst, sym, ◌∙◌}
use Rattle.std.proofs.lemmas.List.{take_all}
use Rattle.std.proofs.lemmas.List.Elements.{All-nil, All-push}
use Rattle.negotiator.specs.declared.queues.Queue.{Queue}
use Rattle.claim_table.specs.Priorities.{priority_of}
use Rattle.negotiator.specs.Scenes.{users_at}
use Rattle.claim_table.specs.Settings.{settings_of}
use Rattle.negotiator.proofs.ActiveLemmas.{weight-least, weight-most, weights-more}
use Rattle.pie_slices.specs.Slices.{weight_of}
use Rattle.negotiator.proofs.spins.weights_of.Goals as goal

pub loop-k-init : goal.loop-k-init
loop-k-init c = record {
  weights = c.new-weights.ensures;
  least = subst (All (λ (w : ℕ). 1 ≤ w)) (sym c.new-weights.ensures) (All-nil (λ (w : ℕ). 1 ≤ w));
  most = subst (All (λ (w : ℕ). w ≤ 10 ^ 12)) (sym c.new-weights.ensures) (All-nil (λ (w : ℕ). w ≤ 10 ^ 12));
}

pub bounds-queues-k : goal.bounds-queues-k
bounds-queues-k c = c.requires c.loop-k.k-index _ c.loop-k-test.true

pub loop-k-preserved : goal.loop-k-preserved
loop-k-preserved c = record {
  weights =
      weights-more (settings_of c.args.scene.now.priorities.now) c.args.queues.now c.args.active.now c.loop-k.k-index _ c.get-number.result c.weight.result
      c.index-queues-k.result c.loop-k.weights c.push.new.self
      c.loop-k-test.true refl (c.requires c.loop-k.k-index 0 c.loop-k-test.true) c.index-queues-k.is
      (c.get-number.ensures.number ∙ ap (λ (u : List ℕ). priority_of u (settings_of c.args.scene.now.priorities.now)) c.bytes.ensures
      ∙ ap (λ (q : Queue). priority_of q.user (settings_of c.args.scene.now.priorities.now)) (sym c.index-queues-k.is))
      c.weight.ensures c.loop-k.invariant.weights c.in_ok-push.ensures.ok;
  least = subst (All (λ (w : ℕ). 1 ≤ w)) (sym c.in_ok-push.ensures.ok)
      (All-push (λ (w : ℕ). 1 ≤ w) c.loop-k.weights c.weight.result c.loop-k.invariant.least
      (subst (λ (w : ℕ). 1 ≤ w) (sym c.weight.ensures) (weight-least c.get-number.result c.get-number.ensures.least (omega
      (arith, c.get-number.ensures.most)))));
  most = subst (All (λ (w : ℕ). w ≤ 10 ^ 12)) (sym c.in_ok-push.ensures.ok)
      (All-push (λ (w : ℕ). w ≤ 10 ^ 12) c.loop-k.weights c.weight.result c.loop-k.invariant.most
      (subst (λ (w : ℕ). w ≤ 10 ^ 12) (sym c.weight.ensures) (weight-most c.get-number.result c.get-number.ensures.least)));
}

pub returns-clause-weights : goal.returns-clause-weights
returns-clause-weights c =
    c.loop-k.invariant.weights
    ∙ ap (λ (l : List ℕ). map (λ user. weight_of (priority_of user (settings_of c.args.scene.now.priorities.now))) (users_at c.args.queues.now l))
    (take_all c.loop-k.k-index c.args.active.now c.loop-k-test.false)

pub returns-clause-least : goal.returns-clause-least
returns-clause-least c = c.loop-k.invariant.least

pub returns-clause-most : goal.returns-clause-most
returns-clause-most c = c.loop-k.invariant.most
