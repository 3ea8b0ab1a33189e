use Rattle.std.proofs.Common.{◌≡◌, ◌≤◌, ◌^◌, All, map, take}
use Rattle.claim_table.specs.Priorities.{priority_of}
use Rattle.negotiator.specs.Scenes.{users_at}
use Rattle.claim_table.specs.Settings.{settings_of}
use Rattle.pie_slices.specs.Slices.{weight_of}
use Rattle.negotiator.proofs.spins.weights_of.Given as goal

abbrev pub invariant-loop-k : goal.invariant-loop-k
invariant-loop-k l = record {
  weights : l.weights ≡ map (λ user. weight_of (priority_of user (settings_of l.scene.priorities.now))) (users_at l.queues (take l.k-index l.active));
  least : All (λ w. 1 ≤ w) l.weights;
  most : All (λ w. w ≤ 10 ^ 12) l.weights;
}
