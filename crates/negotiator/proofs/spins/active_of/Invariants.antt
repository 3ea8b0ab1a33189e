use Rattle.std.proofs.Common.{◌≡◌, ◌<◌, [], All, filter, length, map, take}
use Rattle.std.specs.List.{list_any}
use Rattle.claim_table.specs.Table.{jobs_of}
use Rattle.negotiator.specs.Cycle.{places, waits}
use Rattle.negotiator.specs.Scenes.{market_in, users_at}
use Rattle.negotiator.proofs.HeadLemmas.{AdvancedTo}
use Rattle.negotiator.proofs.spins.active_of.Given as goal

abbrev pub invariant-loop-k : goal.invariant-loop-k
invariant-loop-k l = record {
  advanced : AdvancedTo (jobs_of l.claims) l.failed l.fn.queues l.k l.queues;
  users : users_at l.fn.queues l.active ≡ filter (λ user. list_any (waits (market_in l.scene (jobs_of l.claims)) user [])
      (places (market_in l.scene (jobs_of l.claims)).jobs)) (map (λ queue. queue.user) (take l.k l.fn.queues));
  within : All (λ k. k < length l.fn.queues) l.active;
}
