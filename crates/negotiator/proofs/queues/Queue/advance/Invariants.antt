use Rattle.std.proofs.Common.{◌≡◌}
use Rattle.claim_table.specs.Table.{jobs_of}
use Rattle.negotiator.specs.Queues.{IsAhead, IsSame}
use Rattle.negotiator.proofs.queues.Queue.advance.Given as goal

abbrev pub invariant-loop-k : goal.invariant-loop-k
invariant-loop-k l = record {
  ahead : IsAhead (jobs_of l.claims) l.failed l.self;
  same : IsSame l.fn.self l.self;
  at : l.self.head ≡ l.k;
}
