use Rattle.std.proofs.Common.{map}
use Rattle.negotiator.specs.Queues.{queue_of}
use Rattle.claim_table.specs.Table.{jobs_of}
use Rattle.negotiator.specs.Scenes.{market_in}
use Rattle.negotiator.proofs.QueueLemmas.{QueuesTo}
use Rattle.negotiator.proofs.queues.gather.Given as goal

abbrev pub invariant-loop-i : goal.invariant-loop-i
invariant-loop-i l = QueuesTo (market_in l.scene (jobs_of l.claims)) l.i (map queue_of l.gathered.entries)
