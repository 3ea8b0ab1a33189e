use Rattle.std.proofs.Common.{◌++◌, map}
use Rattle.claim_table.specs.Table.{jobs_of}
use Rattle.negotiator.specs.Queues.{AreFresh, queue_of}
use Rattle.negotiator.specs.Scenes.{market_in}
use Rattle.negotiator.proofs.queues.queues_of.Given as goal

abbrev pub invariant-loop-key : goal.invariant-loop-key
invariant-loop-key l = AreFresh (market_in l.scene (jobs_of l.claims)) (l.queues.items ++ map queue_of l.key-iterator)
