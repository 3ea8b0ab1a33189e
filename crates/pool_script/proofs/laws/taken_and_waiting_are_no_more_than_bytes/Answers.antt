use Rattle.pool_script.proofs.CountLemmas.{stands-length}
use Rattle.pool_script.proofs.laws.taken_and_waiting_are_no_more_than_bytes.Goals as goal

pub returns : goal.returns
returns c = stands-length c.args.script.now c.args.bytes.now
