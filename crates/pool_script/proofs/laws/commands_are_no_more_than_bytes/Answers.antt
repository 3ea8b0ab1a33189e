use Rattle.std.proofs.Common.{false, true}
use Rattle.pool_script.proofs.CountLemmas.{commands_of-length}
use Rattle.pool_script.proofs.laws.commands_are_no_more_than_bytes.Goals as goal

pub returns-clause-ended : goal.returns-clause-ended
returns-clause-ended c = commands_of-length false

pub returns-clause-whole : goal.returns-clause-whole
returns-clause-whole c = commands_of-length true
