use Rattle.std.proofs.Common.{false, true}
use Rattle.pool_script.proofs.CountLemmas.{given_lines-length}
use Rattle.pool_script.proofs.laws.lines_are_no_more_than_bytes.Goals as goal

pub returns-clause-ended : goal.returns-clause-ended
returns-clause-ended c = given_lines-length false

pub returns-clause-whole : goal.returns-clause-whole
returns-clause-whole c = given_lines-length true
