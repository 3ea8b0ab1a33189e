use Rattle.pool_script.proofs.CountLemmas.{ended_before_more, ended_before_whole}
use Rattle.pool_script.proofs.laws.ended_commands_come_first.Goals as goal

pub returns-clause-ended : goal.returns-clause-ended
returns-clause-ended c = ended_before_more

pub returns-clause-whole : goal.returns-clause-whole
returns-clause-whole c = ended_before_whole
