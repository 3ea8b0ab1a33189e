use Rattle.pool_script.proofs.CountLemmas.{lines_before_more, lines_before_whole}
use Rattle.pool_script.proofs.laws.ended_lines_come_first.Goals as goal

pub returns-clause-ended : goal.returns-clause-ended
returns-clause-ended c = lines_before_more

pub returns-clause-whole : goal.returns-clause-whole
returns-clause-whole c = lines_before_whole
