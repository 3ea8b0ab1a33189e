use Rattle.pool_text.proofs.LineLemmas.{ended-append, rest_of-append}
use Rattle.pool_text.proofs.laws.lines_at_a_cut.Goals as goal

pub returns-clause-ended : goal.returns-clause-ended
returns-clause-ended c = ended-append c.args.first.now c.args.second.now

pub returns-clause-rest : goal.returns-clause-rest
returns-clause-rest c = rest_of-append c.args.first.now c.args.second.now
