use Rattle.pool_text.proofs.LineLemmas.{ended-no_feed, rest_of-no_feed}
use Rattle.pool_text.proofs.laws.lines_hold_no_feed.Goals as goal

pub returns-clause-lines : goal.returns-clause-lines
returns-clause-lines c = ended-no_feed c.args.bytes.now

pub returns-clause-rest : goal.returns-clause-rest
returns-clause-rest c = rest_of-no_feed c.args.bytes.now
