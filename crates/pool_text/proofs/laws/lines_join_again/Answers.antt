use Rattle.pool_text.proofs.LineLemmas.{with_feeds-ended}
use Rattle.pool_text.proofs.laws.lines_join_again.Goals as goal

pub returns : goal.returns
returns c = with_feeds-ended c.args.bytes.now
