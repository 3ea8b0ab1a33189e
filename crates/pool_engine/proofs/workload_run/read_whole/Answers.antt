use Rattle.std.proofs.Common.{[]}
use Rattle.pool_engine.proofs.SummingLemmas.{whole-waits}
use Rattle.pool_engine.proofs.workload_run.read_whole.Goals as goal

pub returns : goal.returns
returns c =
    whole-waits c.end.result c.feed.new.self c.end.new.self c.args.text.now (c.in_ok-feed.ensures.stands [] 0 c.requires.stands) c.end.ensures.stands
    c.end.ensures.over
