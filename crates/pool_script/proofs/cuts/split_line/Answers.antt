use Rattle.pool_script.proofs.CutLemmas.{cuts_at_place, ended_none-nowhere}
use Rattle.pool_script.proofs.cuts.split_line.Goals as goal

pub returns-in-Some : goal.returns-in-Some
returns-in-Some c = cuts_at_place c.args.bytes.now c.in-Some.place c.in-Some.ensures

pub returns-in-None : goal.returns-in-None
returns-in-None c = ended_none-nowhere c.args.bytes.now c.in-None.ensures
