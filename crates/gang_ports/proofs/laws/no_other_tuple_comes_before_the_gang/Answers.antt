use Rattle.std.proofs.Common.{[], length}
use Rattle.ad_tree.specs.Ad.{ad_frames}
use Rattle.gang_ports.specs.Choice.{tuples}
use Rattle.gang_ports.specs.Gangs.{choice_of}
use Rattle.gang_ports.proofs.LawLemmas.{first-alone, first-are}
use Rattle.gang_ports.proofs.laws.no_other_tuple_comes_before_the_gang.Goals as goal

pub returns-clause-are : goal.returns-clause-are
returns-clause-are c = λ pool.
    let choice = choice_of pool (ad_frames c.args.request.now.ad) c.args.request.now.ports in
    first-are choice (tuples choice (length c.args.request.now.ports) [])

pub returns-clause-alone : goal.returns-clause-alone
returns-clause-alone c = λ pool other h.
    let choice = choice_of pool (ad_frames c.args.request.now.ad) c.args.request.now.ports in
    first-alone choice (tuples choice (length c.args.request.now.ports) []) other h
