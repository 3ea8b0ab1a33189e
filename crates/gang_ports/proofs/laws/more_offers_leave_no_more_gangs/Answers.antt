use Rattle.ad_tree.specs.Ad.{ad_frames}
use Rattle.gang_ports.proofs.PoolLemmas.{attributes-later, docks-later, gang-later}
use Rattle.gang_ports.proofs.laws.more_offers_leave_no_more_gangs.Goals as goal

pub returns-clause-none : goal.returns-clause-none
returns-clause-none c = λ pool offered more none. gang-later pool (ad_frames c.args.request.now.ad) c.args.request.now.ports offered more none

pub returns-clause-undecided : goal.returns-clause-undecided
returns-clause-undecided c = λ pool offered more. docks-later pool (ad_frames c.args.request.now.ad) c.args.request.now.ports offered more

pub returns-clause-entered : goal.returns-clause-entered
returns-clause-entered c = λ pool offered more. attributes-later pool (ad_frames c.args.request.now.ad) c.args.request.now.ports offered more
