use Rattle.ad_tree.specs.Ad.{ad_frames}
use Rattle.gang_ports.proofs.FreePortLemmas.{free-dock, free-rank}
use Rattle.gang_ports.proofs.laws.a_free_port_is_worth_the_same_behind_all_prefixes.Goals as goal

pub returns-clause-dock : goal.returns-clause-dock
returns-clause-dock c =
    λ pool before others place many free. free-dock pool (ad_frames c.args.request.now.ad) c.args.request.now.ports before others place many free

pub returns-clause-rank : goal.returns-clause-rank
returns-clause-rank c =
    λ pool before others place many free. free-rank pool (ad_frames c.args.request.now.ad) c.args.request.now.ports before others place many free
