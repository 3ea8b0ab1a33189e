use Rattle.std.proofs.Common.{arith}
use Rattle.gang_ports.proofs.weighing.weigh.Goals.{in-Weighed, in-Unknown+in_ok-rank-in-Unknown}
use Rattle.gang_ports.proofs.weighing.weigh.Goals as goal

pub returns-in_err-rank-in-Unknown-clause-ratio : goal.returns-in_err-rank-in-Unknown-clause-ratio
returns-in_err-rank-in-Unknown-clause-ratio g c small fits = omega (arith, c.rank_behind.ensures.ratio small fits)

pub returns-clause-ratio : goal.returns-clause-ratio
returns-clause-ratio g c small fits =
    elim c.match-resource.branch [
      | in-Weighed w ↦ omega (arith, w.tops-is, w.entry-is)
      | in-Unknown+in_ok-rank-in-Unknown w ↦ omega (arith, w.tops-is, w.entry-is, w.rank_behind.ensures.ratio small fits)
    ]
