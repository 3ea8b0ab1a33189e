use Rattle.std.proofs.Common.{arith}
use Rattle.gang_ports.proofs.weighing.rank_where_docked.Goals as goal

pub returns-in_err-dock-clause-ratio : goal.returns-in_err-dock-clause-ratio
returns-in_err-dock-clause-ratio g c small = omega (arith, c.dock.ensures.ratio small)

pub returns-then-not-branch-clause-ratio : goal.returns-then-not-branch-clause-ratio
returns-then-not-branch-clause-ratio g c small = omega (arith, c.dock.ensures.ratio small)

pub returns-in_err-rank-clause-ratio : goal.returns-in_err-rank-clause-ratio
returns-in_err-rank-clause-ratio g c small = omega (arith, c.dock.ensures.ratio small, c.rank.ensures.ratio small)

pub returns-clause-ratio : goal.returns-clause-ratio
returns-clause-ratio g c small = omega (arith, c.dock.ensures.ratio small, c.rank.ensures.ratio small)
