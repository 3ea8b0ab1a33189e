use Rattle.std.proofs.Common.{◌≡◌, drop}
use Rattle.ad_tree.specs.Names.{has_name}
use Rattle.conjunct_plan.specs.Tests.{labels_of}
use Rattle.conjunct_plan.proofs.side.has_label.Given as goal

abbrev pub invariant-loop-i : goal.invariant-loop-i
invariant-loop-i l = has_name l.name (labels_of (drop l.i l.ports)) ≡ has_name l.name (labels_of l.ports)
