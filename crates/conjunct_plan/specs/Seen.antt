-- What contracts see of the borrowed forms of the code.
use Rattle.conjunct_plan.specs.declared.side.Side.{Side as CodeSide}
use Rattle.conjunct_plan.specs.declared.side.Side.TheVariants as sides
use Rattle.conjunct_plan.specs.declared.probe.Probe.{Probe}
use Rattle.conjunct_plan.specs.declared.probe.Probe.TheVariants as probes
use Rattle.conjunct_plan.specs.declared.test.Test.{Test}
use Rattle.conjunct_plan.specs.Tests.{Side, named, constant, neither}

-- a side of a test
abbrev pub side_seen : CodeSide → Side
side_seen (sides.Named n) = named n.now
side_seen (sides.Constant lit) = constant lit.now
side_seen sides.Neither = neither

-- a test that borrows its name and its literal
abbrev pub test_seen : Probe → Test
test_seen (probes.Truth n) = Test.Truth n.now
test_seen (probes.Compare n op lit attr_left) = Test.Compare n.now op lit.now attr_left
