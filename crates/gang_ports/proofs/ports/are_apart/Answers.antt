use Rattle.std.proofs.Common.{sym, ◌∙◌}
use Rattle.gang_ports.proofs.PortLemmas.{apart-fail, apart-next}
use Rattle.gang_ports.proofs.ports.are_apart.Goals as goal

pub returns-then-has_label : goal.returns-then-has_label
returns-then-has_label c =
    apart-fail c.args.ports.now c.loop-i.i c.index-ports-i.result c.loop-i-test.true c.bytes.result.now c.bytes.ensures
    (sym c.has_label.ensures ∙ c.if-has_label.true) c.loop-i.invariant

pub loop-i-preserved : goal.loop-i-preserved
loop-i-preserved c =
    apart-next c.args.ports.now c.loop-i.i c.index-ports-i.result c.loop-i-test.true c.bytes.result.now c.bytes.ensures
    (sym c.has_label.ensures ∙ c.if-has_label.false) c.loop-i.invariant
