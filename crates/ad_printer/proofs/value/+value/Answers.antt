use Rattle.std.proofs.Common.{arith}
use Rattle.ad_value.specs.Plain.{plain, plains}
use Rattle.ad_value.proofs.WeightLemmas.{weight_of-element}
use Rattle.ad_printer.proofs.ValueLemmas.{element_step}
use Rattle.ad_printer.proofs.value.+value.Goals as goal

pub write_values-write_value-requires : goal.write_values-write_value-requires
write_values-write_value-requires t c = (omega (arith, c.decreases, weight_of-element (plains c.args.values.now) 0 (plain c.at.result.now) c.at.ensures), tt)

pub write_values-write_value-requires-in-loop-i : goal.write_values-write_value-requires-in-loop-i
write_values-write_value-requires-in-loop-i t c =
    (omega (arith, c.decreases, weight_of-element (plains c.args.values.now) c.loop-i.i (plain c.at-in-loop-i.result.now) c.at-in-loop-i.ensures), tt)

pub write_values-loop-i-preserved : goal.write_values-loop-i-preserved
write_values-loop-i-preserved t c =
    element_step (plains c.args.values.now) c.loop-i.i (plain c.at-in-loop-i.result.now) c.loop-i.out.items c.add-in-loop-i.new.out.items
    c.write_value-in-loop-i.new.out.items _
    c.at-in-loop-i.ensures c.in_ok-add-3.ensures c.in_ok-write_value-2.ensures c.loop-i.invariant
