use Rattle.std.proofs.Common.{◌∙◌, ap, arith, false}
use Rattle.std.proofs.lemmas.Int.{ints}
use Rattle.ad_value.specs.Plain.{plains}
use Rattle.builtin_funcs.specs.Aggregates.{value_in}
use Rattle.builtin_funcs.proofs.Running.{sum_more, sum_whole}
use Rattle.builtin_funcs.proofs.aggregates.total.Goals as goal

pub loop-i-preserved : goal.loop-i-preserved
loop-i-preserved c =
    let value = c.whole_part.ensures in (
      sum_more false (plains c.args.items.now) c.loop-i.i _ _ _ _ c.at.ensures (omega (arith, ints)) c.loop-i.invariant.0,
      omega (arith, ints),
      omega (arith, ints),
    )

pub returns : goal.returns
returns c =
    c.value_in.ensures ∙ ap (value_in false) (sum_whole false (plains c.args.items.now) c.loop-i.i _ _ _ c.len-i-end.ensures c.loop-i-test.false
    c.loop-i.invariant.0)
