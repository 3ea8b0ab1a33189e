use Rattle.std.proofs.Common.{◌∙◌, ap, arith, true}
use Rattle.std.proofs.lemmas.Int.{ints}
use Rattle.ad_value.specs.Plain.{plains}
use Rattle.ad_value.specs.Numbers.{decimal_or_error}
use Rattle.builtin_funcs.proofs.Running.{sum_more, sum_whole}
use Rattle.builtin_funcs.proofs.aggregates.total_of_decimals.Goals as goal

pub loop-i-preserved : goal.loop-i-preserved
loop-i-preserved c =
    let value = c.parts-parts.ensures in (
      sum_more true (plains c.args.items.now) c.loop-i.i _ _ _ _ c.at.ensures (omega (arith, ints)) c.loop-i.invariant.0,
      omega (arith, ints),
      omega (arith, ints),
      omega (arith, ints),
      omega (arith, ints),
    )

pub returns : goal.returns
returns c =
    c.joined.ensures ∙ ap decimal_or_error (sum_whole true (plains c.args.items.now) c.loop-i.i _ _ _ c.len-i-end.ensures c.loop-i-test.false
    c.loop-i.invariant.0)
