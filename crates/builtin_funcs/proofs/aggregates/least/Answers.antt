use Rattle.std.proofs.Common.{◌+◌, ◌∙◌, ap}
use Rattle.std.specs.Int.{int_min}
use Rattle.std.specs.Option.{option_map_or}
use Rattle.ad_value.specs.Plain.{plains, undefined}
use Rattle.builtin_funcs.specs.Aggregates.{value_in, with_number}
use Rattle.builtin_funcs.proofs.Running.{amounts_from, chosen_more, chosen_whole, chosen_with}
use Rattle.builtin_funcs.proofs.aggregates.least.Goals as goal

pub loop-i-preserved : goal.loop-i-preserved
loop-i-preserved c =
    let ps = plains c.args.items.now in
    ap (λ o. chosen_with int_min o (amounts_from c.args.decimals (c.loop-i.i + 1) ps))
    (c.lesser-least.ensures ∙ ap (with_number int_min c.loop-i.least) c.amount.ensures)
    ∙ chosen_more c.args.decimals int_min ps c.loop-i.i _ c.loop-i.least _ c.at.ensures c.loop-i.invariant

pub returns : goal.returns
returns c =
    c.value_or_undefined.ensures
    ∙ ap (λ o. option_map_or (value_in c.args.decimals) o undefined)
    (chosen_whole c.args.decimals int_min (plains c.args.items.now) c.loop-i.i _ c.loop-i.least _ c.len-i-end.ensures c.loop-i-test.false c.loop-i.invariant)
