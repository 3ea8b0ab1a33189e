use Rattle.std.proofs.Common.{sym, ◌∙◌}
use Rattle.ad_value.specs.Plain.{plains}
use Rattle.builtin_funcs.specs.Kinds.{is_decimal}
use Rattle.builtin_funcs.proofs.ListLemmas.{any_more, any_found}
use Rattle.builtin_funcs.proofs.aggregates.any_decimal.Goals as goal

pub returns-then-is_decimal : goal.returns-then-is_decimal
returns-then-is_decimal c =
    any_found is_decimal (plains c.args.items.now) c.loop-i.i _ _ c.at.ensures (sym c.is_decimal.ensures ∙ c.if-is_decimal.true) c.loop-i.invariant

pub loop-i-preserved : goal.loop-i-preserved
loop-i-preserved c =
    any_more is_decimal (plains c.args.items.now) c.loop-i.i _ _ c.at.ensures (sym c.is_decimal.ensures ∙ c.if-is_decimal.false) c.loop-i.invariant
