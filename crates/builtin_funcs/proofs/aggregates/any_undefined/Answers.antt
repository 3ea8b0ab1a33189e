use Rattle.std.proofs.Common.{sym, ◌∙◌}
use Rattle.ad_value.specs.Plain.{plains}
use Rattle.builtin_funcs.specs.Kinds.{is_undefined}
use Rattle.builtin_funcs.proofs.ListLemmas.{any_more, any_found}
use Rattle.builtin_funcs.proofs.aggregates.any_undefined.Goals as goal

pub returns-then-is_undefined : goal.returns-then-is_undefined
returns-then-is_undefined c =
    any_found is_undefined (plains c.args.items.now) c.loop-i.i _ _ c.at.ensures (sym c.is_undefined.ensures ∙ c.if-is_undefined.true) c.loop-i.invariant

pub loop-i-preserved : goal.loop-i-preserved
loop-i-preserved c =
    any_more is_undefined (plains c.args.items.now) c.loop-i.i _ _ c.at.ensures (sym c.is_undefined.ensures ∙ c.if-is_undefined.false) c.loop-i.invariant
