use Rattle.std.proofs.Common.{sym, ◌∙◌}
use Rattle.ad_value.specs.Plain.{plains}
use Rattle.builtin_funcs.specs.Kinds.{is_scalar}
use Rattle.builtin_funcs.proofs.ListLemmas.{all_more, all_failed}
use Rattle.builtin_funcs.proofs.texts.all_scalars.Goals as goal

pub returns-then-not-is_scalar : goal.returns-then-not-is_scalar
returns-then-not-is_scalar c =
    all_failed is_scalar (plains c.args.args.now) c.loop-i.i _ _ c.at.ensures (sym c.is_scalar.ensures ∙ c.if-not-is_scalar.true) c.loop-i.invariant

pub loop-i-preserved : goal.loop-i-preserved
loop-i-preserved c =
    all_more is_scalar (plains c.args.args.now) c.loop-i.i _ _ c.at.ensures (sym c.is_scalar.ensures ∙ c.if-not-is_scalar.false) c.loop-i.invariant
