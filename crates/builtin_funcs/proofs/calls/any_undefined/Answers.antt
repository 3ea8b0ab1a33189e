use Rattle.std.proofs.Common.{sym, ◌∙◌, arith}
use Rattle.ad_value.specs.Plain.{plains}
use Rattle.builtin_funcs.specs.Kinds.{is_undefined}
use Rattle.builtin_funcs.proofs.ListLemmas.{any_more_within, any_found_within}
use Rattle.builtin_funcs.proofs.calls.any_undefined.Goals as goal

pub returns-then-is_undefined : goal.returns-then-is_undefined
returns-then-is_undefined c =
    any_found_within is_undefined (plains c.args.args.now) c.loop-i.i c.args.end _ _ (omega arith) c.at.ensures
    (sym c.is_undefined.ensures ∙ c.if-is_undefined.true) c.loop-i.invariant

pub loop-i-preserved : goal.loop-i-preserved
loop-i-preserved c =
    any_more_within is_undefined (plains c.args.args.now) c.loop-i.i c.args.end _ _ (omega arith) c.at.ensures
    (sym c.is_undefined.ensures ∙ c.if-is_undefined.false) c.loop-i.invariant
