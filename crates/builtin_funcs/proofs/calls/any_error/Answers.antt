use Rattle.std.proofs.Common.{sym, ◌∙◌, arith}
use Rattle.ad_value.specs.Plain.{plains}
use Rattle.builtin_funcs.specs.Kinds.{is_error}
use Rattle.builtin_funcs.proofs.ListLemmas.{any_more_within, any_found_within}
use Rattle.builtin_funcs.proofs.calls.any_error.Goals as goal

pub returns-then-is_error : goal.returns-then-is_error
returns-then-is_error c =
    any_found_within is_error (plains c.args.args.now) c.loop-i.i c.args.end _ _ (omega arith) c.at.ensures (sym c.is_error.ensures ∙ c.if-is_error.true)
    c.loop-i.invariant

pub loop-i-preserved : goal.loop-i-preserved
loop-i-preserved c =
    any_more_within is_error (plains c.args.args.now) c.loop-i.i c.args.end _ _ (omega arith) c.at.ensures (sym c.is_error.ensures ∙ c.if-is_error.false)
    c.loop-i.invariant
