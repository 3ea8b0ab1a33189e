use Rattle.std.proofs.Common.{sym, ◌∙◌}
use Rattle.ad_value.specs.Plain.{plains}
use Rattle.builtin_funcs.specs.Aggregates.{may_be_number}
use Rattle.builtin_funcs.proofs.ListLemmas.{all_more, all_failed}
use Rattle.builtin_funcs.proofs.aggregates.all_may_be_numbers.Goals as goal

pub returns-then-not-may_be_number : goal.returns-then-not-may_be_number
returns-then-not-may_be_number c =
    all_failed may_be_number (plains c.args.items.now) c.loop-i.i _ _ c.at.ensures (sym c.may_be_number.ensures ∙ c.if-not-may_be_number.true)
    c.loop-i.invariant

pub loop-i-preserved : goal.loop-i-preserved
loop-i-preserved c =
    all_more may_be_number (plains c.args.items.now) c.loop-i.i _ _ c.at.ensures (sym c.may_be_number.ensures ∙ c.if-not-may_be_number.false) c.loop-i.invariant
