use Rattle.std.proofs.Common.{sym, ◌∙◌}
use Rattle.ad_value.specs.Plain.{plain, plains}
use Rattle.ad_value.specs.Operators.{is_same}
use Rattle.builtin_funcs.proofs.ListLemmas.{any_more, any_found}
use Rattle.builtin_funcs.proofs.lists.any_same.Goals as goal

pub returns-then-same : goal.returns-then-same
returns-then-same c =
    any_found (is_same (plain c.args.x.now)) (plains c.args.items.now) c.loop-i.i _ _ c.at.ensures (sym c.same.ensures ∙ c.if-same.true) c.loop-i.invariant

pub loop-i-preserved : goal.loop-i-preserved
loop-i-preserved c =
    any_more (is_same (plain c.args.x.now)) (plains c.args.items.now) c.loop-i.i _ _ c.at.ensures (sym c.same.ensures ∙ c.if-same.false) c.loop-i.invariant
