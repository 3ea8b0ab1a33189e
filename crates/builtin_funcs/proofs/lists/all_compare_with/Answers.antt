use Rattle.std.proofs.Common.{sym, ◌∙◌}
use Rattle.ad_value.specs.Plain.{plain, plains}
use Rattle.builtin_funcs.specs.Lists.{compares}
use Rattle.builtin_funcs.proofs.ListLemmas.{all_more, all_failed}
use Rattle.builtin_funcs.proofs.lists.all_compare_with.Goals as goal

pub returns-then-not-compares : goal.returns-then-not-compares
returns-then-not-compares c =
    all_failed (λ e. compares c.args.op e (plain c.args.x.now)) (plains c.args.items.now) c.loop-i.i _ _ c.at.ensures
    (sym c.compares.ensures ∙ c.if-not-compares.true) c.loop-i.invariant

pub loop-i-preserved : goal.loop-i-preserved
loop-i-preserved c =
    all_more (λ e. compares c.args.op e (plain c.args.x.now)) (plains c.args.items.now) c.loop-i.i _ _ c.at.ensures
    (sym c.compares.ensures ∙ c.if-not-compares.false) c.loop-i.invariant
