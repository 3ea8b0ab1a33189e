use Rattle.std.proofs.Common.{sym, ◌∙◌}
use Rattle.ad_value.specs.Plain.{plain, plains}
use Rattle.builtin_funcs.specs.Lists.{compares}
use Rattle.builtin_funcs.proofs.ListLemmas.{any_more, any_found}
use Rattle.builtin_funcs.proofs.lists.any_compares.Goals as goal

pub returns-then-compares : goal.returns-then-compares
returns-then-compares c =
    any_found (λ e. compares c.args.op e (plain c.args.x.now)) (plains c.args.items.now) c.loop-i.i _ _ c.at.ensures
    (sym c.compares.ensures ∙ c.if-compares.true) c.loop-i.invariant

pub loop-i-preserved : goal.loop-i-preserved
loop-i-preserved c =
    any_more (λ e. compares c.args.op e (plain c.args.x.now)) (plains c.args.items.now) c.loop-i.i _ _ c.at.ensures
    (sym c.compares.ensures ∙ c.if-compares.false) c.loop-i.invariant
