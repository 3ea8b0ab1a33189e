use Rattle.std.proofs.Common.{sym, ◌∙◌}
use Rattle.ad_value.specs.Plain.{plain, plains}
use Rattle.pool_text.specs.declared.language.BinOp.{BinOp}
use Rattle.builtin_funcs.specs.Lists.{compares}
use Rattle.builtin_funcs.proofs.ListLemmas.{any_more, any_found}
use Rattle.builtin_funcs.proofs.lists.any_equal.Goals as goal

pub returns-then-compares : goal.returns-then-compares
returns-then-compares c =
    any_found (compares BinOp.Equal (plain c.args.x.now)) (plains c.args.items.now) c.loop-i.i _ _ c.at.ensures (sym c.compares.ensures ∙ c.if-compares.true)
    c.loop-i.invariant

pub loop-i-preserved : goal.loop-i-preserved
loop-i-preserved c =
    any_more (compares BinOp.Equal (plain c.args.x.now)) (plains c.args.items.now) c.loop-i.i _ _ c.at.ensures (sym c.compares.ensures ∙ c.if-compares.false)
    c.loop-i.invariant
