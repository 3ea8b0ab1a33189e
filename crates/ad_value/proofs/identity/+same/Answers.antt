use Rattle.std.proofs.Common.{sym, ◌∙◌, arith}
use Rattle.ad_value.specs.Plain.{plain, plains}
use Rattle.ad_value.proofs.IdentityLemmas.{are_same-differ, are_same-lengths, are_same-more}
use Rattle.ad_value.proofs.WeightLemmas.{weight_of-element}
use Rattle.ad_value.proofs.identity.+same.Goals as goal

pub same_items-returns-then-len : goal.same_items-returns-then-len
same_items-returns-then-len t c =
    sym (are_same-lengths _ _ (λ equal. c.if-len.true (c.len.ensures ∙ equal ∙ sym c.len-2.ensures)))

pub same_items-same-requires : goal.same_items-same-requires
same_items-same-requires t c = (omega (arith, c.decreases, weight_of-element (plains c.args.a.now) c.loop-i.i (plain c.at.result.now) c.at.ensures), tt)

pub same_items-returns-then-not-same : goal.same_items-returns-then-not-same
same_items-returns-then-not-same t c =
    are_same-differ _ _ c.loop-i.i _ _ c.at.ensures c.at-in-loop-i.ensures _ c.loop-i.invariant (sym c.same.ensures ∙ c.if-not-same.true)

pub same_items-loop-i-preserved : goal.same_items-loop-i-preserved
same_items-loop-i-preserved t c =
    are_same-more _ _ c.loop-i.i _ _ c.at.ensures c.at-in-loop-i.ensures _ c.loop-i.invariant (sym c.same.ensures ∙ c.if-not-same.false)
