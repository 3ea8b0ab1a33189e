use Rattle.std.proofs.Common.{Bool, false, Some, ap, sym, ◌∙◌}
use Rattle.std.proofs.lemmas.Option.{slice_get-get_or}
use Rattle.match_explain.proofs.FailingLemmas.{found-here, none-more}
use Rattle.match_explain.proofs.failing.first_false.Goals as goal

pub returns-then-not-truths-i : goal.returns-then-not-truths-i
returns-then-not-truths-i c =
    let xs = c.args.truths.now in
    ap Some c.in_ok-number.ensures
    ∙ sym (found-here (λ (b : Bool). b) xs c.loop-i.i _ (slice_get-get_or xs c.loop-i.i false c.loop-i-test.true) c.loop-i.invariant c.if-not-truths-i.true)

pub loop-i-preserved : goal.loop-i-preserved
loop-i-preserved c =
    let xs = c.args.truths.now in
    none-more (λ (b : Bool). b) xs c.loop-i.i _ (slice_get-get_or xs c.loop-i.i false c.loop-i-test.true) c.loop-i.invariant c.if-not-truths-i.false
