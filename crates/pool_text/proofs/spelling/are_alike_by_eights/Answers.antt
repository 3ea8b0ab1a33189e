use Rattle.std.proofs.Common.{◌-◌, ap, arith, drop, length, take}
use Rattle.pool_text.proofs.GroupLemmas.{same_covered, same_further}
use Rattle.pool_text.proofs.spelling.are_alike_by_eights.Goals as goal

pub loop-start-preserved : goal.loop-start-preserved
loop-start-preserved c = record {
  within = omega (arith, c.loop-start-test.true);
  same = same_further c.args.a.now c.args.b.now c.loop-start.start 8 c.loop-start.invariant.same (c.have_eight_alike.ensures.0 c.if-not-have_eight_alike.false);
}

pub returns : goal.returns
returns c = (
  λ same. same_covered c.args.a.now c.args.b.now c.loop-start.start (length c.args.a.now - 8) 8 (omega (arith, c.loop-start-test.false))
      (omega (arith, c.requires.long)) (omega (arith, c.requires.long, c.requires.same_length)) c.loop-start.invariant.same
      (c.have_eight_alike-2.ensures.0 same),
  λ same. c.have_eight_alike-2.ensures.1 (ap (λ l. take 8 (drop (length c.args.a.now - 8) l)) same),
)
