use Rattle.std.proofs.Common.{◌-◌, ap, arith, drop, length, take}
use Rattle.pool_text.proofs.GroupLemmas.{same_covered}
use Rattle.pool_text.proofs.spelling.are_spelled_alike.Goals as goal

pub returns-then-have_four_alike : goal.returns-then-have_four_alike
returns-then-have_four_alike c = (
  λ same. same_covered c.args.a.now c.args.b.now 4 (length c.args.a.now - 4) 4 (omega (arith, c.if-len-ge8.false)) (omega (arith, c.if-len-ge4.true))
      (omega (arith, c.if-len-ge4.true, c.requires)) (c.have_four_alike.ensures.0 c.if-have_four_alike.true)
      (c.have_four_alike-then-have_four_alike.ensures.0 same),
  λ same. c.have_four_alike-then-have_four_alike.ensures.1 (ap (λ l. take 4 (drop (length c.args.a.now - 4) l)) same),
)
