use Rattle.std.proofs.Common.{◌<◌, List, ℕ, get_or, subst, sym}
use Rattle.match_explain.proofs.CountLemmas.{counted-now, untouched}
use Rattle.match_explain.proofs.counting.count.Goals as goal

pub one_more-requires : goal.one_more-requires
one_more-requires c =
    let i = c.loop-i.i in
    subst (λ (ns : List ℕ). get_or ns i 0 < 18446744073709551615) (sym c.loop-i.invariant)
    (subst (λ (n : ℕ). n < 18446744073709551615) (sym (untouched c.args.truths.now c.args.counts.now i)) (c.requires.room i))

pub loop-i-preserved : goal.loop-i-preserved
loop-i-preserved c =
    counted-now c.args.truths.now c.args.counts.now c.loop-i.counts c.loop-i.i c.one_more.result c.loop-i-test.true c.requires.beside c.loop-i.invariant
    c.one_more.ensures
