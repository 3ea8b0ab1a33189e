use Rattle.ad_candidates.proofs.NarrowLemmas.{not-better}
use Rattle.ad_candidates.proofs.narrowing.Best.or_test.Goals as goal

pub returns-then-leaves : goal.returns-then-leaves
returns-then-leaves c =
    λ stock same index known. not-better stock.ads stock.slots c.args.self c.args.test same (c.leaves.ensures c.if-leaves.true stock.ads known)
