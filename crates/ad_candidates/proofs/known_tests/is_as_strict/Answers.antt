use Rattle.std.proofs.Common.{rules}
use Rattle.ad_candidates.proofs.BoundLemmas.{bounded}
use Rattle.ad_candidates.proofs.known_tests.is_as_strict.Goals as goal

pub returns-else-ne : goal.returns-else-ne
returns-else-ne c closely ads =
    let i = c.in-Compare-default-default-Integer-default-Compare-default-default-Integer-default in
    bounded _ _ _ _ (c.bounds_as_closely.ensures closely) c.args.test.now c.args.other.now i.x i.y i.q i.t
    (search rules) (search rules) (search rules) (search rules) (search rules) ads
