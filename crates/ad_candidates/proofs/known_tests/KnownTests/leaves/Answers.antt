use Rattle.std.proofs.Common.{rules, arith, refl, ◌≤◌, List}
use Rattle.ad_candidates.specs.declared.known_tests.Counted.{Counted}
use Rattle.ad_candidates.specs.Counts.{left_by}
use Rattle.ad_candidates.proofs.KnownTestsLemmas.{All-at}
use Rattle.ad_candidates.proofs.known_tests.KnownTests.leaves.Goals as goal

pub returns-then-is_as_strict : goal.returns-then-is_as_strict
returns-then-is_as_strict c _ ads are =
    let P : Counted → Type 0 = λ counted. counted.least ≤ left_by ads counted.test in
    let items : List Counted = c.args.self.now.counted.items in
    let low : c.index-counted.result.now.least ≤ left_by ads c.index-counted.result.now.test =
    All-at P items items c.loop-k.k c.index-counted.result.now are.counted refl (search rules) (search rules) in
    let enough : c.args.many ≤ c.index-counted.result.now.least = search rules in
    omega (arith, low, enough, c.is_as_strict.ensures c.if-is_as_strict.true ads)
