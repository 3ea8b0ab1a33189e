use Rattle.std.proofs.Common.{◌≡◌, List, IfNone, MatchOption, length, subst, sym, ◌∙◌}
use Rattle.ad_store.specs.Store.{stock_of}
use Rattle.conjunct_plan.specs.declared.test.Test.{Test}
use Rattle.ad_candidates.specs.Candidates.{AreFewForPairs, slots_left}
use Rattle.ad_candidates.specs.Counts.{least_within}
use Rattle.ad_candidates.specs.Rows.{rows_of}
use Rattle.ad_candidates.proofs.NarrowLemmas.{best-all, best-pairs, next-before, next-best}
use Rattle.ad_candidates.proofs.narrowing.narrowest_within.Goals as goal

pub loop-test-preserved : goal.loop-test-preserved
loop-test-preserved c =
    let stock = stock_of c.args.store.now in
    let rows = rows_of stock in
    let tests = c.as_slice-test-items.result.now in
    let i = c.loop-test.test-index in
    let same : length stock.ads ≡ length stock.slots = sym c.len-len.ensures.ads ∙ c.len-len.ensures.slots in
    let it =
    next-best c.args.most stock.ads stock.slots same tests i c.loop-test-test.true _ c.test-item.is c.loop-test.best c.or_test.result c.or_pair-best.result
    c.loop-test.before
    c.loop-test.invariant.best c.loop-test.invariant.few c.loop-test.invariant.among c.loop-test.invariant.pairs c.loop-test.invariant.before
    (c.or_test.ensures stock same c.requires.index c.requires.known) (c.or_pair-best.ensures rows c.requires.index) in
    record {
      best = it.0;
      few = it.1;
      pairs = it.2;
      among = (i, c.loop-test-test.true, sym c.test-item.is);
      before = next-before tests i c.test-item.result c.loop-test-test.true c.test-item.is;
    }

pub returns-clause-all : goal.returns-clause-all
returns-clause-all c =
    let stock = stock_of c.args.store.now in
    let tests = c.as_slice-test-items.result.now in
    subst (λ (ts : List Test). IfNone c.loop-test.best.lookup (c.args.most ≡ least_within c.args.most stock.ads ts)) c.as_slice-test-items.ensures
    (best-all c.args.most (rows_of stock) stock.ads tests c.loop-test.test-index c.loop-test.best c.loop-test.invariant.best c.loop-test.invariant.few
    c.loop-test-test.false)

pub returns-clause-pairs : goal.returns-clause-pairs
returns-clause-pairs c =
    let rows = rows_of (stock_of c.args.store.now) in
    let tests = c.as_slice-test-items.result.now in
    let best = c.loop-test.best in
    subst (λ (ts : List Test). MatchOption best.lookup (AreFewForPairs rows ts c.args.most)
    (λ lookup. AreFewForPairs rows ts (length (slots_left lookup rows)))) c.as_slice-test-items.ensures
    (best-pairs c.args.most rows tests c.loop-test.test-index best c.loop-test.invariant.best c.loop-test.invariant.pairs c.loop-test-test.false)
