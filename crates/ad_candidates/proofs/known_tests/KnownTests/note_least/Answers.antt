use Rattle.std.proofs.Common.{◌≤◌, subst, sym}
use Rattle.conjunct_plan.specs.declared.test.Test.{Test}
use Rattle.ad_candidates.specs.declared.known_tests.KnownTests.{KnownTests}
use Rattle.ad_candidates.specs.Counts.{left_by}
use Rattle.ad_candidates.specs.KnownTests.{AreTestsKnown}
use Rattle.ad_candidates.proofs.KnownTestsLemmas.{All-at}
use Rattle.ad_candidates.proofs.known_tests.KnownTests.note_least.Goals.{then-not-leaves+in_ok-note, else-not-leaves}
use Rattle.ad_candidates.proofs.known_tests.KnownTests.note_least.Goals as goal

pub returns-in_err-note : goal.returns-in_err-note
returns-in_err-note c =
    λ ads are low.
    c.note.ensures ads (c.loop-test.invariant ads are low)
    (All-at (λ (test : Test). c.args.least ≤ left_by ads test) c.args.tests.now c.as_slice-test-items.result.now c.loop-test.test-index c.test-item.result
    low c.as_slice-test-items.ensures c.loop-test-test.true c.test-item.is)

pub loop-test-preserved : goal.loop-test-preserved
loop-test-preserved c =
    λ ads are low.
    let so_far : AreTestsKnown ads c.loop-test.self = c.loop-test.invariant ads are low in
    elim c.if-not-leaves.branch [
      | then-not-leaves+in_ok-note w ↦
          subst (λ (known : KnownTests). AreTestsKnown ads known) (sym w.self-is)
          (w.note.ensures ads so_far
          (All-at (λ (test : Test). c.args.least ≤ left_by ads test) c.args.tests.now c.as_slice-test-items.result.now c.loop-test.test-index
          c.test-item.result low c.as_slice-test-items.ensures c.loop-test-test.true c.test-item.is))
      | else-not-leaves w ↦ subst (λ (known : KnownTests). AreTestsKnown ads known) (sym w.self-is) so_far
    ]
