use Rattle.std.proofs.Common.{◌≤◌, List, ◌++◌, ◌∷◌, [], All, ap, subst, sym, ◌∙◌}
use Rattle.conjunct_plan.specs.declared.test.Test.{Test}
use Rattle.ad_candidates.specs.declared.known_tests.Counted.{Counted}
use Rattle.ad_candidates.specs.Counts.{left_by}
use Rattle.ad_candidates.proofs.KnownTestsLemmas.{All-room, All-room-more}
use Rattle.ad_candidates.proofs.known_tests.KnownTests.note.Goals as goal

pub returns-in_err-push : goal.returns-in_err-push
returns-in_err-push c =
    λ ads are low. record {
      counted =
          subst (All (λ (counted : Counted). counted.least ≤ left_by ads counted.test)) (sym (c.in_err-push.ensures.items ∙ c.make_room.ensures))
          (All-room (λ (counted : Counted). counted.least ≤ left_by ads counted.test) c.args.self.now.counted.items are.counted);
      listed = are.listed;
    }

pub returns : goal.returns
returns c =
    λ ads are low.
    let P : Counted → Type 0 = λ counted. counted.least ≤ left_by ads counted.test in
    let one : Counted = record { test = c.in_ok-test.test; least = c.args.least } in
    record {
      counted =
          subst (All P) (sym (c.in_ok-push.ensures.items ∙ ap (λ (xs : List Counted). xs ++ one ∷ []) c.make_room.ensures))
          (All-room-more P c.args.self.now.counted.items one are.counted
          (subst (λ (t : Test). c.args.least ≤ left_by ads t) (sym c.in_ok-test.ensures) low));
      listed = are.listed;
    }
