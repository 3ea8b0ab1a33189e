use Rattle.std.proofs.Common.{List, ◌++◌, ◌∷◌, [], All, ℕ, ap, subst, sym, ◌∙◌}
use Rattle.conjunct_plan.specs.declared.test.Test.{Test}
use Rattle.ad_candidates.specs.declared.known_tests.Listed.{Listed}
use Rattle.ad_candidates.specs.KnownTests.{ArePlaces}
use Rattle.ad_candidates.proofs.KnownTestsLemmas.{All-room, All-room-more}
use Rattle.ad_candidates.proofs.known_tests.KnownTests.list.Goals as goal

pub returns-in_err-push : goal.returns-in_err-push
returns-in_err-push c =
    λ ads are one. record {
      counted = are.counted;
      listed =
          subst (All (λ (listed : Listed). ArePlaces ads listed.test listed.places)) (sym (c.in_err-push.ensures.items ∙ c.make_room.ensures))
          (All-room (λ (listed : Listed). ArePlaces ads listed.test listed.places) c.args.self.now.listed.items are.listed);
    }

pub returns : goal.returns
returns c =
    λ ads are those.
    let P : Listed → Type 0 = λ listed. ArePlaces ads listed.test listed.places in
    let one : Listed = record { test = c.in_ok-test.test; places = c.in_ok-places.places } in
    record {
      counted = are.counted;
      listed =
          subst (All P) (sym (c.in_ok-push.ensures.items ∙ ap (λ (xs : List Listed). xs ++ one ∷ []) c.make_room.ensures))
          (All-room-more P c.args.self.now.listed.items one are.listed
          (subst (λ (t : Test). ArePlaces ads t c.in_ok-places.places) (sym c.in_ok-test.ensures)
          (subst (λ (places : List ℕ). ArePlaces ads c.args.test.now places) (sym c.in_ok-places.ensures) those)));
    }
