use Rattle.std.proofs.Common.{◌≡◌, ◌∙◌, ◌++◌, ◌∷◌, [], ap, cond, sym, true}
use Rattle.claim_table.specs.Claims.{once}
use Rattle.claim_table.specs.Jobs.{lists}
use Rattle.pool_state.proofs.losses.add_place.Goals as goal

pub returns-then-contains : goal.returns-then-contains
returns-then-contains c =
    let places = c.args.places.now in
    let i = c.in-Some.i in
    let there : lists places i ≡ true = sym (ap (λ s. lists s i) c.as_slice.ensures) ∙ sym c.contains.ensures.value ∙ c.if-contains.true in
    sym (ap (once places) c.in-Some.is ∙ ap (λ b. cond b places (places ++ i ∷ [])) there)
