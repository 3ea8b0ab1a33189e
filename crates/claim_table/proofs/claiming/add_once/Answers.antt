use Rattle.std.proofs.Common.{◌≡◌, ◌∙◌, ◌++◌, ◌∷◌, [], ap, cond, sym, true}
use Rattle.claim_table.specs.Claims.{once}
use Rattle.claim_table.specs.Jobs.{lists}
use Rattle.claim_table.proofs.claiming.add_once.Goals as goal

pub returns-then-contains : goal.returns-then-contains
returns-then-contains c =
    let numbers = c.args.numbers.now in
    let i = c.in-Some.i in
    let there : lists numbers i ≡ true = sym (ap (λ s. lists s i) c.as_slice.ensures) ∙ sym c.contains.ensures.value ∙ c.if-contains.true in
    sym (ap (once numbers) c.in-Some.is ∙ ap (λ b. cond b numbers (numbers ++ i ∷ [])) there)
