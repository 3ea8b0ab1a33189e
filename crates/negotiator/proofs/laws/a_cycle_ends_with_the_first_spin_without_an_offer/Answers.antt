use Rattle.negotiator.proofs.CycleLemmas.{cycle-step}
use Rattle.negotiator.proofs.laws.a_cycle_ends_with_the_first_spin_without_an_offer.Goals as goal

pub returns : goal.returns
returns c = λ market made. cycle-step market made
