-- Offers, turns and spins with other names for the resources.
use Rattle.std.specs.Prelude.{map}
use Rattle.negotiator.specs.Cycle.{Offer, PlainSpin, PlainTurn}

module _ {R S : Type 0} (rename : R → S) where
  abbrev pub offer_mapped : Offer R → Offer S
  offer_mapped offer = record { job = offer.job; resources = map rename offer.resources }

  abbrev pub turn_mapped : PlainTurn R → PlainTurn S
  turn_mapped turn = record { user = turn.user; slice = turn.slice; offers = map offer_mapped turn.offers }

  abbrev pub spin_mapped : PlainSpin R → PlainSpin S
  spin_mapped spin = record { free = spin.free; turns = map turn_mapped spin.turns }
