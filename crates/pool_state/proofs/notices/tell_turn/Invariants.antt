use Rattle.std.proofs.Common.{◌≡◌, ◌++◌, codes, map, take}
use Rattle.pool_state.specs.Notices.{about}
use Rattle.pool_state.proofs.notices.tell_turn.Given as goal

abbrev pub invariant-loop-offer : goal.invariant-loop-offer
invariant-loop-offer l = l.list ≡ l.initial.list ++ map (λ offer. about (codes "matched ") l.turn.user offer.job offer.names) (take l.offer-index l.turn.offers)
