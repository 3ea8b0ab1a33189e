use Rattle.std.proofs.Common.{◌≡◌, ◌++◌, take}
use Rattle.pool_replies.specs.Cycles.{offers_text}
use Rattle.pool_replies.proofs.cycle.append_offers.Given as goal

abbrev pub invariant-loop-offer : goal.invariant-loop-offer
invariant-loop-offer l = l.out ≡ l.initial.out ++ offers_text l.user (take l.offer-index l.offers)
