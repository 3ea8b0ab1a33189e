use Rattle.std.proofs.Common.{◌<◌, ◌∙◌, All, arith, subst, take, take_all, vec_len}
use Rattle.std.proofs.lemmas.List.Elements.{All-more, All-weaker}
use Rattle.claim_table.proofs.notes.widen.Goals as goal

pub loop-slot-preserved : goal.loop-slot-preserved
loop-slot-preserved c =
    let slots = c.args.slots.now in
    let i = c.loop-slot.slot-index in (
      λ other. c.reach-in-loop-slot.ensures.notes other ∙ c.loop-slot.invariant.0 other,
      λ other. c.reach.ensures.notes other ∙ c.loop-slot.invariant.1 other,
      omega (arith, c.loop-slot.invariant.2, c.in_ok-reach.ensures.reached, c.reach.ensures.longer, c.reach-in-loop-slot.ensures.no_more),
      All-more (λ s. s < vec_len c.reach-in-loop-slot.new.notes) slots i 0 c.loop-slot-test.true
          (All-weaker (λ s. s < vec_len c.loop-slot.offers) (λ s. s < vec_len c.reach-in-loop-slot.new.notes)
          (λ s less. omega (arith, c.reach-in-loop-slot.ensures.longer)) (take i slots) c.loop-slot.invariant.3)
          c.in_ok-reach-2.ensures.reached,
    )

pub returns-clause-reached : goal.returns-clause-reached
returns-clause-reached c =
    subst (All (λ s. s < vec_len c.loop-slot.offers)) (take_all c.loop-slot.slot-index c.args.slots.now c.loop-slot-test.false) c.loop-slot.invariant.3
