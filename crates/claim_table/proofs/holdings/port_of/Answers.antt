use Rattle.std.proofs.Common.{◌≡◌, ◌∙◌, arith, eqb, get_or, sym}
use Rattle.std.proofs.lemmas.Bool.Decides.{nat_tests}
use Rattle.std.proofs.lemmas.List.Sums.{position_or_len_is}
use Rattle.claim_table.proofs.holdings.port_of.Goals as goal

pub returns-then-other-slot : goal.returns-then-other-slot
returns-then-other-slot c =
    let slots = c.args.slots.now in
    let i = c.loop-other.other-index in
    let here : get_or slots i 0 ≡ c.args.slot = c.if-other-slot.true in
    c.loop-other.invariant.0 ∙ sym (position_or_len_is (λ s. eqb s c.args.slot) slots i 0 (omega arith) c.loop-other.invariant.1
    (λ within. grind (arith, nat_tests)))

pub returns : goal.returns
returns c =
    c.loop-other.invariant.0 ∙ sym (position_or_len_is (λ s. eqb s c.args.slot) c.args.slots.now c.loop-other.other-index 0 (omega arith)
    c.loop-other.invariant.1 (λ within. absurd (omega arith)))
