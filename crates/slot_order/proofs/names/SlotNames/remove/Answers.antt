use Rattle.std.proofs.Common.{None, cond, bytes_eq, ◌∙◌, ap}
use Rattle.std.specs.Option.{option_or}
use Rattle.slot_order.specs.Names.{first_at, other_at, slot_at}
use Rattle.slot_order.proofs.NameLemmas.{both_gone, turns}
use Rattle.slot_order.proofs.names.SlotNames.remove.Goals as goal

pub returns : goal.returns
unfolding slot_at
returns c = λ other.
    let old = c.args.self.now in
    let between = c.remove_first.new.self in
    let is = bytes_eq c.args.name.now other in
    ap (λ first. option_or first (other_at c.remove.new.self other)) (c.remove_first.ensures.firsts other)
    ∙ ap (option_or (cond is None (first_at old.firsts other)))
    (turns c.args.name.now None between.others.entries c.remove.new.self.entries c.remove.ensures.updates.1 c.remove.ensures.updates.3 other
    ∙ ap (λ others. cond is None (other_at others other)) c.remove_first.ensures.others)
    ∙ both_gone is (first_at old.firsts other) (other_at old.others other)
