use Rattle.std.proofs.Common.{◌∙◌, sym}
use Rattle.slot_order.specs.Names.{first_at, other_at, slot_at}
use Rattle.slot_order.proofs.NameLemmas.{asked, no_first}
use Rattle.slot_order.proofs.names.SlotNames.get.Goals as goal

pub returns-in-None : goal.returns-in-None
unfolding slot_at
returns-in-None c =
    let names = c.args.self.now in
    let name = c.args.name.now in
    c.copied.ensures ∙ c.get.ensures.value ∙ asked name names.others.entries
    ∙ sym (no_first (first_at names.firsts name) (other_at names.others name) (sym c.first.ensures ∙ c.in-None.is))
