use Rattle.std.proofs.Common.{◌<◌, All, List, ap, length, map, subst, sym, ◌∙◌}
use Rattle.std.proofs.lemmas.List.Sorted.{All-permutation}
use Rattle.ad_store.specs.Store.{stock_of}
use Rattle.dock_match.specs.Pool.{slot_at}
use Rattle.bilateral_match.specs.declared.member.Member.{Member}
use Rattle.bilateral_match.proofs.shortlists.slots_in_order.Goals as goal

pub slots_of-requires : goal.slots_of-requires
slots_of-requires c =
    let slots = (stock_of c.args.store.now).slots in
    let moved = All-permutation (λ (m : Member). m.place < length slots) c.args.found.items c.arrange.new.found.items c.in_ok-arrange.ensures.all c.requires in
    subst (λ (ms : List Member). All (λ (m : Member). m.place < length slots) ms) (sym c.deref.ensures.value) moved

pub returns-clause-slots : goal.returns-clause-slots
returns-clause-slots c = (
  c.arrange.new.found.items,
  c.in_ok-arrange.ensures.all,
  c.in_ok-arrange.ensures.ordered,
  c.in_ok-slots_of.ensures.slots ∙ ap (map (λ (m : Member). slot_at (stock_of c.args.store.now) m.place)) c.deref.ensures.value,
)
