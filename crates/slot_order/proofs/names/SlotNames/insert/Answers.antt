use Rattle.std.proofs.Common.{Some, cond, bytes_eq, sym, ◌∙◌, ap}
use Rattle.std.specs.BTreeMap.{get}
use Rattle.std.specs.Option.{option_or}
use Rattle.std.specs.Ordering.{nat_cmp}
use Rattle.slot_order.specs.Names.{first_at, has_other, other_at, slot_at}
use Rattle.slot_order.proofs.NameLemmas.{goes_behind, turns}
use Rattle.slot_order.proofs.names.SlotNames.insert.Goals as goal

pub returns-in_ok-insert-clause-ok : goal.returns-in_ok-insert-clause-ok
unfolding slot_at
returns-in_ok-insert-clause-ok c = λ other.
    let old = c.args.self.now in
    let name = c.args.name.now in
    let slot = Some c.args.slot in
    let taken =
    sym (ap (λ digest. has_other name (get nat_cmp old.firsts digest)) c.name_digest-digest.ensures) ∙ sym c.is_taken.ensures ∙ c.if-is_taken.true
    in
    ap (option_or (first_at old.firsts other))
    (turns c.in_ok-key.key.items slot old.others.entries c.insert.new.self.entries c.in_ok-insert.ensures.updates.1 c.in_ok-insert.ensures.updates.3 other
    ∙ ap (λ n. cond (bytes_eq n other) slot (other_at old.others other)) c.in_ok-key.ensures.items)
    ∙ goes_behind old.firsts name slot (other_at old.others other) other taken
