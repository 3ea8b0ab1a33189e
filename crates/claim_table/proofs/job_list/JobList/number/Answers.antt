use Rattle.std.proofs.Common.{sym, ◌∙◌}
use Rattle.slot_order.specs.Names.{slot_at}
use Rattle.claim_table.proofs.ListedLemmas.{numbered-none, numbered-place, place-within}
use Rattle.claim_table.proofs.job_list.JobList.number.Goals as goal

pub returns-in_err-get-clause-number : goal.returns-in_err-get-clause-number
returns-in_err-get-clause-number c =
    let l = c.args.self.now in
    c.from_residual.ensures ∙ sym (numbered-none l.table l.order (slot_at l.names) l.listed c.slots_are_apart.ensures c.args.name.now
    (sym c.get.ensures ∙ c.in_err-get.was))

pub returns-clause-number : goal.returns-clause-number
returns-clause-number c =
    let l = c.args.self.now in
    numbered-place l.table l.order (slot_at l.names) l.listed c.slots_are_apart.ensures c.args.name.now c.in_ok-get.field-0 c.place.result
    (sym c.in_ok-get.ensures) c.place.ensures.place c.place.ensures.none

pub returns-clause-within : goal.returns-clause-within
returns-clause-within c =
    let l = c.args.self.now in
    place-within l.table l.order (slot_at l.names) l.listed c.slots_are_apart.ensures c.in_ok-get.field-0 c.place.result c.place.ensures.place
