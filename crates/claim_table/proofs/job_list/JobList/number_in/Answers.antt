use Rattle.std.proofs.Common.{eqb, position, sym, ◌∙◌, ap}
use Rattle.std.specs.Option.{option_and_then}
use Rattle.claim_table.proofs.ListedLemmas.{place-of}
use Rattle.claim_table.proofs.job_list.JobList.number_in.Goals as goal

pub returns : goal.returns
returns c =
    let l = c.args.self.now in
    place-of l.order c.in_ok-slot.field-0 c.place.result c.slots_are_apart.ensures c.place.ensures.place c.place.ensures.none
    ∙ sym (ap (option_and_then (λ key. position (λ s. eqb s key) l.order)) c.in_ok-slot.was)
