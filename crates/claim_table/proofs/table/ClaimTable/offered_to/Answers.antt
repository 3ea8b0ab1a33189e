use Rattle.std.proofs.Common.{◌∙◌, ap, sym, subst, IfSome, length, ◌<◌}
use Rattle.claim_table.specs.JobList.{jobs_in, slots_in}
use Rattle.claim_table.specs.Jobs.{offer_of, lists}
use Rattle.claim_table.specs.Kept.{note_at, numbers}
use Rattle.claim_table.proofs.NoteLemmas.{noted-position, noted-within}
use Rattle.claim_table.proofs.NumberLemmas.{note-numbers, number_of_note}
use Rattle.claim_table.proofs.table.ClaimTable.offered_to.Goals as goal

pub returns-clause-number : goal.returns-clause-number
returns-clause-number c =
    let t = c.args.self.now in
    let slots = slots_in t.jobs in
    c.number_in.ensures
    ∙ ap (number_of_note slots) (c.note.ensures ∙ ap (λ n. note_at n c.args.slot) c.deref.ensures.value)
    ∙ sym (note-numbers slots t.offers.items c.args.slot)
    ∙ noted-position (λ job. lists (offer_of job.standing) c.args.slot) (jobs_in t.jobs) (note_at (numbers slots t.offers.items) c.args.slot)
    (t.kept.offered c.args.slot)

pub returns-clause-within : goal.returns-clause-within
returns-clause-within c =
    let t = c.args.self.now in
    let slots = slots_in t.jobs in
    subst (λ o. IfSome o (λ i. i < length (jobs_in t.jobs)))
    (sym (c.number_in.ensures ∙ ap (number_of_note slots) (c.note.ensures ∙ ap (λ n. note_at n c.args.slot) c.deref.ensures.value)
    ∙ sym (note-numbers slots t.offers.items c.args.slot)))
    (noted-within (λ job. lists (offer_of job.standing) c.args.slot) (jobs_in t.jobs) (note_at (numbers slots t.offers.items) c.args.slot)
    (t.kept.offered c.args.slot))
