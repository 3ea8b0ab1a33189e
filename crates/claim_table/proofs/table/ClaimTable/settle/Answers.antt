use Rattle.std.proofs.Common.{◌≡◌, ◌<◌, ◌∙◌, All, List, ℕ, Some, None, ap, arith, cond, is_some, length, refl, slice_set, subst, sym}
use Rattle.std.proofs.lemmas.List.Elements.{All-weaker}
use Rattle.std.proofs.lemmas.Option.{same_Some}
use Rattle.claim_table.specs.declared.answers.JobState.{JobState}
use Rattle.claim_table.specs.declared.job.Job.{Job}
use Rattle.claim_table.specs.declared.job.Stage.{Stage}
use Rattle.claim_table.specs.Claims.{offer_at}
use Rattle.claim_table.specs.JobList.{jobs_in, slots_in}
use Rattle.claim_table.specs.Jobs.{claimed_by, lists, offer_of, state_of}
use Rattle.claim_table.specs.Kept.{AreThere, IsKept, note_at, numbers}
use Rattle.claim_table.proofs.ChangeLemmas.{matched_offer, settled_jobs, settled_kept}
use Rattle.claim_table.proofs.ClaimLemmas.{offer-found}
use Rattle.claim_table.proofs.ListLemmas.{job_found, restood, within_at}
use Rattle.claim_table.proofs.NoteLemmas.{cleared-everywhere, marked-everywhere, noted-reach}
use Rattle.claim_table.proofs.NumberLemmas.{length-numbers, numbers-put, stands-put}
use Rattle.claim_table.proofs.table.ClaimTable.settle.Goals as goal

pub slot-job-requires : goal.slot-job-requires
slot-job-requires c = within_at (λ j. state_of j.standing) (jobs_in c.args.self.now.jobs) c.args.i JobState.Matched c.requires.matched

pub invariant_of-self : goal.invariant_of-self
invariant_of-self c =
    let t = c.args.self.now in
    let i = c.args.i in
    let slots = slots_in t.jobs in
    let jobs = jobs_in t.jobs in
    let key = c.slot-job.result in
    let found = job_found (λ j. j.standing) jobs i c.restand-was.result c.restand-was.ensures.was in
    let job : Job = found.0 in
    let at = found.1 in
    let list = offer_of job.standing in
    let is_matched = job_found (λ j. state_of j.standing) jobs i JobState.Matched c.requires.matched in
    let matched : job.standing ≡ Stage.Matched list =
    matched_offer job.standing (ap (λ (j : Job). state_of j.standing) (same_Some job is_matched.0 (sym at ∙ is_matched.1)) ∙ is_matched.2) in
    let offers = c.put.new.notes.items in
    let claims = c.put-2.new.notes.items in
    let listed : c.offer.result.now ≡ list = c.offer.ensures ∙ ap offer_of (sym found.2) in
    let listed_again : c.offer-2.result.now ≡ list = c.offer-2.ensures ∙ ap offer_of (sym found.2) in
    let same_offers : length offers ≡ length t.offers.items = omega (arith, c.put.ensures.len, c.put.new.notes.ok.0, t.offers.ok.0) in
    let same_claims : length claims ≡ length t.claims.items = omega (arith, c.put-2.ensures.len, c.put-2.new.notes.ok.0, t.claims.ok.0) in
    let reached : All (λ s. s < length t.claims.items) list =
    All-weaker (λ s. s < length (numbers slots t.offers.items)) (λ s. s < length t.claims.items)
    (λ s less. omega (arith, less, t.kept.room, length-numbers slots t.claims.items)) list
    (noted-reach offer_of (numbers slots t.offers.items) jobs i job t.kept.offered at) in
    let free : All (λ s. claimed_by s jobs ≡ None) list = subst (All (λ s. claimed_by s jobs ≡ None)) (offer-found jobs i job at) c.requires.free in
    let clears : (slot : ℕ) → note_at offers slot ≡ cond (lists list slot) None (note_at t.offers.items slot) =
    cleared-everywhere t.offers.items offers list same_offers
    (λ slot within. c.put.ensures.notes slot (omega (arith, within, t.offers.ok.0))
    ∙ ap (λ s. cond (lists s slot) None (note_at t.offers.items slot)) listed) in
    let marks : (slot : ℕ) → note_at claims slot ≡ cond (lists list slot) (Some key) (note_at t.claims.items slot) =
    marked-everywhere t.claims.items claims list (Some key) same_claims reached
    (λ slot within. c.put-2.ensures.notes slot (omega (arith, within, t.claims.ok.0))
    ∙ ap (λ s. cond (lists s slot) (Some key) (note_at t.claims.items slot)) listed_again) in
    record {
      kept = subst (λ l. IsKept (jobs_in c.restand-idle.new.self) (numbers l offers) (numbers l claims) t.text)
          (sym (c.restand-idle.ensures.slots ∙ c.restand-was.ensures.slots))
          (subst (λ js. IsKept js (numbers slots offers) (numbers slots claims) t.text)
          (sym (settled_jobs jobs i job c.restand-was.result c.into_slots.result (jobs_in c.restand-was.new.self) (jobs_in c.restand-idle.new.self) at
          found.2 matched c.restand-was.ensures.jobs c.restand-idle.ensures.jobs c.into_slots.ensures))
          (settled_kept jobs (numbers slots t.offers.items) (numbers slots t.claims.items) t.text t.kept i job at list (numbers slots offers)
          (numbers slots claims) matched free
          (length-numbers slots offers ∙ same_offers ∙ sym (length-numbers slots t.offers.items))
          (length-numbers slots claims ∙ same_claims ∙ sym (length-numbers slots t.claims.items))
          (λ slot. numbers-put slots t.offers.items offers slot (lists list slot) None (clears slot))
          (λ slot. numbers-put slots t.claims.items claims slot (lists list slot) (Some key) (marks slot)
          ∙ ap (λ n. cond (lists list slot) n (note_at (numbers slots t.claims.items) slot)) c.slot-job.ensures.number)));
      there = subst (λ l. AreThere l offers claims) (sym (c.restand-idle.ensures.slots ∙ c.restand-was.ensures.slots))
          (record {
            offered = λ slot. stands-put slots t.offers.items offers slot (lists list slot) None refl (clears slot) (t.there.offered slot);
            claimed =
                λ slot. stands-put slots t.claims.items claims slot (lists list slot) (Some key) (ap is_some c.slot-job.ensures.number) (marks slot)
                (t.there.claimed slot);
          });
    }

pub returns : goal.returns
returns c =
    let jobs = jobs_in c.args.self.now.jobs in
    let i = c.args.i in
    let found = job_found (λ j. j.standing) jobs i c.restand-was.result c.restand-was.ensures.was in
    let job : Job = found.0 in
    let at = found.1 in
    let list = offer_of job.standing in
    let is_matched = job_found (λ j. state_of j.standing) jobs i JobState.Matched c.requires.matched in
    let matched : job.standing ≡ Stage.Matched list =
    matched_offer job.standing (ap (λ (j : Job). state_of j.standing) (same_Some job is_matched.0 (sym at ∙ is_matched.1)) ∙ is_matched.2) in
    settled_jobs jobs i job c.restand-was.result c.into_slots.result (jobs_in c.restand-was.new.self) (jobs_in c.restand-idle.new.self) at found.2 matched
    c.restand-was.ensures.jobs c.restand-idle.ensures.jobs c.into_slots.ensures
    ∙ ap (λ (s : List ℕ). slice_set jobs i (record job { standing = Stage.Claimed s })) (sym (offer-found jobs i job at))
    ∙ sym (restood jobs i job (Stage.Claimed (offer_at i jobs)) at)
