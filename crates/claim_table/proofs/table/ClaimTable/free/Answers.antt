use Rattle.std.proofs.Common.{◌≡◌, ℕ, cond, refl, length, sym, subst, None, Some, ◌∙◌, ap, arith}
use Rattle.std.specs.Prelude.{option_map}
use Rattle.claim_table.specs.declared.job.Job.{Job}
use Rattle.claim_table.specs.declared.job.Stage.{Stage}
use Rattle.claim_table.specs.JobList.{jobs_in, slots_in}
use Rattle.claim_table.specs.Jobs.{claim_of, lists, offer_of, slots_of}
use Rattle.claim_table.specs.Kept.{AreThere, IsKept, note_at, numbers}
use Rattle.claim_table.proofs.ChangeLemmas.{freed_kept}
use Rattle.claim_table.proofs.ListLemmas.{job_found, restood}
use Rattle.claim_table.proofs.NoteLemmas.{cleared-everywhere}
use Rattle.claim_table.proofs.NumberLemmas.{length-numbers, numbers-put, stands-put}
use Rattle.claim_table.proofs.table.ClaimTable.free.Goals as goal

pub invariant_of-self : goal.invariant_of-self
invariant_of-self c =
    let t = c.args.self.now in
    let slots = slots_in t.jobs in
    let jobs = jobs_in t.jobs in
    let found = job_found (λ j. j.standing) jobs c.args.i c.restand-was.result c.restand-was.ensures.was in
    let job : Job = found.0 in
    let offers = c.put.new.notes.items in
    let claims = c.put-2.new.notes.items in
    let offer : c.offer.result.now ≡ offer_of job.standing = c.offer.ensures ∙ ap offer_of (sym found.2) in
    let claim : c.claim.result.now ≡ claim_of job.standing = c.claim.ensures ∙ ap claim_of (sym found.2) in
    let same_offers : length offers ≡ length t.offers.items = omega (arith, c.put.ensures.len, c.put.new.notes.ok.0, t.offers.ok.0) in
    let same_claims : length claims ≡ length t.claims.items = omega (arith, c.put-2.ensures.len, c.put-2.new.notes.ok.0, t.claims.ok.0) in
    let clears_offers : (slot : ℕ) → note_at offers slot ≡ cond (lists (offer_of job.standing) slot) None (note_at t.offers.items slot) =
    cleared-everywhere t.offers.items offers (offer_of job.standing) same_offers
    (λ other within. c.put.ensures.notes other (omega (arith, within, t.offers.ok.0))
    ∙ ap (λ s. cond (lists s other) None (note_at t.offers.items other)) offer) in
    let clears_claims : (slot : ℕ) → note_at claims slot ≡ cond (lists (claim_of job.standing) slot) None (note_at t.claims.items slot) =
    cleared-everywhere t.claims.items claims (claim_of job.standing) same_claims
    (λ other within. c.put-2.ensures.notes other (omega (arith, within, t.claims.ok.0))
    ∙ ap (λ s. cond (lists s other) None (note_at t.claims.items other)) claim) in
    record {
      there = subst (λ l. AreThere l offers claims) (sym c.restand-was.ensures.slots)
          (record {
            offered =
                λ slot. stands-put slots t.offers.items offers slot (lists (offer_of job.standing) slot) None refl (clears_offers slot) (t.there.offered slot);
            claimed =
                λ slot. stands-put slots t.claims.items claims slot (lists (claim_of job.standing) slot) None refl (clears_claims slot) (t.there.claimed slot);
          });
      kept = subst (λ l. IsKept (jobs_in c.restand-was.new.self) (numbers l offers) (numbers l claims) t.text) (sym c.restand-was.ensures.slots)
          (subst (λ js. IsKept js (numbers slots offers) (numbers slots claims) t.text)
          (sym (c.restand-was.ensures.jobs ∙ restood jobs c.args.i job Stage.Idle found.1))
          (freed_kept jobs (numbers slots t.offers.items) (numbers slots t.claims.items) t.text t.kept c.args.i job found.1 (numbers slots offers)
          (numbers slots claims)
          (length-numbers slots offers ∙ same_offers ∙ sym (length-numbers slots t.offers.items))
          (length-numbers slots claims ∙ same_claims ∙ sym (length-numbers slots t.claims.items))
          (λ slot. numbers-put slots t.offers.items offers slot (lists (offer_of job.standing) slot) None
          (cleared-everywhere t.offers.items offers (offer_of job.standing) same_offers
          (λ other within. c.put.ensures.notes other (omega (arith, within, t.offers.ok.0))
          ∙ ap (λ s. cond (lists s other) None (note_at t.offers.items other)) offer) slot))
          (λ slot. numbers-put slots t.claims.items claims slot (lists (claim_of job.standing) slot) None
          (cleared-everywhere t.claims.items claims (claim_of job.standing) same_claims
          (λ other within. c.put-2.ensures.notes other (omega (arith, within, t.claims.ok.0))
          ∙ ap (λ s. cond (lists s other) None (note_at t.claims.items other)) claim) slot))));
    }

pub returns-clause-slots : goal.returns-clause-slots
returns-clause-slots c =
    let found = job_found (λ j. j.standing) (jobs_in c.args.self.now.jobs) c.args.i c.restand-was.result c.restand-was.ensures.was in
    ap (option_map (λ (j : Job). slots_of j.standing)) found.1 ∙ ap (λ s. Some (slots_of s)) found.2 ∙ ap (λ s. Some s) (sym c.into_slots.ensures)
