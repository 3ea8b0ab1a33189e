use Rattle.std.proofs.Common.{◌≡◌, ℕ, ◌<◌, ◌≤◌, ◌∙◌, All, Some, ap, arith, cond, is_some, length, subst, sym, vec_len}
use Rattle.std.proofs.lemmas.List.Elements.{All-weaker}
use Rattle.claim_table.specs.declared.job.Job.{Job}
use Rattle.claim_table.specs.declared.job.Stage.{Stage}
use Rattle.claim_table.specs.JobList.{jobs_in, slots_in}
use Rattle.claim_table.specs.Jobs.{claim_of, lists, offer_of, wanted}
use Rattle.claim_table.specs.Kept.{AreThere, IsKept, note_at, numbers}
use Rattle.claim_table.proofs.ChangeLemmas.{offered_kept, renoted}
use Rattle.claim_table.proofs.ListLemmas.{job_found, restood, value_at, within_at}
use Rattle.claim_table.proofs.NoteLemmas.{marked-everywhere}
use Rattle.claim_table.proofs.NumberLemmas.{length-numbers, numbers-put, numbers-same, stands-put, stands-same}
use Rattle.claim_table.proofs.table.ClaimTable.offer.Goals as goal

pub slot-job-requires : goal.slot-job-requires
slot-job-requires c = within_at (λ j. j.standing) (jobs_in c.args.self.now.jobs) c.args.i Stage.Idle c.requires.idle

pub restand-idle-requires : goal.restand-idle-requires
restand-idle-requires c = within_at (λ j. j.standing) (jobs_in c.args.self.now.jobs) c.args.i Stage.Idle c.requires.idle

pub invariant_of-self-2 : goal.invariant_of-self-2
invariant_of-self-2 c =
    let t = c.args.self.now in
    let i = c.args.i in
    let list = c.args.slots in
    let slots = slots_in t.jobs in
    let jobs = jobs_in t.jobs in
    let key = c.slot-job.result in
    let found = job_found (λ j. j.standing) jobs i Stage.Idle c.requires.idle in
    let job : Job = found.0 in
    let wide = c.widen.new.offers in
    let offers = c.put.new.notes.items in
    let claims = c.widen.new.claims.items in
    let same : length offers ≡ length wide.items = omega (arith, c.put.ensures.len, c.put.new.notes.ok.0, wide.ok.0) in
    let room : length (numbers slots offers) ≤ length (numbers slots claims) =
    omega (arith, same, c.widen.ensures.room, c.widen.new.claims.ok.0, wide.ok.0, length-numbers slots offers, length-numbers slots claims) in
    let reached : All (λ s. s < length wide.items) list =
    All-weaker (λ s. s < vec_len wide) (λ s. s < length wide.items) (λ s less. omega (arith, less, wide.ok.0)) list
    (subst (All (λ s. s < vec_len wide)) c.as_slice.ensures c.in_ok-widen.ensures.reached) in
    let marks : (slot : ℕ) → note_at offers slot ≡ cond (lists list slot) (Some key) (note_at t.offers.items slot) = λ slot.
    marked-everywhere wide.items offers list (Some key) same reached
    (λ other within. c.put.ensures.notes other (omega (arith, within, wide.ok.0))
    ∙ ap (λ s. cond (lists s other) (Some key) (note_at wide.items other)) c.as_slice-2.ensures) slot
    ∙ ap (cond (lists list slot) (Some key)) (c.widen.ensures.offers slot) in
    record {
      kept = subst (λ l. IsKept (jobs_in c.restand-idle.new.self) (numbers l offers) (numbers l claims) t.text) (sym c.restand-idle.ensures.slots)
          (subst (λ js. IsKept js (numbers slots offers) (numbers slots claims) t.text)
          (sym (c.restand-idle.ensures.jobs ∙ restood jobs i job (Stage.Matched list) found.1))
          (offered_kept jobs (numbers slots t.offers.items) (numbers slots t.claims.items) t.text t.kept i job found.1 list (numbers slots offers)
          (numbers slots claims)
          found.2 (value_at (λ j. wanted j.request) jobs i (length list) job found.1 c.requires.wanted) c.requires.free c.requires.distinct room
          (λ slot. numbers-put slots t.offers.items offers slot (lists list slot) (Some key) (marks slot)
          ∙ ap (λ n. cond (lists list slot) n (note_at (numbers slots t.offers.items) slot)) c.slot-job.ensures.number)
          (λ slot. numbers-same slots t.claims.items claims slot (c.widen.ensures.claims slot))));
      there = subst (λ l. AreThere l offers claims) (sym c.restand-idle.ensures.slots)
          (record {
            offered =
                λ slot. stands-put slots t.offers.items offers slot (lists list slot) (Some key) (ap is_some c.slot-job.ensures.number) (marks slot)
                (t.there.offered slot);
            claimed = λ slot. stands-same slots t.claims.items claims slot (c.widen.ensures.claims slot) (t.there.claimed slot);
          });
    }

pub invariant_of-self : goal.invariant_of-self
invariant_of-self c =
    let t = c.args.self.now in
    let slots = slots_in t.jobs in
    let jobs = jobs_in t.jobs in
    let offers = c.widen.new.offers.items in
    let claims = c.widen.new.claims.items in
    record {
      kept = record {
        offered =
            renoted offer_of (numbers slots t.offers.items) (numbers slots offers) jobs t.kept.offered
            (λ slot. numbers-same slots t.offers.items offers slot (c.widen.ensures.offers slot));
        claimed =
            renoted claim_of (numbers slots t.claims.items) (numbers slots claims) jobs t.kept.claimed
            (λ slot. numbers-same slots t.claims.items claims slot (c.widen.ensures.claims slot));
        room = omega (arith, c.widen.ensures.room, c.widen.new.offers.ok.0, c.widen.new.claims.ok.0, length-numbers slots offers, length-numbers slots claims);
        counted = t.kept.counted;
        within = t.kept.within;
        few = t.kept.few;
        filled = t.kept.filled;
      };
      there = record {
        offered = λ slot. stands-same slots t.offers.items offers slot (c.widen.ensures.offers slot) (t.there.offered slot);
        claimed = λ slot. stands-same slots t.claims.items claims slot (c.widen.ensures.claims slot) (t.there.claimed slot);
      };
    }
