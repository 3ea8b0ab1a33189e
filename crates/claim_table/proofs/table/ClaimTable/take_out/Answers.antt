use Rattle.std.proofs.Common.{◌-◌, ◌<◌, length, ap, arith, subst, sym, ◌∙◌}
use Rattle.std.specs.List.{remove}
use Rattle.std.proofs.lemmas.Option.{slice_get_within}
use Rattle.claim_table.specs.declared.job.Job.{Job}
use Rattle.claim_table.specs.declared.job.Stage.{Stage}
use Rattle.claim_table.specs.JobList.{jobs_in, slots_in}
use Rattle.claim_table.specs.Jobs.{claim_of, lists, offer_of}
use Rattle.claim_table.specs.Kept.{AreThere, IsKept, numbers}
use Rattle.claim_table.proofs.ChangeLemmas.{gone_kept}
use Rattle.claim_table.proofs.ListedLemmas.{length-jobs}
use Rattle.claim_table.proofs.ListLemmas.{sum_by-remove_at, value_at, within_at}
use Rattle.claim_table.proofs.NoteLemmas.{passes_from}
use Rattle.claim_table.proofs.NumberLemmas.{length-numbers, numbers-gone, stands-gone}
use Rattle.claim_table.proofs.table.ClaimTable.take_out.Goals as goal

pub remove-job-requires : goal.remove-job-requires
remove-job-requires c = within_at (λ j. j.standing) (jobs_in c.args.self.now.jobs) c.args.i Stage.Idle c.requires

pub overflow_sub-self : goal.overflow_sub-self
overflow_sub-self c =
    let t = c.args.self.now in
    let job : Job = c.remove-job.result in
    omega (arith, sum_by-remove_at (λ j. j.text_len) (jobs_in t.jobs) c.args.i job c.remove-job.ensures.was, t.kept.counted)

pub invariant_of-self : goal.invariant_of-self
invariant_of-self c =
    let t = c.args.self.now in
    let slots = slots_in t.jobs in
    let jobs = jobs_in t.jobs in
    let i = c.args.i in
    let job : Job = c.remove-job.result in
    let at = c.remove-job.ensures.was in
    let idle = value_at (λ j. j.standing) jobs i Stage.Idle job at c.requires in
    let within : i < length slots = omega (arith, slice_get_within jobs i job at, length-jobs t.jobs.table slots t.jobs.listed.filled) in
    let fewer = remove slots i in
    record {
      kept = subst (λ l. IsKept (jobs_in c.remove-job.new.self) (numbers l t.offers.items) (numbers l t.claims.items) (t.text - job.text_len))
          (sym c.remove-job.ensures.slots)
          (subst (λ js. IsKept js (numbers fewer t.offers.items) (numbers fewer t.claims.items) (t.text - job.text_len)) (sym c.remove-job.ensures.jobs)
          (gone_kept jobs (numbers slots t.offers.items) (numbers slots t.claims.items) t.text t.kept i job at (numbers fewer t.offers.items)
          (numbers fewer t.claims.items) idle (slice_get_within jobs i job at)
          (length-numbers fewer t.offers.items ∙ sym (length-numbers slots t.offers.items))
          (length-numbers fewer t.claims.items ∙ sym (length-numbers slots t.claims.items))
          (λ slot. numbers-gone slots i t.offers.items slot within
          (t.kept.offered slot i ∙ passes_from (λ j. lists (offer_of j.standing) slot) jobs i job at ∙ ap (λ s. lists (offer_of s) slot) idle))
          (λ slot. numbers-gone slots i t.claims.items slot within
          (t.kept.claimed slot i ∙ passes_from (λ j. lists (claim_of j.standing) slot) jobs i job at ∙ ap (λ s. lists (claim_of s) slot) idle))));
      there = subst (λ l. AreThere l t.offers.items t.claims.items) (sym c.remove-job.ensures.slots)
          (record {
            offered =
                λ slot. stands-gone slots i t.offers.items slot within
                (t.kept.offered slot i ∙ passes_from (λ j. lists (offer_of j.standing) slot) jobs i job at ∙ ap (λ s. lists (offer_of s) slot) idle)
                (t.there.offered slot);
            claimed =
                λ slot. stands-gone slots i t.claims.items slot within
                (t.kept.claimed slot i ∙ passes_from (λ j. lists (claim_of j.standing) slot) jobs i job at ∙ ap (λ s. lists (claim_of s) slot) idle)
                (t.there.claimed slot);
          });
    }

pub returns : goal.returns
returns c = c.remove-job.ensures.jobs
