use Rattle.std.proofs.Common.{◌+◌, ◌++◌, ◌∷◌, [], ◌∙◌, refl, subst, sym}
use Rattle.claim_table.specs.declared.job.Job.{Job}
use Rattle.claim_table.specs.declared.job.Stage.{Stage}
use Rattle.claim_table.specs.JobList.{jobs_in, slots_in}
use Rattle.claim_table.specs.Kept.{AreThere, IsKept, numbers}
use Rattle.claim_table.proofs.ChangeLemmas.{entered_kept, from_err, from_ok, renoted_kept}
use Rattle.claim_table.proofs.NumberLemmas.{length-numbers, numbers-push, stands-push}
use Rattle.claim_table.proofs.table.ClaimTable.submit.Goals as goal

pub invariant_of-self : goal.invariant_of-self
invariant_of-self c =
    let t = c.args.self.now in
    record {
      kept = subst (λ l. IsKept (jobs_in c.push.new.self) (numbers l t.offers.items) (numbers l t.claims.items) t.text)
          (sym (from_err c.push.result c.if-is_err.ensures.value c.push.ensures.slots))
          (subst (λ js. IsKept js (numbers (slots_in t.jobs) t.offers.items) (numbers (slots_in t.jobs) t.claims.items) t.text)
          (sym (from_err c.push.result c.if-is_err.ensures.value c.push.ensures.err)) t.kept);
      there = subst (λ l. AreThere l t.offers.items t.claims.items) (sym (from_err c.push.result c.if-is_err.ensures.value c.push.ensures.slots)) t.there;
    }

pub invariant_of-self-2 : goal.invariant_of-self-2
invariant_of-self-2 c =
    let t = c.args.self.now in
    let titles = c.in-Ok.titles in
    let job : Job = record { name = titles.job; user = titles.user; text_len = c.args.text_len; request = c.args.request; standing = Stage.Idle } in
    let slots = slots_in t.jobs in
    let told = from_ok c.push.result c.if-is_err.ensures.value c.push.ensures.last in
    let last = told.0 in
    let more = slots ++ last ∷ [] in
    record {
      kept = subst (λ l. IsKept (jobs_in c.push.new.self) (numbers l t.offers.items) (numbers l t.claims.items) (t.text + c.args.text_len)) (sym told.1)
          (subst (λ js. IsKept js (numbers more t.offers.items) (numbers more t.claims.items) (t.text + c.args.text_len))
          (sym (from_ok c.push.result c.if-is_err.ensures.value c.push.ensures.ok))
          (renoted_kept (jobs_in t.jobs ++ job ∷ []) (numbers slots t.offers.items) (numbers slots t.claims.items) (numbers more t.offers.items)
          (numbers more t.claims.items) (t.text + c.args.text_len)
          (entered_kept (jobs_in t.jobs) (numbers slots t.offers.items) (numbers slots t.claims.items) t.text t.kept job refl c.in_default.ensures.few
          c.in_default.ensures.light)
          (length-numbers more t.offers.items ∙ sym (length-numbers slots t.offers.items))
          (length-numbers more t.claims.items ∙ sym (length-numbers slots t.claims.items))
          (λ slot. numbers-push slots last t.offers.items slot (t.there.offered slot))
          (λ slot. numbers-push slots last t.claims.items slot (t.there.claimed slot))));
      there = subst (λ l. AreThere l t.offers.items t.claims.items) (sym told.1)
          (record {
            offered =
                λ slot. stands-push slots last t.offers.items slot (t.there.offered slot);
            claimed =
                λ slot. stands-push slots last t.claims.items slot (t.there.claimed slot);
          });
    }
