use Rattle.std.proofs.Common.{subst, sym}
use Rattle.claim_table.specs.JobList.{jobs_in, slots_in}
use Rattle.claim_table.specs.Kept.{AreThere, IsKept, numbers}
use Rattle.claim_table.proofs.table.ClaimTable.settle_order.Goals as goal

pub invariant_of-self : goal.invariant_of-self
invariant_of-self c =
    let t = c.args.self.now in
    record {
      kept = subst (λ l. IsKept (jobs_in c.settle.new.self) (numbers l t.offers.items) (numbers l t.claims.items) t.text) (sym c.settle.ensures.slots)
          (subst (λ js. IsKept js (numbers (slots_in t.jobs) t.offers.items) (numbers (slots_in t.jobs) t.claims.items) t.text) (sym c.settle.ensures.jobs)
          t.kept);
      there = subst (λ l. AreThere l t.offers.items t.claims.items) (sym c.settle.ensures.slots) t.there;
    }
