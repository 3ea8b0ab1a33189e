use Rattle.std.proofs.Common.{◌≡◌, ◌∙◌, Some, ap, length, slice_get, true}
use Rattle.claim_table.specs.JobList.{jobs_in, slots_in}
use Rattle.claim_table.specs.Kept.{numbers}
use Rattle.claim_table.specs.Jobs.{IsFilled, claim_of, lists}
use Rattle.claim_table.proofs.HolderLemmas.{All-found, claimed_lists, claims_enough, stands_at}
use Rattle.claim_table.proofs.holdings.StandingHoldings.holder.Goals as goal

pub returns-clause-stands : goal.returns-clause-stands
returns-clause-stands c =
    let t = c.args.self.now.claims.now in
    let i = c.in-Some.i in
    let job = c.at-job.result.now in
    let slots = c.claim-slots.result.now in
    let at : slice_get (jobs_in t.jobs) i ≡ Some job = c.at-job.ensures in
    let listed : lists (claim_of job.standing) c.args.slot ≡ true =
    claimed_lists (numbers (slots_in t.jobs) t.claims.items) (jobs_in t.jobs) c.args.slot i job t.kept.claimed c.in-Some.ensures.number at in
    ap (slice_get slots) c.port_of.ensures ∙ stands_at slots c.args.slot (ap (λ s. lists s c.args.slot) c.claim-slots.ensures ∙ listed)

pub returns-clause-fills : goal.returns-clause-fills
returns-clause-fills c =
    let t = c.args.self.now.claims.now in
    let i = c.in-Some.i in
    let job = c.at-job.result.now in
    let at : slice_get (jobs_in t.jobs) i ≡ Some job = c.at-job.ensures in
    let listed : lists (claim_of job.standing) c.args.slot ≡ true =
    claimed_lists (numbers (slots_in t.jobs) t.claims.items) (jobs_in t.jobs) c.args.slot i job t.kept.claimed c.in-Some.ensures.number at in
    ap length c.claim-slots.ensures ∙ claims_enough job c.args.slot (All-found IsFilled (jobs_in t.jobs) i job t.kept.filled at) listed
