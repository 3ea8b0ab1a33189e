use Rattle.claim_table.specs.JobList.{jobs_in, slots_in}
use Rattle.claim_table.specs.Jobs.{claim_of, offer_of}
use Rattle.claim_table.specs.Kept.{numbers}
use Rattle.claim_table.proofs.NoteLemmas.{noted-exclusive}
use Rattle.claim_table.proofs.table.ClaimTable.resources_are_apart.Goals as goal

pub returns-clause-offers : goal.returns-clause-offers
returns-clause-offers c = let t = c.args.self.now in noted-exclusive offer_of (numbers (slots_in t.jobs) t.offers.items) (jobs_in t.jobs) t.kept.offered

pub returns-clause-claims : goal.returns-clause-claims
returns-clause-claims c = let t = c.args.self.now in noted-exclusive claim_of (numbers (slots_in t.jobs) t.claims.items) (jobs_in t.jobs) t.kept.claimed
