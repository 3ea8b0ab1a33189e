use Rattle.std.proofs.Common.{◌≡◌, arith, false, length, true}
use Rattle.std.proofs.lemmas.List.Elements.{All-more}
use Rattle.claim_table.specs.Table.{jobs_of}
use Rattle.job_clusters.specs.Clusters.{is_offered}
use Rattle.job_clusters.proofs.ClusterLemmas.{all-past, first-past, is-taken, none-left}
use Rattle.job_clusters.proofs.class.first_left.Goals as goal

pub returns-then-is_none-clause-first : goal.returns-then-is_none-clause-first
returns-then-is_none-clause-first c =
    first-past (is_offered (jobs_of c.args.claims.now)) c.args.slots.now c.loop-k.k c.loop-k.invariant c.loop-k-test.true
    (is-taken (jobs_of c.args.claims.now) _ c.offered_to.result c.is_none.result true c.offered_to.ensures.number c.is_none.ensures c.if-is_none.true)

pub loop-k-preserved : goal.loop-k-preserved
loop-k-preserved c =
    All-more (λ slot. is_offered (jobs_of c.args.claims.now) slot ≡ true) c.args.slots.now c.loop-k.k 0 c.loop-k-test.true c.loop-k.invariant
    (is-taken (jobs_of c.args.claims.now) _ c.offered_to.result c.is_none.result false c.offered_to.ensures.number c.is_none.ensures c.if-is_none.false)

pub returns-clause-passed : goal.returns-clause-passed
returns-clause-passed c =
    all-past (is_offered (jobs_of c.args.claims.now)) c.args.slots.now c.loop-k.k (length c.args.slots.now) c.loop-k.invariant c.loop-k-test.false (omega arith)

pub returns-clause-first : goal.returns-clause-first
returns-clause-first c = none-left (is_offered (jobs_of c.args.claims.now)) c.args.slots.now c.loop-k.k c.loop-k.invariant c.loop-k-test.false
