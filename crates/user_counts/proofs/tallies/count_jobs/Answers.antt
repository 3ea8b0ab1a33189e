use Rattle.std.proofs.Common.{arith, Some, ap, sym, ◌∙◌}
use Rattle.claim_table.specs.Settings.{settings_of}
use Rattle.claim_table.specs.Table.{jobs_of}
use Rattle.user_counts.proofs.TallyLemmas.{counted-all, counted-few, counted-next, counted-none}
use Rattle.user_counts.proofs.tallies.count_jobs.Goals as goal

pub loop-i-init : goal.loop-i-init
loop-i-init c = counted-none (settings_of c.args.priorities.now) (jobs_of c.args.claims.now) c.args.tallies.now c.requires

pub count-requires : goal.count-requires
count-requires c =
    counted-few (settings_of c.args.priorities.now) (jobs_of c.args.claims.now) c.loop-i.i c.loop-i.tallies c.in_ok-key.key c.bytes.result.now
    c.loop-i.invariant
    c.in_ok-key.ensures.number c.in_ok-key.ensures.name (omega (arith, c.loop-i-test.true, c.len-i-end.ensures.few))

pub loop-i-preserved : goal.loop-i-preserved
loop-i-preserved c =
    counted-next (settings_of c.args.priorities.now) (jobs_of c.args.claims.now) c.loop-i.i c.loop-i.tallies c.count.new.tallies c.in_ok-key.key
    c.bytes.result.now c.standing.result.now c.state.result c.loop-i.invariant
    (c.user.ensures ∙ ap Some (sym c.bytes.ensures)) c.standing.ensures c.state.ensures
    c.in_ok-key.ensures.number c.in_ok-key.ensures.name c.in_ok-count.ensures.entries c.in_ok-count.ensures.updates

pub returns : goal.returns
returns c =
    counted-all (settings_of c.args.priorities.now) (jobs_of c.args.claims.now) c.loop-i.i c.loop-i.tallies c.loop-i.invariant
    (omega (arith, c.loop-i-test.false, c.len-i-end.ensures.len))
