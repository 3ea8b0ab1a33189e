use Rattle.std.proofs.Common.{arith}
use Rattle.claim_table.specs.Settings.{settings_of}
use Rattle.user_counts.proofs.TallyLemmas.{set-all, set-next, set-none}
use Rattle.user_counts.proofs.tallies.set_users.Goals as goal

pub loop-i-init : goal.loop-i-init
loop-i-init c = set-none (settings_of c.args.priorities.now) c.new-tallies.result c.new-tallies.ensures.empty

pub loop-i-preserved : goal.loop-i-preserved
loop-i-preserved c =
    set-next (settings_of c.args.priorities.now) c.loop-i.i c.loop-i.tallies c.insert.new.self c.in_ok-key.key c.user.result.now c.loop-i.invariant
    c.user.ensures c.in_ok-key.ensures.number c.in_ok-key.ensures.name c.in_ok-insert.ensures.entries c.in_ok-insert.ensures.updates

pub returns : goal.returns
returns c =
    set-all (settings_of c.args.priorities.now) c.loop-i.i c.loop-i.tallies c.loop-i.invariant (omega (arith, c.loop-i-test.false, c.len-i-end.ensures.len))
