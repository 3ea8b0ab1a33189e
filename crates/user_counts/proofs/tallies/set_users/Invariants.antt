use Rattle.claim_table.specs.Settings.{settings_of}
use Rattle.user_counts.proofs.TallyLemmas.{SetTo}
use Rattle.user_counts.proofs.tallies.set_users.Given as goal

abbrev pub invariant-loop-i : goal.invariant-loop-i
invariant-loop-i l = SetTo (settings_of l.priorities) l.i l.tallies
