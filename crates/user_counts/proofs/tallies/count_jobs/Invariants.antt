use Rattle.claim_table.specs.Settings.{settings_of}
use Rattle.claim_table.specs.Table.{jobs_of}
use Rattle.user_counts.proofs.TallyLemmas.{CountedTo}
use Rattle.user_counts.proofs.tallies.count_jobs.Given as goal

abbrev pub invariant-loop-i : goal.invariant-loop-i
invariant-loop-i l = CountedTo (settings_of l.priorities) (jobs_of l.claims) l.i l.tallies
