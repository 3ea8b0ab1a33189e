use Rattle.classad_pool.proofs.run_over.Given as goal

abbrev pub ghosts-run_uncounted-F-Ledger : goal.ghosts-run_uncounted-F-Ledger
ghosts-run_uncounted-F-Ledger g a = record { name = a.blanks.tops.name; parts = a.blanks.tops.parts }

abbrev pub ghosts-run_uncounted-T-Ledger : goal.ghosts-run_uncounted-T-Ledger
ghosts-run_uncounted-T-Ledger g a = record { name = a.blanks.touch.name; parts = a.blanks.touch.parts }

abbrev pub ghosts-run_uncounted-E-Ledger : goal.ghosts-run_uncounted-E-Ledger
ghosts-run_uncounted-E-Ledger g a = record { name = a.blanks.entry.name; parts = a.blanks.entry.parts }
