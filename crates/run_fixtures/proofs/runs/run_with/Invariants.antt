use Rattle.run_fixtures.proofs.runs.run_with.Given as goal

abbrev pub ghosts-run_counted-F-Ledger : goal.ghosts-run_counted-F-Ledger
ghosts-run_counted-F-Ledger g a = record { name = a.blanks.tops.name; parts = a.blanks.tops.parts }

abbrev pub ghosts-run_counted-T-Ledger : goal.ghosts-run_counted-T-Ledger
ghosts-run_counted-T-Ledger g a = record { name = a.blanks.touch.name; parts = a.blanks.touch.parts }

abbrev pub ghosts-run_counted-E-Ledger : goal.ghosts-run_counted-E-Ledger
ghosts-run_counted-E-Ledger g a = record { name = a.blanks.entry.name; parts = a.blanks.entry.parts }
