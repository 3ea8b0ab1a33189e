-- The text of an explanation: why a job matches the ads that it matches.
use Rattle.std.specs.Prelude.{ℕ, suc, List, [], ◌∷◌, ◌++◌, codes, decimal, length}
use Rattle.match_explain.specs.declared.report.Conjunct.{Conjunct}
use Rattle.match_explain.specs.declared.report.Report.{Report}
use Rattle.match_explain.specs.declared.report.Verdict.{Verdict}

-- `conjunct J holds C` and the conjunct
abbrev pub conjunct_line : ℕ → Conjunct → List ℕ
conjunct_line j row = codes "conjunct " ++ decimal j ++ codes " holds " ++ decimal row.holds ++ codes " " ++ row.text ++ codes "\n"

-- a line for each conjunct, of which the first has the number j
abbrev pub conjunct_lines : ℕ → List Conjunct → List ℕ
conjunct_lines j [] = []
conjunct_lines j (row ∷ rows) = conjunct_line j row ++ conjunct_lines (suc j) rows

-- what keeps an ad from matching
abbrev pub verdict_text : Verdict → List ℕ
verdict_text Verdict.Accepted = codes "accepted"
verdict_text (Verdict.Request j) = codes "request " ++ decimal j
verdict_text (Verdict.Resource j) = codes "resource " ++ decimal j

-- the name of an ad and its verdict
abbrev pub verdict_line : List ℕ → Verdict → List ℕ
verdict_line name verdict = name ++ codes " " ++ verdict_text verdict ++ codes "\n"

-- a line for each ad
abbrev pub verdict_lines : List (List ℕ) → List Verdict → List ℕ
verdict_lines (name ∷ names) (verdict ∷ verdicts) = verdict_line name verdict ++ verdict_lines names verdicts
verdict_lines names verdicts = []

-- `why JOB ads K`, a line for each conjunct of the job, and a line for each ad
abbrev pub why_text : List ℕ → List (List ℕ) → Report → List ℕ
why_text job names report =
    codes "why " ++ job ++ codes " ads " ++ decimal (length names) ++ codes "\n" ++ conjunct_lines 1 report.conjuncts ++ verdict_lines names report.verdicts
