use Rattle.std.proofs.Common.{◌≡◌, ◌∙◌, Err, IfOk, Ok, OnOk, Result, map}
use Rattle.claim_table.specs.Settings.{settings_of}
use Rattle.claim_table.specs.Table.{jobs_of}
use Rattle.user_counts.specs.Shown.{row_of}
use Rattle.user_counts.specs.Users.{user_job, user_names, user_rows}
use Rattle.user_counts.proofs.TallyLemmas.{rows-all}
use Rattle.user_counts.proofs.rows.users.Goals as goal

ok-both : {T E A : Type 0} (r : Result T E) (P Q : T → Type 0) → OnOk r A → (A → (x : T) → P x → Q x) → IfOk r P → IfOk r Q
ok-both (Ok x) P Q a more holds = more a x holds
ok-both (Err e) P Q a more holds = tt

pub returns : goal.returns
returns c =
    let settings = settings_of c.args.priorities.now in
    let jobs = map user_job (jobs_of c.args.claims.now) in
    let tallies = c.count_jobs.new.tallies in
    ok-both c.rows_of.result (λ rows. rows ≡ map row_of tallies.entries) (λ rows. rows ≡ user_rows settings jobs) c.rows_of.ensures.found
    (λ found rows is. is ∙ rows-all settings (user_names settings jobs) jobs tallies c.in_ok-count_jobs.ensures found) c.rows_of.ensures.rows
