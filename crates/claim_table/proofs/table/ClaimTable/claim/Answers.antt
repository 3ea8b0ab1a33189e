use Rattle.std.proofs.Common.{◌≡◌, ◌≢◌, ◌∙◌, ℕ, All, Contains, Some, ap, arith, length, rules, slice_get, sym}
use Rattle.std.specs.Prelude.{Err, option_map}
use Rattle.ad_tree.specs.Ad.{ad_frames}
use Rattle.ad_tree.specs.Small.{IsSmall}
use Rattle.ad_store.specs.Store.{stock_of}
use Rattle.claim_table.specs.declared.answers.ClaimFault.{ClaimFault}
use Rattle.claim_table.specs.declared.answers.JobState.{JobState}
use Rattle.claim_table.specs.declared.job.Job.{Job}
use Rattle.claim_table.specs.Jobs.{IsFilled, slots_of, state_of}
use Rattle.claim_table.specs.Priorities.{priority_of}
use Rattle.claim_table.specs.Settings.{settings_of}
use Rattle.claim_table.specs.Table.{jobs_of}
use Rattle.claim_table.proofs.ClaimLemmas.{claimed-granted, claimed-nobody, claimed-stale, claimed-unmatched, entered-named, offer-few, offer-listed}
use Rattle.claim_table.proofs.ClaimLemmas.{offer-named, undecided-named}
use Rattle.claim_table.proofs.HolderLemmas.{All-found}
use Rattle.claim_table.proofs.table.ClaimTable.claim.Goals as goal

pub returns-in_default-clause-claim : goal.returns-in_default-clause-claim
returns-in_default-clause-claim g c =
    claimed-nobody c.args.moment (stock_of c.args.store.now) (settings_of c.args.priorities.now) c.args.name.now (jobs_of c.args.self.now)
    (sym c.number.ensures.number ∙ c.in_default.is)

pub returns-in_default-clause-evaluations : goal.returns-in_default-clause-evaluations
returns-in_default-clause-evaluations g c = omega arith

pub returns-in_default-clause-entries : goal.returns-in_default-clause-entries
returns-in_default-clause-entries g c = omega arith

pub returns-in_default-clause-looks : goal.returns-in_default-clause-looks
returns-in_default-clause-looks g c = omega arith

pub returns-then-ne-clause-claim : goal.returns-then-ne-clause-claim
returns-then-ne-clause-claim g c =
    let jobs = jobs_of c.args.self.now in
    let i = c.in-Some.i in
    let job = c.at-job.result.now in
    let at : slice_get jobs i ≡ Some job = c.at-job.ensures in
    let other : state_of job.standing ≢ JobState.Matched = search rules in
    claimed-unmatched c.args.moment (stock_of c.args.store.now) (settings_of c.args.priorities.now) c.args.name.now jobs i job (sym c.in-Some.ensures.number) at
    other
    ∙ ap (λ state. (Err (ClaimFault.WrongState state), jobs)) (sym c.state-state.ensures)

pub returns-then-ne-clause-evaluations : goal.returns-then-ne-clause-evaluations
returns-then-ne-clause-evaluations g c = omega arith

pub returns-then-ne-clause-entries : goal.returns-then-ne-clause-entries
returns-then-ne-clause-entries g c = omega arith

pub returns-then-ne-clause-looks : goal.returns-then-ne-clause-looks
returns-then-ne-clause-looks g c = omega arith

pub first_failing-requires-clause-offered : goal.first_failing-requires-clause-offered
first_failing-requires-clause-offered g c =
    let jobs = jobs_of c.args.self.now in
    let i = c.in-Some.i in
    let job = c.at-job.result.now in
    let at : slice_get jobs i ≡ Some job = c.at-job.ensures in
    let held = Contains (stock_of c.args.store.now).slots in
    offer-listed held job.standing (All-found (λ j. All held (slots_of j.standing)) jobs i job c.requires at)

pub first_failing-requires-clause-few : goal.first_failing-requires-clause-few
first_failing-requires-clause-few g c =
    let jobs = jobs_of c.args.self.now in
    let i = c.in-Some.i in
    let job = c.at-job.result.now in
    let at : slice_get jobs i ≡ Some job = c.at-job.ensures in
    offer-few job (All-found IsFilled jobs i job c.args.self.now.kept.filled at)

pub returns-in_default-first_failing-clause-evaluations : goal.returns-in_default-first_failing-clause-evaluations
returns-in_default-first_failing-clause-evaluations g c =
    let jobs = jobs_of c.args.self.now in
    let i = c.in-Some.i in
    let job = c.at-job.result.now in
    let at : slice_get jobs i ≡ Some job = c.at-job.ensures in
    let named =
    undecided-named c.args.moment (stock_of c.args.store.now) (settings_of c.args.priorities.now) c.args.name.now jobs i job (sym c.in-Some.ensures.number)
    at in
    omega (arith, named, c.first_failing.ensures.spent.most_evaluations, c.new-meter.ensures.tops.1)

pub returns-in_default-first_failing-clause-entries : goal.returns-in_default-first_failing-clause-entries
returns-in_default-first_failing-clause-entries g c =
    let jobs = jobs_of c.args.self.now in
    let i = c.in-Some.i in
    let job = c.at-job.result.now in
    let at : slice_get jobs i ≡ Some job = c.at-job.ensures in
    let named =
    entered-named c.args.moment (stock_of c.args.store.now) (settings_of c.args.priorities.now) c.args.name.now jobs i job (sym c.in-Some.ensures.number)
    at in
    omega (arith, named, c.first_failing.ensures.spent.most_entries, c.new-meter.ensures.entry.1)

pub returns-in_default-first_failing-clause-ratio : goal.returns-in_default-first_failing-clause-ratio
returns-in_default-first_failing-clause-ratio g c ads requests =
    let jobs = jobs_of c.args.self.now in
    let i = c.in-Some.i in
    let job = c.at-job.result.now in
    let at : slice_get jobs i ≡ Some job = c.at-job.ensures in
    let small = All-found (λ j. IsSmall (ad_frames j.request.ad)) jobs i job requests at in
    omega (arith, c.first_failing.ensures.ratio small ads requests, c.new-meter.ensures.tops.1, c.new-meter.ensures.entry.1)

pub returns-in_default-first_failing-clause-looks : goal.returns-in_default-first_failing-clause-looks
returns-in_default-first_failing-clause-looks g c =
    let jobs = jobs_of c.args.self.now in
    let i = c.in-Some.i in
    let job = c.at-job.result.now in
    let at : slice_get jobs i ≡ Some job = c.at-job.ensures in
    let named =
    ap {B =
    ℕ} length (offer-named c.args.moment (stock_of c.args.store.now) (settings_of c.args.priorities.now) c.args.name.now jobs i job
    (sym c.in-Some.ensures.number) at) in
    omega (arith, named, c.first_failing.ensures.spent.most_looks, c.new-meter.ensures.touch.1)

pub returns-in-Some-failing-clause-claim : goal.returns-in-Some-failing-clause-claim
returns-in-Some-failing-clause-claim g c =
    let jobs = jobs_of c.args.self.now in
    let i = c.in-Some.i in
    let job = c.at-job.result.now in
    let at : slice_get jobs i ≡ Some job = c.at-job.ensures in
    let matched : state_of job.standing ≡ JobState.Matched = search rules in
    let mine = c.get-number.ensures.number ∙ ap (λ user. priority_of user (settings_of c.args.priorities.now)) c.bytes.ensures in
    let failing = sym c.in-Ok.ensures.failing ∙ c.in-Some-failing.is in
    claimed-stale c.args.moment (stock_of c.args.store.now) (settings_of c.args.priorities.now) c.args.name.now jobs i job (sym c.in-Some.ensures.number) at
    matched c.get-number.result c.in-Some-failing.slot mine failing
    ∙ ap (λ js. (Err (ClaimFault.Stale c.in-Some-failing.slot), js)) (sym c.free-slots.ensures.jobs)

pub returns-in-Some-failing-clause-evaluations : goal.returns-in-Some-failing-clause-evaluations
returns-in-Some-failing-clause-evaluations g c =
    let jobs = jobs_of c.args.self.now in
    let i = c.in-Some.i in
    let job = c.at-job.result.now in
    let at : slice_get jobs i ≡ Some job = c.at-job.ensures in
    let named =
    undecided-named c.args.moment (stock_of c.args.store.now) (settings_of c.args.priorities.now) c.args.name.now jobs i job (sym c.in-Some.ensures.number)
    at in
    omega (arith, named, c.first_failing.ensures.spent.most_evaluations, c.new-meter.ensures.tops.1)

pub returns-in-Some-failing-clause-entries : goal.returns-in-Some-failing-clause-entries
returns-in-Some-failing-clause-entries g c =
    let jobs = jobs_of c.args.self.now in
    let i = c.in-Some.i in
    let job = c.at-job.result.now in
    let at : slice_get jobs i ≡ Some job = c.at-job.ensures in
    let named =
    entered-named c.args.moment (stock_of c.args.store.now) (settings_of c.args.priorities.now) c.args.name.now jobs i job (sym c.in-Some.ensures.number)
    at in
    omega (arith, named, c.first_failing.ensures.spent.most_entries, c.new-meter.ensures.entry.1)

pub returns-in-Some-failing-clause-ratio : goal.returns-in-Some-failing-clause-ratio
returns-in-Some-failing-clause-ratio g c ads requests =
    let jobs = jobs_of c.args.self.now in
    let i = c.in-Some.i in
    let job = c.at-job.result.now in
    let at : slice_get jobs i ≡ Some job = c.at-job.ensures in
    let small = All-found (λ j. IsSmall (ad_frames j.request.ad)) jobs i job requests at in
    omega (arith, c.first_failing.ensures.ratio small ads requests, c.new-meter.ensures.tops.1, c.new-meter.ensures.entry.1)

pub returns-in-Some-failing-clause-looks : goal.returns-in-Some-failing-clause-looks
returns-in-Some-failing-clause-looks g c =
    let jobs = jobs_of c.args.self.now in
    let i = c.in-Some.i in
    let job = c.at-job.result.now in
    let at : slice_get jobs i ≡ Some job = c.at-job.ensures in
    let named =
    ap {B =
    ℕ} length (offer-named c.args.moment (stock_of c.args.store.now) (settings_of c.args.priorities.now) c.args.name.now jobs i job
    (sym c.in-Some.ensures.number) at) in
    omega (arith, named, c.first_failing.ensures.spent.most_looks, c.new-meter.ensures.touch.1)

pub grant-requires : goal.grant-requires
grant-requires g c =
    let jobs = jobs_of c.args.self.now in
    let i = c.in-Some.i in
    let job = c.at-job.result.now in
    let at : slice_get jobs i ≡ Some job = c.at-job.ensures in
    let matched : state_of job.standing ≡ JobState.Matched = search rules in
    ap (option_map (λ (j : Job). state_of j.standing)) at ∙ ap (λ s. Some s) matched

pub returns-in_default-grant-clause-evaluations : goal.returns-in_default-grant-clause-evaluations
returns-in_default-grant-clause-evaluations g c =
    let jobs = jobs_of c.args.self.now in
    let i = c.in-Some.i in
    let job = c.at-job.result.now in
    let at : slice_get jobs i ≡ Some job = c.at-job.ensures in
    let named =
    undecided-named c.args.moment (stock_of c.args.store.now) (settings_of c.args.priorities.now) c.args.name.now jobs i job (sym c.in-Some.ensures.number)
    at in
    omega (arith, named, c.first_failing.ensures.spent.most_evaluations, c.new-meter.ensures.tops.1)

pub returns-in_default-grant-clause-entries : goal.returns-in_default-grant-clause-entries
returns-in_default-grant-clause-entries g c =
    let jobs = jobs_of c.args.self.now in
    let i = c.in-Some.i in
    let job = c.at-job.result.now in
    let at : slice_get jobs i ≡ Some job = c.at-job.ensures in
    let named =
    entered-named c.args.moment (stock_of c.args.store.now) (settings_of c.args.priorities.now) c.args.name.now jobs i job (sym c.in-Some.ensures.number)
    at in
    omega (arith, named, c.first_failing.ensures.spent.most_entries, c.new-meter.ensures.entry.1)

pub returns-in_default-grant-clause-ratio : goal.returns-in_default-grant-clause-ratio
returns-in_default-grant-clause-ratio g c ads requests =
    let jobs = jobs_of c.args.self.now in
    let i = c.in-Some.i in
    let job = c.at-job.result.now in
    let at : slice_get jobs i ≡ Some job = c.at-job.ensures in
    let small = All-found (λ j. IsSmall (ad_frames j.request.ad)) jobs i job requests at in
    omega (arith, c.first_failing.ensures.ratio small ads requests, c.new-meter.ensures.tops.1, c.new-meter.ensures.entry.1)

pub returns-in_default-grant-clause-looks : goal.returns-in_default-grant-clause-looks
returns-in_default-grant-clause-looks g c =
    let jobs = jobs_of c.args.self.now in
    let i = c.in-Some.i in
    let job = c.at-job.result.now in
    let at : slice_get jobs i ≡ Some job = c.at-job.ensures in
    let named =
    ap {B =
    ℕ} length (offer-named c.args.moment (stock_of c.args.store.now) (settings_of c.args.priorities.now) c.args.name.now jobs i job
    (sym c.in-Some.ensures.number) at) in
    omega (arith, named, c.first_failing.ensures.spent.most_looks, c.new-meter.ensures.touch.1)

pub returns-clause-claim : goal.returns-clause-claim
returns-clause-claim g c =
    let jobs = jobs_of c.args.self.now in
    let i = c.in-Some.i in
    let job = c.at-job.result.now in
    let at : slice_get jobs i ≡ Some job = c.at-job.ensures in
    let matched : state_of job.standing ≡ JobState.Matched = search rules in
    let mine = c.get-number.ensures.number ∙ ap (λ user. priority_of user (settings_of c.args.priorities.now)) c.bytes.ensures in
    let failing = sym c.in-Ok.ensures.failing ∙ c.in_default-failing.is in
    claimed-granted c.args.moment (stock_of c.args.store.now) (settings_of c.args.priorities.now) c.args.name.now jobs i job (sym c.in-Some.ensures.number) at
    matched c.get-number.result c.in-Ok-grant.freed (jobs_of c.grant.new.self) mine failing c.in-Ok-grant.ensures.freed c.in-Ok-grant.ensures.ok

pub returns-clause-evaluations : goal.returns-clause-evaluations
returns-clause-evaluations g c =
    let jobs = jobs_of c.args.self.now in
    let i = c.in-Some.i in
    let job = c.at-job.result.now in
    let at : slice_get jobs i ≡ Some job = c.at-job.ensures in
    let named =
    undecided-named c.args.moment (stock_of c.args.store.now) (settings_of c.args.priorities.now) c.args.name.now jobs i job (sym c.in-Some.ensures.number)
    at in
    omega (arith, named, c.first_failing.ensures.spent.most_evaluations, c.new-meter.ensures.tops.1)

pub returns-clause-entries : goal.returns-clause-entries
returns-clause-entries g c =
    let jobs = jobs_of c.args.self.now in
    let i = c.in-Some.i in
    let job = c.at-job.result.now in
    let at : slice_get jobs i ≡ Some job = c.at-job.ensures in
    let named =
    entered-named c.args.moment (stock_of c.args.store.now) (settings_of c.args.priorities.now) c.args.name.now jobs i job (sym c.in-Some.ensures.number)
    at in
    omega (arith, named, c.first_failing.ensures.spent.most_entries, c.new-meter.ensures.entry.1)

pub returns-clause-ratio : goal.returns-clause-ratio
returns-clause-ratio g c ads requests =
    let jobs = jobs_of c.args.self.now in
    let i = c.in-Some.i in
    let job = c.at-job.result.now in
    let at : slice_get jobs i ≡ Some job = c.at-job.ensures in
    let small = All-found (λ j. IsSmall (ad_frames j.request.ad)) jobs i job requests at in
    omega (arith, c.first_failing.ensures.ratio small ads requests, c.new-meter.ensures.tops.1, c.new-meter.ensures.entry.1)

pub returns-clause-looks : goal.returns-clause-looks
returns-clause-looks g c =
    let jobs = jobs_of c.args.self.now in
    let i = c.in-Some.i in
    let job = c.at-job.result.now in
    let at : slice_get jobs i ≡ Some job = c.at-job.ensures in
    let named =
    ap {B =
    ℕ} length (offer-named c.args.moment (stock_of c.args.store.now) (settings_of c.args.priorities.now) c.args.name.now jobs i job
    (sym c.in-Some.ensures.number) at) in
    omega (arith, named, c.first_failing.ensures.spent.most_looks, c.new-meter.ensures.touch.1)
