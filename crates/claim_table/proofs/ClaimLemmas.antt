-- What a claim answers, and what it may count.
use Rattle.std.proofs.Common.{◌≡◌, ◌≢◌, ℕ, ◌≤◌, All, List, [], ◌∷◌, ◌++◌, if◌then◌else◌, length, slice_get, Option, None}
use Rattle.std.proofs.Common.{Some, refl, sym, ◌∙◌, ap, arith}
use Rattle.std.specs.Prelude.{Err, Ok, Result, option_map}
use Rattle.std.specs.Option.{option_and_then, option_map_or, option_to_list}
use Rattle.std.proofs.lemmas.List.Elements.{All-nil}
use Rattle.std.proofs.lemmas.Option.{same_Some}
use Rattle.ad_store.specs.Stock.{Stock}
use Rattle.dock_match.specs.Docks.{is_last_decided}
use Rattle.claim_table.specs.declared.answers.ClaimFault.{ClaimFault}
use Rattle.claim_table.specs.declared.answers.Freed.{Freed}
use Rattle.claim_table.specs.declared.answers.JobFault.{JobFault}
use Rattle.claim_table.specs.declared.answers.JobState.{JobState}
use Rattle.claim_table.specs.declared.job.Job.{Job}
use Rattle.claim_table.specs.declared.job.Stage.{Stage}
use Rattle.claim_table.specs.Answers.{freed_at, freed_of, given_back, release_answer}
use Rattle.claim_table.specs.Claims.{checked, claimed, claimed_at, entered_for, entered_in, first_failing, freed_all, granted, losers, offer_at, offer_named}
use Rattle.claim_table.specs.Claims.{sum_over, undecided_for}
use Rattle.claim_table.specs.Jobs.{IsFilled, job_named, numbered, offer_of, slots_of, state_of, wanted, with_standing}
use Rattle.claim_table.specs.Priorities.{Setting, priority_of}

-- what is offered is listed
pub offer-listed : (P : ℕ → Type 0) (standing : Stage) → All P (slots_of standing) → All P (offer_of standing)
offer-listed P Stage.Idle all = all
offer-listed P (Stage.Matched slots) all = all
offer-listed P (Stage.Claimed slots) all = All-nil P

enough-few : (standing : Stage) (n : ℕ) → (standing ≢ Stage.Idle → length (slots_of standing) ≡ n) → n ≤ 8 → length (offer_of standing) ≤ 8
enough-few Stage.Idle n enough few = omega arith
enough-few (Stage.Matched slots) n enough few = let all = enough (λ same. cc) in omega (arith, all, few)
enough-few (Stage.Claimed slots) n enough few = omega arith

-- no more is offered than a gang has ports
pub offer-few : (job : Job) → IsFilled job → length (offer_of job.standing) ≤ 8
offer-few job filled = enough-few job.standing (wanted job.request) filled.enough (let few = job.request.are_ports.few in omega (arith, few))

-- what is offered to the job of a number
pub offer-found : (jobs : List Job) (i : ℕ) (job : Job) → slice_get jobs i ≡ Some job → offer_at i jobs ≡ offer_of job.standing
offer-found jobs i job at = ap (λ o. option_map_or (λ j. offer_of j.standing) o []) at

-- one more is told
pub told-one : (jobs : List Job) (i : ℕ) (job : Job) → slice_get jobs i ≡ Some job → (freed : Freed) (before after : List Freed)
    → freed ≡ freed_of job → after ≡ before ++ freed ∷ [] → after ≡ before ++ freed_at (Some i) jobs
told-one jobs i job at freed before after is told =
    told ∙ ap (λ f. before ++ f ∷ []) is ∙ sym (ap (λ o. before ++ option_to_list (option_map freed_of o)) at)

-- what a release answers
module _ (name : List ℕ) (jobs : List Job) where
  pub released-nobody : numbered name jobs ≡ None → release_answer name jobs ≡ Err JobFault.NoJob
  released-nobody none = ap (λ o. option_map_or (λ j. given_back j.standing) (option_and_then (λ k. slice_get jobs k) o) (Err JobFault.NoJob)) none

  module _ (i : ℕ) (job : Job) (number : numbered name jobs ≡ Some i) (at : slice_get jobs i ≡ Some job) where
    given : release_answer name jobs ≡ given_back job.standing
    given =
        ap (λ o. option_map_or (λ j. given_back j.standing) (option_and_then (λ k. slice_get jobs k) o) (Err JobFault.NoJob)) number
        ∙ ap (λ o. option_map_or (λ j. given_back j.standing) o (Err JobFault.NoJob)) at

    pub released-idle : state_of job.standing ≡ JobState.Idle → release_answer name jobs ≡ Err (JobFault.WrongState JobState.Idle)
    released-idle idle = given ∙ by job.standing idle
      where
        by : (s : Stage) → state_of s ≡ JobState.Idle → given_back s ≡ Err (JobFault.WrongState JobState.Idle)
        by Stage.Idle is = refl
        by (Stage.Matched slots) is = absurd (cc)
        by (Stage.Claimed slots) is = absurd (cc)

    pub released-held : (slots : List ℕ) → state_of job.standing ≢ JobState.Idle
        → option_map (λ (j : Job). slots_of j.standing) (slice_get jobs i) ≡ Some slots → Ok slots ≡ release_answer name jobs
    released-held slots busy listed =
        let held : slots_of job.standing ≡ slots =
        same_Some (slots_of job.standing) slots (sym (ap (option_map (λ (j : Job). slots_of j.standing)) at) ∙ listed) in
        sym (given ∙ by job.standing busy ∙ ap (λ l. Ok l) held)
      where
        by : (s : Stage) → state_of s ≢ JobState.Idle → given_back s ≡ Ok (slots_of s)
        by Stage.Idle is = absurd (is refl)
        by (Stage.Matched slots) is = refl
        by (Stage.Claimed slots) is = refl

module _ (moment : ℕ) (stock : Stock) (settings : List Setting) (name : List ℕ) (jobs : List Job) where
  abbrev nobody : Result (List Freed) ClaimFault × List Job
  nobody = (Err ClaimFault.NoJob, jobs)

  pub claimed-nobody : numbered name jobs ≡ None → claimed moment stock settings name jobs ≡ (Err ClaimFault.NoJob, jobs)
  claimed-nobody none = ap (λ o. option_map_or (λ i. option_map_or (claimed_at moment stock settings jobs i) (slice_get jobs i) nobody) o nobody) none

  module _ (i : ℕ) (job : Job) (number : numbered name jobs ≡ Some i) (at : slice_get jobs i ≡ Some job) where
    named : job_named name jobs ≡ Some job
    named = ap (option_and_then (λ k. slice_get jobs k)) number ∙ at

    claimed-one : claimed moment stock settings name jobs ≡ claimed_at moment stock settings jobs i job
    claimed-one =
        ap (λ o. option_map_or (λ k. option_map_or (claimed_at moment stock settings jobs k) (slice_get jobs k) nobody) o nobody) number
        ∙ ap (λ o. option_map_or (claimed_at moment stock settings jobs i) o nobody) at

    pub claimed-unmatched : state_of job.standing ≢ JobState.Matched
        → claimed moment stock settings name jobs ≡ (Err (ClaimFault.WrongState (state_of job.standing)), jobs)
    claimed-unmatched other = claimed-one ∙ by job.standing other
      where
        by : (s : Stage) → state_of s ≢ JobState.Matched
            → claimed_at moment stock settings jobs i (record job { standing = s }) ≡ (Err (ClaimFault.WrongState (state_of s)), jobs)
        by Stage.Idle other = refl
        by (Stage.Matched slots) other = absurd (other refl)
        by (Stage.Claimed slots) other = refl

    module _ (matched : state_of job.standing ≡ JobState.Matched) where
      claimed-checked : claimed moment stock settings name jobs ≡ checked moment stock settings jobs i job (offer_of job.standing)
      claimed-checked = claimed-one ∙ by job.standing matched
        where
          by : (s : Stage) → state_of s ≡ JobState.Matched
              → claimed_at moment stock settings jobs i (record job { standing = s }) ≡ checked moment stock settings jobs i job (offer_of s)
          by Stage.Idle other = absurd (cc)
          by (Stage.Matched slots) same = refl
          by (Stage.Claimed slots) other = absurd (cc)

      abbrev gained : Result (List Freed) ClaimFault × List Job
      gained = (Ok (freed_all jobs (losers jobs (offer_of job.standing))), granted jobs i (offer_of job.standing))

      abbrev by_failing : Option ℕ → Result (List Freed) ClaimFault × List Job
      by_failing failing = option_map_or (λ slot. (Err (ClaimFault.Stale slot), with_standing jobs i Stage.Idle)) failing gained

      -- the first failing, as it is with the number that was read
      failing-with : (number : ℕ) (failing : Option ℕ) → number ≡ priority_of job.user settings
          → first_failing moment stock settings jobs number job.request (offer_of job.standing) ≡ failing
          → first_failing moment stock settings jobs (priority_of job.user settings) job.request (offer_of job.standing) ≡ failing
      failing-with number failing mine is = ap (λ n. first_failing moment stock settings jobs n job.request (offer_of job.standing)) (sym mine) ∙ is

      pub claimed-stale : (number slot : ℕ) → number ≡ priority_of job.user settings
          → first_failing moment stock settings jobs number job.request (offer_of job.standing) ≡ Some slot
          → claimed moment stock settings name jobs ≡ (Err (ClaimFault.Stale slot), with_standing jobs i Stage.Idle)
      claimed-stale number slot mine failing = claimed-checked ∙ ap by_failing (failing-with number (Some slot) mine failing)

      pub claimed-granted : (number : ℕ) (freed : List Freed) (new : List Job) → number ≡ priority_of job.user settings
          → first_failing moment stock settings jobs number job.request (offer_of job.standing) ≡ None
          → freed ≡ freed_all jobs (losers jobs (offer_at i jobs)) → new ≡ granted jobs i (offer_at i jobs)
          → claimed moment stock settings name jobs ≡ (Ok freed, new)
      claimed-granted number freed new mine none told changed =
          let offer = offer-found jobs i job at in
          claimed-checked ∙ ap by_failing (failing-with number None mine none)
          ∙ both (ap (λ slots. freed_all jobs (losers jobs slots)) (sym offer) ∙ sym told) (ap (granted jobs i) (sym offer) ∙ sym changed)
        where
          both : {a b : List Freed} {js ks : List Job} → a ≡ b → js ≡ ks
              → ◌≡◌ {A = Result (List Freed) ClaimFault × List Job} (Ok a, js) (Ok b, ks)
          both same others = cc

    -- what is counted is that of the job

    pub undecided-named : undecided_for moment stock name jobs ≡ sum_over (λ slot world. if is_last_decided world then 0 else 1) moment stock job
    undecided-named = ap (λ o. option_map_or (sum_over (λ slot world. if is_last_decided world then 0 else 1) moment stock) o 0) named

    pub entered-named : entered_for moment stock settings name jobs ≡ sum_over (entered_in moment stock settings jobs) moment stock job
    entered-named = ap (λ o. option_map_or (sum_over (entered_in moment stock settings jobs) moment stock) o 0) named

    pub offer-named : offer_named name jobs ≡ offer_of job.standing
    offer-named = ap (λ o. option_map_or (λ j. offer_of j.standing) o []) named
