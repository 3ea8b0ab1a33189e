-- Who holds a slot: it stands at its port, and there are as many slots as the request wants.
use Rattle.std.proofs.Common.{◌≡◌, ◌≢◌, ℕ, zero, suc, ◌+◌, All, Bool, true, false, not, ◌||◌, cond, eqb, List, [], ◌∷◌, length}
use Rattle.std.proofs.Common.{slice_get, Option, None, Some, refl, sym, ◌∙◌, ap, subst, arith}
use Rattle.std.specs.Prelude.{option_map}
use Rattle.std.specs.List.{position_or_len}
use Rattle.std.specs.Option.{option_and_then}
use Rattle.std.proofs.lemmas.Bool.{true≢false}
use Rattle.std.proofs.lemmas.Bool.Decides.{nat_tests}
use Rattle.std.proofs.lemmas.List.Elements.{All-head, All-tail}
use Rattle.std.proofs.lemmas.Option.{none-some, same_Some}
use Rattle.ad_store.specs.Holdings.{Holding}
use Rattle.claim_table.specs.declared.job.Job.{Job}
use Rattle.claim_table.specs.declared.job.Stage.{Stage}
use Rattle.claim_table.specs.Holders.{holder_of, holding_in}
use Rattle.claim_table.specs.Jobs.{IsFilled, claim_of, claimed_by, lists, slots_of, wanted}
use Rattle.claim_table.specs.Priorities.{Setting}
use Rattle.claim_table.specs.Kept.{AreNoted, note_at}
use Rattle.claim_table.proofs.NoteLemmas.{noted-passes, noted-position}

-- a slot stands at its first place
pub stands_at : (slots : List ℕ) (slot : ℕ) → lists slots slot ≡ true → slice_get slots (position_or_len (λ s. eqb s slot) slots) ≡ Some slot
stands_at [] slot listed = absurd (true≢false (sym listed))
stands_at (s ∷ slots) slot listed = by_slot (eqb s slot) refl listed (λ rest. stands_at slots slot rest)
  where
    by_slot : (b : Bool) → eqb s slot ≡ b → (b || lists slots slot) ≡ true
        → (lists slots slot ≡ true → slice_get slots (position_or_len (λ t. eqb t slot) slots) ≡ Some slot)
        → slice_get (s ∷ slots) (cond (not b) (1 + position_or_len (λ t. eqb t slot) slots) 0) ≡ Some slot
    by_slot true here is later = let same : s ≡ slot = grind (arith, nat_tests) in ap (λ k. Some k) same
    by_slot false here is later =
        let next : 1 + position_or_len (λ t. eqb t slot) slots ≡ suc (position_or_len (λ t. eqb t slot) slots) = omega arith in
        ap (slice_get (s ∷ slots)) next ∙ later is

-- what holds of all jobs holds of each
pub All-found : (P : Job → Type 0) (jobs : List Job) (i : ℕ) (job : Job) → All P jobs → slice_get jobs i ≡ Some job → P job
All-found P [] i job all at = absurd (none-some job at)
All-found P (first ∷ jobs) zero job all at = subst P (same_Some first job at) (All-head P first jobs all)
All-found P (first ∷ jobs) (suc i) job all at = All-found P jobs i job (All-tail P first jobs all) at

-- what holds of all that jobs hold holds of what the holder of a slot does
pub holder-found : (P : Holding → Type 0) (settings : List Setting) (jobs : List Job) (slot : ℕ) (h : Holding)
    → All (λ job. P (holding_in settings slot job)) jobs → holder_of settings jobs slot ≡ Some h → P h
holder-found P settings jobs slot h all holds = by_number (claimed_by slot jobs) holds
  where
    by_job : (i : ℕ) (o : Option Job) → slice_get jobs i ≡ o → option_map (holding_in settings slot) o ≡ Some h → P h
    by_job i None at is = absurd (none-some h is)
    by_job i (Some job) at is = subst P (same_Some (holding_in settings slot job) h is) (All-found (λ j. P (holding_in settings slot j)) jobs i job all at)

    by_number : (o : Option ℕ) → option_map (holding_in settings slot) (option_and_then (λ i. slice_get jobs i) o) ≡ Some h → P h
    by_number None is = absurd (none-some h is)
    by_number (Some i) is = by_job i (slice_get jobs i) refl is

enough_at : (standing : Stage) (n slot : ℕ) → (standing ≢ Stage.Idle → length (slots_of standing) ≡ n) → lists (claim_of standing) slot ≡ true
    → length (claim_of standing) ≡ n
enough_at Stage.Idle n slot enough listed = absurd (cc)
enough_at (Stage.Matched slots) n slot enough listed = absurd (cc)
enough_at (Stage.Claimed slots) n slot enough listed = enough (λ same. cc)

-- a job that has claimed a slot has claimed as many as it wants
pub claims_enough : (job : Job) (slot : ℕ) → IsFilled job → lists (claim_of job.standing) slot ≡ true
    → length (claim_of job.standing) ≡ wanted job.request
claims_enough job slot filled listed = enough_at job.standing (wanted job.request) slot filled.enough listed

-- the job that claims a slot lists it
pub claimed_lists : (claims : List (Option ℕ)) (jobs : List Job) (slot i : ℕ) (job : Job) → AreNoted claim_of claims jobs
    → Some i ≡ claimed_by slot jobs → slice_get jobs i ≡ Some job → lists (claim_of job.standing) slot ≡ true
claimed_lists claims jobs slot i job noted is at =
    noted-passes (λ j. lists (claim_of j.standing) slot) jobs (note_at claims slot) i job (noted slot)
    (noted-position (λ j. lists (claim_of j.standing) slot) jobs (note_at claims slot) (noted slot) ∙ sym is) at
