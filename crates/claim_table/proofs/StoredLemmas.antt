-- What holds of all that jobs list holds of all that they list after a claim.
use Rattle.std.proofs.Common.{◌≡◌, ℕ, All, List, [], ◌∷◌, slice_get, slice_set, Option, None, Some, refl, sym, ap, subst}
use Rattle.std.specs.Prelude.{Err, Ok, Result}
use Rattle.std.specs.Option.{option_map_or}
use Rattle.std.proofs.lemmas.List.Elements.{All-nil, All-set}
use Rattle.ad_store.specs.Stock.{Stock}
use Rattle.claim_table.specs.declared.answers.ClaimFault.{ClaimFault}
use Rattle.claim_table.specs.declared.answers.Freed.{Freed}
use Rattle.claim_table.specs.declared.job.Job.{Job}
use Rattle.claim_table.specs.declared.job.Stage.{Stage}
use Rattle.claim_table.specs.Claims.{IsClaimed, all_idle, claimed, claimed_at, first_failing, freed_all, granted, losers}
use Rattle.claim_table.specs.Jobs.{idle_at, numbered, slots_of, with_standing}
use Rattle.claim_table.specs.Priorities.{Setting, priority_of}
use Rattle.claim_table.proofs.HolderLemmas.{All-found}

module _ (P : ℕ → Type 0) where
  abbrev Listed : Job → Type 0
  Listed job = All P (slots_of job.standing)

  standing-keeps : (jobs : List Job) (i : ℕ) (standing : Stage) → All Listed jobs → All P (slots_of standing)
      → All Listed (with_standing jobs i standing)
  standing-keeps jobs i standing all new = by (slice_get jobs i)
    where
      by : (o : Option Job) → All Listed (option_map_or (λ job. slice_set jobs i (record job { standing = standing })) o jobs)
      by None = all
      by (Some job) = All-set Listed jobs i (record job { standing = standing }) new all

  idle-keeps : (jobs : List Job) (numbers : List ℕ) → All Listed jobs → All Listed (all_idle jobs numbers)
  idle-keeps jobs [] all = all
  idle-keeps jobs (k ∷ ks) all = idle-keeps (idle_at (Some k) jobs) ks (standing-keeps jobs k Stage.Idle all (All-nil P))

  module _ (moment : ℕ) (stock : Stock) (settings : List Setting) (name : List ℕ) (jobs : List Job) (all : All Listed jobs) where
    abbrev Answer : Type 0
    Answer = Result (List Freed) ClaimFault × List Job

    abbrev nobody : Answer
    nobody = (Err ClaimFault.NoJob, jobs)

    abbrev gained : ℕ → List ℕ → Answer
    gained i slots = (Ok (freed_all jobs (losers jobs slots)), granted jobs i slots)

    checked-keeps : (i : ℕ) (slots : List ℕ) → All P slots → (o : Option ℕ)
        → All Listed (option_map_or (λ slot. (Err (ClaimFault.Stale slot), with_standing jobs i Stage.Idle)) o (gained i slots)).1
    checked-keeps i slots offered None =
        standing-keeps (all_idle jobs (losers jobs slots)) i (Stage.Claimed slots) (idle-keeps jobs (losers jobs slots) all) offered
    checked-keeps i slots offered (Some slot) = standing-keeps jobs i Stage.Idle all (All-nil P)

    at-keeps : (i : ℕ) (job : Job) (s : Stage) → All P (slots_of s) → All Listed (claimed_at moment stock settings jobs i (record job { standing = s })).1
    at-keeps i job Stage.Idle offered = all
    at-keeps i job (Stage.Claimed slots) offered = all
    at-keeps i job (Stage.Matched slots) offered =
        checked-keeps i slots offered (first_failing moment stock settings jobs (priority_of job.user settings) job.request slots)

    one-keeps : (i : ℕ) (o : Option Job) → slice_get jobs i ≡ o → All Listed (option_map_or (claimed_at moment stock settings jobs i) o nobody).1
    one-keeps i None at = all
    one-keeps i (Some job) at = at-keeps i job job.standing (All-found Listed jobs i job all at)

    claimed-keeps : All Listed (claimed moment stock settings name jobs).1
    claimed-keeps = by (numbered name jobs)
      where
        by : (o : Option ℕ)
            → All Listed (option_map_or (λ i. option_map_or (claimed_at moment stock settings jobs i) (slice_get jobs i) nobody) o nobody).1
        by None = all
        by (Some i) = one-keeps i (slice_get jobs i) refl

    -- after a claim, whatever it answers
    pub claim-keeps : (answer : Result (List Freed) ClaimFault) (new : List Job) → IsClaimed answer jobs new (claimed moment stock settings name jobs)
        → All Listed new
    claim-keeps answer new is = by answer is
      where
        told : (a : Result (List Freed) ClaimFault) → claimed moment stock settings name jobs ≡ (a, new) → All Listed new
        told a same = subst (All Listed) (ap (λ (x : Answer). x.1) same) claimed-keeps

        by : (a : Result (List Freed) ClaimFault) → IsClaimed a jobs new (claimed moment stock settings name jobs) → All Listed new
        by (Ok freed) same = told (Ok freed) same
        by (Err ClaimFault.NoJob) same = told (Err ClaimFault.NoJob) same
        by (Err (ClaimFault.WrongState state)) same = told (Err (ClaimFault.WrongState state)) same
        by (Err (ClaimFault.Stale slot)) same = told (Err (ClaimFault.Stale slot)) same
        by (Err ClaimFault.OutOfMemory) same = subst (All Listed) (sym same) all
