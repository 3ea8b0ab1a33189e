-- Which jobs lose their resources to a claim, and what the jobs are once these are idle.
use Rattle.std.proofs.Common.{◌≡◌, ℕ, zero, suc, ◌<◌, All, Bool, true, false, ◌||◌, cond, eqb, List, [], ◌∷◌, ◌++◌, fold, get_or}
use Rattle.std.proofs.Common.{length, slice_get, slice_set, Option, None, Some, IfSome, refl, sym, ◌∙◌, ap, subst, arith}
use Rattle.std.specs.Option.{option_map_or}
use Rattle.std.specs.Prelude.{option_map}
use Rattle.std.proofs.lemmas.Bool.Decides.{nat_tests}
use Rattle.std.proofs.lemmas.List.Elements.{All-nil, All-push}
use Rattle.claim_table.specs.declared.answers.JobState.{JobState}
use Rattle.claim_table.specs.declared.job.Job.{Job}
use Rattle.claim_table.specs.declared.job.Stage.{Stage}
use Rattle.claim_table.specs.Claims.{all_idle, losers, offer_at, once}
use Rattle.claim_table.specs.Jobs.{claim_of, claimed_by, idle_at, lists, offer_of, state_of}
use Rattle.claim_table.specs.Kept.{AreNoted, names, note_at, passes_at}
use Rattle.claim_table.proofs.ListLemmas.{passes_at-set}
use Rattle.claim_table.proofs.NoteLemmas.{listed_at, listed_one, noted-position, passes_within}

-- ---- jobs that are made idle

get-set_other : (jobs : List Job) (k i : ℕ) (new : Job) → eqb k i ≡ false → slice_get (slice_set jobs k new) i ≡ slice_get jobs i
get-set_other [] k i new apart = refl
get-set_other (job ∷ jobs) zero zero new apart = absurd (cc)
get-set_other (job ∷ jobs) zero (suc i) new apart = refl
get-set_other (job ∷ jobs) (suc k) zero new apart = refl
get-set_other (job ∷ jobs) (suc k) (suc i) new apart = get-set_other jobs k i new (grind (arith, nat_tests))

get-idle : (jobs : List Job) (k i : ℕ) → eqb k i ≡ false → slice_get (idle_at (Some k) jobs) i ≡ slice_get jobs i
get-idle jobs k i apart = by (slice_get jobs k)
  where
    by : (o : Option Job) → slice_get (option_map_or (λ job. slice_set jobs k (record job { standing = Stage.Idle })) o jobs) i ≡ slice_get jobs i
    by None = refl
    by (Some job) = get-set_other jobs k i (record job { standing = Stage.Idle }) apart

apart_from : (k i : ℕ) (rest : Bool) → (eqb k i || rest) ≡ false → eqb k i ≡ false
apart_from k i rest none = by (eqb k i) none
  where
    by : (b : Bool) → (b || rest) ≡ false → b ≡ false
    by true none = absurd (cc)
    by false none = refl

none_of : (a b : Bool) → (a || b) ≡ false → b ≡ false
none_of true b none = absurd (cc)
none_of false b none = none

-- a job that isn't among them stays
get-all_idle : (jobs : List Job) (numbers : List ℕ) (i : ℕ) → lists numbers i ≡ false → slice_get (all_idle jobs numbers) i ≡ slice_get jobs i
get-all_idle jobs [] i none = refl
get-all_idle jobs (k ∷ ks) i none =
    get-all_idle (idle_at (Some k) jobs) ks i (none_of (eqb k i) (lists ks i) none)
    ∙ get-idle jobs k i (apart_from k i (lists ks i) none)

-- tests that no idle job passes
module _ (test : Job → Bool) (fails : (job : Job) → test (record job { standing = Stage.Idle }) ≡ false) where
  passes_at-idle : (jobs : List Job) (k j : ℕ) → passes_at test (idle_at (Some k) jobs) j ≡ cond (eqb k j) false (passes_at test jobs j)
  passes_at-idle jobs k j = by (slice_get jobs k) refl
    where
      here : slice_get jobs k ≡ None → (b : Bool) → eqb k j ≡ b → passes_at test jobs j ≡ cond b false (passes_at test jobs j)
      here none true same =
          let place : k ≡ j = grind (arith, nat_tests) in
          ap (passes_at test jobs) (sym place) ∙ ap (λ o. option_map_or test o false) none
      here none false same = refl

      by : (o : Option Job) → slice_get jobs k ≡ o
          → passes_at test (option_map_or (λ job. slice_set jobs k (record job { standing = Stage.Idle })) o jobs) j
          ≡ cond (eqb k j) false (passes_at test jobs j)
      by None none = here none (eqb k j) refl
      by (Some job) at =
          passes_at-set test jobs k j job (record job { standing = Stage.Idle }) at
          ∙ ap (λ b. cond (eqb k j) b (passes_at test jobs j)) (fails job)

  both_fail : (a b c : Bool) → cond b false (cond a false c) ≡ cond (a || b) false c
  both_fail true true c = refl
  both_fail true false c = refl
  both_fail false true c = refl
  both_fail false false c = refl

  passes_at-all_idle : (jobs : List Job) (numbers : List ℕ) (j : ℕ)
      → passes_at test (all_idle jobs numbers) j ≡ cond (lists numbers j) false (passes_at test jobs j)
  passes_at-all_idle jobs [] j = refl
  passes_at-all_idle jobs (k ∷ ks) j =
      passes_at-all_idle (idle_at (Some k) jobs) ks j
      ∙ ap (cond (lists ks j) false) (passes_at-idle jobs k j)
      ∙ both_fail (eqb k j) (lists ks j) (passes_at test jobs j)

-- ---- numbers, each once

lists-push : (numbers : List ℕ) (i k : ℕ) → lists (numbers ++ i ∷ []) k ≡ (lists numbers k || eqb i k)
lists-push [] i k = by (eqb i k)
  where
    by : (b : Bool) → (b || false) ≡ b
    by true = refl
    by false = refl
lists-push (n ∷ ns) i k = ap (λ b. eqb n k || b) (lists-push ns i k) ∙ by (eqb n k)
  where
    by : (b : Bool) → (b || (lists ns k || eqb i k)) ≡ ((b || lists ns k) || eqb i k)
    by true = refl
    by false = refl

once-keeps : (numbers : List ℕ) (number : Option ℕ) (k : ℕ) → lists numbers k ≡ true → lists (once numbers number) k ≡ true
once-keeps numbers None k listed = listed
once-keeps numbers (Some i) k listed = by (lists numbers i)
  where
    by : (b : Bool) → lists (cond b numbers (numbers ++ i ∷ [])) k ≡ true
    by true = listed
    by false = lists-push numbers i k ∙ ap (λ b. b || eqb i k) listed

once-adds : (numbers : List ℕ) (i : ℕ) → lists (once numbers (Some i)) i ≡ true
once-adds numbers i = by (lists numbers i) refl
  where
    last : (b : Bool) → (b || true) ≡ true
    last true = refl
    last false = refl

    by : (b : Bool) → lists numbers i ≡ b → lists (cond b numbers (numbers ++ i ∷ [])) i ≡ true
    by true listed = listed
    by false listed =
        let same : eqb i i ≡ true = grind (arith, nat_tests) in
        lists-push numbers i i ∙ ap (λ b. lists numbers i || b) same ∙ last (lists numbers i)

All-once : (P : ℕ → Type 0) (numbers : List ℕ) (number : Option ℕ) → All P numbers → IfSome number P → All P (once numbers number)
All-once P numbers None all one = all
All-once P numbers (Some i) all one = by (lists numbers i)
  where
    by : (b : Bool) → All P (cond b numbers (numbers ++ i ∷ []))
    by true = all
    by false = All-push P numbers i all one

-- ---- losers

module _ (jobs : List Job) where
  abbrev gathered : List ℕ → List ℕ → List ℕ
  gathered numbers slots = fold (λ ns slot. once ns (claimed_by slot jobs)) numbers slots

  gathered-keeps : (slots numbers : List ℕ) (k : ℕ) → lists numbers k ≡ true → lists (gathered numbers slots) k ≡ true
  gathered-keeps [] numbers k listed = listed
  gathered-keeps (s ∷ slots) numbers k listed = gathered-keeps slots (once numbers (claimed_by s jobs)) k (once-keeps numbers (claimed_by s jobs) k listed)

  gathered-has : (slots numbers : List ℕ) (slot k : ℕ) → lists slots slot ≡ true → claimed_by slot jobs ≡ Some k
      → lists (gathered numbers slots) k ≡ true
  gathered-has [] numbers slot k listed is = absurd (cc)
  gathered-has (s ∷ slots) numbers slot k listed is =
      by (eqb s slot) refl listed (λ rest. gathered-has slots (once numbers (claimed_by s jobs)) slot k rest is)
    where
      by : (b : Bool) → eqb s slot ≡ b → (b || lists slots slot) ≡ true
          → (lists slots slot ≡ true → lists (gathered (once numbers (claimed_by s jobs)) slots) k ≡ true)
          → lists (gathered (once numbers (claimed_by s jobs)) slots) k ≡ true
      by true same first later =
          let here : s ≡ slot = grind (arith, nat_tests) in
          gathered-keeps slots (once numbers (claimed_by s jobs)) k
          (subst (λ o. lists (once numbers o) k ≡ true) (sym (ap (λ t. claimed_by t jobs) here ∙ is)) (once-adds numbers k))
      by false same rest later = later rest

  gathered-all : (P : ℕ → Type 0) → ((slot : ℕ) → IfSome (claimed_by slot jobs) P) → (slots numbers : List ℕ) → All P numbers
      → All P (gathered numbers slots)
  gathered-all P each [] numbers all = all
  gathered-all P each (s ∷ slots) numbers all =
      gathered-all P each slots (once numbers (claimed_by s jobs)) (All-once P numbers (claimed_by s jobs) all (each s))

-- ---- who claims what

named_is : (note : Option ℕ) (j : ℕ) → names note j ≡ true → note ≡ Some j
named_is None j named = absurd (cc)
named_is (Some k) j named = let same : k ≡ j = grind (arith, nat_tests) in ap (λ m. Some m) same

module _ (claims : List (Option ℕ)) (jobs : List Job) (noted : AreNoted claim_of claims jobs) where
  noted_by : (slot : ℕ) → note_at claims slot ≡ claimed_by slot jobs
  noted_by slot = noted-position (λ job. lists (claim_of job.standing) slot) jobs (note_at claims slot) (noted slot)

  -- the job of this number has claimed something
  abbrev Claims : ℕ → Type 0
  Claims k = (slot : ℕ) × (passes_at (λ job. lists (claim_of job.standing) slot) jobs k ≡ true)

  claimant : (slot : ℕ) → IfSome (claimed_by slot jobs) Claims
  claimant slot = by (claimed_by slot jobs) (noted_by slot)
    where
      by : (o : Option ℕ) → note_at claims slot ≡ o → IfSome o Claims
      by None is = tt
      by (Some k) is =
          let same : eqb k k ≡ true = grind (arith, nat_tests) in
          (slot, sym (noted slot k) ∙ ap (λ n. names n k) is ∙ same)

  losers-claim : (slots : List ℕ) → All Claims (losers jobs slots)
  losers-claim slots = gathered-all jobs Claims claimant slots [] (All-nil Claims)

  -- the losers are jobs
  pub losers-within : (slots : List ℕ) → All (λ i. i < length jobs) (losers jobs slots)
  losers-within slots = gathered-all jobs (λ i. i < length jobs) within slots [] (All-nil (λ i. i < length jobs))
    where
      within : (slot : ℕ) → IfSome (claimed_by slot jobs) (λ i. i < length jobs)
      within slot = by (claimed_by slot jobs) (claimant slot)
        where
          by : (o : Option ℕ) → IfSome o Claims → IfSome o (λ i. i < length jobs)
          by None is = tt
          by (Some k) is = passes_within (λ job. lists (claim_of job.standing) is.0) jobs k is.1

  -- a job that something is offered to has claimed nothing, so it is none of them
  matched_wins : (slots : List ℕ) (i : ℕ) → option_map (λ job. state_of job.standing) (slice_get jobs i) ≡ Some JobState.Matched
      → lists (losers jobs slots) i ≡ false
  matched_wins slots i matched = by (lists (losers jobs slots) i) refl
    where
      claims_none : (standing : Stage) (slot : ℕ) → state_of standing ≡ JobState.Matched → lists (claim_of standing) slot ≡ false
      claims_none Stage.Idle slot is = absurd (cc)
      claims_none (Stage.Matched offered) slot is = refl
      claims_none (Stage.Claimed claimed) slot is = absurd (cc)

      idle_hands : (slot : ℕ) (o : Option Job) → option_map (λ job. state_of job.standing) o ≡ Some JobState.Matched
          → option_map_or (λ job. lists (claim_of job.standing) slot) o false ≡ false
      idle_hands slot None is = refl
      idle_hands slot (Some job) is = claims_none job.standing slot (cc)

      by : (b : Bool) → lists (losers jobs slots) i ≡ b → b ≡ false
      by true listed =
          let one : Claims i = listed_one Claims (losers jobs slots) i (losers-claim slots) listed in
          let none : passes_at (λ job. lists (claim_of job.standing) one.0) jobs i ≡ false = idle_hands one.0 (slice_get jobs i) matched in
          let some = one.1 in
          absurd (cc)
      by false listed = refl

  -- once the losers are idle, nobody has claimed the slots
  losers_leave : (slots : List ℕ) → All (λ slot. claimed_by slot (all_idle jobs (losers jobs slots)) ≡ None) slots
  losers_leave slots = λ k d within. sym (free (get_or slots k d) (listed_at slots k d within))
    where
      free : (slot : ℕ) → lists slots slot ≡ true → None ≡ claimed_by slot (all_idle jobs (losers jobs slots))
      free slot listed = noted-position (λ job. lists (claim_of job.standing) slot) (all_idle jobs (losers jobs slots)) None
          (λ j. sym (passes_at-all_idle (λ job. lists (claim_of job.standing) slot) (λ job. refl) jobs (losers jobs slots) j
          ∙ by j (lists (losers jobs slots) j) (passes_at (λ job. lists (claim_of job.standing) slot) jobs j) refl refl))
        where
          by : (j : ℕ) (loses claiming : Bool) → lists (losers jobs slots) j ≡ loses
              → passes_at (λ job. lists (claim_of job.standing) slot) jobs j ≡ claiming → cond loses false claiming ≡ false
          by j true claiming loses is = refl
          by j false false loses is = refl
          by j false true loses is =
              let by_note : claimed_by slot jobs ≡ Some j = sym (noted_by slot) ∙ named_is (note_at claims slot) j (noted slot j ∙ is) in
              let told : lists (losers jobs slots) j ≡ true = gathered-has jobs slots [] slot j listed by_note in
              absurd (cc)

  -- the job that claims is as it was
  module _ (i : ℕ) (matched : option_map (λ job. state_of job.standing) (slice_get jobs i) ≡ Some JobState.Matched) where
    abbrev rest : List Job
    rest = all_idle jobs (losers jobs (offer_at i jobs))

    same-job : slice_get (all_idle jobs (losers jobs (offer_at i jobs))) i ≡ slice_get jobs i
    same-job = get-all_idle jobs (losers jobs (offer_at i jobs)) i (matched_wins (offer_at i jobs) i matched)

    pub still-matched : option_map (λ job. state_of job.standing) (slice_get (all_idle jobs (losers jobs (offer_at i jobs))) i) ≡ Some JobState.Matched
    still-matched = ap (option_map (λ (job : Job). state_of job.standing)) same-job ∙ matched

    pub same-offer : offer_at i (all_idle jobs (losers jobs (offer_at i jobs))) ≡ offer_at i jobs
    same-offer = ap (λ o. option_map_or (λ (job : Job). offer_of job.standing) o []) same-job

    pub offer-left : All (λ slot. claimed_by slot (all_idle jobs (losers jobs (offer_at i jobs))) ≡ None)
        (offer_at i (all_idle jobs (losers jobs (offer_at i jobs))))
    offer-left = subst (All (λ slot. claimed_by slot rest ≡ None)) (sym same-offer) (losers_leave (offer_at i jobs))
