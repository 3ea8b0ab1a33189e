-- What a table keeps through each change.
use Rattle.std.proofs.Common.{◌≡◌, ◌≢◌, Result, Ok, Err, OnOk, OnErr, ℕ, suc, is_some, ◌||◌, ◌+◌, ◌-◌, ◌<◌, ◌≤◌, All}
use Rattle.std.proofs.Common.{AllPairs, Bool, true, false, cond, eqb, ltb, leb, List, [], ◌∷◌, ◌++◌, length, slice_get, slice_set, Option, None, Some}
use Rattle.std.proofs.Common.{refl, sym, ◌∙◌, ap, subst, arith}
use Rattle.std.specs.Prelude.{option_map}
use Rattle.std.specs.List.{list_any, remove}
use Rattle.std.specs.Result.{is_err}
use Rattle.std.specs.Option.{option_map_or}
use Rattle.std.proofs.lemmas.Bool.Decides.{nat_tests}
use Rattle.std.proofs.lemmas.List.Elements.{All-push, All-set}
use Rattle.std.proofs.lemmas.List.Sums.{sum_by_push}
use Rattle.std.proofs.Math.ListN.{length-set}
use Rattle.claim_table.specs.declared.answers.JobState.{JobState}
use Rattle.claim_table.specs.declared.answers.SubmitFault.{SubmitFault}
use Rattle.claim_table.specs.declared.job.Job.{Job}
use Rattle.claim_table.specs.declared.job.Stage.{Stage}
use Rattle.claim_table.specs.Jobs.{AreFree, IsFilled, claim_of, claimed_by, is_named, lists, numbered, offer_of, offered_to, refusal, slots_of, state_of}
use Rattle.claim_table.specs.Jobs.{text_of, wanted, with_standing}
use Rattle.claim_table.specs.Kept.{AreNoted, IsKept, names, note_at, passes_at}
use Rattle.claim_table.proofs.HolderLemmas.{All-found}
use Rattle.claim_table.proofs.ListLemmas.{get-set, restood, set-twice, All-remove, length-push, length-remove_le, passes_at-push, passes_at-remove}
use Rattle.claim_table.proofs.ListLemmas.{passes_at-set, remove-set, sum_by-remove_at, sum_by-set_same}
use Rattle.claim_table.proofs.NoteLemmas.{first_at, listed_one, noted-position, passes_from, position-first}

-- ---- notes

clear_case : (listed : Bool) (note : Option ℕ) (i k : ℕ) → names note i ≡ listed
    → names (cond listed None note) k ≡ cond (eqb i k) false (names note k)
clear_case listed None i k is = by_both listed (eqb i k)
  where
    by_both : (a b : Bool) → names (cond a None None) k ≡ cond b false false
    by_both true true = refl
    by_both true false = refl
    by_both false true = refl
    by_both false false = refl
clear_case true (Some m) i k is = by_number (eqb i k) refl
  where
    by_number : (b : Bool) → eqb i k ≡ b → false ≡ cond b false (eqb m k)
    by_number true same = refl
    by_number false same = grind (arith, nat_tests)
clear_case false (Some m) i k is = by_number (eqb i k) refl
  where
    by_number : (b : Bool) → eqb i k ≡ b → eqb m k ≡ cond b false (eqb m k)
    by_number true same = grind (arith, nat_tests)
    by_number false same = refl

mark_case : (listed : Bool) (note : Option ℕ) (i k : ℕ) → names note i ≡ false → (listed ≡ true → note ≡ None)
    → names (cond listed (Some i) note) k ≡ cond (eqb i k) listed (names note k)
mark_case true note i k is free = by_number (eqb i k) refl
  where
    none : names note k ≡ false
    none = ap (λ n. names n k) (free refl)

    by_number : (b : Bool) → eqb i k ≡ b → eqb i k ≡ cond b true (names note k)
    by_number true same = same
    by_number false same = same ∙ sym none
mark_case false None i k is free = by_number (eqb i k)
  where
    by_number : (b : Bool) → false ≡ cond b false false
    by_number true = refl
    by_number false = refl
mark_case false (Some m) i k is free = by_number (eqb i k) refl
  where
    by_number : (b : Bool) → eqb i k ≡ b → eqb m k ≡ cond b false (eqb m k)
    by_number true same = grind (arith, nat_tests)
    by_number false same = refl

same_case : (i k : ℕ) (jobs : List Job) (test : Job → Bool) (new : Bool) → new ≡ passes_at test jobs i
    → cond (eqb i k) new (passes_at test jobs k) ≡ passes_at test jobs k
same_case i k jobs test new is = by_number (eqb i k) refl
  where
    by_number : (b : Bool) → eqb i k ≡ b → cond b new (passes_at test jobs k) ≡ passes_at test jobs k
    by_number true same = let here : i ≡ k = grind (arith, nat_tests) in is ∙ ap (passes_at test jobs) here
    by_number false same = refl

gap_case : (note : Option ℕ) (i k : ℕ) → names note i ≡ false
    → names (option_map (λ m. cond (ltb i m) (m - 1) m) note) k ≡ names note (cond (ltb k i) k (k + 1))
gap_case None i k is = refl
gap_case (Some m) i k is = by_order (ltb i m) (ltb k i) refl refl
  where
    by_order : (a b : Bool) → ltb i m ≡ a → ltb k i ≡ b → eqb (cond a (m - 1) m) k ≡ eqb m (cond b k (k + 1))
    by_order true true above before = grind (arith, nat_tests)
    by_order true false above before = grind (arith, nat_tests)
    by_order false true above before = grind (arith, nat_tests)
    by_order false false above before = grind (arith, nat_tests)

module _ (part : Stage → List ℕ) (notes later : List (Option ℕ)) (jobs : List Job) (i : ℕ) (job : Job) (standing : Stage)
    (noted : AreNoted part notes jobs) (at : slice_get jobs i ≡ Some job) where
  abbrev test : ℕ → Job → Bool
  test slot j = lists (part j.standing) slot

  abbrev new : Job
  new = record job { standing = standing }

  own : (slot : ℕ) → names (note_at notes slot) i ≡ lists (part job.standing) slot
  own slot = noted slot i ∙ passes_from (λ j. lists (part j.standing) slot) jobs i job at

  pub cleared : part standing ≡ [] → ((slot : ℕ) → note_at later slot ≡ cond (lists (part job.standing) slot) None (note_at notes slot))
      → AreNoted part later (slice_set jobs i (record job { standing = standing }))
  cleared none clears = λ slot k.
      ap (λ n. names n k) (clears slot)
      ∙ clear_case (lists (part job.standing) slot) (note_at notes slot) i k (own slot)
      ∙ ap (λ s. cond (eqb i k) (lists s slot) (names (note_at notes slot) k)) (sym none)
      ∙ ap (cond (eqb i k) (lists (part standing) slot)) (noted slot k)
      ∙ sym (passes_at-set (λ j. lists (part j.standing) slot) jobs i k job (record job { standing = standing }) at)

  pub same_part : part standing ≡ part job.standing → AreNoted part notes (slice_set jobs i (record job { standing = standing }))
  same_part same = λ slot k.
      noted slot k
      ∙ sym (same_case i k jobs (λ j. lists (part j.standing) slot) (lists (part standing) slot)
      (ap (λ s. lists s slot) same ∙ sym (passes_from (λ j. lists (part j.standing) slot) jobs i job at)))
      ∙ sym (passes_at-set (λ j. lists (part j.standing) slot) jobs i k job (record job { standing = standing }) at)

  pub marked : part job.standing ≡ [] → ((slot : ℕ) → lists (part standing) slot ≡ true → note_at notes slot ≡ None)
      → ((slot : ℕ) → note_at later slot ≡ cond (lists (part standing) slot) (Some i) (note_at notes slot))
      → AreNoted part later (slice_set jobs i (record job { standing = standing }))
  marked none free marks = λ slot k.
      ap (λ n. names n k) (marks slot)
      ∙ mark_case (lists (part standing) slot) (note_at notes slot) i k (own slot ∙ ap (λ s. lists s slot) none) (free slot)
      ∙ ap (cond (eqb i k) (lists (part standing) slot)) (noted slot k)
      ∙ sym (passes_at-set (λ j. lists (part j.standing) slot) jobs i k job (record job { standing = standing }) at)

pub renoted : (part : Stage → List ℕ) (notes later : List (Option ℕ)) (jobs : List Job) → AreNoted part notes jobs
    → ((slot : ℕ) → note_at later slot ≡ note_at notes slot) → AreNoted part later jobs
renoted part notes later jobs noted same = λ slot i. ap (λ n. names n i) (same slot) ∙ noted slot i

gone : (part : Stage → List ℕ) (notes later : List (Option ℕ)) (jobs : List Job) (i : ℕ) (job : Job) → AreNoted part notes jobs
    → slice_get jobs i ≡ Some job → part job.standing ≡ [] → i < length jobs
    → ((slot : ℕ) → note_at later slot ≡ option_map (λ k. cond (ltb i k) (k - 1) k) (note_at notes slot)) → AreNoted part later (remove jobs i)
gone part notes later jobs i job noted at none within closes = λ slot k.
    ap (λ n. names n k) (closes slot)
    ∙ gap_case (note_at notes slot) i k (noted slot i ∙ passes_from (λ j. lists (part j.standing) slot) jobs i job at ∙ ap (λ s. lists s slot) none)
    ∙ noted slot (cond (ltb k i) k (k + 1))
    ∙ sym (passes_at-remove (λ j. lists (part j.standing) slot) jobs i k within)

-- ---- what is kept

-- a job that is idle lists nothing
filled-idle : (job : Job) → job.standing ≡ Stage.Idle → IsFilled job
filled-idle job idle = record {
  distinct = subst (λ s. AllPairs (λ a b. a ≢ b) (slots_of s)) (sym idle) (λ i j d before within. absurd (omega arith));
  enough = λ busy. absurd (busy idle);
}

-- a job that has claimed what was offered to it lists the same
filled-settled : (job : Job) (slots : List ℕ) → job.standing ≡ Stage.Matched slots → IsFilled job
    → IsFilled (record job { standing = Stage.Claimed slots })
filled-settled job slots matched filled = record {
  distinct = subst (λ s. AllPairs (λ a b. a ≢ b) (slots_of s)) matched filled.distinct;
  enough =
      λ _. sym (ap (λ s. length (slots_of s)) matched) ∙ filled.enough (λ idle. let other : Stage.Matched slots ≡ Stage.Idle =
      sym matched ∙ idle in absurd (cc));
}

module _ (jobs : List Job) (offers claims : List (Option ℕ)) (text : ℕ) (kept : IsKept jobs offers claims text) (i : ℕ) (job : Job)
    (at : slice_get jobs i ≡ Some job) where
  pub freed_kept : (fewer_offers fewer_claims : List (Option ℕ))
      → length fewer_offers ≡ length offers → length fewer_claims ≡ length claims
      → ((slot : ℕ) → note_at fewer_offers slot ≡ cond (lists (offer_of job.standing) slot) None (note_at offers slot))
      → ((slot : ℕ) → note_at fewer_claims slot ≡ cond (lists (claim_of job.standing) slot) None (note_at claims slot))
      → IsKept (slice_set jobs i (record job { standing = Stage.Idle })) fewer_offers fewer_claims text
  freed_kept fewer_offers fewer_claims same_offers same_claims clears_offers clears_claims = record {
    offered = cleared offer_of offers fewer_offers jobs i job Stage.Idle kept.offered at refl clears_offers;
    claimed = cleared claim_of claims fewer_claims jobs i job Stage.Idle kept.claimed at refl clears_claims;
    room = omega (arith, kept.room);
    counted = kept.counted ∙ sym (sum_by-set_same (λ j. j.text_len) jobs i job (record job { standing = Stage.Idle }) at refl);
    within = kept.within;
    few = omega (arith, kept.few, length-set jobs i (record job { standing = Stage.Idle }));
    filled = All-set IsFilled jobs i (record job { standing = Stage.Idle }) (filled-idle (record job { standing = Stage.Idle }) refl) kept.filled;
  }

  pub offered_kept : (slots : List ℕ) (more_offers more_claims : List (Option ℕ))
      → job.standing ≡ Stage.Idle → wanted job.request ≡ length slots → AreFree slots jobs → AllPairs (λ a b. a ≢ b) slots
      → length more_offers ≤ length more_claims
      → ((slot : ℕ) → note_at more_offers slot ≡ cond (lists slots slot) (Some i) (note_at offers slot))
      → ((slot : ℕ) → note_at more_claims slot ≡ note_at claims slot)
      → IsKept (slice_set jobs i (record job { standing = Stage.Matched slots })) more_offers more_claims text
  offered_kept slots more_offers more_claims idle number free distinct room marks same = record {
    offered = marked offer_of offers more_offers jobs i job (Stage.Matched slots) kept.offered at (ap offer_of idle)
        (λ slot listed. noted-position (λ j. lists (offer_of j.standing) slot) jobs (note_at offers slot) (kept.offered slot)
        ∙ listed_one (λ s. offered_to s jobs ≡ None) slots slot free listed) marks;
    claimed =
        same_part claim_of more_claims more_claims jobs i job (Stage.Matched slots) (renoted claim_of claims more_claims jobs kept.claimed same) at
        (sym (ap claim_of idle));
    room = room;
    counted = kept.counted ∙ sym (sum_by-set_same (λ j. j.text_len) jobs i job (record job { standing = Stage.Matched slots }) at refl);
    within = kept.within;
    few = omega (arith, kept.few, length-set jobs i (record job { standing = Stage.Matched slots }));
    filled = All-set IsFilled jobs i (record job { standing = Stage.Matched slots }) (record { distinct = distinct; enough = λ _. sym number }) kept.filled;
  }

  pub settled_kept : (slots : List ℕ) (fewer_offers more_claims : List (Option ℕ))
      → job.standing ≡ Stage.Matched slots → All (λ slot. claimed_by slot jobs ≡ None) slots
      → length fewer_offers ≡ length offers → length more_claims ≡ length claims
      → ((slot : ℕ) → note_at fewer_offers slot ≡ cond (lists slots slot) None (note_at offers slot))
      → ((slot : ℕ) → note_at more_claims slot ≡ cond (lists slots slot) (Some i) (note_at claims slot))
      → IsKept (slice_set jobs i (record job { standing = Stage.Claimed slots })) fewer_offers more_claims text
  settled_kept slots fewer_offers more_claims matched free same_offers same_claims clears marks = record {
    offered = cleared offer_of offers fewer_offers jobs i job (Stage.Claimed slots) kept.offered at refl
        (λ slot. clears slot ∙ ap (λ s. cond (lists s slot) None (note_at offers slot)) (sym (ap offer_of matched)));
    claimed = marked claim_of claims more_claims jobs i job (Stage.Claimed slots) kept.claimed at (ap claim_of matched)
        (λ slot listed. noted-position (λ j. lists (claim_of j.standing) slot) jobs (note_at claims slot) (kept.claimed slot)
        ∙ listed_one (λ s. claimed_by s jobs ≡ None) slots slot free listed) marks;
    room = omega (arith, kept.room);
    counted = kept.counted ∙ sym (sum_by-set_same (λ j. j.text_len) jobs i job (record job { standing = Stage.Claimed slots }) at refl);
    within = kept.within;
    few = omega (arith, kept.few, length-set jobs i (record job { standing = Stage.Claimed slots }));
    filled =
        All-set IsFilled jobs i (record job { standing = Stage.Claimed slots })
        (filled-settled job slots matched (All-found IsFilled jobs i job kept.filled at)) kept.filled;
  }

  pub gone_kept : (fewer_offers fewer_claims : List (Option ℕ))
      → job.standing ≡ Stage.Idle → i < length jobs
      → length fewer_offers ≡ length offers → length fewer_claims ≡ length claims
      → ((slot : ℕ) → note_at fewer_offers slot ≡ option_map (λ k. cond (ltb i k) (k - 1) k) (note_at offers slot))
      → ((slot : ℕ) → note_at fewer_claims slot ≡ option_map (λ k. cond (ltb i k) (k - 1) k) (note_at claims slot))
      → IsKept (remove jobs i) fewer_offers fewer_claims (text - job.text_len)
  gone_kept fewer_offers fewer_claims idle within same_offers same_claims closes_offers closes_claims = record {
    offered = gone offer_of offers fewer_offers jobs i job kept.offered at (ap offer_of idle) within closes_offers;
    claimed = gone claim_of claims fewer_claims jobs i job kept.claimed at (ap claim_of idle) within closes_claims;
    room = omega (arith, kept.room);
    counted = omega (arith, kept.counted, sum_by-remove_at (λ j. j.text_len) jobs i job at);
    within = omega (arith, kept.within);
    few = omega (arith, kept.few, length-remove_le jobs i);
    filled = All-remove IsFilled jobs i kept.filled;
  }

pub renoted_kept : (jobs : List Job) (offers claims more_offers more_claims : List (Option ℕ)) (text : ℕ) → IsKept jobs offers claims text
    → length more_offers ≡ length offers → length more_claims ≡ length claims
    → ((slot : ℕ) → note_at more_offers slot ≡ note_at offers slot) → ((slot : ℕ) → note_at more_claims slot ≡ note_at claims slot)
    → IsKept jobs more_offers more_claims text
renoted_kept jobs offers claims more_offers more_claims text kept same_offers same_claims offered claimed = record {
  offered = renoted offer_of offers more_offers jobs kept.offered offered;
  claimed = renoted claim_of claims more_claims jobs kept.claimed claimed;
  room = omega (arith, kept.room, same_offers, same_claims);
  counted = kept.counted;
  within = kept.within;
  few = kept.few;
  filled = kept.filled;
}

-- ---- a job that is taken

module _ (jobs : List Job) (offers claims : List (Option ℕ)) (text : ℕ) (kept : IsKept jobs offers claims text) (job : Job)
    (idle : job.standing ≡ Stage.Idle) where
  pub entered_kept : length jobs < 10000 → text + job.text_len ≤ 33554432 → IsKept (jobs ++ job ∷ []) offers claims (text + job.text_len)
  entered_kept few light = record {
    offered =
        λ slot i. kept.offered slot i ∙ sym (passes_at-push (λ j. lists (offer_of j.standing) slot) jobs job i (ap (λ s. lists (offer_of s) slot) idle));
    claimed =
        λ slot i. kept.claimed slot i ∙ sym (passes_at-push (λ j. lists (claim_of j.standing) slot) jobs job i (ap (λ s. lists (claim_of s) slot) idle));
    room = kept.room;
    counted = omega (arith, kept.counted, sum_by_push (λ j. j.text_len) jobs job);
    within = light;
    few = omega (arith, length-push jobs job);
    filled = All-push IsFilled jobs job kept.filled (filled-idle job idle);
  }

-- ---- why a job is not taken

pub none-of : (o : Option ℕ) → is_some o ≡ false → o ≡ None
none-of None is = refl
none-of (Some i) is = absurd (cc)

pub among-numbered : (name : List ℕ) (jobs : List Job) → list_any (is_named name) jobs ≡ is_some (numbered name jobs)
unfolding first_at
among-numbered name jobs = by jobs ∙ ap is_some (sym (position-first (is_named name) jobs))
  where
    some_later : (o : Option ℕ) → is_some (option_map suc o) ≡ is_some o
    some_later None = refl
    some_later (Some i) = refl

    by : (jobs : List Job) → list_any (is_named name) jobs ≡ is_some (first_at (is_named name) jobs)
    by [] = refl
    by (job ∷ jobs) = tested (is_named name job) (by jobs)
      where
        tested : (b : Bool) → list_any (is_named name) jobs ≡ is_some (first_at (is_named name) jobs)
            → (b || list_any (is_named name) jobs) ≡ is_some (cond b (Some 0) (option_map suc (first_at (is_named name) jobs)))
        tested true rest = refl
        tested false rest = rest ∙ sym (some_later (first_at (is_named name) jobs))

module _ (jobs : List Job) (name : List ℕ) (size text : ℕ) (counted : text ≡ text_of jobs) where
  abbrev behind_name : Option SubmitFault
  behind_name = cond (leb 10000 (length jobs)) (Some SubmitFault.Full) (cond (ltb 33554432 (text_of jobs + size)) (Some SubmitFault.FullText) None)

  pub refusal-in_use : list_any (is_named name) jobs ≡ true → refusal name size jobs ≡ Some SubmitFault.InUse
  refusal-in_use there = ap (λ b. cond b (Some SubmitFault.InUse) behind_name) there

  pub refusal-full : list_any (is_named name) jobs ≡ false → 10000 ≤ length jobs → refusal name size jobs ≡ Some SubmitFault.Full
  refusal-full new full =
      let tested : leb 10000 (length jobs) ≡ true = grind (arith, nat_tests) in
      ap (λ b. cond b (Some SubmitFault.InUse) behind_name) new
      ∙ ap (λ b. cond b (Some SubmitFault.Full) (cond (ltb 33554432 (text_of jobs + size)) (Some SubmitFault.FullText) None)) tested

  behind_place : list_any (is_named name) jobs ≡ false → length jobs < 10000
      → refusal name size jobs ≡ cond (ltb 33554432 (text_of jobs + size)) (Some SubmitFault.FullText) None
  behind_place new few =
      let tested : leb 10000 (length jobs) ≡ false = grind (arith, nat_tests) in
      ap (λ b. cond b (Some SubmitFault.InUse) behind_name) new
      ∙ ap (λ b. cond b (Some SubmitFault.Full) (cond (ltb 33554432 (text_of jobs + size)) (Some SubmitFault.FullText) None)) tested

  pub refusal-text : list_any (is_named name) jobs ≡ false → length jobs < 10000 → 33554432 < text + size
      → refusal name size jobs ≡ Some SubmitFault.FullText
  refusal-text new few heavy =
      let tested : ltb 33554432 (text_of jobs + size) ≡ true = grind (arith, nat_tests) in
      behind_place new few ∙ ap (λ b. cond b (Some SubmitFault.FullText) None) tested

  pub refusal-none : list_any (is_named name) jobs ≡ false → length jobs < 10000 → text + size ≤ 33554432 → refusal name size jobs ≡ None
  refusal-none new few light =
      let tested : ltb 33554432 (text_of jobs + size) ≡ false = grind (arith, nat_tests) in
      behind_place new few ∙ ap (λ b. cond b (Some SubmitFault.FullText) None) tested

-- ---- a job that something is offered to

pub matched_offer : (standing : Stage) → state_of standing ≡ JobState.Matched → standing ≡ Stage.Matched (offer_of standing)
matched_offer Stage.Idle is = absurd (cc)
matched_offer (Stage.Matched slots) is = refl
matched_offer (Stage.Claimed slots) is = absurd (cc)

-- ---- answers

pub remove-with_standing : (jobs : List Job) (i : ℕ) (standing : Stage) → remove (with_standing jobs i standing) i ≡ remove jobs i
remove-with_standing jobs i standing = by_job (slice_get jobs i)
  where
    by_job : (o : Option Job) → remove (option_map_or (λ job. slice_set jobs i (record job { standing = standing })) o jobs) i ≡ remove jobs i
    by_job None = refl
    by_job (Some job) = remove-set jobs i (record job { standing = standing })

-- a job that is made idle on the way to its claim
pub settled_jobs : (jobs : List Job) (i : ℕ) (job : Job) (was : Stage) (slots : List ℕ) (mid later : List Job) → slice_get jobs i ≡ Some job
    → job.standing ≡ was → job.standing ≡ Stage.Matched (offer_of job.standing)
    → mid ≡ with_standing jobs i Stage.Idle → later ≡ with_standing mid i (Stage.Claimed slots) → slots ≡ slots_of was
    → later ≡ slice_set jobs i (record job { standing = Stage.Claimed (offer_of job.standing) })
settled_jobs jobs i job was slots mid later at stood matched idle claimed told =
    let idle_job : Job = record job { standing = Stage.Idle } in
    let idled : mid ≡ slice_set jobs i idle_job = idle ∙ restood jobs i job Stage.Idle at in
    let same : slots ≡ offer_of job.standing = told ∙ ap slots_of (sym stood) ∙ ap slots_of matched in
    claimed
    ∙ ap (λ js. with_standing js i (Stage.Claimed slots)) idled
    ∙ restood (slice_set jobs i idle_job) i idle_job (Stage.Claimed slots) (get-set jobs i job idle_job at)
    ∙ set-twice jobs i idle_job (record job { standing = Stage.Claimed slots })
    ∙ ap (λ (s : List ℕ). slice_set jobs i (record job { standing = Stage.Claimed s })) same

-- ---- what a result tells

pub from_err : {A E P : Type 0} (r : Result A E) → true ≡ is_err r → OnErr r P → P
from_err (Ok value) is holds = absurd (cc)
from_err (Err fault) is holds = holds

pub from_ok : {A E P : Type 0} (r : Result A E) → false ≡ is_err r → OnOk r P → P
from_ok (Ok value) is holds = holds
from_ok (Err fault) is holds = absurd (cc)
