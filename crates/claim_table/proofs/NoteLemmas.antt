-- Notes name the jobs that list a slot.
use Rattle.std.proofs.Common.{◌≡◌, ℕ, zero, suc, ◌+◌, ◌<◌, ◌≤◌, ◌⊎◌, inl, inr, Bool, true, false, not, ◌||◌, cond, eqb, ltb}
use Rattle.std.proofs.Common.{List, [], ◌∷◌, get_or, length, slice_get, position, Option, None, Some, IfSome, All, refl, sym, ◌∙◌, ap, subst, arith}
use Rattle.std.specs.Prelude.{option_map}
use Rattle.std.specs.List.{prefix_len}
use Rattle.std.specs.Option.{option_map_or}
use Rattle.std.proofs.lemmas.Bool.{cases_lt}
use Rattle.std.proofs.lemmas.Bool.Decides.{nat_tests}
use Rattle.std.proofs.lemmas.List.{get_or_past}
use Rattle.std.proofs.lemmas.List.Elements.{All-head, All-tail}
use Rattle.claim_table.specs.declared.job.Job.{Job}
use Rattle.claim_table.specs.declared.job.Stage.{Stage}
use Rattle.claim_table.specs.Jobs.{AreExclusive, lists}
use Rattle.claim_table.specs.Kept.{AreNoted, names, note_at, passes_at}

same_number : (k : ℕ) → eqb k k ≡ true
same_number k = grind (arith, nat_tests)

-- the place of the first that passes, by recursion
unfoldable pub first_at : {A : Type 0} → (A → Bool) → List A → Option ℕ
first_at test [] = None
first_at test (x ∷ xs) = cond (test x) (Some 0) (option_map suc (first_at test xs))

position_later : (m n : ℕ) (b : Bool) → ltb m n ≡ b → cond (ltb (1 + m) (suc n)) (Some (1 + m)) None ≡ option_map suc (cond b (Some m) None)
position_later m n true is =
    let tested : ltb (1 + m) (suc n) ≡ true = grind (arith, nat_tests) in
    let next : 1 + m ≡ suc m = omega arith in
    ap (λ c. cond c (Some (1 + m)) None) tested ∙ ap (λ k. Some k) next
position_later m n false is =
    let tested : ltb (1 + m) (suc n) ≡ false = grind (arith, nat_tests) in
    ap (λ c. cond c (Some (1 + m)) None) tested

position_now : (n : ℕ) → cond {A = Option ℕ} (ltb 0 (suc n)) (Some 0) None ≡ Some 0
position_now n = let tested : ltb 0 (suc n) ≡ true = grind (arith, nat_tests) in ap (λ c. cond c (Some 0) None) tested

pub position-first : {A : Type 0} (test : A → Bool) (xs : List A) → position test xs ≡ first_at test xs
unfolding first_at
position-first test [] = refl
position-first test (x ∷ xs) = by_test (test x) (position-first test xs)
  where
    by_test : (b : Bool) → position test xs ≡ first_at test xs
        → cond (ltb (cond (not b) (1 + prefix_len (λ y. not (test y)) xs) 0) (suc (length xs)))
        (Some (cond (not b) (1 + prefix_len (λ y. not (test y)) xs) 0)) None ≡ cond b (Some 0) (option_map suc (first_at test xs))
    by_test true rest = position_now (length xs)
    by_test false rest = position_later (prefix_len (λ y. not (test y)) xs) (length xs) _ refl ∙ ap (option_map suc) rest

zero_named : (note : Option ℕ) → names note 0 ≡ true → note ≡ Some 0
zero_named None is = absurd (cc)
zero_named (Some k) is = let here : k ≡ 0 = grind (arith, nat_tests) in ap (λ m. Some m) here

lower : Option ℕ → Option ℕ
lower None = None
lower (Some zero) = None
lower (Some (suc k)) = Some k

above : (note : Option ℕ) → names note 0 ≡ false → note ≡ option_map suc (lower note)
unfolding lower
above None is = refl
above (Some zero) is = absurd (cc)
above (Some (suc k)) is = refl

next_number : (k i : ℕ) → eqb k i ≡ eqb (suc k) (suc i)
next_number k i = grind (arith, nat_tests)

below : (note : Option ℕ) (i : ℕ) → names note 0 ≡ false → names (lower note) i ≡ names note (suc i)
unfolding lower
below None i is = refl
below (Some zero) i is = absurd (cc)
below (Some (suc k)) i is = next_number k i

noted-first : (test : Job → Bool) (jobs : List Job) (note : Option ℕ) → ((i : ℕ) → names note i ≡ passes_at test jobs i)
    → note ≡ first_at test jobs
unfolding first_at
noted-first test [] None noted = refl
noted-first test [] (Some k) noted = let named_here = same_number k in let nowhere = noted k in absurd (cc)
noted-first test (job ∷ jobs) note noted =
    by_test (test job) (noted 0) (λ empty. noted-first test jobs (lower note) (λ i. below note i empty ∙ noted (suc i)))
  where
    by_test : (b : Bool) → names note 0 ≡ b → (names note 0 ≡ false → lower note ≡ first_at test jobs)
        → note ≡ cond b (Some 0) (option_map suc (first_at test jobs))
    by_test true here later = zero_named note here
    by_test false here later = above note here ∙ ap (option_map suc) (later here)

-- the note at a slot is the number of the job that lists it
pub noted-position : (test : Job → Bool) (jobs : List Job) (note : Option ℕ) → ((i : ℕ) → names note i ≡ passes_at test jobs i)
    → note ≡ position test jobs
noted-position test jobs note noted = noted-first test jobs note noted ∙ sym (position-first test jobs)

pub passes_within : (test : Job → Bool) (jobs : List Job) (i : ℕ) → passes_at test jobs i ≡ true → i < length jobs
passes_within test [] i passes = absurd (cc)
passes_within test (job ∷ jobs) zero passes = omega arith
passes_within test (job ∷ jobs) (suc i) passes = let rest = passes_within test jobs i passes in omega arith

pub noted-within : (test : Job → Bool) (jobs : List Job) (note : Option ℕ) → ((i : ℕ) → names note i ≡ passes_at test jobs i)
    → IfSome note (λ i. i < length jobs)
noted-within test jobs None noted = tt
noted-within test jobs (Some k) noted = passes_within test jobs k (sym (noted k) ∙ same_number k)

-- ---- no two jobs

one_named : (note : Option ℕ) (i j : ℕ) → names note i ≡ true → names note j ≡ true → i ≡ j
one_named None i j at_i at_j = absurd (cc)
one_named (Some k) i j at_i at_j = grind (arith, nat_tests)

pub passes_from : (test : Job → Bool) (jobs : List Job) (i : ℕ) (job : Job) → slice_get jobs i ≡ Some job → passes_at test jobs i ≡ test job
passes_from test jobs i job at = ap (λ o. option_map_or test o false) at

-- the job that the note names passes
pub noted-passes : (test : Job → Bool) (jobs : List Job) (note : Option ℕ) (i : ℕ) (job : Job) → ((k : ℕ) → names note k ≡ passes_at test jobs k)
    → note ≡ Some i → slice_get jobs i ≡ Some job → test job ≡ true
noted-passes test jobs _ i job noted is at = sym (passes_from test jobs i job at) ∙ sym (noted i) ∙ ap (λ n. names n i) is ∙ same_number i

pub noted-exclusive : (part : Stage → List ℕ) (notes : List (Option ℕ)) (jobs : List Job) → AreNoted part notes jobs → AreExclusive part jobs
noted-exclusive part notes jobs noted = λ slot i j a b at_i at_j in_a in_b.
    one_named (note_at notes slot) i j
    (noted slot i ∙ passes_from (λ job. lists (part job.standing) slot) jobs i a at_i ∙ in_a)
    (noted slot j ∙ passes_from (λ job. lists (part job.standing) slot) jobs j b at_j ∙ in_b)

-- ---- notes that are written

nothing : (b : Bool) → cond {A = Option ℕ} b None None ≡ None
nothing true = refl
nothing false = refl

-- notes that are cleared at slots, also where there is no note
pub cleared-everywhere : (notes later : List (Option ℕ)) (slots : List ℕ) → length later ≡ length notes
    → ((slot : ℕ) → slot < length notes → note_at later slot ≡ cond (lists slots slot) None (note_at notes slot)) → (slot : ℕ)
    → note_at later slot ≡ cond (lists slots slot) None (note_at notes slot)
cleared-everywhere notes later slots same cleared slot = by_place (cases_lt slot (length notes))
  where
    by_place : (slot < length notes) ⊎ (length notes ≤ slot) → note_at later slot ≡ cond (lists slots slot) None (note_at notes slot)
    by_place (inl within) = cleared slot within
    by_place (inr past) =
        get_or_past later slot None (omega arith) ∙ sym (nothing (lists slots slot))
        ∙ ap (cond (lists slots slot) None) (sym (get_or_past notes slot None past))

-- what holds of all the slots of a list
pub listed_one : (P : ℕ → Type 0) (slots : List ℕ) (slot : ℕ) → All P slots → lists slots slot ≡ true → P slot
listed_one P [] slot all listed = absurd (cc)
listed_one P (s ∷ slots) slot all listed = by_slot (eqb s slot) refl listed (λ rest. listed_one P slots slot (All-tail P s slots all) rest)
  where
    by_slot : (b : Bool) → eqb s slot ≡ b → (b || lists slots slot) ≡ true → (lists slots slot ≡ true → P slot) → P slot
    by_slot true here is later = let same : s ≡ slot = grind (arith, nat_tests) in subst P same (All-head P s slots all)
    by_slot false here is later = later is

-- each of the slots of a list is listed
pub listed_at : (slots : List ℕ) (k d : ℕ) → k < length slots → lists slots (get_or slots k d) ≡ true
listed_at [] k d within = absurd (omega (arith, within))
listed_at (s ∷ slots) zero d within = let same : eqb s s ≡ true = grind (arith, nat_tests) in ap (λ b. b || lists slots s) same
listed_at (s ∷ slots) (suc k) d within = by (eqb s (get_or slots k d)) (listed_at slots k d (omega (arith, within)))
  where
    by : (b : Bool) → lists slots (get_or slots k d) ≡ true → (b || lists slots (get_or slots k d)) ≡ true
    by true listed = refl
    by false listed = listed

-- there are notes at all the slots that a job lists
pub noted-reach : (part : Stage → List ℕ) (notes : List (Option ℕ)) (jobs : List Job) (i : ℕ) (job : Job) → AreNoted part notes jobs
    → slice_get jobs i ≡ Some job → All (λ slot. slot < length notes) (part job.standing)
noted-reach part notes jobs i job noted at =
    λ k d within. by (get_or (part job.standing) k d) (listed_at (part job.standing) k d within) (cases_lt (get_or (part job.standing) k d) (length notes))
  where
    by : (slot : ℕ) → lists (part job.standing) slot ≡ true → (slot < length notes) ⊎ (length notes ≤ slot) → slot < length notes
    by slot listed (inl within) = within
    by slot listed (inr past) =
        let named : names (note_at notes slot) i ≡ true = noted slot i ∙ passes_from (λ j. lists (part j.standing) slot) jobs i job at ∙ listed in
        let none : names (note_at notes slot) i ≡ false = ap (λ n. names n i) (get_or_past notes slot None past) in
        absurd (cc)

-- notes that are written at slots which all have one
pub marked-everywhere : (notes later : List (Option ℕ)) (slots : List ℕ) (number : Option ℕ) → length later ≡ length notes
    → All (λ s. s < length notes) slots
    → ((slot : ℕ) → slot < length notes → note_at later slot ≡ cond (lists slots slot) number (note_at notes slot)) → (slot : ℕ)
    → note_at later slot ≡ cond (lists slots slot) number (note_at notes slot)
marked-everywhere notes later slots number same reached marked slot = by_place (cases_lt slot (length notes))
  where
    by_listed : (b : Bool) → lists slots slot ≡ b → length notes ≤ slot → None ≡ cond b number None
    by_listed true listed past = absurd (omega (arith, listed_one (λ s. s < length notes) slots slot reached listed))
    by_listed false listed past = refl

    by_place : (slot < length notes) ⊎ (length notes ≤ slot) → note_at later slot ≡ cond (lists slots slot) number (note_at notes slot)
    by_place (inl within) = marked slot within
    by_place (inr past) =
        get_or_past later slot None (omega arith) ∙ by_listed (lists slots slot) refl past
        ∙ ap (cond (lists slots slot) number) (sym (get_or_past notes slot None past))
