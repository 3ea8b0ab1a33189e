-- Lists of jobs after one is changed, taken out or added.
use Rattle.std.proofs.Common.{◌≡◌, ℕ, zero, suc, ◌+◌, ◌<◌, ◌≤◌, All, Bool, true, false, not, cond, eqb, ltb, List, [], ◌∷◌}
use Rattle.std.proofs.Common.{◌++◌, length, map, slice_get, slice_set, position, sum_by, Option, None, Some, refl, sym, ◌∙◌, ap, arith}
use Rattle.std.specs.List.{prefix_len, remove}
use Rattle.std.specs.Prelude.{option_map}
use Rattle.std.specs.Option.{option_map_or}
use Rattle.std.proofs.lemmas.Bool.Decides.{nat_tests}
use Rattle.std.proofs.lemmas.List.Elements.{All-cons, All-head, All-tail}
use Rattle.std.proofs.lemmas.List.Sums.{sum_by-cons}
use Rattle.std.proofs.lemmas.Option.{none-some, same_Some}
use Rattle.std.proofs.Math.Dec.{eqb-suc-suc, eqb-suc-zero, eqb-zero-suc}
use Rattle.claim_table.specs.declared.job.Job.{Job}
use Rattle.claim_table.specs.declared.job.Stage.{Stage}
use Rattle.claim_table.specs.Jobs.{with_standing}
use Rattle.claim_table.specs.Kept.{passes_at}

-- ---- a job in another's place

pub passes_at-set : (test : Job → Bool) (jobs : List Job) (i k : ℕ) (old new : Job) → slice_get jobs i ≡ Some old
    → passes_at test (slice_set jobs i new) k ≡ cond (eqb i k) (test new) (passes_at test jobs k)
passes_at-set test [] i k old new at = absurd (none-some old at)
passes_at-set test (job ∷ jobs) zero zero old new at = refl
passes_at-set test (job ∷ jobs) zero (suc k) old new at = sym (ap (λ b. cond b (test new) (passes_at test jobs k)) (eqb-zero-suc k))
passes_at-set test (job ∷ jobs) (suc i) zero old new at = sym (ap (λ b. cond b (test new) (test job)) (eqb-suc-zero i))
passes_at-set test (job ∷ jobs) (suc i) (suc k) old new at =
    passes_at-set test jobs i k old new at ∙ ap (λ b. cond b (test new) (passes_at test jobs k)) (sym (eqb-suc-suc i k))

pub map-set_same : {A : Type 0} (f : Job → A) (jobs : List Job) (i : ℕ) (old new : Job) → slice_get jobs i ≡ Some old → f new ≡ f old
    → map f (slice_set jobs i new) ≡ map f jobs
map-set_same f [] i old new at same = absurd (none-some old at)
map-set_same f (job ∷ jobs) zero old new at same = ap (λ a. a ∷ map f jobs) (same ∙ sym (ap f (same_Some job old at)))
map-set_same f (job ∷ jobs) (suc i) old new at same = ap (λ l. f job ∷ l) (map-set_same f jobs i old new at same)

pub sum_by-set_same : (f : Job → ℕ) (jobs : List Job) (i : ℕ) (old new : Job) → slice_get jobs i ≡ Some old → f new ≡ f old
    → sum_by f (slice_set jobs i new) ≡ sum_by f jobs
sum_by-set_same f [] i old new at same = absurd (none-some old at)
sum_by-set_same f (job ∷ jobs) zero old new at same =
    let size = same ∙ sym (ap f (same_Some job old at)) in omega (arith, sum_by-cons f new jobs, sum_by-cons f job jobs)
sum_by-set_same f (job ∷ jobs) (suc i) old new at same =
    let rest = sum_by-set_same f jobs i old new at same in
    omega (arith, sum_by-cons f job (slice_set jobs i new), sum_by-cons f job jobs)

-- ---- one fewer

gap_next : (k i : ℕ) (b : Bool) → ltb k i ≡ b → suc (cond b k (k + 1)) ≡ cond (ltb (suc k) (suc i)) (suc k) (suc k + 1)
gap_next k i true is = let tested : ltb (suc k) (suc i) ≡ true = grind (arith, nat_tests) in sym (ap (λ c. cond c (suc k) (suc k + 1)) tested)
gap_next k i false is =
    let tested : ltb (suc k) (suc i) ≡ false = grind (arith, nat_tests) in
    let next : suc (k + 1) ≡ suc k + 1 = omega arith in
    next ∙ sym (ap (λ c. cond c (suc k) (suc k + 1)) tested)

pub passes_at-remove : (test : Job → Bool) (jobs : List Job) (i k : ℕ) → i < length jobs
    → passes_at test (remove jobs i) k ≡ passes_at test jobs (cond (ltb k i) k (k + 1))
passes_at-remove test [] i k within = absurd (omega arith)
passes_at-remove test (job ∷ jobs) zero k within =
    let after : cond (ltb k 0) k (k + 1) ≡ suc k = grind (arith, nat_tests) in
    sym (ap (λ m. passes_at test (job ∷ jobs) m) after)
passes_at-remove test (job ∷ jobs) (suc i) zero within =
    let first : cond (ltb 0 (suc i)) 0 1 ≡ 0 = grind (arith, nat_tests) in
    sym (ap (λ m. passes_at test (job ∷ jobs) m) first)
passes_at-remove test (job ∷ jobs) (suc i) (suc k) within =
    passes_at-remove test jobs i k (omega arith) ∙ ap (λ m. passes_at test (job ∷ jobs) m) (gap_next k i (ltb k i) refl)

pub length-remove_le : {A : Type 0} (xs : List A) (i : ℕ) → length (remove xs i) ≤ length xs
length-remove_le [] zero = omega arith
length-remove_le [] (suc i) = omega arith
length-remove_le (x ∷ xs) zero = omega arith
length-remove_le (x ∷ xs) (suc i) = let rest = length-remove_le xs i in omega arith

pub All-remove : (P : Job → Type 0) (jobs : List Job) (i : ℕ) → All P jobs → All P (remove jobs i)
All-remove P [] zero all = all
All-remove P [] (suc i) all = all
All-remove P (job ∷ jobs) zero all = All-tail P job jobs all
All-remove P (job ∷ jobs) (suc i) all = All-cons P job (remove jobs i) (All-head P job jobs all) (All-remove P jobs i (All-tail P job jobs all))

pub sum_by-remove_at : (f : Job → ℕ) (jobs : List Job) (i : ℕ) (job : Job) → slice_get jobs i ≡ Some job
    → sum_by f jobs ≡ sum_by f (remove jobs i) + f job
sum_by-remove_at f [] i job at = absurd (none-some job at)
sum_by-remove_at f (first ∷ jobs) zero job at = let size = ap f (same_Some first job at) in omega (arith, sum_by-cons f first jobs)
sum_by-remove_at f (first ∷ jobs) (suc i) job at =
    let rest = sum_by-remove_at f jobs i job at in
    omega (arith, sum_by-cons f first jobs, sum_by-cons f first (remove jobs i))

pub remove-set : (jobs : List Job) (i : ℕ) (new : Job) → remove (slice_set jobs i new) i ≡ remove jobs i
remove-set [] zero new = refl
remove-set [] (suc i) new = refl
remove-set (job ∷ jobs) zero new = refl
remove-set (job ∷ jobs) (suc i) new = ap (λ l. job ∷ l) (remove-set jobs i new)

-- ---- one more

pub passes_at-push : (test : Job → Bool) (jobs : List Job) (new : Job) (k : ℕ) → test new ≡ false
    → passes_at test (jobs ++ new ∷ []) k ≡ passes_at test jobs k
passes_at-push test [] new zero fails = fails
passes_at-push test [] new (suc k) fails = refl
passes_at-push test (job ∷ jobs) new zero fails = refl
passes_at-push test (job ∷ jobs) new (suc k) fails = passes_at-push test jobs new k fails

pub length-push : (jobs : List Job) (new : Job) → length (jobs ++ new ∷ []) ≡ length jobs + 1
length-push [] new = refl
length-push (job ∷ jobs) new = let rest = length-push jobs new in omega arith

-- ---- a test of what a map gives

prefix_len-map : {A B : Type 0} (test : B → Bool) (f : A → B) (xs : List A) → prefix_len test (map f xs) ≡ prefix_len (λ x. test (f x)) xs
prefix_len-map test f [] = refl
prefix_len-map test f (x ∷ xs) = ap (λ n. cond (test (f x)) (1 + n) 0) (prefix_len-map test f xs)

length-mapped : {A B : Type 0} (f : A → B) (xs : List A) → length (map f xs) ≡ length xs
length-mapped f [] = refl
length-mapped f (x ∷ xs) = let rest = length-mapped f xs in omega arith

pub position-map : {A B : Type 0} (test : B → Bool) (f : A → B) (xs : List A) → position test (map f xs) ≡ position (λ x. test (f x)) xs
position-map test f xs =
    ap (λ n. cond (ltb n (length (map f xs))) (Some n) None) (prefix_len-map (λ y. not (test y)) f xs)
    ∙ ap (λ n. cond (ltb (prefix_len (λ x. not (test (f x))) xs) n) (Some (prefix_len (λ x. not (test (f x))) xs)) None) (length-mapped f xs)

-- ---- a job that is read

pub within_at : {A : Type 0} (f : Job → A) (jobs : List Job) (i : ℕ) (x : A) → option_map f (slice_get jobs i) ≡ Some x → i < length jobs
within_at f [] i x mapped = absurd (none-some x mapped)
within_at f (j ∷ jobs) zero x mapped = omega arith
within_at f (j ∷ jobs) (suc i) x mapped = let rest = within_at f jobs i x mapped in omega (arith, rest)

pub value_at : {A : Type 0} (f : Job → A) (jobs : List Job) (i : ℕ) (x : A) (job : Job) → slice_get jobs i ≡ Some job
    → option_map f (slice_get jobs i) ≡ Some x → f job ≡ x
value_at f jobs i x job at mapped = ap (λ o. option_map_or (λ y. y) o x) (sym (ap (option_map f) at) ∙ mapped)

pub job_found : {A : Type 0} (f : Job → A) (jobs : List Job) (i : ℕ) (x : A) → option_map f (slice_get jobs i) ≡ Some x
    → (job : Job) × (slice_get jobs i ≡ Some job) × (f job ≡ x)
job_found f jobs i x is = by (slice_get jobs i) refl
  where
    by : (o : Option Job) → slice_get jobs i ≡ o → (job : Job) × (slice_get jobs i ≡ Some job) × (f job ≡ x)
    by None at = absurd (none-some x (sym (ap (option_map f) at) ∙ is))
    by (Some job) at = (job, at, same_Some (f job) x (sym (ap (option_map f) at) ∙ is))

pub restood : (jobs : List Job) (i : ℕ) (job : Job) (standing : Stage) → slice_get jobs i ≡ Some job
    → with_standing jobs i standing ≡ slice_set jobs i (record job { standing = standing })
restood jobs i job standing at = ap (λ o. option_map_or (λ j. slice_set jobs i (record j { standing = standing })) o jobs) at

pub set-twice : (jobs : List Job) (i : ℕ) (one other : Job) → slice_set (slice_set jobs i one) i other ≡ slice_set jobs i other
set-twice [] i one other = refl
set-twice (job ∷ jobs) zero one other = refl
set-twice (job ∷ jobs) (suc i) one other = ap (λ l. job ∷ l) (set-twice jobs i one other)

pub get-set : (jobs : List Job) (i : ℕ) (old new : Job) → slice_get jobs i ≡ Some old → slice_get (slice_set jobs i new) i ≡ Some new
get-set [] i old new at = absurd (none-some old at)
get-set (job ∷ jobs) zero old new at = refl
get-set (job ∷ jobs) (suc i) old new at = get-set jobs i old new at
