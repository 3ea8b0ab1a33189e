-- The jobs of a table, and the jobs of a state, as resources and jobs come and go.
use Rattle.std.proofs.Common.{◌≡◌, ℕ, suc, ◌+◌, All, Bool, true, false, not, ◌&&◌, ◌||◌, cond, eqb, ltb, List, [], ◌∷◌, filter, get_or, length, map, position}
use Rattle.std.proofs.Common.{slice_get, slice_set, Option, None, Some, option_map, refl, sym, ◌∙◌, ap, arith}
use Rattle.std.specs.List.{list_all, list_any, position_or_len}
use Rattle.std.specs.Option.{option_map_or}
use Rattle.std.proofs.lemmas.Bool.Decides.{nat_tests}
use Rattle.std.proofs.lemmas.List.Elements.{All-map}
use Rattle.ad_tree.specs.declared.request.Request.{Request}
use Rattle.ad_store.specs.Stock.{Stock}
use Rattle.ad_store.proofs.HeldLemmas.{both, neither}
use Rattle.claim_table.specs.declared.job.Job.{Job}
use Rattle.claim_table.specs.declared.job.Stage.{Stage}
use Rattle.claim_table.specs.Jobs.{AreExclusive, claim_of, claimed_by as claimer, idle_at, lists, lost, offer_of, offered_to as offeree, slots_of}
use Rattle.pool_books.specs.Books.{name_in, named_standing, queued}
use Rattle.pool_books.specs.Queue.{names_of}
use Rattle.pool_books.specs.State.{JobStanding}
use Rattle.pool_books.specs.Stored.{are_stored, is_stored}

-- ---- lists

pub map-where : {A B : Type 0} (p : A → Bool) (f g : A → B) (xs : List A) → list_all p xs ≡ true → ((x : A) → p x ≡ true → f x ≡ g x) → map f xs ≡ map g xs
map-where p f g [] all same = refl
map-where p f g (x ∷ xs) all same =
    let parts = both (p x) (list_all p xs) all in
    ap (λ y. y ∷ map f xs) (same x parts.0) ∙ ap (λ l. g x ∷ l) (map-where p f g xs parts.1 same)

pub all_more : {A : Type 0} (p q : A → Bool) (xs : List A) → ((x : A) → p x ≡ true → q x ≡ true) → list_all p xs ≡ true → list_all q xs ≡ true
all_more p q [] more all = refl
all_more p q (x ∷ xs) more all =
    let parts = both (p x) (list_all p xs) all in
    ap (λ b. b && list_all q xs) (more x parts.0) ∙ all_more p q xs more parts.1

pub all_kept : {A : Type 0} (p q : A → Bool) (xs : List A) → list_all p xs ≡ true → list_all p (filter q xs) ≡ true
all_kept p q [] all = refl
all_kept p q (x ∷ xs) all = by (q x) (all_kept p q xs parts.1)
  where
    parts : (p x ≡ true) × (list_all p xs ≡ true)
    parts = both (p x) (list_all p xs) all

    by : (b : Bool) → list_all p (filter q xs) ≡ true → list_all p (cond b (x ∷ filter q xs) (filter q xs)) ≡ true
    by true rest = ap (λ b. b && list_all p (filter q xs)) parts.0 ∙ rest
    by false rest = rest

pub any-map : {A B : Type 0} (test : B → Bool) (f : A → B) (xs : List A) → list_any test (map f xs) ≡ list_any (λ x. test (f x)) xs
any-map test f [] = refl
any-map test f (x ∷ xs) = ap (λ b. test (f x) || b) (any-map test f xs)

pub filter-map : {A B : Type 0} (test : B → Bool) (f : A → B) (xs : List A) → filter test (map f xs) ≡ map f (filter (λ x. test (f x)) xs)
filter-map test f [] = refl
filter-map test f (x ∷ xs) = by (test (f x)) (filter-map test f xs)
  where
    by : (b : Bool) → filter test (map f xs) ≡ map f (filter (λ x. test (f x)) xs)
        → cond b (f x ∷ filter test (map f xs)) (filter test (map f xs)) ≡ map f (cond b (x ∷ filter (λ y. test (f y)) xs) (filter (λ y. test (f y)) xs))
    by true rest = ap (λ l. f x ∷ l) rest
    by false rest = rest

pub map-map : {A B C : Type 0} (g : B → C) (f : A → B) (xs : List A) → map g (map f xs) ≡ map (λ x. g (f x)) xs
map-map g f [] = refl
map-map g f (x ∷ xs) = ap (λ l. g (f x) ∷ l) (map-map g f xs)

pub map-same : {A : Type 0} (xs : List A) → map (λ x. x) xs ≡ xs
map-same [] = refl
map-same (x ∷ xs) = ap (λ l. x ∷ l) (map-same xs)

-- the place of the first that passes
position_later : (m n : ℕ) (b : Bool) → ltb m n ≡ b → cond (ltb (1 + m) (suc n)) (Some (1 + m)) None ≡ option_map suc (cond b (Some m) None)
position_later m n true is =
    let tested : ltb (1 + m) (suc n) ≡ true = grind (arith, nat_tests) in
    let next : 1 + m ≡ suc m = omega arith in
    ap (λ c. cond c (Some (1 + m)) None) tested ∙ ap (λ k. Some k) next
position_later m n false is =
    let tested : ltb (1 + m) (suc n) ≡ false = grind (arith, nat_tests) in
    ap (λ c. cond c (Some (1 + m)) None) tested

position_now : (n : ℕ) → cond {A = Option ℕ} (ltb 0 (suc n)) (Some 0) None ≡ Some 0
position_now n = let tested : ltb 0 (suc n) ≡ true = grind (arith, nat_tests) in ap (λ c. cond c (Some 0) None) tested

pub position-cons : {A : Type 0} (test : A → Bool) (x : A) (xs : List A) → position test (x ∷ xs) ≡ cond (test x) (Some 0) (option_map suc (position test xs))
position-cons test x xs = by (test x)
  where
    n : ℕ
    n = position_or_len test xs

    by : (b : Bool)
        → cond (ltb (cond (not b) (1 + position_or_len test xs) 0) (suc (length xs))) (Some (cond (not b) (1 + position_or_len test xs) 0)) None
        ≡ cond b (Some 0) (option_map suc (position test xs))
    by true = position_now (length xs)
    by false = position_later (position_or_len test xs) (length xs) _ refl

-- ---- at most one job passes

abbrev pub AtMostOne : (Job → Bool) → List Job → Type 0
AtMostOne test jobs = (i j : ℕ) (a b : Job) → slice_get jobs i ≡ Some a → slice_get jobs j ≡ Some b → test a ≡ true → test b ≡ true → i ≡ j

pub once_behind : (test : Job → Bool) (x : Job) (xs : List Job) → AtMostOne test (x ∷ xs) → AtMostOne test xs
once_behind test x xs once = λ i j a b at_i at_j passes_a passes_b. let is : suc i ≡ suc j = once (suc i) (suc j) a b at_i at_j passes_a passes_b in omega arith

pub none_behind : (test : Job → Bool) (x : Job) (xs : List Job) → AtMostOne test (x ∷ xs) → test x ≡ true → (j : ℕ) (b : Job) → slice_get xs j ≡ Some b
    → test b ≡ false
none_behind test x xs once passes j b at = by (test b) refl
  where
    by : (c : Bool) → test b ≡ c → c ≡ false
    by true is = let clash : 0 ≡ suc j = once 0 (suc j) x b refl at passes is in absurd (omega arith)
    by false is = refl

abbrev pub idle_job : Job → Job
idle_job job = record job { standing = Stage.Idle }

idle_at-next : (o : Option ℕ) (x : Job) (xs : List Job) → idle_at (option_map suc o) (x ∷ xs) ≡ x ∷ idle_at o xs
idle_at-next None x xs = refl
idle_at-next (Some i) x xs = by (slice_get xs i)
  where
    by : (o : Option Job)
        → option_map_or (λ job. slice_set (x ∷ xs) (suc i) (idle_job job)) o (x ∷ xs) ≡ x ∷ option_map_or (λ job. slice_set xs i (idle_job job)) o xs
    by None = refl
    by (Some job) = refl

pub none_idle : (test : Job → Bool) (f : Job → Job) (xs : List Job) → ((j : ℕ) (b : Job) → slice_get xs j ≡ Some b → test b ≡ false)
    → map f xs ≡ map (λ job. cond (test job) (idle_job (f job)) (f job)) xs
none_idle test f [] none = refl
none_idle test f (x ∷ xs) none =
    ap (λ b. cond b (idle_job (f x)) (f x) ∷ map f xs) (sym (none 0 x refl))
    ∙ ap (λ l. cond (test x) (idle_job (f x)) (f x) ∷ l) (none_idle test f xs (λ j b at. none (suc j) b at))

-- so making the first that passes idle makes each that passes idle
pub idle_where : (test : Job → Bool) (f : Job → Job) (jobs : List Job) → AtMostOne test jobs
    → idle_at (position test jobs) (map f jobs) ≡ map (λ job. cond (test job) (idle_job (f job)) (f job)) jobs
idle_where test f [] once = refl
idle_where test f (x ∷ xs) once =
    ap (λ o. idle_at o (f x ∷ map f xs)) (position-cons test x xs) ∙ by (test x) refl (idle_where test f xs (once_behind test x xs once))
  where
    by : (b : Bool) → test x ≡ b → idle_at (position test xs) (map f xs) ≡ map (λ job. cond (test job) (idle_job (f job)) (f job)) xs
        → idle_at (cond b (Some 0) (option_map suc (position test xs))) (f x ∷ map f xs)
        ≡ cond b (idle_job (f x)) (f x) ∷ map (λ job. cond (test job) (idle_job (f job)) (f job)) xs
    by true is rest = ap (λ l. idle_job (f x) ∷ l) (none_idle test f xs (none_behind test x xs once is))
    by false is rest = idle_at-next (position test xs) (f x) (map f xs) ∙ ap (λ l. f x ∷ l) rest

-- ---- a resource that leaves

abbrev pub freed : ℕ → Job → Job
freed slot job = cond (lists (slots_of job.standing) slot) (idle_job job) job

-- each job that lists the resource is idle
pub lost-each : (slot : ℕ) (jobs : List Job) → AreExclusive offer_of jobs → AreExclusive claim_of jobs → lost slot jobs ≡ map (freed slot) jobs
lost-each slot jobs offers claims =
    ap (λ l. idle_at (offeree slot jobs) (idle_at (claimer slot jobs) l)) (sym (map-same jobs))
    ∙ ap (idle_at (offeree slot jobs)) (idle_where claims_it (λ job. job) jobs (λ i j a b at_i at_j first second. claims slot i j a b at_i at_j first second))
    ∙ idle_where offers_it unclaimed jobs (λ i j a b at_i at_j first second. offers slot i j a b at_i at_j first second)
    ∙ map-where (λ job. true) _ (freed slot) jobs (all_true jobs) (λ job any. either job job.standing)
  where
    offers_it : Job → Bool
    offers_it job = lists (offer_of job.standing) slot

    claims_it : Job → Bool
    claims_it job = lists (claim_of job.standing) slot

    unclaimed : Job → Job
    unclaimed job = cond (lists (claim_of job.standing) slot) (idle_job job) job

    all_true : (xs : List Job) → list_all (λ job. true) xs ≡ true
    all_true [] = refl
    all_true (x ∷ xs) = all_true xs

    either : (job : Job) (standing : Stage)
        → cond (lists (offer_of standing) slot) (idle_job (cond (lists (claim_of standing) slot) (idle_job job) job))
        (cond (lists (claim_of standing) slot) (idle_job job) job) ≡ cond (lists (slots_of standing) slot) (idle_job job) job
    either job Stage.Idle = refl
    either job (Stage.Matched slots) = refl
    either job (Stage.Claimed slots) = refl

-- the others of a job's slots
others_stored : (slots fewer : List ℕ) (slot : ℕ) → ((s : ℕ) → eqb s slot ≡ false → lists slots s ≡ true → lists fewer s ≡ true) → (own : List ℕ)
    → lists own slot ≡ false → list_all (lists slots) own ≡ true → list_all (lists fewer) own ≡ true
others_stored slots fewer slot stay [] apart stored = refl
others_stored slots fewer slot stay (s ∷ own) apart stored =
    let parts = neither (eqb s slot) (lists own slot) apart in
    let first = both (lists slots s) (list_all (lists slots) own) stored in
    ap (λ b. b && list_all (lists fewer) own) (stay s parts.0 first.0) ∙ others_stored slots fewer slot stay own parts.1 first.1

-- so what is left is stored
pub freed-stored : (slots fewer : List ℕ) (slot : ℕ) → ((s : ℕ) → eqb s slot ≡ false → lists slots s ≡ true → lists fewer s ≡ true) → (jobs : List Job)
    → are_stored slots jobs ≡ true → are_stored fewer (map (freed slot) jobs) ≡ true
freed-stored slots fewer slot stay [] stored = refl
freed-stored slots fewer slot stay (job ∷ jobs) stored =
    let parts = both (is_stored slots job) (are_stored slots jobs) stored in
    ap (λ b. b && are_stored fewer (map (freed slot) jobs)) (one (lists (slots_of job.standing) slot) refl parts.0)
    ∙ freed-stored slots fewer slot stay jobs parts.1
  where
    one : (b : Bool) → lists (slots_of job.standing) slot ≡ b → is_stored slots job ≡ true → is_stored fewer (cond b (idle_job job) job) ≡ true
    one true is held = refl
    one false is held = others_stored slots fewer slot stay (slots_of job.standing) is held

-- the request of the job is so
abbrev pub RequestIs : (Request → Type 0) → Job → Type 0
RequestIs P job = P job.request

-- jobs keep their requests
pub freed-kept : (P : Request → Type 0) (slot : ℕ) (jobs : List Job) → All (RequestIs P) jobs → All (RequestIs P) (map (freed slot) jobs)
freed-kept P slot jobs kept = All-map (RequestIs P) (freed slot) jobs (λ k d within. same (slice_index k d) (kept k d within))
  where
    slice_index : ℕ → Job → Job
    slice_index k d = get_or jobs k d

    same : (job : Job) → P job.request → P (freed slot job).request
    same job holds = by (lists (slots_of job.standing) slot)
      where
        by : (b : Bool) → P (cond b (idle_job job) job).request
        by true = holds
        by false = holds

-- ---- seen by names

pub standing-same : (old new : Stock) (slots : List ℕ) → ((slot : ℕ) → lists slots slot ≡ true → name_in new slot ≡ name_in old slot) → (standing : Stage)
    → list_all (lists slots) (slots_of standing) ≡ true → named_standing new standing ≡ named_standing old standing
standing-same old new slots same Stage.Idle stored = refl
standing-same old new slots same (Stage.Matched own) stored = ap JobStanding.matched (map-where (lists slots) (name_in new) (name_in old) own stored same)
standing-same old new slots same (Stage.Claimed own) stored = ap JobStanding.claimed (map-where (lists slots) (name_in new) (name_in old) own stored same)

queued-same : (old new : Stock) (job : Job) → named_standing new job.standing ≡ named_standing old job.standing → queued new job ≡ queued old job
queued-same old new job same = ap (λ standing. record (queued old job) { standing = standing }) same

-- jobs whose slots keep their names
pub queue-same : (old new : Stock) (jobs : List Job) → are_stored old.slots jobs ≡ true
    → ((slot : ℕ) → lists old.slots slot ≡ true → name_in new slot ≡ name_in old slot) → map (queued new) jobs ≡ map (queued old) jobs
queue-same old new jobs stored same =
    map-where (is_stored old.slots) (queued new) (queued old) jobs stored
    (λ job held. queued-same old new job (standing-same old new old.slots same job.standing held))

pub names-mapped : (stock : Stock) (standing : Stage) → names_of (named_standing stock standing) ≡ map (name_in stock) (slots_of standing)
names-mapped stock Stage.Idle = refl
names-mapped stock (Stage.Matched slots) = refl
names-mapped stock (Stage.Claimed slots) = refl
