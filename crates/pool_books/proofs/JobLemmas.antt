-- The jobs of a state behind the changes of a table.
use Rattle.std.proofs.Common.{◌≡◌, ℕ, suc, All, Bool, true, false, not, ◌||◌, cond, eqb, List, [], ◌∷◌, filter, find, length, map, position, slice_get, Option}
use Rattle.std.proofs.Common.{None, Some, option_map, is_some, Result, Ok, Err, OnErr, OnOk, bytes_eq, refl, sym, ◌∙◌, ap, subst}
use Rattle.std.specs.List.{list_any}
use Rattle.std.specs.Option.{option_and_then, option_map_or}
use Rattle.std.specs.Result.{is_ok}
use Rattle.std.specs.Cmp.Lexicographic.{bytes_decides}
use Rattle.ad_tree.specs.declared.request.Request.{Request}
use Rattle.ad_store.specs.Answers.{is_added, slots_put}
use Rattle.ad_store.specs.declared.answers.Put.{Put}
use Rattle.ad_store.specs.Stock.{Advert, Stock, has, is_named as is_advert, placed, slot_beside, slots_without, without}
use Rattle.ad_store.proofs.HeldLemmas.{both, neither}
use Rattle.claim_table.specs.declared.job.Job.{Job}
use Rattle.claim_table.specs.declared.job.Stage.{Stage}
use Rattle.claim_table.specs.Answers.{without_at}
use Rattle.claim_table.specs.Jobs.{AreNamedApart, is_named, job_named, lists, numbered, slots_of}
use Rattle.claim_table.proofs.ListLemmas.{All-remove}
use Rattle.pool_books.specs.Books.{name_in, named_standing, queued}
use Rattle.pool_books.specs.Queue.{has_job, is_job, names_of, without_job, without_resources}
use Rattle.pool_books.specs.State.{JobStanding, idle}
use Rattle.pool_books.specs.Stored.{are_stored, is_stored}
use Rattle.pool_books.proofs.NameLemmas.{AreBeside, beside-is, beside-put, beside-without, listed-named, lists-put, lists-without, named_beside}
use Rattle.pool_books.proofs.QueueLemmas.{AtMostOne, RequestIs, all_kept, all_more, any-map, filter-map, freed, idle_job, names-mapped, once_behind}
use Rattle.pool_books.proofs.QueueLemmas.{none_behind, position-cons, queue-same}

-- ---- an ad that is put

module _ (put : Put) (advert : Advert) (old new : Stock) (long : length old.ads ≡ length old.slots) (ads : new.ads ≡ placed advert old.ads)
    (slots : new.slots ≡ slots_put put old.slots) (added : is_added put ≡ not (has advert.name old.ads)) where
  pub names-put : (slot : ℕ) → lists old.slots slot ≡ true → name_in new slot ≡ name_in old slot
  names-put slot listed =
      beside-is new.ads new.slots slot
      ∙ (λ i. named_beside (ads i) (slots i) slot)
      ∙ beside-put put advert old.ads old.slots slot long added listed
      ∙ sym (beside-is old.ads old.slots slot)

  -- the jobs stay as they are
  pub queue-put : (jobs : List Job) → are_stored old.slots jobs ≡ true → map (queued new) jobs ≡ map (queued old) jobs
  queue-put jobs stored = queue-same old new jobs stored names-put

  pub stored-put : (jobs : List Job) → are_stored old.slots jobs ≡ true → are_stored new.slots jobs ≡ true
  stored-put jobs stored =
      all_more (is_stored old.slots) (is_stored new.slots) jobs
      (λ job held. all_more (lists old.slots) (lists new.slots) (slots_of job.standing)
      (λ slot listed. ap (λ l. lists l slot) slots ∙ lists-put put old.slots slot listed) held) stored

-- ---- a resource that leaves

module _ (name : List ℕ) (old new : Stock) (beside : AreBeside old.ads old.slots) (slot place : ℕ) (advert : Advert)
    (at : slice_get old.ads place ≡ Some advert) (slot_at : slice_get old.slots place ≡ Some slot) (called : advert.name ≡ name)
    (found : slot_beside (is_advert name) old.ads old.slots ≡ Some slot) (ads : new.ads ≡ without name old.ads)
    (slots : new.slots ≡ slots_without name old.ads old.slots) where
  names-without : (other : ℕ) → eqb other slot ≡ false → name_in new other ≡ name_in old other
  names-without other apart =
      beside-is new.ads new.slots other
      ∙ (λ i. named_beside (ads i) (slots i) other)
      ∙ beside-without name old.ads old.slots slot other found apart
      ∙ sym (beside-is old.ads old.slots other)

  pub stays : (other : ℕ) → eqb other slot ≡ false → lists old.slots other ≡ true → lists new.slots other ≡ true
  stays other apart listed = ap (λ l. lists l other) slots ∙ lists-without name old.ads old.slots slot other found apart listed

  -- the slots of a job that doesn't list it
  others_named : (own : List ℕ) → lists own slot ≡ false → map (name_in new) own ≡ map (name_in old) own
  others_named [] apart = refl
  others_named (s ∷ own) apart =
      let parts = neither (eqb s slot) (lists own slot) apart in
      ap (λ n. n ∷ map (name_in new) own) (names-without s parts.0) ∙ ap (λ l. name_in old s ∷ l) (others_named own parts.1)

  other_standing : (standing : Stage) → lists (slots_of standing) slot ≡ false → named_standing new standing ≡ named_standing old standing
  other_standing Stage.Idle apart = refl
  other_standing (Stage.Matched own) apart = ap JobStanding.matched (others_named own apart)
  other_standing (Stage.Claimed own) apart = ap JobStanding.claimed (others_named own apart)

  one_freed : (job : Job) → is_stored old.slots job ≡ true
      → queued new (freed slot job) ≡ cond (list_any (bytes_eq name) (names_of (named_standing old job.standing))) (record (queued old job)
      { standing = idle }) (queued old job)
  one_freed job stored =
      by (lists (slots_of job.standing) slot) refl
      ∙ sym (ap (λ b. cond b (record (queued old job) { standing = idle }) (queued old job)) listed)
    where
      listed : list_any (bytes_eq name) (names_of (named_standing old job.standing)) ≡ lists (slots_of job.standing) slot
      listed =
          ap (list_any (bytes_eq name)) (names-mapped old job.standing)
          ∙ ap (λ n. list_any (bytes_eq n) (map (name_in old) (slots_of job.standing))) (sym called)
          ∙ listed-named old.ads old.slots beside place advert slot at slot_at (slots_of job.standing) stored

      by : (b : Bool) → lists (slots_of job.standing) slot ≡ b
          → queued new (cond b (idle_job job) job) ≡ cond b (record (queued old job) { standing = idle }) (queued old job)
      by true is = refl
      by false is = ap (λ standing. record (queued old job) { standing = standing }) (other_standing job.standing is)

  -- the jobs that have it are idle, and the others stay as they are
  pub queue-freed : (jobs : List Job) → are_stored old.slots jobs ≡ true
      → map (queued new) (map (freed slot) jobs) ≡ without_resources (bytes_eq name) (map (queued old) jobs)
  queue-freed [] stored = refl
  queue-freed (job ∷ jobs) stored =
      let parts = both (is_stored old.slots job) (are_stored old.slots jobs) stored in
      ap (λ j. j ∷ map (queued new) (map (freed slot) jobs)) (one_freed job parts.0)
      ∙ ap (λ l. cond (list_any (bytes_eq name) (names_of (named_standing old job.standing))) (record (queued old job) { standing = idle }) (queued old job)
      ∷ l) (queue-freed jobs parts.1)

-- ---- a job that leaves

-- no two jobs of one name
pub named_once : (name : List ℕ) (jobs : List Job) → AreNamedApart jobs → AtMostOne (is_named name) jobs
named_once name jobs apart = λ i j a b at_i at_j named_a named_b.
    let same : a.name ≡ b.name = sym ((bytes_decides name a.name).0 named_a) ∙ (bytes_decides name b.name).0 named_b in
    let one : ◌≡◌ {A = Option ℕ} (Some i) (Some j) = sym (apart i a at_i) ∙ ap (λ n. numbered n jobs) same ∙ apart j b at_j in
    cc

without_at-next : (o : Option ℕ) (x : Job) (xs : List Job) → without_at (option_map suc o) (x ∷ xs) ≡ x ∷ without_at o xs
without_at-next None x xs = refl
without_at-next (Some i) x xs = refl

none_dropped : (test : Job → Bool) (xs : List Job) → ((j : ℕ) (b : Job) → slice_get xs j ≡ Some b → test b ≡ false) → filter (λ job. not (test job)) xs ≡ xs
none_dropped test [] none = refl
none_dropped test (x ∷ xs) none =
    ap (λ b. cond (not b) (x ∷ filter (λ job. not (test job)) xs) (filter (λ job. not (test job)) xs)) (none 0 x refl)
    ∙ ap (λ l. x ∷ l) (none_dropped test xs (λ j b at. none (suc j) b at))

pub without_at-filter : (test : Job → Bool) (jobs : List Job) → AtMostOne test jobs → without_at (position test jobs) jobs ≡ filter (λ job. not (test job)) jobs
without_at-filter test [] once = refl
without_at-filter test (x ∷ xs) once =
    ap (λ o. without_at o (x ∷ xs)) (position-cons test x xs) ∙ by (test x) refl (without_at-filter test xs (once_behind test x xs once))
  where
    by : (b : Bool) → test x ≡ b → without_at (position test xs) xs ≡ filter (λ job. not (test job)) xs
        → without_at (cond b (Some 0) (option_map suc (position test xs))) (x ∷ xs)
        ≡ cond (not b) (x ∷ filter (λ job. not (test job)) xs) (filter (λ job. not (test job)) xs)
    by true is rest = sym (none_dropped test xs (none_behind test x xs once is))
    by false is rest = without_at-next (position test xs) x xs ∙ ap (λ l. x ∷ l) rest

pub queue-without : (stock : Stock) (name : List ℕ) (jobs : List Job) → AreNamedApart jobs
    → map (queued stock) (without_at (numbered name jobs) jobs) ≡ without_job name (map (queued stock) jobs)
queue-without stock name jobs apart =
    ap (map (queued stock)) (without_at-filter (is_named name) jobs (named_once name jobs apart))
    ∙ sym (filter-map (λ job. not (is_job name job)) (queued stock) jobs)

pub stored-without : (slots : List ℕ) (name : List ℕ) (jobs : List Job) → AreNamedApart jobs → are_stored slots jobs ≡ true
    → are_stored slots (without_at (numbered name jobs) jobs) ≡ true
stored-without slots name jobs apart stored =
    ap (are_stored slots) (without_at-filter (is_named name) jobs (named_once name jobs apart))
    ∙ all_kept (is_stored slots) (λ job. not (is_named name job)) jobs stored

pub kept-without : (P : Request → Type 0) (o : Option ℕ) (jobs : List Job) → All (RequestIs P) jobs → All (RequestIs P) (without_at o jobs)
kept-without P None jobs kept = kept
kept-without P (Some i) jobs kept = All-remove (RequestIs P) jobs i kept

-- ---- a change that may fail

-- what is so of the jobs before it and after it, is so of those that are left
pub either-way : {T E : Type 0} (P : List Job → Type 0) (r : Result T E) (jobs done later : List Job) → OnOk r (later ≡ done) → OnErr r (later ≡ jobs) → P done
    → P jobs → P later
either-way P (Ok x) jobs done later ok err after before = subst P (sym ok) after
either-way P (Err e) jobs done later ok err after before = subst P (sym err) before

-- ---- the job of a name

pub has-queued : (stock : Stock) (name : List ℕ) (jobs : List Job) → has_job name (map (queued stock) jobs) ≡ list_any (is_named name) jobs
has-queued stock name jobs = any-map (is_job name) (queued stock) jobs

found_next : {A : Type 0} (o : Option ℕ) (x : A) (xs : List A)
    → option_and_then (λ i. slice_get (x ∷ xs) i) (option_map suc o) ≡ option_and_then (λ i. slice_get xs i) o
found_next None x xs = refl
found_next (Some i) x xs = refl

-- the job at the first place that passes is the first job that passes
pub found-first : {A : Type 0} (test : A → Bool) (xs : List A) → option_and_then (λ i. slice_get xs i) (position test xs) ≡ find test xs
found-first test [] = refl
found-first test (x ∷ xs) = ap (option_and_then (λ i. slice_get (x ∷ xs) i)) (position-cons test x xs) ∙ by (test x) (found-first test xs)
  where
    by : (b : Bool) → option_and_then (λ i. slice_get xs i) (position test xs) ≡ find test xs
        → option_and_then (λ i. slice_get (x ∷ xs) i) (cond b (Some 0) (option_map suc (position test xs))) ≡ cond b (Some x) (find test xs)
    by true rest = refl
    by false rest = found_next (position test xs) x xs ∙ rest

pub found-any : {A : Type 0} (test : A → Bool) (xs : List A) → is_some (find test xs) ≡ list_any test xs
found-any test [] = refl
found-any test (x ∷ xs) = by (test x) (found-any test xs)
  where
    by : (b : Bool) → is_some (find test xs) ≡ list_any test xs → is_some (cond b (Some x) (find test xs)) ≡ (b || list_any test xs)
    by true rest = refl
    by false rest = rest

-- an answer that is Ok where there is the job
answered : {A B E : Type 0} (f : A → Result B E) (e : E) → ((x : A) → is_ok (f x) ≡ true) → (o : Option A) → is_ok (option_map_or f o (Err e)) ≡ is_some o
answered f e ok None = refl
answered f e ok (Some x) = ok x

pub removed : {B E : Type 0} (f : Job → Result B E) (e : E) → ((job : Job) → is_ok (f job) ≡ true)
    → (name : List ℕ) (stock : Stock) (jobs : List Job) (result : Result B E) → result ≡ option_map_or f (job_named name jobs) (Err e)
    → is_ok result ≡ has_job name (map (queued stock) jobs)
removed f e ok name stock jobs result is =
    ap is_ok is ∙ answered f e ok (job_named name jobs) ∙ ap is_some (found-first (is_named name) jobs) ∙ found-any (is_named name) jobs
    ∙ sym (has-queued stock name jobs)
