-- The jobs once one of them has another standing, by its number and by its name.
use Rattle.std.proofs.Common.{◌≡◌, ℕ, zero, suc, Bool, true, false, bytes_eq, cond, List, [], ◌∷◌, map, position, slice_get, slice_set, Option, None, Some}
use Rattle.std.proofs.Common.{refl, sym, ◌∙◌, ap}
use Rattle.std.specs.Option.{option_map_or}
use Rattle.std.proofs.lemmas.Option.{none-some, same_Some}
use Rattle.ad_store.specs.Stock.{Stock}
use Rattle.claim_table.specs.Jobs.{AreNamedApart, idle_at, is_named, numbered, with_standing}
use Rattle.claim_table.specs.declared.job.Job.{Job}
use Rattle.claim_table.specs.declared.job.Stage.{Stage}
use Rattle.claim_table.proofs.ListLemmas.{map-set_same, position-map}
use Rattle.claim_table.specs.Claims as claims
use Rattle.pool_books.specs.Books.{named_standing, queued}
use Rattle.pool_books.specs.Claiming as seen
use Rattle.pool_books.specs.State.{JobStanding}
use Rattle.pool_books.proofs.JobLemmas.{named_once}
use Rattle.pool_books.proofs.MatchedLemmas.{standing_next}
use Rattle.pool_books.proofs.QueueLemmas.{AtMostOne, none_behind, once_behind}

-- ---- the job of a name with another standing

never_next : {A : Type 0} (i : ℕ) → 0 ≡ suc i → A
never_next i clash = absurd (cc)

none_restood : (stock : Stock) (name : List ℕ) (standing : JobStanding) (jobs : List Job)
    → ((j : ℕ) (b : Job) → slice_get jobs j ≡ Some b → is_named name b ≡ false) → map (queued stock) jobs ≡ seen.restood name standing (map (queued stock) jobs)
none_restood stock name standing [] none = refl
none_restood stock name standing (x ∷ xs) none =
    ap (λ b. cond b (record (queued stock x) { standing = standing }) (queued stock x) ∷ map (queued stock) xs) (sym (none 0 x refl))
    ∙ ap (λ l. cond (is_named name x) (record (queued stock x) { standing = standing }) (queued stock x) ∷ l)
    (none_restood stock name standing xs (λ j b at. none (suc j) b at))

restood_where : (stock : Stock) (name : List ℕ) (standing : Stage) (jobs : List Job) (i : ℕ) (job : Job) → slice_get jobs i ≡ Some job
    → is_named name job ≡ true → AtMostOne (is_named name) jobs
    → map (queued stock) (with_standing jobs i standing) ≡ seen.restood name (named_standing stock standing) (map (queued stock) jobs)
restood_where stock name standing [] i job at named once = absurd (none-some job at)
restood_where stock name standing (x ∷ xs) zero job at named once =
    let same : x ≡ job = same_Some x job at in
    let here : is_named name x ≡ true = ap (is_named name) same ∙ named in
    ap (λ b. cond b (record (queued stock x) { standing = named_standing stock standing }) (queued stock x) ∷ map (queued stock) xs) (sym here)
    ∙ ap (λ l. cond (is_named name x) (record (queued stock x) { standing = named_standing stock standing }) (queued stock x) ∷ l)
    (none_restood stock name (named_standing stock standing) xs (none_behind (is_named name) x xs once here))
restood_where stock name standing (x ∷ xs) (suc i) job at named once =
    ap (map (queued stock)) (standing_next (slice_get xs i) x xs i standing)
    ∙ ap (λ b. cond b (record (queued stock x) { standing = named_standing stock standing }) (queued stock x)
    ∷ map (queued stock) (with_standing xs i standing)) (sym (other (is_named name x) refl))
    ∙ ap (λ l. cond (is_named name x) (record (queued stock x) { standing = named_standing stock standing }) (queued stock x) ∷ l)
    (restood_where stock name standing xs i job at named (once_behind (is_named name) x xs once))
  where
    other : (b : Bool) → is_named name x ≡ b → b ≡ false
    other true is = never_next i (once 0 (suc i) x job refl at is named)
    other false is = refl

pub restood-seen : (stock : Stock) (name : List ℕ) (standing : Stage) (jobs : List Job) (i : ℕ) (job : Job) → AreNamedApart jobs → slice_get jobs i ≡ Some job
    → is_named name job ≡ true
    → map (queued stock) (with_standing jobs i standing) ≡ seen.restood name (named_standing stock standing) (map (queued stock) jobs)
restood-seen stock name standing jobs i job apart at named = restood_where stock name standing jobs i job at named (named_once name jobs apart)

-- ---- the names of jobs that are made idle

abbrev names : List Job → List (List ℕ)
names jobs = map (λ (job : Job). job.name) jobs

names-standing : (jobs : List Job) (i : ℕ) (standing : Stage) → names (with_standing jobs i standing) ≡ names jobs
names-standing jobs i standing = by (slice_get jobs i) refl
  where
    by : (o : Option Job) → slice_get jobs i ≡ o → names (option_map_or (λ job. slice_set jobs i (record job { standing = standing })) o jobs) ≡ names jobs
    by None at = refl
    by (Some job) at = map-set_same (λ (j : Job). j.name) jobs i job (record job { standing = standing }) at refl

names-idle : (jobs : List Job) (ks : List ℕ) → names (claims.all_idle jobs ks) ≡ names jobs
names-idle jobs [] = refl
names-idle jobs (k ∷ ks) = names-idle (idle_at (Some k) jobs) ks ∙ names-standing jobs k Stage.Idle

-- the name at a number
record At (jobs : List Job) (i : ℕ) (name : List ℕ) : Type 0 where
  pub job : Job
  pub at : slice_get jobs i ≡ Some job
  pub called : job.name ≡ name

at-names : (jobs : List Job) (i : ℕ) (name : List ℕ) → slice_get (names jobs) i ≡ Some name → At jobs i name
at-names [] i name at = absurd (none-some name at)
at-names (x ∷ xs) zero name at = record { job = x; at = refl; called = same_Some x.name name at }
at-names (x ∷ xs) (suc i) name at = let rest = at-names xs i name at in record { job = rest.job; at = rest.at; called = rest.called }

names-at : (jobs : List Job) (i : ℕ) (job : Job) → slice_get jobs i ≡ Some job → slice_get (names jobs) i ≡ Some job.name
names-at [] i job at = absurd (none-some job at)
names-at (x ∷ xs) zero job at = let same : x ≡ job = same_Some x job at in ap (λ (j : Job). Some j.name) same
names-at (x ∷ xs) (suc i) job at = names-at xs i job at

numbered-names : (name : List ℕ) (jobs later : List Job) → names later ≡ names jobs → numbered name later ≡ numbered name jobs
numbered-names name jobs later same =
    sym (position-map (bytes_eq name) (λ (j : Job). j.name) later) ∙ ap (position (bytes_eq name)) same
    ∙ position-map (bytes_eq name) (λ (j : Job). j.name) jobs

apart-names : (jobs later : List Job) → names later ≡ names jobs → AreNamedApart jobs → AreNamedApart later
apart-names jobs later same apart = λ i job at.
    let there = at-names jobs i job.name (ap (λ l. slice_get l i) (sym same) ∙ names-at later i job at) in
    numbered-names job.name jobs later same ∙ ap (λ n. numbered n jobs) (sym there.called) ∙ apart i there.job there.at

-- a job gains what is offered to it, once others are idle
pub granted-seen : (stock : Stock) (name : List ℕ) (standing : Stage) (jobs : List Job) (ks : List ℕ) (i : ℕ) (job : Job) → AreNamedApart jobs
    → slice_get jobs i ≡ Some job → is_named name job ≡ true
    → map (queued stock) (with_standing (claims.all_idle jobs ks) i standing)
    ≡ seen.restood name (named_standing stock standing) (map (queued stock) (claims.all_idle jobs ks))
granted-seen stock name standing jobs ks i job apart at named =
    restood-seen stock name standing (claims.all_idle jobs ks) i there.job (apart-names jobs (claims.all_idle jobs ks) (names-idle jobs ks) apart) there.at
    (ap (bytes_eq name) there.called ∙ named)
  where
    there : At (claims.all_idle jobs ks) i job.name
    there = at-names (claims.all_idle jobs ks) i job.name (ap (λ l. slice_get l i) (names-idle jobs ks) ∙ names-at jobs i job at)
