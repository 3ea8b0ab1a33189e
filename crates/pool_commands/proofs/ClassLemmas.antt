-- The classes of a state, by the keys of the classes and by the names in them.
use Rattle.std.proofs.Common.{◌≡◌, ◌∙◌, ap, sym, refl, cond, Bool, true, false, ℕ, zero, suc, ◌+◌, ◌<◌, ◌≤◌, add-one, All, List, [], ◌∷◌, ◌++◌, length, map}
use Rattle.std.proofs.Common.{take, Option, None, Some, option_map, slice_get, arith}
use Rattle.std.proofs.lemmas.List.{length-map, take_all}
use Rattle.std.proofs.lemmas.Option.{none-some, same_Some, slice_get-map}
use Rattle.ad_store.specs.Stock.{Advert, Stock}
use Rattle.ad_tree.specs.Ad.{ad_frames}
use Rattle.ad_tree.specs.Frames.{Frame}
use Rattle.ad_tree.specs.declared.request.Port.{Port}
use Rattle.ad_tree.specs.declared.request.Request.{Request}
use Rattle.claim_table.specs.declared.job.Job.{Job}
use Rattle.job_classes.specs.Classes.{has_key, joined, number_of}
use Rattle.job_classes.specs.Keys.{Entry, key_of}
use Rattle.significant_attrs.specs.Shown.{ads_in}
use Rattle.pool_replies.specs.Classes.{with_member}
use Rattle.pool_books.specs.Books.{queued}
use Rattle.pool_books.specs.State.{QueuedJob}
use Rattle.pool_books.proofs.MatchedLemmas.{IsOwned}
use Rattle.pool_commands.specs.Classing.{Class, class_names, job_key, request_key, with_job, with_jobs}
use Rattle.pool_commands.specs.Keyed.{class_keys, keys_with, number_for}
use Rattle.pool_commands.proofs.ExplainLemmas.{Requests, at-place, requests}

-- ---- one job more

pub keys-with_job : (own : Option (List Entry)) (name : List ℕ) (cs : List Class) → class_keys (with_job own name cs) ≡ keys_with own (class_keys cs)
keys-with_job None name [] = refl
keys-with_job None name (c ∷ cs) = ap (λ keys. c.key ∷ keys) (keys-with_job None name cs)
keys-with_job (Some key) name [] = refl
keys-with_job (Some key) name (c ∷ cs) = by (has_key key c.key) (keys-with_job (Some key) name cs)
  where
    by : (b : Bool) → class_keys (with_job (Some key) name cs) ≡ joined key (class_keys cs)
        → class_keys (cond b (record { key = c.key; names = c.names ++ name ∷ [] } ∷ cs) (c ∷ with_job (Some key) name cs))
        ≡ cond b (c.key ∷ class_keys cs) (c.key ∷ joined key (class_keys cs))
    by true rest = refl
    by false rest = ap (λ keys. c.key ∷ keys) rest

pub names-with_job : (own : Option (List Entry)) (name : List ℕ) (cs : List Class)
    → class_names (with_job own name cs) ≡ with_member (number_for own (class_keys cs)) name (class_names cs)
names-with_job None name [] = refl
names-with_job None name (c ∷ cs) = ap (λ lists. c.names ∷ lists) (names-with_job None name cs)
names-with_job (Some key) name [] = refl
names-with_job (Some key) name (c ∷ cs) = by (has_key key c.key) (names-with_job (Some key) name cs)
  where
    by : (b : Bool) → class_names (with_job (Some key) name cs) ≡ with_member (number_of key (class_keys cs)) name (class_names cs)
        → class_names (cond b (record { key = c.key; names = c.names ++ name ∷ [] } ∷ cs) (c ∷ with_job (Some key) name cs))
        ≡ with_member (cond b 0 (suc (number_of key (class_keys cs)))) name (c.names ∷ class_names cs)
    by true rest = refl
    by false rest = ap (λ lists. c.names ∷ lists) rest

with_jobs-next : (ads : List Advert) (cs : List Class) (jobs : List QueuedJob) (i : ℕ) (job : QueuedJob) → slice_get jobs i ≡ Some job
    → with_jobs ads cs (take (suc i) jobs) ≡ with_job (job_key ads job) job.name (with_jobs ads cs (take i jobs))
with_jobs-next ads cs [] i job at = absurd (none-some job at)
with_jobs-next ads cs (j ∷ jobs) zero job at = ap (λ (q : QueuedJob). with_job (job_key ads q) q.name cs) (same_Some j job at)
with_jobs-next ads cs (j ∷ jobs) (suc i) job at = with_jobs-next ads (with_job (job_key ads j) j.name cs) jobs i job at

-- ---- the jobs of the table in turn

-- the classes of the first jobs
abbrev pub classes_of_first : List Advert → Stock → List Job → ℕ → List Class
classes_of_first ads stock jobs i = with_jobs ads [] (take i (map (queued stock) jobs))

-- all jobs have had their turn
pub classes-of_all : (ads : List Advert) (stock : Stock) (jobs : List Job) (i : ℕ) → length jobs ≤ i
    → classes_of_first ads stock jobs i ≡ with_jobs ads [] (map (queued stock) jobs)
classes-of_all ads stock jobs i low = ap (with_jobs ads []) (take_all i (map (queued stock) jobs) (omega (arith, low, length-map jobs (queued stock))))

module _ (ads : List Advert) (stock : Stock) (jobs : List Job) (owned : All IsOwned jobs) (i : ℕ) (request : Request)
    (there : option_map (λ (job : Job). job.request) (slice_get jobs i) ≡ Some request) (name : List ℕ)
    (named : option_map (λ (job : Job). job.name) (slice_get jobs i) ≡ Some name) where
  abbrev own : Option (List Entry)
  own = request_key ads (ad_frames request.ad) request.ports

  it : Requests jobs i request
  it = requests jobs i request there

  called : ◌≡◌ {A = Option (List ℕ)} (Some it.job.name) (Some name)
  called = sym (ap (option_map (λ (job : Job). job.name)) it.at) ∙ named

  key-is : job_key ads (queued stock it.job) ≡ own
  key-is =
      ap (request_key ads (ad_frames it.job.request.ad)) (sym (at-place IsOwned jobs i it.job owned it.at))
      ∙ ap (λ (r : Request). request_key ads (ad_frames r.ad) r.ports) it.request_is

  next : classes_of_first ads stock jobs (i + 1) ≡ with_job own name (classes_of_first ads stock jobs i)
  next =
      rw (add-one i)
      (with_jobs-next ads [] (map (queued stock) jobs) i (queued stock it.job) (slice_get-map (queued stock) jobs i ∙ ap (option_map (queued stock)) it.at)
      ∙ (λ k. with_job (key-is k) (same_Some it.job.name name called k) (classes_of_first ads stock jobs i)))

  pub class_keys-next : (old new : List (Option (List Entry))) → old ≡ class_keys (classes_of_first ads stock jobs i) → new ≡ keys_with own old
      → new ≡ class_keys (classes_of_first ads stock jobs (i + 1))
  class_keys-next old new so_far is =
      is ∙ ap (keys_with own) so_far ∙ sym (keys-with_job own name (classes_of_first ads stock jobs i)) ∙ ap class_keys (sym next)

  pub class_names-next : (keys : List (Option (List Entry))) (number : ℕ) (old new : List (List (List ℕ)))
      → keys ≡ class_keys (classes_of_first ads stock jobs i) → old ≡ class_names (classes_of_first ads stock jobs i)
      → number ≡ number_for own keys → new ≡ with_member number name old → new ≡ class_names (classes_of_first ads stock jobs (i + 1))
  class_names-next keys number old new keyed so_far at is =
      is ∙ ap (λ n. with_member n name old) (at ∙ ap (number_for own) keyed)
      ∙ ap (with_member (number_for own (class_keys (classes_of_first ads stock jobs i))) name) so_far
      ∙ sym (names-with_job own name (classes_of_first ads stock jobs i)) ∙ ap class_names (sym next)

-- ---- the key of a request, by how many ports it has

pub gang-key : (ads : List Advert) (request : List Frame) (ports : List Port) → 0 < length ports → request_key ads request ports ≡ None
gang-key ads request [] some = absurd (omega (arith, some))
gang-key ads request (port ∷ ports) some = refl

pub single-key : (ads : List Advert) (request : List Frame) (ports : List Port) → ports ≡ []
    → request_key ads request ports ≡ Some (key_of (ads_in ads) request)
single-key ads request ports none = ap (request_key ads request) none
