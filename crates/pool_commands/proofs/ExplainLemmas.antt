-- A job that is explained, by its place in the table of jobs and by its name in the state.
use Rattle.std.proofs.Common.{◌≡◌, ◌∙◌, ap, sym, ℕ, zero, suc, ◌+◌, ◌++◌, add-one, take, ◌<◌, ◌≤◌, All, List, [], ◌∷◌, length, map, Option, None, Some}
use Rattle.std.proofs.Common.{option_map, slice_get, subst, refl, arith}
use Rattle.std.specs.Option.{option_and_then, option_map_or}
use Rattle.std.proofs.lemmas.List.Elements.{All-head, All-tail}
use Rattle.std.proofs.lemmas.Option.{none-some, same_Some}
use Rattle.ad_store.specs.Stock.{Advert, Stock}
use Rattle.ad_tree.specs.Ad.{ad_frames}
use Rattle.ad_tree.specs.Small.{IsSmall}
use Rattle.ad_tree.specs.declared.request.Port.{Port}
use Rattle.ad_tree.specs.declared.request.Request.{Request}
use Rattle.claim_table.specs.Jobs.{is_named, numbered}
use Rattle.claim_table.specs.Small.{AreSmallJobs}
use Rattle.claim_table.specs.declared.job.Job.{Job}
use Rattle.match_explain.specs.Counted.{evaluations_most}
use Rattle.match_explain.specs.Why.{explained}
use Rattle.pool_replies.specs.declared.refusal.Refusal.TheVariants as why
use Rattle.pool_replies.specs.declared.reply.Reply.TheVariants as reply
use Rattle.pool_books.specs.Books.{queued}
use Rattle.pool_books.specs.Claiming.{job_named}
use Rattle.pool_books.specs.Ports.{ports_in}
use Rattle.pool_books.specs.State.{QueuedJob}
use Rattle.pool_books.proofs.FailingLemmas.{job-seen}
use Rattle.pool_books.proofs.JobLemmas.{found-first}
use Rattle.pool_books.proofs.MatchedLemmas.{IsOwned}
use Rattle.pool_commands.specs.Explaining.{ad_names, explain, explain_job, explained_evaluations, job_evaluations}

-- a job that has this request
pub record Requests (jobs : List Job) (i : ℕ) (request : Request) : Type 0 where
  pub job : Job
  pub at : slice_get jobs i ≡ Some job
  pub request_is : job.request ≡ request

pub requests : (jobs : List Job) (i : ℕ) (request : Request) → option_map (λ (job : Job). job.request) (slice_get jobs i) ≡ Some request
    → Requests jobs i request
requests jobs i request is = by (slice_get jobs i) refl is
  where
    by : (o : Option Job) → slice_get jobs i ≡ o → option_map (λ (job : Job). job.request) o ≡ Some request → Requests jobs i request
    by None there is = absurd (none-some request is)
    by (Some job) there is = record { job = job; at = there; request_is = same_Some job.request request is }

-- what holds of all holds of the one at a place
pub at-place : (P : Job → Type 0) (jobs : List Job) (i : ℕ) (job : Job) → All P jobs → slice_get jobs i ≡ Some job → P job
at-place P [] i job each at = absurd (none-some job at)
at-place P (j ∷ jobs) zero job each at = subst P (same_Some j job at) (All-head P j jobs each)
at-place P (j ∷ jobs) (suc i) job each at = at-place P jobs i job (All-tail P j jobs each) at

-- no job has the name
pub nobody : (stock : Stock) (jobs : List Job) (name : List ℕ) → numbered name jobs ≡ None → job_named name (map (queued stock) jobs) ≡ None
nobody stock jobs name none =
    job-seen stock name jobs
    ∙ ap (option_map (queued stock)) (sym (found-first (is_named name) jobs) ∙ ap (option_and_then (λ i. slice_get jobs i)) none)

pub explain-unknown : (moment : ℕ) (ads : List Advert) (jobs : List QueuedJob) (name : List ℕ) → job_named name jobs ≡ None
    → explain moment ads jobs name ≡ reply.Refused why.UnknownName
explain-unknown moment ads jobs name none =
    ap (λ o. option_map_or (λ (job : QueuedJob). explain_job moment ads job (ports_in job.ad)) o (reply.Refused why.UnknownName)) none

module _ (stock : Stock) (jobs : List Job) (owned : All IsOwned jobs) (name : List ℕ) (i : ℕ) (number : numbered name jobs ≡ Some i) (request : Request)
    (there : option_map (λ (job : Job). job.request) (slice_get jobs i) ≡ Some request) where
  it : Requests jobs i request
  it = requests jobs i request there

  found : job_named name (map (queued stock) jobs) ≡ Some (queued stock it.job)
  found =
      job-seen stock name jobs
      ∙ ap (option_map (queued stock)) (sym (found-first (is_named name) jobs) ∙ ap (option_and_then (λ k. slice_get jobs k)) number ∙ it.at)

  -- the request's ports are those that the job's ad lists
  ports-are : ports_in (ad_frames it.job.request.ad) ≡ request.ports
  ports-are = sym (at-place IsOwned jobs i it.job owned it.at) ∙ ap (λ (r : Request). r.ports) it.request_is

  explain-is : (moment : ℕ) → explain moment stock.ads (map (queued stock) jobs) name ≡ explain_job moment stock.ads (queued stock it.job) request.ports
  explain-is moment =
      ap (λ o. option_map_or (λ (job : QueuedJob). explain_job moment stock.ads job (ports_in job.ad)) o (reply.Refused why.UnknownName)) found
      ∙ ap (explain_job moment stock.ads (queued stock it.job)) ports-are

  pub explain-gang : (moment : ℕ) → 0 < length request.ports → explain moment stock.ads (map (queued stock) jobs) name ≡ reply.Refused why.GangJob
  explain-gang moment some = explain-is moment ∙ by request.ports some
    where
      by : (ports : List Port) → 0 < length ports → explain_job moment stock.ads (queued stock it.job) ports ≡ reply.Refused why.GangJob
      by [] some = absurd (omega (arith, some))
      by (port ∷ ports) some = refl

  pub explain-single : (moment : ℕ) (called : List ℕ) → request.ports ≡ [] → option_map (λ (job : Job). job.name) (slice_get jobs i) ≡ Some called
      → explain moment stock.ads (map (queued stock) jobs) name ≡ reply.Why called (ad_names stock.ads) (explained moment (ad_frames request.ad) stock.ads)
  explain-single moment called single names =
      explain-is moment
      ∙ ap (explain_job moment stock.ads (queued stock it.job)) single
      ∙ (λ k. reply.Why (named k) (ad_names stock.ads) (explained moment (ad_frames (it.request_is k).ad) stock.ads))
    where
      same : ◌≡◌ {A = Option (List ℕ)} (Some it.job.name) (Some called)
      same = sym (ap (option_map (λ (job : Job). job.name)) it.at) ∙ names

      named : it.job.name ≡ called
      named = same_Some it.job.name called same

  pub evaluations-single : request.ports ≡ []
      → explained_evaluations stock.ads (map (queued stock) jobs) name ≡ evaluations_most (ad_frames request.ad) stock.ads
  evaluations-single single =
      ap (λ o. option_map_or (λ (job : QueuedJob). job_evaluations stock.ads job (ports_in job.ad)) o 0) found
      ∙ ap (job_evaluations stock.ads (queued stock it.job)) (ports-are ∙ single)
      ∙ ap (λ (r : Request). evaluations_most (ad_frames r.ad) stock.ads) it.request_is

  pub small-request : AreSmallJobs jobs → IsSmall (ad_frames request.ad)
  small-request small =
      subst (λ (r : Request). IsSmall (ad_frames r.ad)) it.request_is (at-place (λ (job : Job). IsSmall (ad_frames job.request.ad)) jobs i it.job small it.at)

-- no ports, where there are no more than none
pub no-ports : (ports : List Port) (n : ℕ) → n ≡ length ports → n ≤ 0 → ports ≡ []
no-ports [] n is none = refl
no-ports (port ∷ ports) n is none = absurd (omega (arith, is, none))

-- ---- names

names-suc : (ads : List Advert) (i : ℕ) (name : List ℕ) → option_map (λ (a : Advert). a.name) (slice_get ads i) ≡ Some name
    → ad_names (take i ads) ++ name ∷ [] ≡ ad_names (take (suc i) ads)
names-suc [] i name is = absurd (cc)
names-suc (a ∷ ads) zero name is = let same : a.name ≡ name = cc in ap (λ (n : List ℕ). n ∷ []) (sym same)
names-suc (a ∷ ads) (suc i) name is = ap (λ rest. a.name ∷ rest) (names-suc ads i name is)

-- one name more
pub names-next : (ads : List Advert) (i : ℕ) (name : List ℕ) (old new : List (List ℕ)) → option_map (λ (a : Advert). a.name) (slice_get ads i) ≡ Some name
    → old ≡ ad_names (take i ads) → new ≡ old ++ name ∷ [] → new ≡ ad_names (take (i + 1) ads)
names-next ads i name old new is so_far added = rw (add-one i) (added ∙ ap (λ names. names ++ name ∷ []) so_far ∙ names-suc ads i name is)
