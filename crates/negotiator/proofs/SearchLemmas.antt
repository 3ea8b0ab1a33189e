-- A job by its place and by its name, and what a search for it gives.
use Rattle.std.proofs.Common.{◌≡◌, ◌≢◌, ◌<◌, ◌≤◌, ◌+◌, ◌*◌, ℕ, Bool, true, false, AllPairs, List, [], ◌∷◌, length, map}
use Rattle.std.proofs.Common.{max, slice_get, Option, None, Some, is_some, refl, ap, sym, ◌∙◌, subst, arith}
use Rattle.std.specs.Prelude.{IfSome, option_and_then, option_map}
use Rattle.std.specs.Option.{option_map_or}
use Rattle.std.proofs.Math.Nat.{max-eq_right}
use Rattle.std.proofs.lemmas.List.Elements.{All-cons, All-nil}
use Rattle.std.proofs.lemmas.Option.{none-some, same_Some}
use Rattle.ad_tree.specs.Ad.{ad_frames}
use Rattle.ad_tree.specs.Frames.{Frame}
use Rattle.ad_tree.specs.declared.request.Port.{Port}
use Rattle.ad_tree.specs.declared.request.Request.{Request}
use Rattle.ad_store.specs.Stock.{Stock}
use Rattle.ad_candidates.specs.Counts.{least_left}
use Rattle.dock_match.specs.Pool.{Pool, slot_at}
use Rattle.bilateral_match.specs.Counts.{entered_for, open_count}
use Rattle.bilateral_match.specs.Members.{best_slot}
use Rattle.claim_table.specs.declared.answers.JobState.{JobState}
use Rattle.claim_table.specs.declared.job.Job.{Job}
use Rattle.claim_table.specs.declared.job.Stage.{Stage}
use Rattle.claim_table.specs.Jobs.{AreFree, offered_to, state_of, wanted}
use Rattle.claim_table.specs.Priorities.{Setting, priority_of}
use Rattle.conjunct_plan.specs.Tests.{tests_of}
use Rattle.gang_ports.specs.Gangs.{attributes_open, docks_open, gang, looks_most}
use Rattle.job_clusters.specs.Pools.{pool_for}
use Rattle.negotiator.specs.declared.answers.Offered.{Offered}
use Rattle.negotiator.specs.Budget.{entries_by, entries_for, evaluations_by, evaluations_for, is_idle_at, looks_by, looks_for, price_at}
use Rattle.negotiator.specs.Markets.{found, found_by, found_for, is_idle, name_at, offer_named}
use Rattle.negotiator.proofs.GangLemmas.{not-some}

abbrev pub is_idle_state : JobState → Bool
is_idle_state JobState.Idle = true
is_idle_state other = false

-- the job at a place is idle where its state says so
pub idle-is : (jobs : List Job) (i : ℕ) (stage : Stage) (state : JobState) → option_map (λ (job : Job). job.standing) (slice_get jobs i) ≡ Some stage
    → state ≡ state_of stage
    → is_idle_state state ≡ is_idle_at jobs i
idle-is jobs i stage state at is = by (slice_get jobs i) at
  where
    standing : (s : Stage) → is_idle s ≡ is_idle_state (state_of s)
    standing Stage.Idle = refl
    standing (Stage.Matched slots) = refl
    standing (Stage.Claimed slots) = refl

    by : (o : Option Job) → option_map (λ (job : Job). job.standing) o ≡ Some stage
        → is_idle_state state ≡ option_map_or (λ (job : Job). is_idle job.standing) o false
    by None e = absurd (none-some stage e)
    by (Some job) e = ap is_idle_state (is ∙ ap state_of (sym (same_Some job.standing stage e))) ∙ sym (standing job.standing)

-- ---- without ports

module _ (moment : ℕ) (stock : Stock) (settings : List Setting) (jobs : List Job) (request : Request) (none : request.ports ≡ []) where
  pub evaluations-one : (start now : ℕ) → now ≤ start + 5 * open_count (pool_for moment stock settings jobs) (ad_frames request.ad)
      → now ≤ start + evaluations_for moment stock settings jobs request
  evaluations-one start now rise =
      subst (λ ports. now ≤ start + evaluations_by (pool_for moment stock settings jobs) (ad_frames request.ad) ports) (sym none) rise

  pub entries-one : (start now : ℕ) → now ≤ start + entered_for (pool_for moment stock settings jobs) (ad_frames request.ad)
      → now ≤ start + entries_for moment stock settings jobs request
  entries-one start now rise = subst (λ ports. now ≤ start + entries_by (pool_for moment stock settings jobs) (ad_frames request.ad) ports) (sym none) rise

  pub looks-one : (start now : ℕ) → now ≤ start + 9 * least_left stock.ads (tests_of (ad_frames request.ad) 0 [])
      → now ≤ start + looks_for stock jobs request
  looks-one start now rise = subst (λ ports. now ≤ start + looks_by stock.ads (ad_frames request.ad) ports) (sym none) rise

  pub found-one : (number : ℕ) (slot : Option ℕ) → slot ≡ best_slot stock (pool_for moment stock settings jobs) (ad_frames request.ad) number
      → option_map (λ s. s ∷ []) slot ≡ found_for moment stock settings jobs number request
  found-one number slot is =
      ap (option_map (λ s. s ∷ [])) is ∙ sym (ap (found_by stock (pool_for moment stock settings jobs) number (ad_frames request.ad)) none)

-- what holds of the slot in a list, where there is one
pub one-all : (P : List ℕ → Type 0) (slot : Option ℕ) → IfSome slot (λ s. P (s ∷ [])) → (o : Option (List ℕ))
    → o ≡ option_map (λ s. s ∷ []) slot → IfSome o P
one-all P slot each o e = subst (λ (p : Option (List ℕ)). IfSome p P) (sym e) (by slot each)
  where
    by : (slot : Option ℕ) → IfSome slot (λ s. P (s ∷ [])) → IfSome (option_map (λ s. s ∷ []) slot) P
    by None h = tt
    by (Some s) h = h

pub if-each : (P : ℕ → Type 0) → ((slot : ℕ) → P slot) → (o : Option ℕ) → IfSome o P
if-each P each None = tt
if-each P each (Some slot) = each slot

pub one-apart : (slot : ℕ) → AllPairs (λ a b. a ≢ b) (slot ∷ [])
one-apart slot = λ i j d before within. absurd (omega (arith, before, within))

pub one-free : (jobs : List Job) (slot : ℕ) → is_some (offered_to slot jobs) ≡ false → AreFree (slot ∷ []) jobs
one-free jobs slot free =
    All-cons (λ s. offered_to s jobs ≡ None) slot [] (not-some (offered_to slot jobs) free) (All-nil (λ s. offered_to s jobs ≡ None))

pub one-wanted : (request : Request) → request.ports ≡ [] → wanted request ≡ 1
one-wanted request none = ap (λ ports. max 1 (length ports)) none

-- ---- with ports

-- what holds of each list with a first port holds where there are ports
with-some : (P : List Port → Type 0) → ((port : Port) (ports : List Port) → P (port ∷ ports)) → (ports : List Port) → 0 < length ports → P ports
with-some P each [] some = absurd (omega (arith, some))
with-some P each (port ∷ ports) some = each port ports

module _ (moment : ℕ) (stock : Stock) (settings : List Setting) (jobs : List Job) (request : Request) (some : 0 < length request.ports) where
  abbrev pool : Pool
  pool = pool_for moment stock settings jobs

  abbrev frames : List Frame
  frames = ad_frames request.ad

  pub evaluations-gang : (start now : ℕ) → now ≤ start + 3 * docks_open pool frames request.ports
      → now ≤ start + evaluations_for moment stock settings jobs request
  evaluations-gang start now rise =
      subst (λ (n : ℕ). now ≤ start + n) (sym (with-some (λ ports. evaluations_by pool frames ports ≡ 3 * docks_open pool frames ports)
      (λ port ports. refl) request.ports some)) rise

  pub entries-gang : (start now : ℕ) → now ≤ start + attributes_open pool frames request.ports
      → now ≤ start + entries_for moment stock settings jobs request
  entries-gang start now rise =
      subst (λ (n : ℕ). now ≤ start + n) (sym (with-some (λ ports. entries_by pool frames ports ≡ attributes_open pool frames ports)
      (λ port ports. refl) request.ports some)) rise

  pub looks-gang : (start now : ℕ) → now ≤ start + looks_most stock.ads frames request.ports → now ≤ start + looks_for stock jobs request
  looks-gang start now rise =
      subst (λ (n : ℕ). now ≤ start + n) (sym (with-some (λ ports. looks_by stock.ads frames ports ≡ looks_most stock.ads frames ports)
      (λ port ports. refl) request.ports some)) rise

  pub found-gang : (number : ℕ) → found_for moment stock settings jobs number request ≡ option_map (map (slot_at stock)) (gang pool frames request.ports)
  found-gang number =
      with-some (λ ports. found_by stock pool number frames ports ≡ option_map (map (slot_at stock)) (gang pool frames ports)) (λ port ports. refl)
      request.ports some

pub gang-wanted : (request : Request) → 0 < length request.ports → wanted request ≡ length request.ports
gang-wanted request some = max-eq_right some

-- ---- the request of a job

module _ (moment : ℕ) (stock : Stock) (settings : List Setting) (jobs : List Job) (i : ℕ) (request : Request)
    (at : option_map (λ (job : Job). job.request) (slice_get jobs i) ≡ Some request) where
  -- it is found with the number of the job's user
  pub request-found : (user : List ℕ) (number : ℕ) → option_map (λ (job : Job). job.user) (slice_get jobs i) ≡ Some user
      → number ≡ priority_of user settings
      → found moment stock settings jobs i ≡ found_for moment stock settings jobs number request
  request-found user number whose mine = by (slice_get jobs i) at whose
    where
      by : (o : Option Job) → option_map (λ (job : Job). job.request) o ≡ Some request → option_map (λ (job : Job). job.user) o ≡ Some user
          → option_and_then (λ (job : Job). found_for moment stock settings jobs (priority_of job.user settings) job.request) o
          ≡ found_for moment stock settings jobs number request
      by None e f = absurd (none-some request e)
      by (Some job) e f =
          ap (λ (u : List ℕ). found_for moment stock settings jobs (priority_of u settings) job.request) (same_Some job.user user f)
          ∙ ap (λ (n : ℕ). found_for moment stock settings jobs n job.request) (sym mine)
          ∙ ap (found_for moment stock settings jobs number) (same_Some job.request request e)

  -- what is found with each number is found
  pub request-found-by-all : (slots : Option (List ℕ)) → ((number : ℕ) → slots ≡ found_for moment stock settings jobs number request)
      → slots ≡ found moment stock settings jobs i
  request-found-by-all slots each = by (slice_get jobs i) at
    where
      by : (o : Option Job) → option_map (λ (job : Job). job.request) o ≡ Some request
          → slots ≡ option_and_then (λ (job : Job). found_for moment stock settings jobs (priority_of job.user settings) job.request) o
      by None e = absurd (none-some request e)
      by (Some job) e =
          each (priority_of job.user settings) ∙ ap (found_for moment stock settings jobs (priority_of job.user settings)) (sym
          (same_Some job.request request e))

  pub request-price : (price : List Job → Request → ℕ) → price_at price jobs i ≡ price jobs request
  request-price price = by (slice_get jobs i) at
    where
      by : (o : Option Job) → option_map (λ (job : Job). job.request) o ≡ Some request
          → option_map_or (λ (job : Job). price jobs job.request) o 0 ≡ price jobs request
      by None e = absurd (none-some request e)
      by (Some job) e = ap (price jobs) (same_Some job.request request e)

  pub request-wanted : option_map (λ (job : Job). wanted job.request) (slice_get jobs i) ≡ Some (wanted request)
  request-wanted = by (slice_get jobs i) at
    where
      by : (o : Option Job) → option_map (λ (job : Job). job.request) o ≡ Some request
          → option_map (λ (job : Job). wanted job.request) o ≡ Some (wanted request)
      by None e = absurd (none-some request e)
      by (Some job) e = ap (λ r. Some (wanted r)) (same_Some job.request request e)

-- ---- names

pub name-is : (jobs : List Job) (i : ℕ) (name : List ℕ) → option_map (λ (job : Job). job.name) (slice_get jobs i) ≡ Some name
    → name_at jobs i ≡ name
name-is jobs i name at = by (slice_get jobs i) at
  where
    by : (o : Option Job) → option_map (λ (job : Job). job.name) o ≡ Some name → option_map_or (λ (job : Job). job.name) o [] ≡ name
    by None e = absurd (none-some name e)
    by (Some job) e = same_Some job.name name e

abbrev as-offered : List ℕ → List ℕ → Offered
as-offered job slots = record { job = job; slots = slots }

pub offered-is : (jobs : List Job) (i : ℕ) (slots job shown : List ℕ) → job ≡ name_at jobs i → shown ≡ slots
    → as-offered job shown ≡ offer_named jobs (record { job = i; resources = slots })
offered-is jobs i slots job shown named same = ap (λ (n : List ℕ). as-offered n shown) named ∙ ap (as-offered (name_at jobs i)) same
