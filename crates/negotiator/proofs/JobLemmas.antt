-- Jobs, and the pool that they see, once one more offer is made.
use Rattle.std.proofs.Common.{◌≡◌, ◌≤◌, ◌+◌, ◌==◌, ℕ, zero, suc, Bool, true, false, not, ◌&&◌, ◌||◌, cond, eqb, All, List, []}
use Rattle.std.proofs.Common.{◌∷◌, length, map, position, slice_get, slice_set, Option, None, Some, is_none, is_some, ltb, refl, ap, sym, ◌∙◌}
use Rattle.std.proofs.Common.{subst, arith}
use Rattle.std.specs.Prelude.{option_and_then, option_map}
use Rattle.std.specs.List.{list_any, position_or_len}
use Rattle.std.specs.Option.{option_map_or}
use Rattle.std.proofs.lemmas.Bool.Decides.{nat_tests}
use Rattle.std.proofs.lemmas.List.Elements.{All-cons, All-head, All-map, All-nil, All-tail}
use Rattle.std.proofs.Math.ListN.{length-set}
use Rattle.std.proofs.lemmas.Option.{none-some, same_Some}
use Rattle.ad_tree.specs.Ad.{ad_frames}
use Rattle.ad_tree.specs.Frames.{Frame}
use Rattle.ad_tree.specs.declared.request.Port.{Port}
use Rattle.ad_tree.specs.declared.request.Request.{Request}
use Rattle.ad_store.specs.Holdings.{Holding}
use Rattle.ad_store.specs.Stock.{Stock}
use Rattle.dock_match.specs.Pool.{AreStored, Pool, pool_of, slot_at}
use Rattle.bilateral_match.specs.Members.{best}
use Rattle.bilateral_match.specs.declared.member.Member.{Member}
use Rattle.bilateral_match.proofs.OfferLemmas.{fewer-entered, fewer-open, none-later}
use Rattle.claim_table.specs.declared.job.Job.{Job}
use Rattle.claim_table.specs.declared.job.Stage.{Stage}
use Rattle.claim_table.specs.Holders.{holder_of, holding_in}
use Rattle.claim_table.specs.Jobs.{claim_of, claimed_by, lists, offer_of, offered_to, with_standing}
use Rattle.claim_table.proofs.ListLemmas.{map-set_same, position-map}
use Rattle.claim_table.specs.Priorities.{Setting, priority_of}
use Rattle.gang_ports.specs.Gangs.{gang}
use Rattle.gang_ports.proofs.PoolLemmas.{attributes-later, docks-later, gang-later}
use Rattle.job_clusters.specs.Pools.{is_free, pool_for}
use Rattle.negotiator.specs.Budget.{entries_by, entries_for, evaluations_by, evaluations_for, is_idle_at}
use Rattle.negotiator.specs.Markets.{found, found_by, found_for, is_idle}

-- ---- a job that is idle

pub record IdleJob (jobs : List Job) (i : ℕ) : Type 0 where
  pub job : Job
  pub at : slice_get jobs i ≡ Some job
  pub idle : job.standing ≡ Stage.Idle

pub idle-job : (jobs : List Job) (i : ℕ) → is_idle_at jobs i ≡ true → IdleJob jobs i
idle-job jobs i e = by (slice_get jobs i) refl e
  where
    standing : (s : Stage) → is_idle s ≡ true → s ≡ Stage.Idle
    standing Stage.Idle e = refl
    standing (Stage.Matched slots) e = absurd (cc)
    standing (Stage.Claimed slots) e = absurd (cc)

    by : (o : Option Job) → slice_get jobs i ≡ o → option_map_or (λ (job : Job). is_idle job.standing) o false ≡ true → IdleJob jobs i
    by None at e = absurd (cc)
    by (Some job) at e = record { job = job; at = at; idle = standing job.standing e }

-- ---- lists

pub get-map : {A B : Type 0} (f : A → B) (xs : List A) (i : ℕ) → slice_get (map f xs) i ≡ option_map f (slice_get xs i)
get-map f [] i = refl
get-map f (x ∷ xs) zero = refl
get-map f (x ∷ xs) (suc i) = get-map f xs i

position-within : {A : Type 0} (p : A → Bool) (xs : List A) → ltb (position_or_len p xs) (length xs) ≡ list_any p xs
position-within p [] = refl
position-within p (x ∷ xs) = by (p x) (position-within p xs)
  where
    by : (b : Bool) → ltb (position_or_len p xs) (length xs) ≡ list_any p xs
        → ltb (cond (not b) (1 + position_or_len p xs) 0) (suc (length xs)) ≡ b || list_any p xs
    by true rest = grind (arith, nat_tests)
    by false rest =
        let same : ltb (1 + position_or_len p xs) (suc (length xs)) ≡ ltb (position_or_len p xs) (length xs) = grind (arith, nat_tests) in same ∙ rest

pub position-some : {A : Type 0} (p : A → Bool) (xs : List A) → is_some (position p xs) ≡ list_any p xs
position-some p xs = by (ltb (position_or_len p xs) (length xs)) ∙ position-within p xs
  where
    by : (b : Bool) → is_some (cond b (Some (position_or_len p xs)) None) ≡ b
    by true = refl
    by false = refl

any-put : {A : Type 0} (p : A → Bool) (xs : List A) (i : ℕ) (old new : A) → slice_get xs i ≡ Some old → p old ≡ false
    → list_any p (slice_set xs i new) ≡ list_any p xs || p new
any-put p [] i old new at none = absurd (none-some old at)
any-put p (x ∷ xs) zero old new at none =
    swapped (p new) (list_any p xs) ∙ ap (λ b. (b || list_any p xs) || p new) (sym (ap p (same_Some x old at) ∙ none))
  where
    swapped : (a b : Bool) → a || b ≡ (false || b) || a
    swapped true true = refl
    swapped true false = refl
    swapped false true = refl
    swapped false false = refl
any-put p (x ∷ xs) (suc i) old new at none = ap (λ b. p x || b) (any-put p xs i old new at none) ∙ by (p x)
  where
    by : (b : Bool) → b || (list_any p xs || p new) ≡ (b || list_any p xs) || p new
    by true = refl
    by false = refl

pub idle-set : (jobs : List Job) (i k : ℕ) (old new : Job) → slice_get jobs i ≡ Some old → is_idle new.standing ≡ false
    → is_idle_at (slice_set jobs i new) k ≡ (is_idle_at jobs k && not (i == k))
idle-set [] i k old new at busy = absurd (none-some old at)
idle-set (j ∷ jobs) zero zero old new at busy = busy ∙ sym (none (is_idle j.standing))
  where
    none : (b : Bool) → b && not (eqb 0 0) ≡ false
    none true = refl
    none false = refl
idle-set (j ∷ jobs) zero (suc k) old new at busy =
    let other : eqb 0 (suc k) ≡ false = grind (arith, nat_tests) in sym (ap (λ b. is_idle_at jobs k && not b) other ∙ same (is_idle_at jobs k))
  where
    same : (b : Bool) → b && true ≡ b
    same true = refl
    same false = refl
idle-set (j ∷ jobs) (suc i) zero old new at busy =
    let other : eqb (suc i) 0 ≡ false = grind (arith, nat_tests) in sym (ap (λ b. is_idle j.standing && not b) other ∙ same (is_idle j.standing))
  where
    same : (b : Bool) → b && true ≡ b
    same true = refl
    same false = refl
idle-set (j ∷ jobs) (suc i) (suc k) old new at busy =
    let next : eqb i k ≡ eqb (suc i) (suc k) = grind (arith, nat_tests) in
    idle-set jobs i k old new at busy ∙ ap (λ b. is_idle_at jobs k && not b) next

-- what holds of all requests holds of the jobs that have the same ones
pub all-same : (P : Request → Type 0) (jobs others : List Job) → map (λ (job : Job). job.request) others ≡ map (λ (job : Job). job.request) jobs
    → All (λ (job : Job). P job.request) jobs → All (λ (job : Job). P job.request) others
all-same P jobs others same all = All-unmap others (subst (All P) (sym same) (All-map P (λ (job : Job). job.request) jobs all))
  where
    All-unmap : (js : List Job) → All P (map (λ (job : Job). job.request) js) → All (λ (job : Job). P job.request) js
    All-unmap [] h = All-nil (λ (job : Job). P job.request)
    All-unmap (j ∷ js) h =
        All-cons (λ (job : Job). P job.request) j js (All-head P j.request (map (λ (job : Job). job.request) js) h)
        (All-unmap js (All-tail P j.request (map (λ (job : Job). job.request) js) h))

-- ---- one more offer

module _ (jobs : List Job) (i : ℕ) (slots : List ℕ) (idle : is_idle_at jobs i ≡ true) where
  abbrev pub later : List Job
  later = with_standing jobs i (Stage.Matched slots)

  abbrev pub one : IdleJob jobs i
  one = idle-job jobs i idle

  abbrev changed : Job
  changed = record one.job { standing = Stage.Matched slots }

  pub later-is : later ≡ slice_set jobs i changed
  later-is = ap (λ o. option_map_or (λ (job : Job). slice_set jobs i (record job { standing = Stage.Matched slots })) o jobs) one.at

  pub map-later : {A : Type 0} (f : Job → A) → f changed ≡ f one.job → map f later ≡ map f jobs
  map-later f same = ap (map f) later-is ∙ map-set_same f jobs i one.job changed one.at same

  pub requests-later : map (λ (job : Job). job.request) later ≡ map (λ (job : Job). job.request) jobs
  requests-later = map-later (λ (job : Job). job.request) refl

  pub length-later : length later ≡ length jobs
  length-later = ap length later-is ∙ length-set jobs i changed

  -- ---- what is claimed stays

  abbrev claims : ℕ → Job → Bool
  claims slot job = lists (claim_of job.standing) slot

  no-claim : (slot : ℕ) → claims slot changed ≡ claims slot one.job
  no-claim slot = sym (ap (λ s. lists (claim_of s) slot) one.idle)

  pub claimed-later : (slot : ℕ) → claimed_by slot later ≡ claimed_by slot jobs
  claimed-later slot =
      sym (position-map (λ (b : Bool). b) (claims slot) later)
      ∙ ap (position (λ (b : Bool). b)) (map-later (claims slot) (no-claim slot))
      ∙ position-map (λ (b : Bool). b) (claims slot) jobs

  module _ (settings : List Setting) where
    holding-at : (js : List Job) (slot : ℕ) (o : Option ℕ)
        → option_map (holding_in settings slot) (option_and_then (λ k. slice_get js k) o)
        ≡ option_and_then (λ k. slice_get (map (holding_in settings slot) js) k) o
    holding-at js slot None = refl
    holding-at js slot (Some k) = sym (get-map (holding_in settings slot) js k)

    no-holding : (slot : ℕ) → holding_in settings slot changed ≡ holding_in settings slot one.job
    no-holding slot =
        sym (ap (λ (s : Stage). let h : Holding =
        record {
          request =
              one.job.request;
          slots = claim_of s;
          port = position_or_len (λ t. t == slot) (claim_of s);
          number = priority_of one.job.user settings;
        } in h)
        one.idle)

    pub holder-later : (slot : ℕ) → holder_of settings later slot ≡ holder_of settings jobs slot
    holder-later slot =
        holding-at later slot (claimed_by slot later)
        ∙ ap (option_and_then (λ k. slice_get (map (holding_in settings slot) later) k)) (claimed-later slot)
        ∙ ap (λ hs. option_and_then (λ k. slice_get hs k) (claimed_by slot jobs)) (map-later (holding_in settings slot) (no-holding slot))
        ∙ sym (holding-at jobs slot (claimed_by slot jobs))

    pub stored-later : (stock : Stock) → AreStored stock (holder_of settings jobs) → AreStored stock (holder_of settings later)
    stored-later stock stored slot h is = stored slot h (sym (holder-later slot) ∙ is)

  -- what holds of all requests holds of them still
  pub all-later : (P : Request → Type 0) → All (λ (job : Job). P job.request) jobs → All (λ (job : Job). P job.request) later
  all-later P all = all-same P jobs later requests-later all

  -- ---- what is offered stays offered, and more is

  offers-later : (slot : ℕ) → is_some (offered_to slot later) ≡ is_some (offered_to slot jobs) || lists slots slot
  offers-later slot =
      position-some (λ (job : Job). lists (offer_of job.standing) slot) later
      ∙ ap (list_any (λ (job : Job). lists (offer_of job.standing) slot)) later-is
      ∙ any-put (λ (job : Job). lists (offer_of job.standing) slot) jobs i one.job changed one.at (ap (λ s. lists (offer_of s) slot) one.idle)
      ∙ ap (λ b. b || lists slots slot) (sym (position-some (λ (job : Job). lists (offer_of job.standing) slot) jobs))

  pub offered-later : (slot : ℕ) → is_some (offered_to slot jobs) ≡ true → is_some (offered_to slot later) ≡ true
  offered-later slot some = offers-later slot ∙ ap (λ b. b || lists slots slot) some

  pub free-later : (slot : ℕ) → is_free later slot ≡ (is_free jobs slot && not (lists slots slot))
  free-later slot =
      ap (λ b. b && is_none (claimed_by slot later)) (none-is (offered_to slot later) ∙ ap not (offers-later slot))
      ∙ ap (λ o. not (is_some (offered_to slot jobs) || lists slots slot) && is_none o) (claimed-later slot)
      ∙ by (is_some (offered_to slot jobs)) (lists slots slot) (is_none (claimed_by slot jobs))
      ∙ ap (λ b. (b && is_none (claimed_by slot jobs)) && not (lists slots slot)) (sym (none-is (offered_to slot jobs)))
    where
      none-is : (o : Option ℕ) → is_none o ≡ not (is_some o)
      none-is None = refl
      none-is (Some n) = refl

      by : (a b c : Bool) → (not (a || b) && c) ≡ ((not a && c) && not b)
      by true b c = refl
      by false true true = refl
      by false true false = refl
      by false false true = refl
      by false false false = refl

  -- ---- who is idle

  pub idle-later : (k : ℕ) → is_idle_at later k ≡ (is_idle_at jobs k && not (i == k))
  idle-later k = ap (λ js. is_idle_at js k) later-is ∙ idle-set jobs i k one.job changed one.at refl

  -- ---- the pool

  module _ (moment : ℕ) (stock : Stock) (settings : List Setting) where
    abbrev before : Pool
    before = pool_for moment stock settings jobs

    abbrev offered : ℕ → Bool
    offered place = is_some (offered_to (slot_at stock place) later)

    pub pool-later : pool_for moment stock settings later ≡ record before { is_offered = offered }
    pool-later = ap (pool_of moment stock (λ slot. is_some (offered_to slot later))) (λ j slot. holder-later settings slot j)

    more : (place : ℕ) → before.is_offered place ≡ true → offered place ≡ true
    more place some = offered-later (slot_at stock place) some

    fails-by : (number : ℕ) (request : List Frame) (ports : List Port) → found_by stock before number request ports ≡ None
        → found_by stock (record before { is_offered = offered }) number request ports ≡ None
    fails-by number request [] none =
        ap (λ o. option_map (λ slot. slot ∷ []) (option_map (λ (m : Member). slot_at stock m.place) o))
        (none-later before request offered more number (no-member (best before request number) none))
      where
        no-member : (o : Option Member) → option_map (λ slot. slot ∷ []) (option_map (λ (m : Member). slot_at stock m.place) o) ≡ None → o ≡ None
        no-member None e = refl
        no-member (Some m) e = absurd (cc)
    fails-by number request (port ∷ ports) none =
        ap (option_map (map (slot_at stock))) (gang-later before request (port ∷ ports) offered more (no-gang (gang before request (port ∷ ports)) none))
      where
        no-gang : (o : Option (List ℕ)) → option_map (map (slot_at stock)) o ≡ None → o ≡ None
        no-gang None e = refl
        no-gang (Some places) e = absurd (cc)

    pub fails-later : (number : ℕ) (request : Request) → found_for moment stock settings jobs number request ≡ None
        → found_for moment stock settings later number request ≡ None
    fails-later number request none =
        ap (λ pool. found_by stock pool number (ad_frames request.ad) request.ports) pool-later ∙ fails-by number (ad_frames request.ad) request.ports none

    evaluations-fewer : (request : List Frame) (ports : List Port)
        → evaluations_by (record before { is_offered = offered }) request ports ≤ evaluations_by before request ports
    evaluations-fewer request [] = let fewer = fewer-open before request offered more in omega (arith, fewer)
    evaluations-fewer request (port ∷ ports) = let fewer = docks-later before request (port ∷ ports) offered more in omega (arith, fewer)

    pub evaluations-later : (request : Request) → evaluations_for moment stock settings later request ≤ evaluations_for moment stock settings jobs request
    evaluations-later request =
        subst (λ pool. evaluations_by pool (ad_frames request.ad) request.ports ≤ evaluations_for moment stock settings jobs request) (sym pool-later)
        (evaluations-fewer (ad_frames request.ad) request.ports)

    entries-fewer : (request : List Frame) (ports : List Port)
        → entries_by (record before { is_offered = offered }) request ports ≤ entries_by before request ports
    entries-fewer request [] = fewer-entered before request offered more
    entries-fewer request (port ∷ ports) = attributes-later before request (port ∷ ports) offered more

    pub entries-later : (request : Request) → entries_for moment stock settings later request ≤ entries_for moment stock settings jobs request
    entries-later request =
        subst (λ pool. entries_by pool (ad_frames request.ad) request.ports ≤ entries_for moment stock settings jobs request) (sym pool-later)
        (entries-fewer (ad_frames request.ad) request.ports)

    -- the number of a job's user, and what the job asks for
    abbrev asked_by : Job → ℕ × Request
    asked_by job = (priority_of job.user settings, job.request)

    found-at : (js : List Job) (k : ℕ)
        → found moment stock settings js k ≡ option_and_then (λ (a : ℕ × Request). found_for moment stock settings js a.0 a.1) (slice_get
        (map asked_by js) k)
    found-at js k = by js k (λ n r. found_for moment stock settings js n r)
      where
        by : (js : List Job) (k : ℕ) (h : ℕ → Request → Option (List ℕ))
            → option_and_then (λ (job : Job). h (priority_of job.user settings) job.request) (slice_get js k)
            ≡ option_and_then (λ (a : ℕ × Request). h a.0 a.1) (slice_get (map asked_by js) k)
        by [] k h = refl
        by (j ∷ js) zero h = refl
        by (j ∷ js) (suc k) h = by js k h

    pub found-later : (k : ℕ) → found moment stock settings jobs k ≡ None → found moment stock settings later k ≡ None
    found-later k none =
        found-at later k
        ∙ ap (λ asked. option_and_then (λ (a : ℕ × Request). found_for moment stock settings later a.0 a.1) (slice_get asked k))
        (map-later asked_by refl)
        ∙ by (slice_get (map asked_by jobs) k) (sym (found-at jobs k) ∙ none)
      where
        by : (o : Option (ℕ × Request)) → option_and_then (λ (a : ℕ × Request). found_for moment stock settings jobs a.0 a.1) o ≡ None
            → option_and_then (λ (a : ℕ × Request). found_for moment stock settings later a.0 a.1) o ≡ None
        by None e = refl
        by (Some a) e = fails-later a.0 a.1 e
