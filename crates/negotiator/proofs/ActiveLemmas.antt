-- The users of a spin, step by step, with their weights, and the resources that are free.
use Rattle.std.proofs.Common.{◌≡◌, ◌≤◌, ◌<◌, ◌+◌, ◌^◌, ℕ, zero, suc, Bool, true, false, ◌&&◌, ◌||◌, cond, List, [], ◌∷◌}
use Rattle.std.proofs.Common.{◌++◌, count_by, filter, fold, get_or, length, map, slice_get, take, Some, refl, ap, sym, ◌∙◌, arith, Less, Equal}
use Rattle.std.proofs.Common.{Greater}
use Rattle.std.specs.BTreeSet.{insert_key}
use Rattle.std.specs.List.{list_any}
use Rattle.std.specs.Option.{option_map_or}
use Rattle.std.specs.Ordering.{match_ordering}
use Rattle.std.specs.declared.cmp.Ordering.{Ordering}
use Rattle.std.proofs.lemmas.List.{append-nil, map-append, take_all, take_more}
use Rattle.std.proofs.lemmas.List.Elements.{filter-append}
use Rattle.std.proofs.lemmas.List.Sums.{count_by_more_no, count_by_more_yes}
use Rattle.std.proofs.lemmas.Nat.{div_below, le-div}
use Rattle.ad_store.specs.Stock.{Stock}
use Rattle.claim_table.specs.declared.job.Job.{Job}
use Rattle.job_clusters.specs.Pools.{is_free}
use Rattle.negotiator.specs.declared.queues.Queue.{Queue}
use Rattle.negotiator.specs.Budget.{is_idle_at}
use Rattle.negotiator.specs.Cycle.{Market, Waiting, all_users, is_of, places, users_of, waits}
use Rattle.negotiator.specs.Markets.{market_of}
use Rattle.claim_table.specs.Priorities.{Setting, priority_of, user_order}
use Rattle.negotiator.specs.Queues.{AreQueues}
use Rattle.negotiator.specs.Scenes.{users_at}
use Rattle.negotiator.proofs.AlikeLemmas.{any-same}
use Rattle.negotiator.proofs.ShiftLemmas.{waiting-is}
use Rattle.pie_slices.specs.Slices.{weight_of}

-- ---- weights

pub weight-least : (p : ℕ) → 1 ≤ p → p ≤ 1000000 → 1 ≤ weight_of p
weight-least p low high = le-div 1 (10 ^ 12) p (omega (arith, low)) (omega (arith, high))

pub weight-most : (p : ℕ) → 1 ≤ p → weight_of p ≤ 10 ^ 12
weight-most p low = let below = div_below (10 ^ 12) p (10 ^ 12 + 1) (omega (arith, low)) (omega (arith, low)) in omega (arith, below)

-- ---- how many users

insert-length : (R : List ℕ → List ℕ → Ordering) (ks : List (List ℕ)) (k : List ℕ) → length (insert_key R ks k) ≤ length ks + 1
insert-length R [] k = omega arith
insert-length R (x ∷ ks) k = by (R k x) (insert-length R ks k)
  where
    by : (r : Ordering) → length (insert_key R ks k) ≤ length ks + 1
        → length (match_ordering r (k ∷ x ∷ ks) (x ∷ ks) (x ∷ insert_key R ks k)) ≤ length (x ∷ ks) + 1
    by Less rest = omega arith
    by Equal rest = omega arith
    by Greater rest = omega (arith, rest)

users-length : (R : List ℕ → List ℕ → Ordering) (us : List (List ℕ)) (jobs : List Waiting)
    → length (fold (λ us (job : Waiting). insert_key R us job.user) us jobs) ≤ length us + length jobs
users-length R us [] = omega arith
users-length R us (job ∷ jobs) =
    let one = insert-length R us job.user in let rest = users-length R (insert_key R us job.user) jobs in omega (arith, one, rest)

filter-length : {A : Type 0} (p : A → Bool) (xs : List A) → length (filter p xs) ≤ length xs
filter-length p [] = omega arith
filter-length p (x ∷ xs) = by (p x) (filter-length p xs)
  where
    by : (b : Bool) → length (filter p xs) ≤ length xs → length (cond b (x ∷ filter p xs) (filter p xs)) ≤ length (x ∷ xs)
    by true rest = omega (arith, rest)
    by false rest = omega (arith, rest)

pub few-users : {R : Type 0} (market : Market R) → length (users_of market []) ≤ length market.jobs
few-users market =
    let all = users-length (user_order market.priority) [] market.jobs in
    let some = filter-length (λ user. list_any (waits market user []) (places market.jobs)) (all_users market) in
    omega (arith, all, some)

-- ---- users by their queues

-- the user of a queue by its number
pub read-user : (queues : List Queue) (j : ℕ) (queue : Queue) → j < length queues → get_or queues j queue ≡ queue
    → option_map_or (λ (q : Queue). q.user) (slice_get queues j) [] ≡ queue.user
read-user [] j queue within is = absurd (omega (arith, within))
read-user (q ∷ qs) zero queue within is = ap (λ (q : Queue). q.user) is
read-user (q ∷ qs) (suc j) queue within is = read-user qs j queue (omega (arith, within)) is

pub user-here : (queues : List Queue) (active : List ℕ) (k j : ℕ) (queue : Queue) → k < length active → get_or active k 0 ≡ j → j < length queues
    → get_or queues j queue ≡ queue → get_or (users_at queues active) k [] ≡ queue.user
user-here queues [] k j queue within here inside is = absurd (omega (arith, within))
user-here queues (a ∷ more) zero j queue within here inside is =
    ap (λ a. option_map_or (λ (q : Queue). q.user) (slice_get queues a) []) here ∙ read-user queues j queue inside is
user-here queues (a ∷ more) (suc k) j queue within here inside is = user-here queues more k j queue (omega (arith, within)) here inside is

module _ (settings : List Setting) (queues : List Queue) (active : List ℕ) where
  abbrev weigh : List ℕ → ℕ
  weigh user = weight_of (priority_of user settings)

  pub weights-more : (i k number w : ℕ) (queue : Queue) (weights later : List ℕ) → i < length active → get_or active i 0 ≡ k → k < length queues
      → queue ≡ get_or queues k queue
      → number ≡ priority_of queue.user settings → w ≡ weight_of number → weights ≡ map weigh (users_at queues (take i active))
      → later ≡ weights ++ w ∷ []
      → later ≡ map weigh (users_at queues (take (i + 1) active))
  weights-more i k number w queue weights later within here inside is number_is w_is so_far pushed =
      let before = users_at queues (take i active) in
      pushed
      ∙ ap (λ (l : List ℕ). l ++ w ∷ []) so_far
      ∙ ap (λ (v : ℕ). map weigh before ++ v ∷ []) (w_is ∙ ap weight_of number_is)
      ∙ sym (ap (λ l. map weigh (users_at queues l)) (take_more active i 0 within ∙ ap (λ j. take i active ++ j ∷ []) here)
      ∙ ap (map weigh) (map-append (λ j. option_map_or (λ (q : Queue). q.user) (slice_get queues j) []) (take i active) (k ∷ []))
      ∙ map-append weigh before ((option_map_or (λ (q : Queue). q.user) (slice_get queues k) []) ∷ [])
      ∙ ap (λ (u : List ℕ). map weigh before ++ weigh u ∷ []) (read-user queues k queue inside (sym is)))

-- ---- who is active

any-filter : {A : Type 0} (p q : A → Bool) (xs : List A) → list_any p (filter q xs) ≡ list_any (λ x. q x && p x) xs
any-filter p q [] = refl
any-filter p q (x ∷ xs) = by (q x) (any-filter p q xs)
  where
    by : (b : Bool) → list_any p (filter q xs) ≡ list_any (λ x. q x && p x) xs
        → list_any p (cond b (x ∷ filter q xs) (filter q xs)) ≡ (b && p x) || list_any (λ x. q x && p x) xs
    by true rest = ap (λ b. p x || b) rest
    by false rest = rest

module _ (moment : ℕ) (stock : Stock) (settings : List Setting) (jobs : List Job) where
  abbrev market : Market ℕ
  market = market_of moment stock settings jobs

  idle-waits : (user : List ℕ) (i : ℕ) → (is_of market user i && is_idle_at jobs i) ≡ waits market user [] i
  idle-waits user i = sym (ap (λ b. is_of market user i && b) (waiting-is moment stock settings jobs [] i ∙ by (is_idle_at jobs i)))
    where
      by : (b : Bool) → (b && true) ≡ b
      by true = refl
      by false = refl

  pub any-own : (user : List ℕ) (own : List ℕ) → own ≡ filter (is_of market user) (places market.jobs)
      → list_any (is_idle_at jobs) own ≡ list_any (waits market user []) (places market.jobs)
  any-own user own is =
      ap (list_any (is_idle_at jobs)) is
      ∙ any-filter (is_idle_at jobs) (is_of market user) (places market.jobs)
      ∙ any-same (λ i. is_of market user i && is_idle_at jobs i) (waits market user []) (idle-waits user) (places market.jobs)

  abbrev active : List ℕ → Bool
  active user = list_any (waits market user []) (places market.jobs)

  users-push : (queues : List Queue) (ks : List ℕ) (k : ℕ) (d : Queue) → k < length queues
      → users_at queues (ks ++ k ∷ []) ≡ users_at queues ks ++ (get_or queues k d).user ∷ []
  users-push queues ks k d within =
      map-append (λ j. option_map_or (λ (q : Queue). q.user) (slice_get queues j) []) ks (k ∷ [])
      ∙ ap (λ u. users_at queues ks ++ u ∷ []) (at queues k within)
    where
      at : (qs : List Queue) (k : ℕ) → k < length qs → option_map_or (λ (q : Queue). q.user) (slice_get qs k) [] ≡ (get_or qs k d).user
      at [] k within = absurd (omega (arith, within))
      at (q ∷ qs) zero within = refl
      at (q ∷ qs) (suc k) within = at qs k (omega (arith, within))

  module _ (queues : List Queue) (k : ℕ) (d : Queue) (within : k < length queues) (ks : List ℕ)
      (so_far : users_at queues ks ≡ filter active (map (λ (q : Queue). q.user) (take k queues))) where
    next : (b : Bool) → active (get_or queues k d).user ≡ b
        → filter active (map (λ (q : Queue). q.user) (take (k + 1) queues)) ≡ users_at queues ks ++ cond b ((get_or queues k d).user ∷ []) []
    next b e =
        ap (λ l. filter active (map (λ (q : Queue). q.user) l)) (take_more queues k d within)
        ∙ ap (filter active) (map-append (λ (q : Queue). q.user) (take k queues) (get_or queues k d ∷ []))
        ∙ filter-append active (map (λ (q : Queue). q.user) (take k queues)) ((get_or queues k d).user ∷ [])
        ∙ ap (λ l. l ++ filter active ((get_or queues k d).user ∷ [])) (sym so_far)
        ∙ ap (λ c. users_at queues ks ++ cond c ((get_or queues k d).user ∷ []) []) e

    pub active-more : (later : List ℕ) → later ≡ ks ++ k ∷ [] → active (get_or queues k d).user ≡ true
        → users_at queues later ≡ filter active (map (λ (q : Queue). q.user) (take (k + 1) queues))
    active-more later pushed e = ap (users_at queues) pushed ∙ users-push queues ks k d within ∙ sym (next true e)

    pub active-same : active (get_or queues k d).user ≡ false → users_at queues ks ≡ filter active (map (λ (q : Queue). q.user) (take (k + 1) queues))
    active-same e = sym (next false e ∙ append-nil (users_at queues ks))

  pub active-all : (queues : List Queue) (k : ℕ) (ks : List ℕ) → AreQueues market queues → length queues ≤ k
      → users_at queues ks ≡ filter active (map (λ (q : Queue). q.user) (take k queues)) → users_at queues ks ≡ users_of market []
  active-all queues k ks are past so_far =
      so_far ∙ ap (λ l. filter active (map (λ (q : Queue). q.user) l)) (take_all k queues past) ∙ ap (filter active) are.users

-- ---- what is free

pub read-at : (xs : List ℕ) (i x : ℕ) → slice_get xs i ≡ Some x → (i < length xs) × (get_or xs i 0 ≡ x)
read-at [] i x e = absurd (cc)
read-at (y ∷ ys) zero x e = (omega arith, cc)
read-at (y ∷ ys) (suc i) x e = let rest = read-at ys i x e in (omega (arith, rest.0), rest.1)

module _ (jobs : List Job) (slots : List ℕ) (i slot : ℕ) (at : slice_get slots i ≡ Some slot) where
  pub free-one : is_free jobs slot ≡ true → count_by (is_free jobs) (take (i + 1) slots) ≡ count_by (is_free jobs) (take i slots) + 1
  free-one e = let here = read-at slots i slot at in count_by_more_yes (is_free jobs) slots i 0 here.0 (ap (is_free jobs) here.1 ∙ e)

  pub free-none : is_free jobs slot ≡ false → count_by (is_free jobs) (take (i + 1) slots) ≡ count_by (is_free jobs) (take i slots)
  free-none e = let here = read-at slots i slot at in count_by_more_no (is_free jobs) slots i 0 here.0 (ap (is_free jobs) here.1 ∙ e)
