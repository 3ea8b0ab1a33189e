-- The users in order: each once, and those that have a job that waits.
use Rattle.std.proofs.Common.{◌≡◌, ℕ, zero, suc, Bool, true, false, ◌&&◌, ◌||◌, cond, List, [], ◌∷◌, filter, fold, bytes_eq, Less, Equal}
use Rattle.std.proofs.Common.{Greater, refl, ap, sym, ◌∙◌}
use Rattle.std.specs.BTreeSet.{insert_key}
use Rattle.std.specs.Cmp.{IsTotalOrder}
use Rattle.std.specs.Cmp.Lexicographic.{slice_cmp}
use Rattle.std.specs.List.{AllByRecursion, list_any}
use Rattle.std.specs.List.Sorted.{IsStrictlySortedBy}
use Rattle.std.specs.Option.{option_map_or}
use Rattle.std.specs.Prelude.{slice_get}
use Rattle.std.specs.Ordering.{match_ordering, nat_cmp, ordering_reverse, ordering_then}
use Rattle.std.specs.declared.cmp.Ordering.{Ordering}
use Rattle.std.proofs.lemmas.Cmp.{nat_cmp_total, nat_list_cmp_total, on_total, then_total}
use Rattle.std.proofs.lemmas.Map.Lookups.{exact_bytes}
use Rattle.std.proofs.lemmas.Slice.Eq.{bytes_eq-Decides}
use Rattle.claim_table.specs.Priorities.{user_order}
use Rattle.negotiator.specs.Cycle.{Market, Offer, Waiting, all_users, is_waiting, places, users_of, waits}

-- ---- lists in order

pub none-sorted : {K : Type 0} (R : K → K → Ordering) → IsStrictlySortedBy R []
unfolding IsStrictlySortedBy
none-sorted R = tt

module _ {K : Type 0} (R : K → K → Ordering) (order : IsTotalOrder R) where
  -- a key after a first that is before it
  after-first : (k x : K) (ks : List K) → R k x ≡ Less → AllByRecursion (λ y. R x y ≡ Less) ks → AllByRecursion (λ y. R k y ≡ Less) ks
  after-first k x [] less h = tt
  after-first k x (y ∷ ks) less h = (order.trans k x y less h.0, after-first k x ks less h.1)

  turned : (a b : K) (r s : Ordering) → R a b ≡ r → ordering_reverse r ≡ s → R b a ≡ s
  turned a b r s e f = order.antisymm b a ∙ ap ordering_reverse e ∙ f

  insert-behind : (x k : K) (ks : List K) → R x k ≡ Less → AllByRecursion (λ y. R x y ≡ Less) ks
      → AllByRecursion (λ y. R x y ≡ Less) (insert_key R ks k)
  insert-behind x k [] less h = (less, tt)
  insert-behind x k (y ∷ ks) less h = by (R k y) (insert-behind x k ks less h.1)
    where
      by : (r : Ordering) → AllByRecursion (λ z. R x z ≡ Less) (insert_key R ks k)
          → AllByRecursion (λ z. R x z ≡ Less) (match_ordering r (k ∷ y ∷ ks) (y ∷ ks) (y ∷ insert_key R ks k))
      by Less rest = (less, h)
      by Equal rest = h
      by Greater rest = (h.0, rest)

  pub insert-sorted : (ks : List K) (k : K) → IsStrictlySortedBy R ks → IsStrictlySortedBy R (insert_key R ks k)
  unfolding IsStrictlySortedBy
  insert-sorted [] k h = (tt, tt)
  insert-sorted (x ∷ ks) k h = by (R k x) refl (insert-sorted ks k h.1)
    where
      by : (r : Ordering) → R k x ≡ r → IsStrictlySortedBy R (insert_key R ks k)
          → IsStrictlySortedBy R (match_ordering r (k ∷ x ∷ ks) (x ∷ ks) (x ∷ insert_key R ks k))
      by Less e rest = ((e, after-first k x ks e h.0), h)
      by Equal e rest = h
      by Greater e rest = (insert-behind x k ks (turned k x Greater Less e refl) h.0, rest)

  filter-behind : (p : K → Bool) (x : K) (ks : List K) → AllByRecursion (λ y. R x y ≡ Less) ks → AllByRecursion (λ y. R x y ≡ Less) (filter p ks)
  filter-behind p x [] h = tt
  filter-behind p x (y ∷ ks) h = by (p y) (filter-behind p x ks h.1)
    where
      by : (b : Bool) → AllByRecursion (λ z. R x z ≡ Less) (filter p ks)
          → AllByRecursion (λ z. R x z ≡ Less) (cond b (y ∷ filter p ks) (filter p ks))
      by true rest = (h.0, rest)
      by false rest = rest

  pub filter-sorted : (p : K → Bool) (ks : List K) → IsStrictlySortedBy R ks → IsStrictlySortedBy R (filter p ks)
  unfolding IsStrictlySortedBy
  filter-sorted p [] h = tt
  filter-sorted p (x ∷ ks) h = by (p x) (filter-sorted p ks h.1)
    where
      by : (b : Bool) → IsStrictlySortedBy R (filter p ks) → IsStrictlySortedBy R (cond b (x ∷ filter p ks) (filter p ks))
      by true rest = (filter-behind p x ks h.0, rest)
      by false rest = rest

-- ---- the users

module _ (priority : List ℕ → ℕ) where
  pub order_total : IsTotalOrder (user_order priority)
  order_total = then_total (on_total priority nat_cmp_total) nat_list_cmp_total

  pub order_exact : (a b : List ℕ) → user_order priority a b ≡ Equal → a ≡ b
  order_exact a b e = exact_bytes a b (by (nat_cmp (priority a) (priority b)) (slice_cmp nat_cmp a b) e)
    where
      by : (r s : Ordering) → ordering_then r s ≡ Equal → s ≡ Equal
      by Equal s e = e
      by Less s e = absurd (cc)
      by Greater s e = absurd (cc)

  pub same-bytes : (a b : List ℕ) → a ≡ b → bytes_eq a b ≡ true
  same-bytes a b e = (bytes_eq-Decides a b).1 e

  pub insert-among : (user : List ℕ) (users : List (List ℕ)) (new : List ℕ)
      → list_any (bytes_eq user) (insert_key (user_order priority) users new) ≡ bytes_eq user new || list_any (bytes_eq user) users
  insert-among user [] new = refl
  insert-among user (other ∷ users) new = by (user_order priority new other) refl (insert-among user users new)
    where
      turn-round : (a b c : Bool) → a || (b || c) ≡ b || (a || c)
      turn-round true true c = refl
      turn-round true false c = refl
      turn-round false true c = refl
      turn-round false false c = refl

      held : (a c : Bool) → (bytes_eq user new ≡ a) → a || c ≡ bytes_eq user new || (a || c)
      held true c e = sym (ap (λ b. b || (true || c)) e)
      held false c e = sym (ap (λ b. b || (false || c)) e)

      by : (r : Ordering) → user_order priority new other ≡ r
          → list_any (bytes_eq user) (insert_key (user_order priority) users new) ≡ bytes_eq user new || list_any (bytes_eq user) users
          → list_any (bytes_eq user) (match_ordering r (new ∷ other ∷ users) (other ∷ users) (other ∷ insert_key (user_order priority) users new))
          ≡ bytes_eq user new || (bytes_eq user other || list_any (bytes_eq user) users)
      by Less e rest = refl
      by Equal e rest = held (bytes_eq user other) (list_any (bytes_eq user) users) (ap (bytes_eq user) (order_exact new other e))
      by Greater e rest = ap (λ b. bytes_eq user other || b) rest ∙ turn-round (bytes_eq user other) (bytes_eq user new) (list_any (bytes_eq user) users)

  abbrev pub users_from : List (List ℕ) → List Waiting → List (List ℕ)
  users_from users jobs = fold (λ us job. insert_key (user_order priority) us job.user) users jobs

  pub from-sorted : (users : List (List ℕ)) (jobs : List Waiting) → IsStrictlySortedBy (user_order priority) users
      → IsStrictlySortedBy (user_order priority) (users_from users jobs)
  from-sorted users [] h = h
  from-sorted users (job ∷ jobs) h =
      from-sorted (insert_key (user_order priority) users job.user) jobs (insert-sorted (user_order priority) order_total users job.user h)

  pub from-among : (user : List ℕ) (users : List (List ℕ)) (jobs : List Waiting)
      → list_any (bytes_eq user) (users_from users jobs) ≡ list_any (λ job. bytes_eq user job.user) jobs || list_any (bytes_eq user) users
  from-among user users [] = refl
  from-among user users (job ∷ jobs) =
      from-among user (insert_key (user_order priority) users job.user) jobs
      ∙ ap (λ b. list_any (λ job. bytes_eq user job.user) jobs || b) (insert-among user users job.user)
      ∙ moved (list_any (λ job. bytes_eq user job.user) jobs) (bytes_eq user job.user) (list_any (bytes_eq user) users)
    where
      moved : (a b c : Bool) → a || (b || c) ≡ (b || a) || c
      moved true true c = refl
      moved true false c = refl
      moved false true c = refl
      moved false false c = refl

-- ---- those with a job that waits

no-job : (test : Waiting → Bool) (jobs : List Waiting) → list_any test jobs ≡ false → (i : ℕ)
    → option_map_or test (slice_get jobs i) false ≡ false
no-job test [] none i = refl
no-job test (job ∷ jobs) none zero = first (test job) none
  where
    first : (a : Bool) → a || list_any test jobs ≡ false → a ≡ false
    first false e = refl
    first true e = absurd (cc)
no-job test (job ∷ jobs) none (suc i) = no-job test jobs (behind (test job) none) i
  where
    behind : (a : Bool) → a || list_any test jobs ≡ false → list_any test jobs ≡ false
    behind false e = e
    behind true e = absurd (cc)

any-none : {A : Type 0} (test : A → Bool) → ((x : A) → test x ≡ false) → (xs : List A) → list_any test xs ≡ false
any-none test each [] = refl
any-none test each (x ∷ xs) = ap (λ b. b || list_any test xs) (each x) ∙ any-none test each xs

any-named : (user : List ℕ) (q : List ℕ → Bool) (users : List (List ℕ))
    → list_any (bytes_eq user) (filter q users) ≡ (list_any (bytes_eq user) users && q user)
any-named user q [] = refl
any-named user q (other ∷ users) = by (bytes_eq user other) (q other) refl refl (any-named user q users)
  where
    absorbs : (a b : Bool) → a ≡ true → true ≡ (b || true) && a
    absorbs true true e = refl
    absorbs true false e = refl
    absorbs false b e = absurd (cc)

    none : (a b : Bool) → a ≡ false → b && a ≡ (true || b) && a
    none false true e = refl
    none false false e = refl
    none true b e = absurd (cc)

    by : (b c : Bool) → bytes_eq user other ≡ b → q other ≡ c
        → list_any (bytes_eq user) (filter q users) ≡ (list_any (bytes_eq user) users && q user)
        → list_any (bytes_eq user) (cond c (other ∷ filter q users) (filter q users)) ≡ ((b || list_any (bytes_eq user) users) && q user)
    by false false e f rest = rest
    by false true e f rest = ap (λ a. a || list_any (bytes_eq user) (filter q users)) e ∙ rest
    by true true e f rest =
        let here : q user ≡ true = ap q ((bytes_eq-Decides user other).0 e) ∙ f in
        ap (λ a. a || list_any (bytes_eq user) (filter q users)) e ∙ sym here
    by true false e f rest =
        let here : q user ≡ false = ap q ((bytes_eq-Decides user other).0 e) ∙ f in
        rest ∙ none (q user) (list_any (bytes_eq user) users) here

module _ {R : Type 0} (market : Market R) (made : List (Offer R)) where
  pub users-sorted : IsStrictlySortedBy (user_order market.priority) (users_of market made)
  users-sorted =
      filter-sorted (user_order market.priority) (order_total market.priority) (λ user. list_any (waits market user made) (places market.jobs))
      (all_users market)
      (from-sorted market.priority [] market.jobs (none-sorted (user_order market.priority)))

  pub users-those : (user : List ℕ) → list_any (bytes_eq user) (users_of market made) ≡ list_any (waits market user made) (places market.jobs)
  users-those user =
      any-named user (λ u. list_any (waits market u made) (places market.jobs)) (all_users market)
      ∙ ap (λ b. b && list_any (waits market user made) (places market.jobs)) (from-among market.priority user [] market.jobs)
      ∙ by (list_any (λ (job : Waiting). bytes_eq user job.user) market.jobs) refl
    where
      by : (b : Bool) → list_any (λ (job : Waiting). bytes_eq user job.user) market.jobs ≡ b
          → ((b || false) && list_any (waits market user made) (places market.jobs)) ≡ list_any (waits market user made) (places market.jobs)
      by true e = refl
      by false e =
          sym (any-none (waits market user made)
          (λ i. ap (λ b. b && is_waiting market made i) (no-job (λ (job : Waiting). bytes_eq user job.user) market.jobs e i))
          (places market.jobs))
