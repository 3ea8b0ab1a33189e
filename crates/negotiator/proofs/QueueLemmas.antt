-- Queues of users in order: how a place is added, and what they hold once all jobs are added.
use Rattle.std.proofs.Common.{◌≡◌, ◌≢◌, ◌<◌, ◌≤◌, ◌+◌, ℕ, zero, suc, Bool, true, false, cond, List, [], ◌∷◌, ◌++◌, All}
use Rattle.std.proofs.Common.{filter, length, map, get_or, take, bytes_eq, Less, Equal, Greater, refl, ap, sym, ◌∙◌, ◌||◌, subst, arith, add-zero}
use Rattle.std.proofs.Common.{zero-add}
use Rattle.std.specs.Prelude.{slice_get, Option, Some, unwrap_or}
use Rattle.std.specs.BTreeMap.{insert_entry, is_at}
use Rattle.std.specs.BTreeSet.{insert_key}
use Rattle.std.specs.Cmp.{IsTotalOrder}
use Rattle.std.specs.Map.{keys_of, lookup}
use Rattle.std.specs.Cmp.Lexicographic.{slice_cmp}
use Rattle.std.specs.List.{AllByRecursion, list_any, range_with_len}
use Rattle.std.specs.List.Sorted.{IsStrictlySortedBy}
use Rattle.std.specs.Option.{option_map_or}
use Rattle.std.specs.Ordering.{is_eq, match_ordering, nat_cmp, ordering_reverse, ordering_then}
use Rattle.std.specs.declared.cmp.Ordering.{Ordering}
use Rattle.std.proofs.lemmas.Cmp.{nat_cmp_total, nat_list_cmp_total, on_total, then_total}
use Rattle.std.proofs.lemmas.List.{append-nil, take_all}
use Rattle.std.proofs.lemmas.List.Elements.{All-cons, All-head, All-nil, All-tail}
use Rattle.std.proofs.lemmas.List.Sums.{fold_more}
use Rattle.std.proofs.lemmas.Map.{lookup-none}
use Rattle.std.proofs.lemmas.Map.Entries.{none_below_head}
use Rattle.std.proofs.lemmas.Map.Keys.{sorted_head, sorted_tail}
use Rattle.std.proofs.lemmas.Slice.Eq.{bytes_eq-Decides}
use Rattle.claim_table.specs.Priorities.{user_order}
use Rattle.negotiator.specs.declared.queues.Queue.{Queue}
use Rattle.negotiator.specs.Cycle.{Market, Waiting, is_of}
use Rattle.negotiator.specs.Queues.{AreQueues, Key, enqueued, key_order, queue_of}
use Rattle.negotiator.proofs.UserLemmas.{from-among, from-sorted, none-sorted, order_exact, order_total, same-bytes, users_from}

key_total : IsTotalOrder key_order
key_total = then_total (on_total (λ (k : Key). k.0) nat_cmp_total) (on_total (λ (k : Key). k.1.items) nat_list_cmp_total)

module _ (priority : List ℕ → ℕ) (user : List ℕ) (place : ℕ) where
  abbrev order : List ℕ → List ℕ → Ordering
  order = user_order priority

  abbrev new : Queue
  new = record { user = user; number = priority user; places = place ∷ []; head = 0; has_failed = false }

  abbrev longer : Queue → Queue
  longer queue = record queue { places = queue.places ++ place ∷ [] }

  abbrev users : List Queue → List (List ℕ)
  users queues = map (λ (queue : Queue). queue.user) queues

  turned : (a b : List ℕ) (r s : Ordering) → order a b ≡ r → ordering_reverse r ≡ s → order b a ≡ s
  turned a b r s e f = (order_total priority).antisymm b a ∙ ap ordering_reverse e ∙ f

  abbrev choice : Queue → List Queue → Ordering → List Queue
  choice queue queues r = match_ordering r (new ∷ queue ∷ queues) (longer queue ∷ queues) (queue ∷ enqueued priority user place queues)

  -- ---- a place more in the map

  -- the keys come in the order of their users
  order-is : (a b : Key) → a.0 ≡ priority a.1.items → b.0 ≡ priority b.1.items → key_order a b ≡ order a.1.items b.1.items
  order-is a b of_a of_b =
      ap (λ n. ordering_then (nat_cmp n b.0) (slice_cmp nat_cmp a.1.items b.1.items)) of_a
      ∙ ap (λ n. ordering_then (nat_cmp (priority a.1.items) n) (slice_cmp nat_cmp a.1.items b.1.items)) of_b

  abbrev Places : Type 0
  Places = List (Key × List ℕ)

  abbrev grown : Key → Places → List ℕ
  grown key es = unwrap_or (lookup (is_at (key_order key)) es) [] ++ place ∷ []

  pub gathered-more : (key : Key) → key.1.items ≡ user → key.0 ≡ priority user → (es : Places) → IsStrictlySortedBy key_order (keys_of es)
      → All (λ (q : Queue). q.number ≡ priority q.user) (map queue_of es)
      → map queue_of (insert_entry key_order es key (grown key es)) ≡ enqueued priority user place (map queue_of es)
  gathered-more key name number [] sorted numbers =
      ap (λ u. let q : Queue = record { user = u; number = key.0; places = place ∷ []; head = 0; has_failed = false } in q ∷ []) name
      ∙ ap (λ n. let q : Queue = record { user = user; number = n; places = place ∷ []; head = 0; has_failed = false } in q ∷ []) number
  gathered-more key name number (e ∷ es) sorted numbers =
      by (key_order key e.0) refl (gathered-more key name number es (sorted_tail key_order e.0 (keys_of es) sorted)
      (All-tail (λ (q : Queue). q.number ≡ priority q.user) (queue_of e) (map queue_of es) numbers))
      ∙ ap (choice (queue_of e) (map queue_of es)) same
    where
      same : key_order key e.0 ≡ order user e.0.1.items
      same =
          order-is key e.0 (number ∙ ap priority (sym name)) (All-head (λ (q : Queue). q.number ≡ priority q.user) (queue_of e) (map queue_of es) numbers)
          ∙ ap (λ u. order u e.0.1.items) name

      first : queue_of (key, place ∷ []) ≡ new
      first =
          ap (λ u. let q : Queue = record { user = u; number = key.0; places = place ∷ []; head = 0; has_failed = false } in q) name
          ∙ ap (λ n. let q : Queue = record { user = user; number = n; places = place ∷ []; head = 0; has_failed = false } in q) number

      longer_by : Ordering → List ℕ
      longer_by r = unwrap_or (cond (is_eq r) (Some e.1) (lookup (is_at (key_order key)) es)) [] ++ place ∷ []

      by : (r : Ordering) → key_order key e.0 ≡ r
          → map queue_of (insert_entry key_order es key (grown key es)) ≡ enqueued priority user place (map queue_of es)
          → map queue_of (match_ordering r ((key, longer_by r) ∷ e ∷ es) ((e.0, longer_by r) ∷ es) (e ∷ insert_entry key_order es key (longer_by r)))
          ≡ choice (queue_of e) (map queue_of es) r
      by Less is rest =
          ap (λ (o : Option (List ℕ)). queue_of (key, unwrap_or o [] ++ place ∷ []) ∷ map queue_of (e ∷ es))
          (lookup-none (is_at (key_order key)) es ((none_below_head key_total key e es sorted is).1))
          ∙ ap (λ q. q ∷ map queue_of (e ∷ es)) first
      by Equal is rest = refl
      by Greater is rest = ap (λ l. queue_of e ∷ l) rest

  -- ---- what they hold

  pub enqueued-users : (queues : List Queue) → users (enqueued priority user place queues) ≡ insert_key order (users queues) user
  enqueued-users [] = refl
  enqueued-users (q ∷ qs) = by (order user q.user) (enqueued-users qs)
    where
      by : (r : Ordering) → users (enqueued priority user place qs) ≡ insert_key order (users qs) user
          → users (choice q qs r) ≡ match_ordering r (user ∷ q.user ∷ users qs) (q.user ∷ users qs) (q.user ∷ insert_key order (users qs) user)
      by Less rest = refl
      by Equal rest = refl
      by Greater rest = ap (λ l. q.user ∷ l) rest

  itself : (a : List ℕ) → order a a ≡ Equal
  itself a = by (order a a) ((order_total priority).antisymm a a)
    where
      by : (r : Ordering) → r ≡ ordering_reverse r → r ≡ Equal
      by Equal e = refl
      by Less e = absurd (cc)
      by Greater e = absurd (cc)

  apart : (a b : List ℕ) → order a b ≡ Less → b ≢ a
  apart a b less e = let same : order a b ≡ Equal = ap (order a) e ∙ itself a in let clash : Less ≡ Equal = sym less ∙ same in cc

  not-named : (y : List ℕ) → y ≢ user → bytes_eq user y ≡ false
  not-named y ne = by (bytes_eq user y) refl
    where
      by : (b : Bool) → bytes_eq user y ≡ b → bytes_eq user y ≡ false
      by true e = absurd (ne (sym ((bytes_eq-Decides user y).0 e)))
      by false e = e

  none-among : (ys : List (List ℕ)) → AllByRecursion (λ y. y ≢ user) ys → list_any (bytes_eq user) ys ≡ false
  none-among [] h = refl
  none-among (y ∷ ys) h = ap (λ b. b || list_any (bytes_eq user) ys) (not-named y h.0) ∙ none-among ys h.1

  all-apart : (x : List ℕ) (ys : List (List ℕ)) → ((y : List ℕ) → order x y ≡ Less → y ≢ user) → AllByRecursion (λ y. order x y ≡ Less) ys
      → AllByRecursion (λ y. y ≢ user) ys
  all-apart x [] each h = tt
  all-apart x (y ∷ ys) each h = (each y h.0, all-apart x ys each h.1)

  -- what holds of each, where it comes to hold of a new queue and of the user's own with one place more, and of the others as they are
  module _ (P Q : Queue → Type 0) (others : (q : Queue) → q.user ≢ user → P q → Q q)
      (own : (q : Queue) → q.user ≡ user → P q → Q (longer q)) where
    all-others : (qs : List Queue) → AllByRecursion (λ y. y ≢ user) (users qs) → All P qs → All Q qs
    all-others [] ne h = All-nil Q
    all-others (q ∷ qs) ne h = All-cons Q q qs (others q ne.0 (All-head P q qs h)) (all-others qs ne.1 (All-tail P q qs h))

    pub enqueued-all : (queues : List Queue) → IsStrictlySortedBy order (users queues) → (list_any (bytes_eq user) (users queues) ≡ false → Q new)
        → All P queues → All Q (enqueued priority user place queues)
    enqueued-all [] sorted fresh h = All-cons Q new [] (fresh refl) (All-nil Q)
    enqueued-all (q ∷ qs) sorted fresh h =
        by (order user q.user) refl
        (λ free. enqueued-all qs (sorted_tail order q.user (users qs) sorted) free (All-tail P q qs h))
      where
        head : P q
        head = All-head P q qs h

        rest : All P qs
        rest = All-tail P q qs h

        behind : AllByRecursion (λ y. order q.user y ≡ Less) (users qs)
        behind = sorted_head order q.user (users qs) sorted

        by : (r : Ordering) → order user q.user ≡ r
            → ((list_any (bytes_eq user) (users qs) ≡ false → Q new) → All Q (enqueued priority user place qs))
            → All Q (choice q qs r)
        by Less e deeper =
            let ne = apart user q.user e in
            let all = all-apart q.user (users qs) (λ y less. apart user y ((order_total priority).trans user q.user y e less)) behind in
            let none : list_any (bytes_eq user) (q.user ∷ users qs) ≡ false = none-among (q.user ∷ users qs) (ne, all) in
            All-cons Q new (q ∷ qs) (fresh none) (All-cons Q q qs (others q ne head) (all-others qs all rest))
        by Equal e deeper =
            let same : user ≡ q.user = order_exact priority user q.user e in
            let all = all-apart q.user (users qs) (λ y less same_y. apart q.user y less (same_y ∙ same)) behind in
            All-cons Q (longer q) qs (own q (sym same) head) (all-others qs all rest)
        by Greater e deeper =
            let less = turned user q.user Greater Less e refl in
            let ne : q.user ≢ user = λ same. apart q.user user less (sym same) in
            All-cons Q q (enqueued priority user place qs) (others q ne head)
            (deeper (λ none. fresh (ap (λ b. b || list_any (bytes_eq user) (users qs)) (not-named q.user ne) ∙ none)))

-- ---- all jobs

or-false : (a b : Bool) → a || b ≡ false → (a ≡ false) × (b ≡ false)
or-false true b e = absurd (cc)
or-false false b e = (refl, e)

pub slice_get_is : {A : Type 0} (xs : List A) (i : ℕ) (d : A) → i < length xs → slice_get xs i ≡ Some (get_or xs i d)
slice_get_is [] i d within = absurd (omega (arith, within))
slice_get_is (x ∷ xs) zero d within = refl
slice_get_is (x ∷ xs) (suc i) d within = slice_get_is xs i d (omega (arith, within))

filter-none : (p : ℕ → Bool) (a n : ℕ) → ((j : ℕ) → a ≤ j → j < a + n → p j ≡ false) → filter p (range_with_len a n) ≡ []
filter-none p a zero fails = refl
filter-none p a (suc n) fails =
    ap (λ b. cond b (a ∷ filter p (range_with_len (a + 1) n)) (filter p (range_with_len (a + 1) n))) (fails a (omega arith) (omega arith))
    ∙ filter-none p (a + 1) n (λ j low high. fails j (omega (arith, low)) (omega (arith, high)))

pub range-more : (a n : ℕ) → range_with_len a (n + 1) ≡ range_with_len a n ++ (a + n) ∷ []
range-more a zero = ap (λ k. k ∷ []) (sym (add-zero a))
range-more a (suc n) =
    let next : suc n + 1 ≡ suc (n + 1) = omega arith in
    let last : a + 1 + n ≡ a + suc n = omega arith in
    ap (range_with_len a) next
    ∙ ap (λ l. a ∷ l) (range-more (a + 1) n ∙ ap (λ k. range_with_len (a + 1) n ++ k ∷ []) last)

filter-more : (p : ℕ → Bool) (xs ys : List ℕ) → filter p (xs ++ ys) ≡ filter p xs ++ filter p ys
filter-more p [] ys = refl
filter-more p (x ∷ xs) ys = by (p x) (filter-more p xs ys)
  where
    by : (b : Bool) → filter p (xs ++ ys) ≡ filter p xs ++ filter p ys
        → cond b (x ∷ filter p (xs ++ ys)) (filter p (xs ++ ys)) ≡ cond b (x ∷ filter p xs) (filter p xs) ++ filter p ys
    by true rest = ap (λ l. x ∷ l) rest
    by false rest = rest

none-before : {A : Type 0} (test : A → Bool) (xs : List A) (n : ℕ) → list_any test (take n xs) ≡ false → (j : ℕ) → j < n
    → option_map_or test (slice_get xs j) false ≡ false
none-before test [] n none j low = refl
none-before test (x ∷ xs) zero none j low = absurd (omega (arith, low))
none-before test (x ∷ xs) (suc n) none zero low = (or-false (test x) (list_any test (take n xs)) none).0
none-before test (x ∷ xs) (suc n) none (suc j) low = none-before test xs n ((or-false (test x) (list_any test (take n xs)) none).1) j (omega (arith, low))

-- the queues once the first n jobs are added
pub record QueuesTo (market : Market ℕ) (n : ℕ) (queues : List Queue) : Type 0 where
  pub users : map (λ (q : Queue). q.user) queues ≡ users_from market.priority [] (take n market.jobs)
  pub numbers : All (λ (q : Queue). q.number ≡ market.priority q.user) queues
  pub places : All (λ (q : Queue). q.places ≡ filter (is_of market q.user) (range_with_len 0 n)) queues

module _ (market : Market ℕ) where
  pub queues-none : QueuesTo market 0 []
  queues-none =
      record {
        users =
            refl;
        numbers =
            All-nil (λ (q : Queue). q.number ≡ market.priority q.user);
        places =
            All-nil (λ (q : Queue). q.places ≡ filter (is_of market q.user) (range_with_len 0 0));
      }

  module _ (n : ℕ) (queues : List Queue) (so_far : QueuesTo market n queues) where
    pub queues-sorted : IsStrictlySortedBy (user_order market.priority) (map (λ (q : Queue). q.user) queues)
    queues-sorted =
        subst (IsStrictlySortedBy (user_order market.priority)) (sym so_far.users)
        (from-sorted market.priority [] (take n market.jobs) (none-sorted (user_order market.priority)))

    pub queues-all : length market.jobs ≤ n → n ≤ length market.jobs → AreQueues market queues
    queues-all low high =
        let same : n ≡ length market.jobs = omega (arith, low, high) in
        record {
          users = so_far.users ∙ ap (users_from market.priority []) (take_all n market.jobs low);
          numbers = so_far.numbers;
          places = subst (λ k. All (λ (q : Queue). q.places ≡ filter (is_of market q.user) (range_with_len 0 k)) queues) same so_far.places;
        }

    module _ (user : List ℕ) (d : Waiting) (within : n < length market.jobs) (is : (get_or market.jobs n d).user ≡ user) where
      here : (other : List ℕ) → is_of market other n ≡ bytes_eq other user
      here other =
          ap (λ o. option_map_or (λ (job : Waiting). bytes_eq other job.user) o false) (slice_get_is market.jobs n d within) ∙ ap (bytes_eq other) is

      more : (other : List ℕ) (b : Bool) → bytes_eq other user ≡ b
          → filter (is_of market other) (range_with_len 0 (n + 1)) ≡ filter (is_of market other) (range_with_len 0 n) ++ cond b (n ∷ []) []
      more other b e =
          ap (filter (is_of market other)) (range-more 0 n)
          ∙ filter-more (is_of market other) (range_with_len 0 n) ((0 + n) ∷ [])
          ∙ ap (λ k. filter (is_of market other) (range_with_len 0 n) ++ filter (is_of market other) (k ∷ [])) (zero-add n)
          ∙ ap (λ c. filter (is_of market other) (range_with_len 0 n) ++ cond c (n ∷ []) []) (here other ∙ e)

      not-same : (other : List ℕ) → other ≢ user → bytes_eq other user ≡ false
      not-same other ne = by (bytes_eq other user) refl
        where
          by : (b : Bool) → bytes_eq other user ≡ b → bytes_eq other user ≡ false
          by true e = absurd (ne ((bytes_eq-Decides other user).0 e))
          by false e = e

      abbrev Before : Queue → Type 0
      Before q = q.places ≡ filter (is_of market q.user) (range_with_len 0 n)

      abbrev After : Queue → Type 0
      After q = q.places ≡ filter (is_of market q.user) (range_with_len 0 (n + 1))

      fresh : list_any (bytes_eq user) (map (λ (q : Queue). q.user) queues) ≡ false → n ∷ [] ≡ filter (is_of market user) (range_with_len 0 (n + 1))
      fresh none =
          let all : list_any (λ (job : Waiting). bytes_eq user job.user) (take n market.jobs) || false ≡ false =
          sym (from-among market.priority user [] (take n market.jobs)) ∙ ap (list_any (bytes_eq user)) (sym so_far.users) ∙ none in
          let each =
          none-before (λ (job : Waiting). bytes_eq user job.user) market.jobs n
          ((or-false (list_any (λ (job : Waiting). bytes_eq user job.user) (take n market.jobs)) false all).0) in
          sym (more user true (same-bytes market.priority user user refl)
          ∙ ap (λ l. l ++ n ∷ []) (filter-none (is_of market user) 0 n (λ j low high. each j (omega (arith, high)))))

      pub queues-more : QueuesTo market (n + 1) (enqueued market.priority user n queues)
      queues-more = record {
        users =
            enqueued-users market.priority user n queues
            ∙ ap (λ us. insert_key (user_order market.priority) us user) so_far.users
            ∙ ap (insert_key (user_order market.priority) (users_from market.priority [] (take n market.jobs))) (sym is)
            ∙ sym (fold_more (λ us (job : Waiting). insert_key (user_order market.priority) us job.user) [] market.jobs n d within);
        numbers =
            enqueued-all market.priority user n (λ q. q.number ≡ market.priority q.user) (λ q. q.number ≡ market.priority q.user)
            (λ q ne h. h) (λ q same h. h) queues queues-sorted (λ none. refl) so_far.numbers;
        places =
            enqueued-all market.priority user n Before After
            (λ q ne h. h ∙ sym (append-nil (filter (is_of market q.user) (range_with_len 0 n))) ∙ sym (more q.user false (not-same q.user ne)))
            (λ q same h. ap (λ l. l ++ n ∷ []) h ∙ sym (more q.user true (same-bytes market.priority q.user user same)))
            queues queues-sorted fresh so_far.places;
      }
