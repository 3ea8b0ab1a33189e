-- Heads of queues: the jobs before a head aren't due, and a turn does nothing for them.
use Rattle.std.proofs.Common.{◌≡◌, ◌≤◌, ◌<◌, ◌+◌, ℕ, zero, suc, Bool, true, false, not, ◌&&◌, ◌||◌, List, [], ◌∷◌, ◌++◌}
use Rattle.std.proofs.Common.{All, drop, filter, get_or, length, map, nat_lt, set, slice_get, take, Some, refl, ap, sym, ◌∙◌, subst, arith, ◌⊎◌}
use Rattle.std.proofs.Common.{inl, inr, get_or-set_same, get_or-set_other}
use Rattle.std.specs.List.{AllByRecursion, list_any}
use Rattle.std.specs.Option.{option_map_or}
use Rattle.std.proofs.lemmas.Bool.{cases_eq, cases_lt}
use Rattle.std.proofs.lemmas.List.{drop_all, drop_more, get_or-map, length-set, take-append-drop, take_more}
use Rattle.std.proofs.lemmas.Bool.Decides.{nat_tests}
use Rattle.std.proofs.lemmas.List.Elements.{All-cons, All-nil, All-push, All-set, recursion_from_All}
use Rattle.claim_table.specs.declared.job.Job.{Job}
use Rattle.job_clusters.specs.declared.scene.Scene.{Scene}
use Rattle.job_clusters.specs.Scenes.{stock_in}
use Rattle.negotiator.specs.declared.queues.Queue.{Queue}
use Rattle.negotiator.specs.Budget.{AreLeft, is_due, is_idle_at, is_marked}
use Rattle.negotiator.specs.Cycle.{Market, is_of, places, waits}
use Rattle.negotiator.specs.Queues.{AreFresh, AreQueues, IsAhead, IsAtHead, IsSame, Key, queue_of}
use Rattle.negotiator.specs.Scenes.{market_in, users_at}
use Rattle.claim_table.specs.Settings.{settings_of}
use Rattle.negotiator.proofs.ActiveLemmas.{any-own, read-at}
use Rattle.negotiator.proofs.CycleLemmas.{any-append}

-- ---- one queue

module _ (jobs : List Job) (failed : List Bool) where
  abbrev IsPassed : ℕ → Type 0
  IsPassed i = is_due jobs failed i ≡ false

  -- past one more job
  pub head-more : (q later : Queue) (i : ℕ) → IsAhead jobs failed q → slice_get q.places q.head ≡ Some i → is_due jobs failed i ≡ false
      → later ≡ record q { head = q.head + 1; has_failed = q.has_failed || is_idle_at jobs i } → IsAhead jobs failed later
  head-more q later i ahead at none is = subst (IsAhead jobs failed) (sym is) (record {
    within = let inside = here.0 in omega (arith, inside);
    passed = subst (All IsPassed) (sym grown) (All-push IsPassed (take q.head q.places) i ahead.passed none);
    noted =
        ap (λ b. b || is_idle_at jobs i) ahead.noted
        ∙ sym (ap (list_any (is_idle_at jobs)) grown ∙ any-append (is_idle_at jobs) (take q.head q.places) (i ∷ [])
        ∙ last (list_any (is_idle_at jobs) (take q.head q.places)) (is_idle_at jobs i));
  })
    where
      here : (q.head < length q.places) × (get_or q.places q.head 0 ≡ i)
      here = read-at q.places q.head i at

      grown : take (q.head + 1) q.places ≡ take q.head q.places ++ i ∷ []
      grown = take_more q.places q.head 0 here.0 ∙ ap (λ j. take q.head q.places ++ j ∷ []) here.1

      last : (a b : Bool) → a || (b || false) ≡ a || b
      last true b = refl
      last false true = refl
      last false false = refl

  -- at a job that is due
  pub head-due : (q : Queue) (i : ℕ) → slice_get q.places q.head ≡ Some i → is_due jobs failed i ≡ true → IsAtHead jobs failed q
  head-due q i at due within = ap (is_due jobs failed) ((read-at q.places q.head i at).1) ∙ due

  -- a head that was moved on tells whether a job is idle
  pub head-told : (q : Queue) → IsAhead jobs failed q → IsAtHead jobs failed q
      → (q.has_failed || nat_lt q.head (length q.places)) ≡ list_any (is_idle_at jobs) q.places
  head-told q ahead at_head =
      ap (λ b. b || nat_lt q.head (length q.places)) ahead.noted
      ∙ ap (λ b. list_any (is_idle_at jobs) (take q.head q.places) || b) (left (cases_lt q.head (length q.places)))
      ∙ sym (any-append (is_idle_at jobs) (take q.head q.places) (drop q.head q.places))
      ∙ ap (list_any (is_idle_at jobs)) (take-append-drop q.head q.places)
    where
      idle : (a b : Bool) → (a && not b) ≡ true → a ≡ true
      idle true b e = refl
      idle false b e = absurd (cc)

      left : (q.head < length q.places) ⊎ (length q.places ≤ q.head)
          → nat_lt q.head (length q.places) ≡ list_any (is_idle_at jobs) (drop q.head q.places)
      left (inl more) =
          yes_lt more
          ∙ sym (ap (list_any (is_idle_at jobs)) (drop_more q.places q.head 0 more)
          ∙ ap (λ b. b || list_any (is_idle_at jobs) (drop (q.head + 1) q.places))
          (idle (is_idle_at jobs (get_or q.places q.head 0)) (is_marked failed (get_or q.places q.head 0)) (at_head more)))
        where
          yes_lt : q.head < length q.places → nat_lt q.head (length q.places) ≡ true
          yes_lt h = grind (arith, nat_tests)
      left (inr none) = no_lt none ∙ sym (ap (list_any (is_idle_at jobs)) (drop_all q.head q.places none))
        where
          no_lt : length q.places ≤ q.head → nat_lt q.head (length q.places) ≡ false
          no_lt h = grind (arith, nat_tests)

-- whoever isn't due is left alone, so the head stays right
pub head-later : (jobs later : List Job) (failed marked : List Bool) (q : Queue) → AreLeft jobs failed later marked → IsAhead jobs failed q
    → IsAhead later marked q
head-later jobs later failed marked q others ahead = record {
  within = ahead.within;
  passed = λ i d inside. (others (get_or (take q.head q.places) i d) (ahead.passed i d inside)).0;
  noted = ahead.noted ∙ sym (same (take q.head q.places) (recursion_from_All _ _ ahead.passed));
}
  where
    same : (xs : List ℕ) → AllByRecursion (λ i. is_due jobs failed i ≡ false) xs → list_any (is_idle_at later) xs ≡ list_any (is_idle_at jobs) xs
    same [] none = refl
    same (x ∷ xs) none = ap (λ b. b || list_any (is_idle_at later) xs) ((others x none.0).1) ∙ ap (λ b. is_idle_at jobs x || b) (same xs none.1)

-- a queue that is moved on twice
pub same-moved : (a b c : Queue) (head : ℕ) (failed : Bool) → IsSame a b → c ≡ record b { head = head; has_failed = failed } → IsSame a c
same-moved a b c head failed same is =
    is
    ∙ ap (λ (q : Queue). let r : Queue = record q { head = head; has_failed = failed } in r) same
    ∙ ap (λ (q : Queue). let r : Queue = record a { head = q.head; has_failed = q.has_failed } in r) (sym is)

-- ---- all queues

pub fresh-all : (es : List (Key × List ℕ)) → All (λ (q : Queue). (q.head ≡ 0) × (q.has_failed ≡ false)) (map queue_of es)
fresh-all [] = All-nil (λ (q : Queue). (q.head ≡ 0) × (q.has_failed ≡ false))
fresh-all (e ∷ es) = All-cons (λ (q : Queue). (q.head ≡ 0) × (q.has_failed ≡ false)) (queue_of e) (map queue_of es) (refl, refl) (fresh-all es)

pub fresh-ahead : (market : Market ℕ) (jobs : List Job) (failed : List Bool) (queues : List Queue) → AreFresh market queues
    → All (IsAhead jobs failed) queues
fresh-ahead market jobs failed queues are k d within =
    let fresh = are.fresh k d within in
    record {
      within = omega (arith, fresh.0);
      passed =
          subst (λ n. All (λ i. is_due jobs failed i ≡ false) (take n (get_or queues k d).places)) (sym fresh.0)
          (All-nil (λ i. is_due jobs failed i ≡ false));
      noted = fresh.1 ∙ ap (λ n. list_any (is_idle_at jobs) (take n (get_or queues k d).places)) (sym fresh.0);
    }

abbrev Own : Market ℕ → Queue → Type 0
Own market q = q.places ≡ filter (is_of market q.user) (places market.jobs)

users-set : (qs : List Queue) (k : ℕ) (q d : Queue) → k < length qs → IsSame (get_or qs k d) q
    → map (λ (q : Queue). q.user) (set qs k q) ≡ map (λ (q : Queue). q.user) qs
users-set [] k q d within same = refl
users-set (x ∷ qs) zero q d within same = ap (λ u. u ∷ map (λ (q : Queue). q.user) qs) (ap (λ (q : Queue). q.user) same)
users-set (x ∷ qs) (suc k) q d within same = ap (λ us. x.user ∷ us) (users-set qs k q d (omega (arith, within)) same)

-- the heads of the first k queues are moved on
pub record AdvancedTo (jobs : List Job) (failed : List Bool) (began : List Queue) (k : ℕ) (queues : List Queue) : Type 0 where
  pub kept : (market : Market ℕ) → AreQueues market began → AreQueues market queues
  pub within : All (λ (q : Queue). All (λ i. i < length jobs) q.places) queues
  pub ahead : All (IsAhead jobs failed) queues
  pub at_head : (j : ℕ) (d : Queue) → j < k → j < length queues → IsAtHead jobs failed (get_or queues j d)

pub advanced-more : (jobs : List Job) (failed : List Bool) (began : List Queue) (k : ℕ) (queues : List Queue) → AdvancedTo jobs failed began k queues
    → k < length queues
    → (q later : Queue) → IsSame (get_or queues k q) later → IsAhead jobs failed later → IsAtHead jobs failed later
    → AdvancedTo jobs failed began (k + 1) (set queues k later)
advanced-more jobs failed began k queues so_far inside q later same ahead at_head = record {
  kept = λ market are. again market (so_far.kept market are);
  within =
      All-set (λ (q : Queue). All (λ i. i < length jobs) q.places) queues k later
      (subst (All (λ i. i < length jobs)) (sym places) (so_far.within k q inside)) so_far.within;
  ahead = All-set (IsAhead jobs failed) queues k later ahead so_far.ahead;
  at_head = λ j d low high. by j d (subst (λ n. j < n) (length-set queues k later) high) low (cases_eq j k);
}
  where
    places : later.places ≡ (get_or queues k q).places
    places = ap (λ (q : Queue). q.places) same

    again : (market : Market ℕ) → AreQueues market queues → AreQueues market (set queues k later)
    again market are = record {
      users = users-set queues k later q inside same ∙ are.users;
      numbers = All-set (λ (q : Queue). q.number ≡ market.priority q.user) queues k later
          (subst (λ (q : Queue). q.number ≡ market.priority q.user) (sym same) (are.numbers k q inside)) are.numbers;
      places = All-set (Own market) queues k later (subst (Own market) (sym same) (are.places k q inside)) are.places;
    }

    by : (j : ℕ) (d : Queue) → j < length queues → j < k + 1 → (j ≡ k) ⊎ (j ≡ k → ⊥)
        → IsAtHead jobs failed (get_or (set queues k later) j d)
    by j d high low (inl e) =
        subst (IsAtHead jobs failed) (sym (ap (λ j. get_or (set queues k later) j d) e ∙ get_or-set_same queues k later d inside)) at_head
    by j d high low (inr ne) = subst (IsAtHead jobs failed) (sym (get_or-set_other queues k j later d ne)) (so_far.at_head j d (omega (arith, low, ne)) high)

module _ (scene : Scene) (jobs : List Job) (failed : List Bool) (began : List Queue) (are : AreQueues (market_in scene jobs) began) (k : ℕ)
    (queues : List Queue) (long : length queues ≡ length began)
    (advanced : AdvancedTo jobs failed began (k + 1) queues) (within : k < length queues) where
  abbrev m : Market ℕ
  m = market_in scene jobs

  -- what the queue at a place tells, once its head is moved on
  pub told-active : (e d : Queue) → let q =
      get_or queues k e in (q.has_failed || nat_lt q.head (length q.places)) ≡ list_any (waits m (get_or began k d).user []) (places m.jobs)
  told-active e d =
      let q = get_or queues k e in
      head-told jobs failed q (advanced.ahead k e within) (advanced.at_head k e (omega arith) within)
      ∙ any-own scene.moment (stock_in scene) (settings_of scene.priorities.now) jobs q.user q.places ((advanced.kept m are).places k e within)
      ∙ ap (λ u. list_any (waits m u []) (places m.jobs)) user
    where
      user : (get_or queues k e).user ≡ (get_or began k d).user
      user =
          sym (get_or-map (λ (q : Queue). q.user) queues k e [] within)
          ∙ ap (λ us. get_or us k []) ((advanced.kept m are).users ∙ sym are.users)
          ∙ get_or-map (λ (q : Queue). q.user) began k d [] (omega (arith, within, long))

-- which users these are depends on the users alone
pub users-at-same : (queues others : List Queue) (active : List ℕ) → map (λ (q : Queue). q.user) queues ≡ map (λ (q : Queue). q.user) others
    → users_at queues active ≡ users_at others active
users-at-same queues others [] same = refl
users-at-same queues others (k ∷ active) same =
    ap (λ u. u ∷ users_at queues active) (read queues k ∙ ap (λ us. option_map_or (λ (u : List ℕ). u) (slice_get us k) []) same
    ∙ sym (read others k))
    ∙ ap (λ us. option_map_or (λ (q : Queue). q.user) (slice_get others k) [] ∷ us) (users-at-same queues others active same)
  where
    read : (qs : List Queue) (k : ℕ)
        → option_map_or (λ (q : Queue). q.user) (slice_get qs k) []
        ≡ option_map_or (λ (u : List ℕ). u) (slice_get (map (λ (q : Queue). q.user) qs) k) []
    read [] k = refl
    read (q ∷ qs) zero = refl
    read (q ∷ qs) (suc k) = read qs k
