-- Two markets that are alike, but for the names of their resources and for offers made before: they have the same cycle.
use Rattle.std.proofs.Common.{◌≡◌, ◌-◌, ◌==◌, ℕ, zero, suc, Bool, true, false, not, ◌&&◌, ◌||◌, nat_lt, cond, if◌then◌else◌, List}
use Rattle.std.proofs.Common.{[], ◌∷◌, ◌++◌, filter, fold, length, map, count_by, slice_get, Option, None, Some, bytes_eq, refl, ap, sym, ◌∙◌}
use Rattle.std.proofs.Common.{subst, arith, append_assoc}
use Rattle.std.specs.Prelude.{option_map}
use Rattle.std.specs.List.{list_any, range_with_len}
use Rattle.std.specs.Option.{option_map_or}
use Rattle.std.specs.BTreeSet.{insert_key}
use Rattle.std.specs.Cmp.Lexicographic.{slice_cmp}
use Rattle.std.specs.Ordering.{match_ordering, nat_cmp, ordering_then}
use Rattle.std.proofs.lemmas.List.{append-nil, map-append}
use Rattle.std.proofs.lemmas.List.Sums.{sum_by-cons}
use Rattle.pie_slices.specs.Slices.{slices_of, weight_of}
use Rattle.claim_table.specs.Priorities.{user_order}
use Rattle.negotiator.specs.Cycle.{Market, Offer, PlainSpin, PlainTurn, Waiting, all_users, cycle_from, cycle_of, has_offer, is_empty, is_given, is_of}
use Rattle.negotiator.specs.Cycle.{is_waiting, offers_in, places, shares_of, spin, spins_within, turn, turns, users_of, waiting_count, waits, wants_of}
use Rattle.negotiator.specs.Mapped.{offer_mapped, spin_mapped, turn_mapped}
use Rattle.negotiator.proofs.CycleLemmas.{from, offer, offers-kept}

-- what is put in the place of each offer in n, where g says which offers stand in n for those made in m
pub record IsAlike {R S : Type 0} (rename : R → S) (m : Market R) (n : Market S) (g : List (Offer R) → List (Offer S))
    (P : List (Offer R) → Type 0) : Type 0 where
  pub ahead : (made : List (Offer R)) (o : Offer R) → g (made ++ o ∷ []) ≡ g made ++ offer_mapped rename o ∷ []
  pub size : length n.jobs ≡ length m.jobs
  pub of : (user : List ℕ) (i : ℕ) → is_of n user i ≡ is_of m user i
  pub waiting : (made : List (Offer R)) (i : ℕ) → is_waiting n (g made) i ≡ is_waiting m made i
  pub wants : (i : ℕ) → wants_of n i ≡ wants_of m i
  pub users : all_users n ≡ all_users m
  pub priority : (user : List ℕ) → n.priority user ≡ m.priority user
  pub free : (made : List (Offer R)) → P made → n.free (g made) ≡ m.free made
  pub find : (made : List (Offer R)) (i : ℕ) → P made → n.find (g made) i ≡ option_map (map rename) (m.find made i)
  pub step : (user : List ℕ) (made : List (Offer R)) (i : ℕ) (rs : List R) → P made → waits m user made i ≡ true → m.find made i ≡ Some rs
      → P (made ++ offer i rs ∷ [])

pub filter-same : {A : Type 0} (p q : A → Bool) → ((x : A) → p x ≡ q x) → (xs : List A) → filter p xs ≡ filter q xs
filter-same p q each [] = refl
filter-same p q each (x ∷ xs) = ap (λ b. cond b (x ∷ filter p xs) (filter p xs)) (each x) ∙ ap (λ l. cond (q x) (x ∷ l) l) (filter-same p q each xs)

pub any-same : {A : Type 0} (p q : A → Bool) → ((x : A) → p x ≡ q x) → (xs : List A) → list_any p xs ≡ list_any q xs
any-same p q each [] = refl
any-same p q each (x ∷ xs) = ap (λ b. b || list_any p xs) (each x) ∙ ap (λ b. q x || b) (any-same p q each xs)

map-same : {A B : Type 0} (f g : A → B) → ((x : A) → f x ≡ g x) → (xs : List A) → map f xs ≡ map g xs
map-same f g each [] = refl
map-same f g each (x ∷ xs) = ap (λ y. y ∷ map f xs) (each x) ∙ ap (λ l. g x ∷ l) (map-same f g each xs)

fold-same : {A B : Type 0} (f g : B → A → B) → ((b : B) (x : A) → f b x ≡ g b x) → (b : B) (xs : List A) → fold f b xs ≡ fold g b xs
fold-same f g each b [] = refl
fold-same f g each b (x ∷ xs) = ap (λ c. fold f c xs) (each b x) ∙ fold-same f g each (g b x) xs

module _ {R S : Type 0} (rename : R → S) (m : Market R) (n : Market S) (g : List (Offer R) → List (Offer S)) (P : List (Offer R) → Type 0)
    (alike : IsAlike rename m n g P) where
  abbrev renamed : List (Offer R) → List (Offer S)
  renamed os = map (offer_mapped rename) os

  ahead-all : (os made : List (Offer R)) → g (made ++ os) ≡ g made ++ renamed os
  ahead-all [] made = ap g (append-nil made) ∙ sym (append-nil (g made))
  ahead-all (o ∷ os) made =
      ap g (sym (append_assoc made (o ∷ []) os))
      ∙ ahead-all os (made ++ o ∷ [])
      ∙ ap (λ l. l ++ renamed os) (alike.ahead made o)
      ∙ append_assoc (g made) (offer_mapped rename o ∷ []) (renamed os)

  waits-same : (user : List ℕ) (made : List (Offer R)) (i : ℕ) → waits n user (g made) i ≡ waits m user made i
  waits-same user made i = ap (λ b. b && is_waiting n (g made) i) (alike.of user i) ∙ ap (λ b. is_of m user i && b) (alike.waiting made i)

  -- ---- a turn

  -- the offers are renamed, and behind them P holds
  pub record TurnAlike (made : List (Offer R)) (os : List (Offer R)) (there : List (Offer S)) : Type 0 where
    pub same : there ≡ renamed os
    pub kept : P (made ++ os)

  kept-none : (made : List (Offer R)) → P made → TurnAlike made [] []
  kept-none made p = record { same = refl; kept = subst P (sym (append-nil made)) p }

  module _ (user : List ℕ) (i : ℕ) (is : List ℕ) (left : ℕ) (given : Bool) (made : List (Offer R)) (p : P made) where
    from-alike : (w e : Bool) (f : Option (List R)) → waits m user made i ≡ w → m.find made i ≡ f
        → TurnAlike made (turn m user is left given made) (turn n user is left given (g made))
        → ((rs : List R) → P (made ++ offer i rs ∷ [])
        → TurnAlike (made ++ offer i rs ∷ []) (turn m user is (left - wants_of m i) true (made ++ offer i rs ∷ []))
        (turn n user is (left - wants_of m i) true (g (made ++ offer i rs ∷ []))))
        → TurnAlike made (from m user i is left given made w e f) (from n user i is left given (g made) w e (option_map (map rename) f))
    from-alike false e f waits_is find_is on after = on
    from-alike true true f waits_is find_is on after = kept-none made p
    from-alike true false None waits_is find_is on after = on
    from-alike true false (Some rs) waits_is find_is on after =
        let behind = after rs (alike.step user made i rs p waits_is find_is) in
        record {
          same =
              ap (λ k. offer i (map rename rs) ∷ turn n user is (left - k) true (g made ++ offer i (map rename rs) ∷ [])) (alike.wants i)
              ∙ ap (λ l. offer i (map rename rs) ∷ turn n user is (left - wants_of m i) true l) (sym (alike.ahead made (offer i rs)))
              ∙ ap (λ os. offer i (map rename rs) ∷ os) behind.same;
          kept = subst P (append_assoc made (offer i rs ∷ []) (turn m user is (left - wants_of m i) true (made ++ offer i rs ∷ []))) behind.kept;
        }

    choices : from n user i is left given (g made) (waits n user (g made) i) (given && nat_lt left (wants_of n i)) (n.find (g made) i)
        ≡ from n user i is left given (g made) (waits m user made i) (given && nat_lt left (wants_of m i)) (option_map (map rename) (m.find made i))
    choices =
        ap (λ w. from n user i is left given (g made) w (given && nat_lt left (wants_of n i)) (n.find (g made) i)) (waits-same user made i)
        ∙ ap (λ k. from n user i is left given (g made) (waits m user made i) (given && nat_lt left k) (n.find (g made) i)) (alike.wants i)
        ∙ ap (from n user i is left given (g made) (waits m user made i) (given && nat_lt left (wants_of m i))) (alike.find made i p)

  pub turn-alike : (user : List ℕ) (is : List ℕ) (left : ℕ) (given : Bool) (made : List (Offer R)) → P made
      → TurnAlike made (turn m user is left given made) (turn n user is left given (g made))
  turn-alike user [] left given made p = kept-none made p
  turn-alike user (i ∷ is) left given made p =
      let here = from-alike user i is left given made p (waits m user made i) (given && nat_lt left (wants_of m i)) (m.find made i) refl refl
      (turn-alike user is left given made p) (λ rs q. turn-alike user is (left - wants_of m i) true (made ++ offer i rs ∷ []) q) in
      record { same = choices user i is left given made p ∙ here.same; kept = here.kept }

  -- ---- a spin

  abbrev renamed_turns : List (PlainTurn R) → List (PlainTurn S)
  renamed_turns ts = map (turn_mapped rename) ts

  pub record TurnsAlike (made : List (Offer R)) (ts : List (PlainTurn R)) (there : List (PlainTurn S)) : Type 0 where
    pub same : there ≡ renamed_turns ts
    pub kept : P (made ++ offers_in ts)

  places-same : places n.jobs ≡ places m.jobs
  places-same = ap (range_with_len 0) alike.size

  no-turns : (made : List (Offer R)) → P made → TurnsAlike made [] []
  no-turns made p = record { same = refl; kept = subst P (sym (append-nil made)) p }

  turns-alike : (users : List (List ℕ)) (slices : List ℕ) (made : List (Offer R)) → P made
      → TurnsAlike made (turns m users slices made) (turns n users slices (g made))
  turns-alike [] slices made p = no-turns made p
  turns-alike (user ∷ users) [] made p = no-turns made p
  turns-alike (user ∷ users) (slice ∷ slices) made p =
      let os = turn m user (places m.jobs) slice false made in
      let first = turn-alike user (places m.jobs) slice false made p in
      let here : turn n user (places n.jobs) slice false (g made) ≡ renamed os = ap (λ is. turn n user is slice false (g made)) places-same ∙ first.same in
      let rest = turns-alike users slices (made ++ os) first.kept in
      record {
        same =
            ap (λ l. let t : PlainTurn S = record { user = user; slice = slice; offers = l } in t ∷ turns n users slices (g made ++ l)) here
            ∙ ap (λ l. let t : PlainTurn S = record { user = user; slice = slice; offers = renamed os } in t ∷ turns n users slices l)
            (sym (ahead-all os made))
            ∙ ap (λ l. let t : PlainTurn S = record { user = user; slice = slice; offers = renamed os } in t ∷ l) rest.same;
        kept = subst P (append_assoc made os (offers_in (turns m users slices (made ++ os)))) rest.kept;
      }

  users-same : (made : List (Offer R)) → users_of n (g made) ≡ users_of m made
  users-same made =
      ap (filter (λ user. list_any (waits n user (g made)) (places n.jobs))) alike.users
      ∙ filter-same (λ user. list_any (waits n user (g made)) (places n.jobs)) (λ user. list_any (waits m user made) (places m.jobs))
      (λ user. ap (list_any (waits n user (g made))) places-same
      ∙ any-same (waits n user (g made)) (waits m user made) (waits-same user made) (places m.jobs))
      (all_users m)

  shares-same : (made : List (Offer R)) → P made → shares_of n (g made) ≡ shares_of m made
  shares-same made p =
      ap (λ free. slices_of free (map (λ user. weight_of (n.priority user)) (users_of n (g made)))) (alike.free made p)
      ∙ ap (λ us. slices_of (m.free made) (map (λ user. weight_of (n.priority user)) us)) (users-same made)
      ∙ ap (slices_of (m.free made)) (map-same (λ user. weight_of (n.priority user)) (λ user. weight_of (m.priority user))
      (λ user. ap weight_of (alike.priority user)) (users_of m made))

  empty-renamed : (os : List (Offer R)) → is_empty (renamed os) ≡ is_empty os
  empty-renamed [] = refl
  empty-renamed (o ∷ os) = refl

  kept-renamed : (ts : List (PlainTurn R)) → filter has_offer (renamed_turns ts) ≡ renamed_turns (filter has_offer ts)
  kept-renamed [] = refl
  kept-renamed (t ∷ ts) =
      ap (λ b. cond (not b) (turn_mapped rename t ∷ filter has_offer (renamed_turns ts)) (filter has_offer (renamed_turns ts))) (empty-renamed t.offers)
      ∙ by (not (is_empty t.offers)) (kept-renamed ts)
    where
      by : (b : Bool) → filter has_offer (renamed_turns ts) ≡ renamed_turns (filter has_offer ts)
          → cond b (turn_mapped rename t ∷ filter has_offer (renamed_turns ts)) (filter has_offer (renamed_turns ts))
          ≡ renamed_turns (cond b (t ∷ filter has_offer ts) (filter has_offer ts))
      by true rest = ap (λ l. turn_mapped rename t ∷ l) rest
      by false rest = rest

  offers-renamed : (ts : List (PlainTurn R)) → offers_in (renamed_turns ts) ≡ renamed (offers_in ts)
  offers-renamed [] = refl
  offers-renamed (t ∷ ts) = ap (λ l. renamed t.offers ++ l) (offers-renamed ts) ∙ sym (map-append (offer_mapped rename) t.offers (offers_in ts))

  pub record SpinAlike (made : List (Offer R)) (one : PlainSpin R) (there : PlainSpin S) : Type 0 where
    pub same : there ≡ spin_mapped rename one
    pub kept : P (made ++ offers_in one.turns)

  pub spin-alike : (made : List (Offer R)) → P made → SpinAlike made (spin m made) (spin n (g made))
  spin-alike made p =
      let all = turns-alike (users_of m made) (shares_of m made) made p in
      let ts = turns m (users_of m made) (shares_of m made) made in
      let there : turns n (users_of n (g made)) (shares_of n (g made)) (g made) ≡ renamed_turns ts =
      ap (λ us. turns n us (shares_of n (g made)) (g made)) (users-same made)
      ∙ ap (λ ss. turns n (users_of m made) ss (g made)) (shares-same made p)
      ∙ all.same in
      record {
        same =
            ap (λ f. let s : PlainSpin S = record { free = f; turns = filter has_offer (turns n (users_of n (g made)) (shares_of n (g made)) (g made)) } in s)
            (alike.free made p)
            ∙ ap (λ l. let s : PlainSpin S = record { free = m.free made; turns = l } in s) (ap (filter has_offer) there ∙ kept-renamed ts);
        kept = subst (λ os. P (made ++ os)) (sym (offers-kept ts)) all.kept;
      }

  -- ---- a cycle

  abbrev renamed_spins : List (PlainSpin R) → List (PlainSpin S)
  renamed_spins ss = map (spin_mapped rename) ss

  empty-turns : (ts : List (PlainTurn R)) → is_empty (renamed_turns ts) ≡ is_empty ts
  empty-turns [] = refl
  empty-turns (t ∷ ts) = refl

  spins-alike : (k : ℕ) (made : List (Offer R)) → P made → spins_within n k (g made) ≡ renamed_spins (spins_within m k made)
  spins-alike zero made p = refl
  spins-alike (suc k) made p =
      let here = spin-alike made p in
      let os = offers_in (spin m made).turns in
      let rest = spins-alike k (made ++ os) here.kept in
      ap (λ (s : PlainSpin S). s ∷ (if is_empty s.turns then [] else spins_within n k (g made ++ offers_in s.turns))) here.same
      ∙ ap (λ b. spin_mapped rename (spin m made) ∷ (if b then [] else spins_within n k (g made ++ offers_in (renamed_turns (spin m made).turns))))
      (empty-turns (spin m made).turns)
      ∙ ap (λ l. spin_mapped rename (spin m made) ∷ (if is_empty (spin m made).turns then [] else spins_within n k (g made ++ l)))
      (offers-renamed (spin m made).turns)
      ∙ ap (λ l. spin_mapped rename (spin m made) ∷ (if is_empty (spin m made).turns then [] else spins_within n k l)) (sym (ahead-all os made))
      ∙ by (is_empty (spin m made).turns) rest
    where
      by : (b : Bool)
          → spins_within n k (g (made ++ offers_in (spin m made).turns)) ≡ renamed_spins (spins_within m k (made ++ offers_in (spin m made).turns))
          → (spin_mapped rename (spin m made) ∷ (if b then [] else spins_within n k (g (made ++ offers_in (spin m made).turns))))
          ≡ renamed_spins (spin m made ∷ (if b then [] else spins_within m k (made ++ offers_in (spin m made).turns)))
      by true rest = refl
      by false rest = ap (λ l. spin_mapped rename (spin m made) ∷ l) rest

  pub count-same : (made : List (Offer R)) → waiting_count n (g made) ≡ waiting_count m made
  count-same made = ap (count_by (is_waiting n (g made))) places-same ∙ sum-same (places m.jobs)
    where
      sum-same : (is : List ℕ) → count_by (is_waiting n (g made)) is ≡ count_by (is_waiting m made) is
      sum-same [] = refl
      sum-same (i ∷ is) =
          let one = ap (λ (b : Bool). let k : ℕ = cond b 1 0 in k) (alike.waiting made i) in
          let rest = sum-same is in
          omega (arith, one, rest, sum_by-cons (λ i. cond (is_waiting n (g made) i) 1 0) i is, sum_by-cons (λ i. cond (is_waiting m made i) 1 0) i is)

  pub cycle-alike : (made : List (Offer R)) → P made → cycle_from n (g made) ≡ renamed_spins (cycle_from m made)
  cycle-alike made p = ap (λ k. spins_within n (suc k) (g made)) (count-same made) ∙ spins-alike (suc (waiting_count m made)) made p

-- ---- other names alone

insert-same : (p q : List ℕ → ℕ) → ((user : List ℕ) → p user ≡ q user) → (users : List (List ℕ)) (user : List ℕ)
    → insert_key (user_order p) users user ≡ insert_key (user_order q) users user
insert-same p q each [] user = refl
insert-same p q each (other ∷ users) user =
    ap (λ r. match_ordering r (user ∷ other ∷ users) (other ∷ users) (other ∷ insert_key (user_order p) users user)) order
    ∙ ap (λ l. match_ordering (user_order q user other) (user ∷ other ∷ users) (other ∷ users) (other ∷ l)) (insert-same p q each users user)
  where
    order : user_order p user other ≡ user_order q user other
    order =
        ap (λ a. ordering_then (nat_cmp a (p other)) (slice_cmp nat_cmp user other)) (each user)
        ∙ ap (λ b. ordering_then (nat_cmp (q user) b) (slice_cmp nat_cmp user other)) (each other)

-- one market with other names for the resources of another
pub record IsRenamed {R S : Type 0} (rename : R → S) (m : Market R) (n : Market S) (P : List (Offer R) → Type 0) : Type 0 where
  pub jobs : n.jobs ≡ m.jobs
  pub priority : (user : List ℕ) → n.priority user ≡ m.priority user
  pub start : P []
  pub free : (made : List (Offer R)) → P made → n.free (map (offer_mapped rename) made) ≡ m.free made
  pub find : (made : List (Offer R)) (i : ℕ) → P made → n.find (map (offer_mapped rename) made) i ≡ option_map (map rename) (m.find made i)
  pub step : (user : List ℕ) (made : List (Offer R)) (i : ℕ) (rs : List R) → P made → waits m user made i ≡ true → m.find made i ≡ Some rs
      → P (made ++ offer i rs ∷ [])

module _ {R S : Type 0} (rename : R → S) (m : Market R) (n : Market S) (P : List (Offer R) → Type 0) (renames : IsRenamed rename m n P) where
  given-same : (made : List (Offer R)) (i : ℕ) → is_given (map (offer_mapped rename) made) i ≡ is_given made i
  given-same [] i = refl
  given-same (o ∷ os) i = ap (λ b. (o.job == i) || b) (given-same os i)

  is_alike : IsAlike rename m n (map (offer_mapped rename)) P
  is_alike = record {
    ahead = λ made o. map-append (offer_mapped rename) made (o ∷ []);
    size = ap length renames.jobs;
    of = λ user i. ap (λ jobs. option_map_or (λ (job : Waiting). bytes_eq user job.user) (slice_get jobs i) false) renames.jobs;
    waiting = λ made i.
        ap (λ jobs. option_map_or (λ (job : Waiting). job.is_idle) (slice_get jobs i) false && not (is_given (map (offer_mapped rename) made) i)) renames.jobs
        ∙ ap (λ b. option_map_or (λ (job : Waiting). job.is_idle) (slice_get m.jobs i) false && not b) (given-same made i);
    wants = λ i. ap (λ jobs. option_map_or (λ (job : Waiting). job.wants) (slice_get jobs i) 0) renames.jobs;
    users =
        ap (λ jobs. fold (λ users (job : Waiting). insert_key (user_order n.priority) users job.user) [] jobs) renames.jobs
        ∙ fold-same (λ users (job : Waiting). insert_key (user_order n.priority) users job.user)
        (λ users (job : Waiting). insert_key (user_order m.priority) users job.user)
        (λ users job. insert-same n.priority m.priority renames.priority users job.user) [] m.jobs;
    priority = renames.priority;
    free = renames.free;
    find = renames.find;
    step = renames.step;
  }

  -- the cycle of the one is that of the other with the other names
  pub cycle-renamed : cycle_of n ≡ map (spin_mapped rename) (cycle_of m)
  cycle-renamed = cycle-alike rename m n (map (offer_mapped rename)) P is_alike [] renames.start
