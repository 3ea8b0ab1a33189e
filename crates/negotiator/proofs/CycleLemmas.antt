-- Turns, spins and cycles of any market, step by step.
use Rattle.std.proofs.Common.{◌≡◌, ◌≤◌, ◌<◌, ◌+◌, ◌-◌, ◌==◌, ℕ, zero, suc, Bool, true, false, not, ◌&&◌, ◌||◌, nat_lt}
use Rattle.std.proofs.Common.{cond, if◌then◌else◌, List, [], ◌∷◌, ◌++◌, filter, length, slice_get, Option, None, Some, refl, ap, sym, ◌∙◌}
use Rattle.std.proofs.Common.{subst, arith, append_assoc, eq-eqb}
use Rattle.std.specs.List.{list_any}
use Rattle.std.specs.Option.{option_map_or}
use Rattle.std.proofs.lemmas.List.{append-nil, length-append}
use Rattle.negotiator.specs.Cycle.{Market, Offer, PlainSpin, PlainTurn, Waiting, cycle_from, has_offer, is_empty, is_given, is_of, is_waiting, offers_in}
use Rattle.negotiator.specs.Cycle.{places, shares_of, spin, spins_within, turn, turns, users_of, waiting_count, waits, wants_of}
use Rattle.negotiator.proofs.SumLemmas.{sum-falls}

-- ---- choices

and-true : (a b : Bool) → (a && b) ≡ true → (a ≡ true) × (b ≡ true)
and-true true b e = (refl, e)
and-true false b e = absurd (cc)

pub any-append : {A : Type 0} (test : A → Bool) (xs ys : List A) → list_any test (xs ++ ys) ≡ list_any test xs || list_any test ys
any-append test [] ys = refl
any-append test (x ∷ xs) ys = by (test x) (any-append test xs ys)
  where
    by : (b : Bool) → list_any test (xs ++ ys) ≡ list_any test xs || list_any test ys
        → b || list_any test (xs ++ ys) ≡ (b || list_any test xs) || list_any test ys
    by true rest = refl
    by false rest = rest

-- ---- offers

module _ {R : Type 0} where
  abbrev pub offer : ℕ → List R → Offer R
  offer i resources = record { job = i; resources = resources }

  pub offers-append : (ts us : List (PlainTurn R)) → offers_in (ts ++ us) ≡ offers_in ts ++ offers_in us
  offers-append [] us = refl
  offers-append (t ∷ ts) us = ap (λ os. t.offers ++ os) (offers-append ts us) ∙ sym (append_assoc t.offers (offers_in ts) (offers_in us))

  -- what is kept of turns has all their offers
  pub offers-kept : (ts : List (PlainTurn R)) → offers_in (filter has_offer ts) ≡ offers_in ts
  offers-kept [] = refl
  offers-kept (t ∷ ts) = by t.offers refl (offers-kept ts)
    where
      by : (os : List (Offer R)) → t.offers ≡ os → offers_in (filter has_offer ts) ≡ offers_in ts
          → offers_in (cond (not (is_empty os)) (t ∷ filter has_offer ts) (filter has_offer ts)) ≡ t.offers ++ offers_in ts
      by [] none rest = rest ∙ ap (λ os. os ++ offers_in ts) (sym none)
      by (o ∷ os) some rest = ap (λ os. t.offers ++ os) rest

  -- where something is kept there is an offer
  pub kept-some : (ts : List (PlainTurn R)) → is_empty (filter has_offer ts) ≡ false → 1 ≤ length (offers_in (filter has_offer ts))
  kept-some [] e = absurd (cc)
  kept-some (t ∷ ts) e = by t.offers refl (kept-some ts) e
    where
      by : (os : List (Offer R)) → t.offers ≡ os → (is_empty (filter has_offer ts) ≡ false → 1 ≤ length (offers_in (filter has_offer ts)))
          → is_empty (cond (not (is_empty os)) (t ∷ filter has_offer ts) (filter has_offer ts)) ≡ false
          → 1 ≤ length (offers_in (cond (not (is_empty os)) (t ∷ filter has_offer ts) (filter has_offer ts)))
      by [] none rest e = rest e
      by (o ∷ os) some rest e =
          let parts = length-append t.offers (offers_in (filter has_offer ts)) in
          let head : 1 ≤ length t.offers = subst (λ (l : List (Offer R)). 1 ≤ length l) (sym some) (omega arith) in
          omega (arith, parts, head)

-- ---- a turn, job by job

module _ {R : Type 0} (market : Market R) (user : List ℕ) (i : ℕ) (is : List ℕ) (left : ℕ) (given : Bool) (made : List (Offer R)) where
  abbrev pub from : Bool → Bool → Option (List R) → List (Offer R)
  from waiting ended resources =
      if waiting
      then (if ended
      then []
      else option_map_or
      (λ rs. offer i rs ∷ turn market user is (left - wants_of market i) true (made ++ offer i rs ∷ []))
      resources
      (turn market user is left given made))
      else turn market user is left given made

  pub turn-skips : waits market user made i ≡ false → turn market user (i ∷ is) left given made ≡ turn market user is left given made
  turn-skips w = ap (λ b. from b (given && nat_lt left (wants_of market i)) (market.find made i)) w

  pub turn-ends : waits market user made i ≡ true → (given && nat_lt left (wants_of market i)) ≡ true
      → turn market user (i ∷ is) left given made ≡ []
  turn-ends w e = ap (λ b. from b (given && nat_lt left (wants_of market i)) (market.find made i)) w ∙ ap (λ b. from true b (market.find made i)) e

  pub turn-fails : waits market user made i ≡ true → (given && nat_lt left (wants_of market i)) ≡ false → market.find made i ≡ None
      → turn market user (i ∷ is) left given made ≡ turn market user is left given made
  turn-fails w e f =
      ap (λ b. from b (given && nat_lt left (wants_of market i)) (market.find made i)) w ∙ ap (λ b. from true b (market.find made i)) e
      ∙ ap (from true false) f

  pub turn-finds : (rs : List R) → waits market user made i ≡ true → (given && nat_lt left (wants_of market i)) ≡ false
      → market.find made i ≡ Some rs
      → turn market user (i ∷ is) left given made ≡ offer i rs ∷ turn market user is (left - wants_of market i) true (made ++ offer i rs ∷ [])
  turn-finds rs w e f =
      ap (λ b. from b (given && nat_lt left (wants_of market i)) (market.find made i)) w ∙ ap (λ b. from true b (market.find made i)) e
      ∙ ap (from true false) f

-- one of the four, where a statement holds of each
module _ {R : Type 0} (market : Market R) (user : List ℕ) (P : List ℕ → ℕ → Bool → List (Offer R) → List (Offer R) → Type 0)
    (none : (left : ℕ) (given : Bool) (made : List (Offer R)) → P [] left given made [])
    (skips : (i : ℕ) (is : List ℕ) (left : ℕ) (given : Bool) (made rest : List (Offer R)) → P is left given made rest
    → P (i ∷ is) left given made rest)
    (ends : (i : ℕ) (is : List ℕ) (left : ℕ) (given : Bool) (made : List (Offer R)) → P (i ∷ is) left given made [])
    (finds : (i : ℕ) (is : List ℕ) (left : ℕ) (given : Bool) (made rest : List (Offer R)) (rs : List R) → waits market user made i ≡ true
    → market.find made i ≡ Some rs
    → P is (left - wants_of market i) true (made ++ offer i rs ∷ []) rest → P (i ∷ is) left given made (offer i rs ∷ rest)) where
  pub turn-by : (is : List ℕ) (left : ℕ) (given : Bool) (made : List (Offer R)) → P is left given made (turn market user is left given made)
  turn-by [] left given made = none left given made
  turn-by (i ∷ is) left given made =
      by (waits market user made i) refl (given && nat_lt left (wants_of market i)) (market.find made i) refl (turn-by is left given made)
      (λ rs. turn-by is (left - wants_of market i) true (made ++ offer i rs ∷ []))
    where
      by : (w : Bool) → waits market user made i ≡ w → (e : Bool) (f : Option (List R)) → market.find made i ≡ f
          → P is left given made (turn market user is left given made)
          → ((rs : List R)
          → P is (left - wants_of market i) true (made ++ offer i rs ∷ [])
          (turn market user is (left - wants_of market i) true (made ++ offer i rs ∷ [])))
          → P (i ∷ is) left given made (from market user i is left given made w e f)
      by false w e f found on after = skips i is left given made (turn market user is left given made) on
      by true w true f found on after = ends i is left given made
      by true w false None found on after = skips i is left given made (turn market user is left given made) on
      by true w false (Some rs) found on after =
          finds i is left given made (turn market user is (left - wants_of market i) true (made ++ offer i rs ∷ [])) rs w found (after rs)

-- ---- who waits

abbrev as_count : Bool → ℕ
as_count b = cond b 1 0

module _ {R : Type 0} (market : Market R) where
  pub waits-is : (user : List ℕ) (made : List (Offer R)) (i : ℕ) → waits market user made i ≡ true
      → (is_of market user i ≡ true) × (is_waiting market made i ≡ true)
  waits-is user made i w = and-true (is_of market user i) (is_waiting market made i) w

  pub within-from : (test : Waiting → Bool) (jobs : List Waiting) (i : ℕ) → option_map_or test (slice_get jobs i) false ≡ true → i < length jobs
  within-from test [] i e = absurd (cc)
  within-from test (job ∷ jobs) zero e = omega arith
  within-from test (job ∷ jobs) (suc i) e = let rest = within-from test jobs i e in omega (arith, rest)

  given-more : (made : List (Offer R)) (i j : ℕ) (rs : List R) → is_given (made ++ offer i rs ∷ []) j ≡ is_given made j || ((i == j) || false)
  given-more made i j rs = any-append (λ (o : Offer R). o.job == j) made (offer i rs ∷ [])

  abbrev idle : ℕ → Bool
  idle j = option_map_or (λ job. job.is_idle) (slice_get market.jobs j) false

  less : (idle given more : Bool) → cond (idle && not (given || more)) 1 0 ≤ cond (idle && not given) 1 0
  less true true more = omega arith
  less true false true = omega arith
  less true false false = omega arith
  less false given more = omega arith

  -- who waits once an offer is made, waited before
  pub one-less : (made : List (Offer R)) (i : ℕ) (rs : List R) (j : ℕ)
      → cond (is_waiting market (made ++ offer i rs ∷ []) j) 1 0 ≤ cond (is_waiting market made j) 1 0
  one-less made i rs j = rw (given-more made i j rs) (less (idle j) (is_given made j) ((i == j) || false))

  -- whom the offer is made to, doesn't wait any more
  pub one-given : (made : List (Offer R)) (i : ℕ) (rs : List R) → is_waiting market (made ++ offer i rs ∷ []) i ≡ false
  one-given made i rs =
      ap (λ b. idle i && not b) (given-more made i i rs)
      ∙ ap (λ b. idle i && not (is_given made i || (b || false))) (eq-eqb i i refl)
      ∙ by (idle i) (is_given made i)
    where
      by : (a b : Bool) → (a && not (b || true)) ≡ false
      by true true = refl
      by true false = refl
      by false b = refl

  pub one-fewer : (made : List (Offer R)) (i : ℕ) (rs : List R) → is_waiting market made i ≡ true
      → waiting_count market (made ++ offer i rs ∷ []) + 1 ≤ waiting_count market made
  one-fewer made i rs w =
      sum-falls (λ j. cond (is_waiting market made j) 1 0) (λ j. cond (is_waiting market (made ++ offer i rs ∷ []) j) 1 0) i 1
      (λ j other. one-less made i rs j)
      (let none = ap as_count (one-given made i rs) in
      let one = ap as_count w in
      omega (arith, none, one))
      0 (length market.jobs) (omega arith)
      (let within = within-from (λ job. job.is_idle) market.jobs i ((and-true (idle i) (not (is_given made i)) w).0) in omega (arith, within))

  -- each offer leaves one fewer to wait
  abbrev Fewer : List (Offer R) → List (Offer R) → Type 0
  Fewer made os = waiting_count market (made ++ os) + length os ≤ waiting_count market made

  none-fewer : (made : List (Offer R)) → Fewer made []
  none-fewer made = rw (append-nil made) (omega arith)

  pub turn-fewer : (user : List ℕ) (is : List ℕ) (left : ℕ) (given : Bool) (made : List (Offer R)) → Fewer made (turn market user is left given made)
  turn-fewer user =
      turn-by market user (λ is left given made os. Fewer made os)
      (λ left given made. none-fewer made)
      (λ i is left given made rest h. h)
      (λ i is left given made. none-fewer made)
      (λ i is left given made rest rs w f h.
      let one = one-fewer made i rs ((waits-is user made i w).1) in
      let moved : waiting_count market (made ++ offer i rs ∷ [] ++ rest) ≡ waiting_count market (made ++ offer i rs ∷ rest) =
      ap (waiting_count market) (append_assoc made (offer i rs ∷ []) rest) in
      omega (arith, one, h, moved))

  pub turns-fewer : (users : List (List ℕ)) (slices : List ℕ) (made : List (Offer R)) → Fewer made (offers_in (turns market users slices made))
  turns-fewer [] slices made = none-fewer made
  turns-fewer (user ∷ users) [] made = none-fewer made
  turns-fewer (user ∷ users) (slice ∷ slices) made =
      let os = turn market user (places market.jobs) slice false made in
      let rest = offers_in (turns market users slices (made ++ os)) in
      let here = turn-fewer user (places market.jobs) slice false made in
      let behind = turns-fewer users slices (made ++ os) in
      let moved : waiting_count market (made ++ os ++ rest) ≡ waiting_count market (made ++ (os ++ rest)) =
      ap (waiting_count market) (append_assoc made os rest) in
      omega (arith, here, behind, moved, length-append os rest)

  pub spin-fewer : (made : List (Offer R)) → is_empty (spin market made).turns ≡ false
      → waiting_count market (made ++ offers_in (spin market made).turns) < waiting_count market made
  spin-fewer made some =
      let ts = turns market (users_of market made) (shares_of market made) made in
      let all = turns-fewer (users_of market made) (shares_of market made) made in
      let one = kept-some ts some in
      let same : offers_in (filter has_offer ts) ≡ offers_in ts = offers-kept ts in
      let count : waiting_count market (made ++ offers_in (filter has_offer ts)) ≡ waiting_count market (made ++ offers_in ts) =
      ap (λ os. waiting_count market (made ++ os)) same in
      let size : length (offers_in (filter has_offer ts)) ≡ length (offers_in ts) = ap length same in
      omega (arith, all, one, count, size)

  -- ---- the spins

  abbrev on : ℕ → List (Offer R) → Bool → List (PlainSpin R)
  on n made ended = if ended then [] else spins_within market n (made ++ offers_in (spin market made).turns)

  enough : (n k : ℕ) (made : List (Offer R)) → waiting_count market made < n → waiting_count market made < k
      → spins_within market n made ≡ spins_within market k made
  enough zero k made low high = absurd (omega (arith, low))
  enough (suc n) zero made low high = absurd (omega (arith, high))
  enough (suc n) (suc k) made low high =
      ap (λ l. spin market made ∷ l) (by (is_empty (spin market made).turns) refl (λ later less more. enough n k later less more))
    where
      by : (b : Bool) → is_empty (spin market made).turns ≡ b
          → ((later : List (Offer R)) → waiting_count market later < n → waiting_count market later < k
          → spins_within market n later ≡ spins_within market k later)
          → on n made b ≡ on k made b
      by true e rest = refl
      by false e rest =
          let fewer = spin-fewer made e in
          rest (made ++ offers_in (spin market made).turns) (omega (arith, fewer, low)) (omega (arith, fewer, high))

  -- a cycle is its first spin and, where that has an offer, the cycle behind it
  pub cycle-step : (made : List (Offer R))
      → cycle_from market made ≡ spin market made ∷ (if is_empty (spin market made).turns then [] else cycle_from market
      (made ++ offers_in (spin market made).turns))
  cycle-step made = ap (λ l. spin market made ∷ l) (by (is_empty (spin market made).turns) refl)
    where
      by : (b : Bool) → is_empty (spin market made).turns ≡ b
          → on (waiting_count market made) made b ≡ (if b then [] else cycle_from market (made ++ offers_in (spin market made).turns))
      by true e = refl
      by false e =
          let fewer = spin-fewer made e in
          enough (waiting_count market made) (suc (waiting_count market (made ++ offers_in (spin market made).turns)))
          (made ++ offers_in (spin market made).turns) fewer (omega arith)

-- ---- a turn among the user's own jobs

module _ {R : Type 0} (market : Market R) (user : List ℕ) where
  pub turn-own : (is : List ℕ) (left : ℕ) (given : Bool) (made : List (Offer R))
      → turn market user (filter (is_of market user) is) left given made ≡ turn market user is left given made
  turn-own [] left given made = refl
  turn-own (i ∷ is) left given made =
      by (is_of market user i) refl (turn-own is left given made) (λ rs. turn-own is (left - wants_of market i) true (made ++ offer i rs ∷ []))
    where
      same : (w e : Bool) (f : Option (List R)) → turn market user (filter (is_of market user) is) left given made ≡ turn market user is left given made
          → ((rs : List R)
          → turn market user (filter (is_of market user) is) (left - wants_of market i) true (made ++ offer i rs ∷ [])
          ≡ turn market user is (left - wants_of market i) true (made ++ offer i rs ∷ []))
          → from market user i (filter (is_of market user) is) left given made w e f ≡ from market user i is left given made w e f
      same false e f rest after = rest
      same true true f rest after = refl
      same true false None rest after = rest
      same true false (Some rs) rest after = ap (λ os. offer i rs ∷ os) (after rs)

      by : (b : Bool) → is_of market user i ≡ b → turn market user (filter (is_of market user) is) left given made ≡ turn market user is left given made
          → ((rs : List R)
          → turn market user (filter (is_of market user) is) (left - wants_of market i) true (made ++ offer i rs ∷ [])
          ≡ turn market user is (left - wants_of market i) true (made ++ offer i rs ∷ []))
          → turn market user (cond b (i ∷ filter (is_of market user) is) (filter (is_of market user) is)) left given made
          ≡ turn market user (i ∷ is) left given made
      by true e rest after = same (waits market user made i) (given && nat_lt left (wants_of market i)) (market.find made i) rest after
      by false e rest after = rest ∙ sym (turn-skips market user i is left given made (ap (λ b. b && is_waiting market made i) e))
