-- Who waits: places in the list, and room for all.
use Rattle.std.proofs.Common.{◌≡◌, ℕ, zero, suc, ◌+◌, ◌<◌, ◌≤◌, max, Bool, true, false, cond, not, eqb, ltb, leb, ◌&&◌, List, []}
use Rattle.std.proofs.Common.{◌∷◌, ◌++◌, length, map, get_or, set, take, drop, replicate, None, Some, refl, sym, ◌∙◌, ap, subst, inl, inr}
use Rattle.std.proofs.Common.{arith, add-one}
use Rattle.std.proofs.lemmas.Bool.{cases_Bool, and_parts, and_from, or_parts, or_cases, eqb-true, leb-true, ltb-true, le-leb, not-true, true≢false}
use Rattle.std.proofs.lemmas.Bool.Decides.{nat_tests}
use Rattle.std.proofs.lemmas.Map.Steps.{length-le_from_distinct_below}
use Rattle.std.specs.List.{IsDistinct, AllByRecursion, list_any, position, prefix_len}
use Rattle.claim_wire.specs.declared.message.Holder.{Holder}
use Rattle.claim_wire.specs.Resources.{freed_in, is_freed, put_waiting, without, waits, are_waiting, zeros}

-- ---- places

-- the first that passes stands there
abbrev pub First : (Holder → Bool) → List Holder → ℕ → Type 0
First p [] i = ⊥
First p (w ∷ ws) zero = p w ≡ true
First p (w ∷ ws) (suc i) = (p w ≡ false) × First p ws i

abbrev pub NonePass : (Holder → Bool) → List Holder → Type 0
NonePass p [] = Unit {0}
NonePass p (w ∷ ws) = (p w ≡ false) × NonePass p ws

first-by : (p : Holder → Bool) (ws : List Holder) (n : ℕ) → n ≡ prefix_len (λ w. not (p w)) ws → n < length ws → First p ws n
first-by p [] n is less = absurd (omega (arith, less))
first-by p (w ∷ ws) n is less =
    elim (cases_Bool (p w)) [
      | inl passes ↦ let e : n ≡ 0 = rw passes at is in subst (First p (w ∷ ws)) (sym e) passes
      | inr fails ↦
          let m : ℕ = prefix_len (λ v. not (p v)) ws in
          let e : n ≡ 1 + m = rw fails at is in
          let f : n ≡ suc m = omega arith in
          subst (First p (w ∷ ws)) (sym f) (fails, first-by p ws m refl (omega arith))
    ]

none-by : (p : Holder → Bool) (ws : List Holder) → length ws ≤ prefix_len (λ w. not (p w)) ws → NonePass p ws
none-by p [] most = tt
none-by p (w ∷ ws) most =
    elim (cases_Bool (p w)) [
      | inl passes ↦ let e : suc (length ws) ≤ 0 = rw passes at most in absurd (omega arith)
      | inr fails ↦
          let e : suc (length ws) ≤ 1 + prefix_len (λ v. not (p v)) ws = rw fails at most in
          (fails, none-by p ws (omega arith))
    ]

some-by : (n : ℕ) (less : Bool) (i : ℕ) → cond less (Some n) None ≡ Some i → (less ≡ true) × (n ≡ i)
some-by n true i is = (refl, cc)
some-by n false i is = absurd (cc)

none-of : (n : ℕ) (less : Bool) → cond less (Some n) None ≡ None → less ≡ false
none-of n true is = absurd (cc)
none-of n false is = refl

pub position-first : (p : Holder → Bool) (ws : List Holder) (i : ℕ) → Some i ≡ position p ws → First p ws i
position-first p ws i is =
    let n : ℕ = prefix_len (λ w. not (p w)) ws in
    let both = some-by n (ltb n (length ws)) i (sym is) in
    subst (First p ws) both.1 (first-by p ws n refl (ltb-true n (length ws) both.0))

pub position-none : (p : Holder → Bool) (ws : List Holder) → None ≡ position p ws → NonePass p ws
position-none p ws is =
    let n : ℕ = prefix_len (λ w. not (p w)) ws in
    let least = none-of n (ltb n (length ws)) (sym is) in
    none-by p ws (grind (arith, nat_tests))

-- ---- a claim that waits

pub put-first : (h d : Holder) (ws : List Holder) (i : ℕ) → First (λ w. eqb h.customer w.customer) ws i
    → put_waiting h ws ≡ set ws i (record { customer = (get_or ws i d).customer; number = max (get_or ws i d).number h.number })
put-first h d [] i is = absurd is
put-first h d (w ∷ ws) zero is = rw is refl
put-first h d (w ∷ ws) (suc i) is = rw is.0 (ap (λ (l : List Holder). w ∷ l) (put-first h d ws i is.1))

pub put-at : (h : Holder) (ws : List Holder) (i : ℕ) (e : Holder) (k : ℕ) → First (λ w. eqb h.customer w.customer) ws i → e ≡ get_or ws i e
    → k ≡ max e.number h.number → set ws i (record { customer = e.customer; number = k }) ≡ put_waiting h ws
put-at h ws i e k first is number =
    ap (λ (n : ℕ). set ws i (record { customer = e.customer; number = n })) number
    ∙ ap (λ (x : Holder). set ws i (record { customer = x.customer; number = max x.number h.number })) is
    ∙ sym (put-first h e ws i first)

pub put-none : (h : Holder) (ws : List Holder) → NonePass (λ w. eqb h.customer w.customer) ws → put_waiting h ws ≡ ws ++ h ∷ []
put-none h [] is = refl
put-none h (w ∷ ws) is = rw is.0 (ap (λ (l : List Holder). w ∷ l) (put-none h ws is.1))

pub without-first : (freed : List ℕ) (c k : ℕ) (ws : List Holder) (i : ℕ) → k ≡ freed_in freed c
    → First (λ w. eqb w.customer c && leb w.number k) ws i → take i ws ++ drop (i + 1) ws ≡ without freed c ws
without-first freed c k ws i same is =
    ap (λ (n : ℕ). take i ws ++ drop n ws) (add-one i) ∙ by ws i (subst (λ (j : ℕ). First (λ w. eqb w.customer c && leb w.number j) ws i) same is)
  where
    by : (vs : List Holder) (j : ℕ) → First (is_freed freed c) vs j → take j vs ++ drop (suc j) vs ≡ without freed c vs
    by [] j here = absurd here
    by (v ∷ vs) zero here = rw here refl
    by (v ∷ vs) (suc j) here = rw here.0 (ap (λ (l : List Holder). v ∷ l) (by vs j here.1))

pub without-none : (freed : List ℕ) (c k : ℕ) (ws : List Holder) → k ≡ freed_in freed c → NonePass (λ w. eqb w.customer c && leb w.number k) ws
    → ws ≡ without freed c ws
without-none freed c k ws same is = by ws (subst (λ (j : ℕ). NonePass (λ w. eqb w.customer c && leb w.number j) ws) same is)
  where
    by : (vs : List Holder) → NonePass (is_freed freed c) vs → vs ≡ without freed c vs
    by [] none = refl
    by (v ∷ vs) none = rw none.0 (ap (λ (l : List Holder). v ∷ l) (by vs none.1))

-- ---- each waits once

waits-put : (c : ℕ) (h : Holder) (ws : List Holder) → eqb c h.customer ≡ false → waits c ws ≡ false → waits c (put_waiting h ws) ≡ false
waits-put c h [] other none = rw other refl
waits-put c h (w ∷ ws) other none =
    let both = or_parts (eqb c w.customer) (waits c ws) none in
    elim (cases_Bool (eqb h.customer w.customer)) [
      | inl same ↦ rw same (rw both.0 both.1)
      | inr fails ↦ rw fails (rw both.0 (waits-put c h ws other both.1))
    ]

eqb-swap : (a b : ℕ) → eqb a b ≡ false → eqb b a ≡ false
eqb-swap a b is = grind (arith, nat_tests)

pub put-waiting : (n : ℕ) (h : Holder) (ws : List Holder) → h.customer ≤ n → are_waiting n ws ≡ true → are_waiting n (put_waiting h ws) ≡ true
put-waiting n h [] low is = rw (le-leb h.customer n low) refl
put-waiting n h (w ∷ ws) low is =
    let both = and_parts (leb w.customer n && not (waits w.customer ws)) (are_waiting n ws) is in
    let first = and_parts (leb w.customer n) (not (waits w.customer ws)) both.0 in
    elim (cases_Bool (eqb h.customer w.customer)) [
      | inl same ↦ rw same is
      | inr fails ↦
          let once : waits w.customer (put_waiting h ws) ≡ false = waits-put w.customer h ws (eqb-swap h.customer w.customer fails) (not-true _ first.1) in
          rw fails (and_from (leb w.customer n && not (waits w.customer (put_waiting h ws))) (are_waiting n (put_waiting h ws)) (rw (first.0, once) refl)
          (put-waiting n h ws low both.1))
    ]

waits-without : (freed : List ℕ) (b c : ℕ) (ws : List Holder) → waits c ws ≡ false → waits c (without freed b ws) ≡ false
waits-without freed b c [] none = refl
waits-without freed b c (w ∷ ws) none =
    let both = or_parts (eqb c w.customer) (waits c ws) none in
    elim (cases_Bool (is_freed freed b w)) [
      | inl passes ↦ rw passes both.1
      | inr fails ↦ rw fails (rw both.0 (waits-without freed b c ws both.1))
    ]

pub without-waiting : (n : ℕ) (freed : List ℕ) (c : ℕ) (ws : List Holder) → are_waiting n ws ≡ true → are_waiting n (without freed c ws) ≡ true
without-waiting n freed c [] is = refl
without-waiting n freed c (w ∷ ws) is =
    let both = and_parts (leb w.customer n && not (waits w.customer ws)) (are_waiting n ws) is in
    let first = and_parts (leb w.customer n) (not (waits w.customer ws)) both.0 in
    elim (cases_Bool (is_freed freed c w)) [
      | inl passes ↦ rw passes both.1
      | inr fails ↦
          let once : waits w.customer (without freed c ws) ≡ false = waits-without freed c w.customer ws (not-true _ first.1) in
          rw fails (and_from (leb w.customer n && not (waits w.customer (without freed c ws))) (are_waiting n (without freed c ws)) (rw (first.0, once) refl)
          (without-waiting n freed c ws both.1))
    ]

-- ---- there is room

none-equal : (c : ℕ) (ws : List Holder) → waits c ws ≡ false → AllByRecursion (λ y. eqb c y ≡ false) (map (λ w. w.customer) ws)
none-equal c [] none = tt
none-equal c (w ∷ ws) none = let both = or_parts (eqb c w.customer) (waits c ws) none in (both.0, none-equal c ws both.1)

distinct : (n : ℕ) (ws : List Holder) → are_waiting n ws ≡ true → IsDistinct eqb (map (λ w. w.customer) ws)
unfolding IsDistinct
distinct n [] is = tt
distinct n (w ∷ ws) is =
    let both = and_parts (leb w.customer n && not (waits w.customer ws)) (are_waiting n ws) is in
    let first = and_parts (leb w.customer n) (not (waits w.customer ws)) both.0 in
    (none-equal w.customer ws (not-true _ first.1), distinct n ws both.1)

below : (n : ℕ) (ws : List Holder) → are_waiting n ws ≡ true → (q : ℕ) → list_any (eqb q) (map (λ w. w.customer) ws) ≡ true → q < n + 1
below n [] is q has = absurd (true≢false (sym has))
below n (w ∷ ws) is q has =
    let both = and_parts (leb w.customer n && not (waits w.customer ws)) (are_waiting n ws) is in
    let low : w.customer ≤ n = leb-true w.customer n (and_parts (leb w.customer n) (not (waits w.customer ws)) both.0).0 in
    elim (or_cases (eqb q w.customer) (list_any (eqb q) (map (λ v. v.customer) ws)) has) [
      | inl here ↦ let same : q ≡ w.customer = eqb-true q w.customer here in omega arith
      | inr later ↦ below n ws both.1 q later
    ]

length-customers : (ws : List Holder) → length (map (λ (w : Holder). w.customer) ws) ≡ length ws
length-customers [] = refl
length-customers (w ∷ ws) = omega (arith, length-customers ws)

not-waiting : (h : Holder) (ws : List Holder) → NonePass (λ w. eqb h.customer w.customer) ws → waits h.customer ws ≡ false
not-waiting h [] none = refl
not-waiting h (w ∷ ws) none = rw none.0 (not-waiting h ws none.1)

-- before a customer that doesn't wait is put behind the others, all of them are no more than the customers
pub room : (n : ℕ) (h : Holder) (ws : List Holder) → h.customer ≤ n → NonePass (λ w. eqb h.customer w.customer) ws → are_waiting n ws ≡ true
    → length ws ≤ n
room n h ws low none is =
    let all : are_waiting n (h ∷ ws) ≡ true =
    and_from (leb h.customer n && not (waits h.customer ws)) (are_waiting n ws) (rw (le-leb h.customer n low, not-waiting h ws none) refl) is in
    let most = length-le_from_distinct_below (map (λ (w : Holder). w.customer) (h ∷ ws)) (n + 1) (distinct n (h ∷ ws) all) (below n (h ∷ ws) all) in
    omega (arith, most, length-customers (h ∷ ws))

pub zeros-length : (n : ℕ) → length (zeros n) ≡ n
zeros-length zero = refl
zeros-length (suc n) = omega (arith, zeros-length n)

pub zeros-replicate : (n : ℕ) → replicate n 0 ≡ zeros n
zeros-replicate zero = refl
zeros-replicate (suc n) = ap (λ (l : List ℕ). 0 ∷ l) (zeros-replicate n)
