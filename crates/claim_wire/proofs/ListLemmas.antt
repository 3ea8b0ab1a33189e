-- Lists whose items are numbered from 1.
use Rattle.std.proofs.Common.{◌≡◌, ◌≢◌, ◌⊎◌, ℕ, zero, suc, ◌<◌, ◌≤◌, max, List, [], ◌∷◌, length, get_or, set, slice_get}
use Rattle.std.proofs.Common.{Option, None, Some, refl, sym, ap, inl, inr, arith}
use Rattle.std.specs.List.{Contains}
use Rattle.std.proofs.lemmas.Bool.{cases_lt}
use Rattle.std.proofs.lemmas.List.{length-set}
use Rattle.std.proofs.lemmas.Option.{slice_get_within}
use Rattle.std.proofs.lemmas.List.Elements.{Contains-append_cases}
use Rattle.claim_wire.specs.declared.message.Answers.{Answers}
use Rattle.claim_wire.specs.declared.message.Message.{Message}
use Rattle.claim_wire.specs.Resources.{freed_in, raised}
use Rattle.claim_wire.specs.Wires.{at, put, listed, answers_of}

-- what stands in a list after one item was put
set-cases : {A : Type 0} (xs : List A) (i j : ℕ) (x y : A) → slice_get (set xs i x) j ≡ Some y
    → ((j ≡ i) × (y ≡ x)) ⊎ ((j ≢ i) × (slice_get xs j ≡ Some y))
set-cases [] i j x y is = absurd (cc)
set-cases (z ∷ zs) zero zero x y is = let same : x ≡ y = cc in inl (refl, sym same)
set-cases (z ∷ zs) zero (suc j) x y is = inr (λ e. absurd (omega arith), is)
set-cases (z ∷ zs) (suc i) zero x y is = inr (λ e. absurd (omega arith), is)
set-cases (z ∷ zs) (suc i) (suc j) x y is =
    elim (set-cases zs i j x y is) [
      | inl here ↦ inl (ap suc here.0, here.1)
      | inr other ↦ inr (λ e. other.0 (omega arith), other.1)
    ]

pub put-cases : {A : Type 0} (xs : List A) (c d : ℕ) (x y : A) → 0 < c → at (put c x xs) d ≡ Some y
    → ((d ≡ c) × (y ≡ x)) ⊎ ((d ≢ c) × (at xs d ≡ Some y))
put-cases xs zero d x y some is = absurd (omega arith)
put-cases xs (suc i) zero x y some is = absurd (cc)
put-cases xs (suc i) (suc j) x y some is =
    elim (set-cases xs i j x y is) [
      | inl here ↦ inl (ap suc here.0, here.1)
      | inr other ↦ inr (λ e. other.0 (omega arith), other.1)
    ]

pub at-some : {A : Type 0} (xs : List A) (c : ℕ) (x : A) → at xs c ≡ Some x → 0 < c
at-some xs zero x is = absurd (cc)
at-some xs (suc i) x is = omega arith

pub at-within : {A : Type 0} (xs : List A) (c : ℕ) (x : A) → at xs c ≡ Some x → c ≤ length xs
at-within xs zero x is = absurd (cc)
at-within xs (suc i) x is = let low : i < length xs = slice_get_within xs i x is in omega arith

pub length-put : {A : Type 0} (c : ℕ) (x : A) (xs : List A) → length (put c x xs) ≡ length xs
length-put zero x xs = refl
length-put (suc i) x xs = length-set xs i x

pub length-raised : (freed : List ℕ) (c k : ℕ) → length (raised freed c k) ≡ length freed
length-raised freed zero k = refl
length-raised freed (suc i) k = length-set freed i (max (get_or freed i 0) k)

pub contains-none : {A : Type 0} (x : A) → Contains [] x → ⊥
contains-none x has = omega (arith, has.1)

pub contains-one : {A : Type 0} (y x : A) → Contains (y ∷ []) x → y ≡ x
contains-one y x (zero, less, is) = is
contains-one y x (suc k, less, is) = absurd (omega (arith, less))

pub listed-is : (o : Option Message) (m : Message) → Contains (listed o) m → o ≡ Some m
listed-is None m has = absurd (contains-none m has)
listed-is (Some n) m has = ap Some (contains-one n m has)

pub answers-cases : (a : Answers) (m : Message) → Contains (answers_of a) m → (a.first ≡ Some m) ⊎ (a.second ≡ Some m)
answers-cases a m has =
    elim (Contains-append_cases (listed a.first) (listed a.second) m has) [
      | inl one ↦ inl (listed-is a.first m one)
      | inr two ↦ inr (listed-is a.second m two)
    ]

-- what is freed after a number was
raised-at : (freed : List ℕ) (i j k : ℕ)
    → (get_or (set freed i (max (get_or freed i 0) k)) j 0 ≡ get_or freed j 0) ⊎
    ((j ≡ i) × (get_or (set freed i (max (get_or freed i 0) k)) j 0 ≡ k) × (get_or freed j 0 ≤ k))
raised-at [] i j k = inl refl
raised-at (x ∷ xs) zero zero k = larger x k
  where
    larger : (a b : ℕ) → (max a b ≡ a) ⊎ ((zero ≡ zero) × (max a b ≡ b) × (a ≤ b))
    larger a b = elim (cases_lt a b) [ inl less ↦ inr (refl, omega arith, omega arith) | inr most ↦ inl (omega arith) ]
raised-at (x ∷ xs) zero (suc j) k = inl refl
raised-at (x ∷ xs) (suc i) zero k = inl refl
raised-at (x ∷ xs) (suc i) (suc j) k =
    elim (raised-at xs i j k) [
      | inl same ↦ inl same
      | inr here ↦ inr (ap suc here.0, here.1, here.2)
    ]

pub raised-cases : (freed : List ℕ) (c d k : ℕ)
    → (freed_in (raised freed c k) d ≡ freed_in freed d) ⊎ ((d ≡ c) × (freed_in (raised freed c k) d ≡ k) × (freed_in freed d ≤ k))
raised-cases freed zero d k = inl refl
raised-cases freed (suc i) zero k = inl refl
raised-cases freed (suc i) (suc j) k =
    elim (raised-at freed i j k) [
      | inl same ↦ inl same
      | inr here ↦ inr (ap suc here.0, here.1, here.2)
    ]

-- it never falls
pub raised-most : (freed : List ℕ) (c d k : ℕ) → freed_in freed d ≤ freed_in (raised freed c k) d
raised-most freed c d k =
    elim (raised-cases freed c d k) [
      | inl same ↦ omega arith
      | inr here ↦ omega (arith, here.1, here.2)
    ]
