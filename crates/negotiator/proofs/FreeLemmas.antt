-- How many resources are free, once more is offered.
use Rattle.std.proofs.Common.{◌≡◌, ◌≢◌, ◌<◌, ◌+◌, ◌==◌, ℕ, zero, suc, Bool, true, false, not, ◌&&◌, ◌||◌, cond, List, []}
use Rattle.std.proofs.Common.{◌∷◌, All, AllPairs, Contains, count_by, get_or, length, slice_get, Some, refl, ap, sym, ◌∙◌, arith, eq-eqb, ne_eqb}
use Rattle.std.proofs.Common.{◌⊎◌, inl, inr}
use Rattle.std.proofs.lemmas.Bool.{cases_eq}
use Rattle.std.proofs.lemmas.List.Elements.{All-head, All-tail}
use Rattle.std.proofs.lemmas.List.Sums.{sum_by-cons}
use Rattle.std.proofs.lemmas.Option.{same_Some}
use Rattle.claim_table.specs.declared.job.Job.{Job}
use Rattle.claim_table.specs.declared.job.Stage.{Stage}
use Rattle.claim_table.specs.Jobs.{lists, with_standing}
use Rattle.job_clusters.specs.declared.scene.Scene.{Scene}
use Rattle.job_clusters.specs.Pools.{free_among, is_free}
use Rattle.job_clusters.specs.Scenes.{settings_in, stock_in}
use Rattle.negotiator.specs.Budget.{is_idle_at}
use Rattle.negotiator.specs.Markets.{found}
use Rattle.negotiator.proofs.JobLemmas.{free-later}
use Rattle.negotiator.proofs.QueueLemmas.{slice_get_is}
use Rattle.negotiator.proofs.StoredLemmas.{beside, found-stored}

abbrev one_if : Bool → ℕ
one_if b = cond b 1 0

count-cons : (p : ℕ → Bool) (x : ℕ) (xs : List ℕ) → count_by p (x ∷ xs) ≡ one_if (p x) + count_by p xs
count-cons p x xs = sum_by-cons (λ x. one_if (p x)) x xs

count-same : (p q : ℕ → Bool) → ((x : ℕ) → p x ≡ q x) → (xs : List ℕ) → count_by p xs ≡ count_by q xs
count-same p q same [] = refl
count-same p q same (x ∷ xs) =
    let rest = count-same p q same xs in
    let head : one_if (p x) ≡ one_if (q x) = ap (λ b. one_if b) (same x) in
    omega (arith, rest, head, count-cons p x xs, count-cons q x xs)

-- ---- a slot that stands once in a list

module _ (s : ℕ) where
  abbrev occurs : List ℕ → ℕ
  occurs xs = count_by (λ x. s == x) xs

  occurs-none : (xs : List ℕ) → ((j : ℕ) → slice_get xs j ≡ Some s → ⊥) → occurs xs ≡ 0
  occurs-none [] none = refl
  occurs-none (x ∷ xs) none =
      let rest = occurs-none xs (λ j at. none (suc j) at) in
      let head : one_if (s == x) ≡ 0 = ap (λ b. one_if b) (ne_eqb s x (λ e. none 0 (ap Some (sym e)))) in
      omega (arith, rest, head, count-cons (λ x. s == x) x xs)

  occurs-once : (xs : List ℕ) (k : ℕ) → slice_get xs k ≡ Some s
      → ((i j : ℕ) → slice_get xs i ≡ Some s → slice_get xs j ≡ Some s → i ≡ j) → occurs xs ≡ 1
  occurs-once [] k at apart = absurd (cc)
  occurs-once (x ∷ xs) zero at apart =
      let rest = occurs-none xs (λ j there. let clash : zero ≡ suc j = apart 0 (suc j) at there in omega (arith, clash)) in
      let head : one_if (s == x) ≡ 1 = ap (λ b. one_if b) (eq-eqb s x (sym (same_Some x s at))) in
      omega (arith, rest, head, count-cons (λ x. s == x) x xs)
  occurs-once (x ∷ xs) (suc k) at apart =
      let rest = occurs-once xs k at (λ i j here there. let up : suc i ≡ suc j = apart (suc i) (suc j) here there in omega (arith, up)) in
      let head : one_if (s == x) ≡ 0 =
      ap (λ b. one_if b) (ne_eqb s x (λ e. let clash : zero ≡ suc k = apart 0 (suc k) (ap Some (sym e)) at in omega (arith, clash))) in
      omega (arith, rest, head, count-cons (λ x. s == x) x xs)

  -- without it one fewer passes, if it does
  one-fewer : (q : ℕ → Bool) (xs : List ℕ) → count_by (λ x. q x && not (s == x)) xs + cond (q s) (occurs xs) 0 ≡ count_by q xs
  one-fewer q [] = let nothing = none (q s) in omega (arith, nothing)
    where
      none : (b : Bool) → cond b zero zero ≡ zero
      none true = refl
      none false = refl
  one-fewer q (x ∷ xs) =
      let rest = one-fewer q xs in
      let size = ap (λ n. cond (q s) n 0) (count-cons (λ x. s == x) x xs) in
      let one = by (cases_eq s x) (q s) refl in
      omega (arith, rest, size, one, count-cons q x xs, count-cons (λ x. q x && not (s == x)) x xs)
    where
      kept : (a b : Bool) → b ≡ false → one_if (a && not b) ≡ one_if a
      kept true false e = refl
      kept false false e = refl
      kept a true e = absurd (cc)

      gone : (a b : Bool) → b ≡ true → one_if (a && not b) ≡ 0
      gone true true e = refl
      gone false true e = refl
      gone a false e = absurd (cc)

      by : (s ≡ x) ⊎ (s ≡ x → ⊥) → (b : Bool) → q s ≡ b
          → one_if (q x && not (s == x)) + cond b (one_if (s == x) + occurs xs) 0 ≡ one_if (q x) + cond b (occurs xs) 0
      by (inl e) true is =
          let head = gone (q x) (s == x) (eq-eqb s x e) in
          let here : one_if (s == x) ≡ 1 = ap (λ b. one_if b) (eq-eqb s x e) in
          let passes : one_if (q x) ≡ 1 = ap (λ b. one_if b) (ap q (sym e) ∙ is) in
          omega (arith, head, here, passes)
      by (inl e) false is =
          let head = gone (q x) (s == x) (eq-eqb s x e) in
          let fails : one_if (q x) ≡ 0 = ap (λ b. one_if b) (ap q (sym e) ∙ is) in
          omega (arith, head, fails)
      by (inr ne) true is =
          let head = kept (q x) (s == x) (ne_eqb s x ne) in
          let here : one_if (s == x) ≡ 0 = ap (λ b. one_if b) (ne_eqb s x ne) in
          omega (arith, head, here)
      by (inr ne) false is = let head = kept (q x) (s == x) (ne_eqb s x ne) in omega (arith, head)

-- ---- slots of a list, no two of them one

not-among : (s : ℕ) (ss : List ℕ) → AllPairs (λ (a b : ℕ). a ≢ b) (s ∷ ss) → lists ss s ≡ false
not-among s [] apart = refl
not-among s (x ∷ xs) apart =
    ap (λ b. b || lists xs s) (ne_eqb x s (λ e. apart 0 1 0 (omega arith) (omega arith) (sym e)))
    ∙ not-among s xs (λ i j d low high. skip i j d low high)
  where
    skip : (i j d : ℕ) → i < j → j < length (s ∷ xs) → get_or (s ∷ xs) i d ≢ get_or (s ∷ xs) j d
    skip zero zero d low high = absurd (omega (arith, low))
    skip zero (suc j) d low high = apart 0 (suc (suc j)) d (omega arith) (omega (arith, high))
    skip (suc i) zero d low high = absurd (omega (arith, low))
    skip (suc i) (suc j) d low high = apart (suc (suc i)) (suc (suc j)) d (omega (arith, low)) (omega (arith, high))

module _ (p : ℕ → Bool) (xs : List ℕ) (apart : (i j slot : ℕ) → slice_get xs i ≡ Some slot → slice_get xs j ≡ Some slot → i ≡ j) where
  once : (s : ℕ) → Contains xs s → occurs s xs ≡ 1
  once s has = occurs-once s xs has.0 (slice_get_is xs has.0 s has.1 ∙ ap Some has.2) (λ i j. apart i j s)

  fewer : (slots : List ℕ) → AllPairs (λ (a b : ℕ). a ≢ b) slots → All (Contains xs) slots
      → count_by (λ x. p x && not (lists slots x)) xs + count_by p slots ≡ count_by p xs
  fewer [] distinct stored = let same = count-same (λ x. p x && true) p (λ x. alone (p x)) xs in omega (arith, same)
    where
      alone : (b : Bool) → (b && true) ≡ b
      alone true = refl
      alone false = refl
  fewer (s ∷ ss) distinct stored =
      let rest = fewer ss (λ i j d low high. distinct (suc i) (suc j) d (omega (arith, low)) (omega (arith, high))) (All-tail (Contains xs) s ss stored) in
      let same =
      count-same (λ x. p x && not (lists (s ∷ ss) x)) (λ x. (p x && not (lists ss x)) && not (s == x)) (λ x. split (p x) (s == x) (lists ss x)) xs in
      let one = one-fewer s (λ x. p x && not (lists ss x)) xs in
      let here : cond (p s && not (lists ss s)) (occurs s xs) 0 ≡ one_if (p s) =
      free_now (p s) (lists ss s) (not-among s ss distinct) (once s (All-head (Contains xs) s ss stored)) in
      omega (arith, rest, same, one, here, count-cons p s ss)
    where
      split : (a b c : Bool) → (a && not (b || c)) ≡ ((a && not c) && not b)
      split false b c = refl
      split true true true = refl
      split true true false = refl
      split true false true = refl
      split true false false = refl

      free_now : (a b : Bool) → b ≡ false → occurs s xs ≡ 1 → cond (a && not b) (occurs s xs) 0 ≡ one_if a
      free_now true false e one = one
      free_now false false e one = refl
      free_now a true e one = absurd (cc)

-- ---- one more offer

pub free-given : (scene : Scene) (jobs : List Job) (i : ℕ) (slots : List ℕ) (taken : ℕ) → is_idle_at jobs i ≡ true
    → ((i j slot : ℕ) → slice_get (stock_in scene).slots i ≡ Some slot → slice_get (stock_in scene).slots j ≡ Some slot → i ≡ j)
    → AllPairs (λ (a b : ℕ). a ≢ b) slots → found scene.moment (stock_in scene) (settings_in scene) jobs i ≡ Some slots
    → taken ≡ count_by (is_free jobs) slots
    → free_among (stock_in scene) (with_standing jobs i (Stage.Matched slots)) + taken ≡ free_among (stock_in scene) jobs
free-given scene jobs i slots taken idle apart distinct is_found count =
    let all = (stock_in scene).slots in
    let same =
    count-same (is_free (with_standing jobs i (Stage.Matched slots))) (λ s. is_free jobs s && not (lists slots s)) (free-later jobs i slots idle) all in
    let stored = found-stored scene.moment (stock_in scene) (settings_in scene) (beside scene.store.now) jobs i slots is_found in
    let less = fewer (is_free jobs) all apart slots distinct stored in
    omega (arith, same, less, count)
