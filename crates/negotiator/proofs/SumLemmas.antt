-- Sums and counts over numbers in a row.
use Rattle.std.proofs.Common.{◌≡◌, ◌≢◌, ◌≤◌, ◌<◌, ◌+◌, ℕ, zero, suc, sum_by, ◌⊎◌, inl, inr, subst, arith}
use Rattle.std.specs.List.{range_with_len}
use Rattle.std.proofs.lemmas.Bool.{cases_lt}
use Rattle.std.proofs.lemmas.List.Sums.{sum_by-cons}

later-less : (f g : ℕ → ℕ) (i : ℕ) → ((j : ℕ) → j ≢ i → g j ≤ f j) → (a : ℕ) → i < a → (n : ℕ)
    → sum_by g (range_with_len a n) ≤ sum_by f (range_with_len a n)
later-less f g i others a past zero = omega arith
later-less f g i others a past (suc n) =
    let one = others a (λ e. omega (arith, e, past)) in
    let rest = later-less f g i others (a + 1) (omega (arith, past)) n in
    omega (arith, one, rest, sum_by-cons g a (range_with_len (a + 1) n), sum_by-cons f a (range_with_len (a + 1) n))

-- a term that falls leaves its amount
pub sum-falls : (f g : ℕ → ℕ) (i amount : ℕ) → ((j : ℕ) → j ≢ i → g j ≤ f j) → g i + amount ≤ f i → (a n : ℕ) → a ≤ i
    → i < a + n → sum_by g (range_with_len a n) + amount ≤ sum_by f (range_with_len a n)
sum-falls f g i amount others falls a zero low high = absurd (omega (arith, low, high))
sum-falls f g i amount others falls a (suc n) low high =
    by (cases_lt a i) (λ past. sum-falls f g i amount others falls (a + 1) n (omega (arith, past)) (omega (arith, high)))
  where
    heads : (h : ℕ → ℕ) → sum_by h (range_with_len a (suc n)) ≡ h a + sum_by h (range_with_len (a + 1) n)
    heads h = sum_by-cons h a (range_with_len (a + 1) n)

    by : (a < i) ⊎ (i ≤ a) → (a < i → sum_by g (range_with_len (a + 1) n) + amount ≤ sum_by f (range_with_len (a + 1) n))
        → sum_by g (range_with_len a (suc n)) + amount ≤ sum_by f (range_with_len a (suc n))
    by (inl past) behind = let one = others a (λ e. omega (arith, e, past)) in let rest = behind past in omega (arith, one, rest, heads f, heads g)
    by (inr here) behind =
        let P : ℕ → Type 0 = λ j. g j + amount ≤ f j in
        let same : i ≡ a = omega (arith, low, here) in
        let one = subst P same falls in
        let rest = later-less f g i others (a + 1) (omega (arith, here)) n in
        omega (arith, one, rest, heads f, heads g)
