-- Sums over prefixes, place by place.
use Rattle.std.proofs.Common.{◌≡◌, ◌<◌, ◌≤◌, ◌+◌, ◌*◌, ℕ, zero, suc, refl, List, [], ◌∷◌, ◌++◌, length, map, take, get_or}
use Rattle.std.proofs.Common.{sum_by, ap, sym, ◌∙◌, arith, append_assoc}
use Rattle.std.specs.List.Sorted.{IsPermutation}
use Rattle.std.proofs.lemmas.List.{append-nil}
use Rattle.std.proofs.lemmas.List.Sorted.{sum_by-IsPermutation}
use Rattle.std.proofs.lemmas.List.Sums.{sum_by-cons, sum_by-take-le, sum_by_more, sum_by_more_le}
use Rattle.gang_ports.specs.Choice.{Choice, next, over_prefixes, tuples}
use Rattle.gang_ports.proofs.ListLemmas.{mul-add, sum_by-both, sum_by-flat_map, sum_by-map, sum_by-multiple, sum_by-none, sum_by-same}

module _ (choice : Choice) (count : List ℕ → ℕ) where
  -- the sum over the tuples behind a prefix, by the next place
  tuples-by-next : (n : ℕ) (before : List ℕ)
      → sum_by (λ tuple. count (before ++ tuple)) (tuples choice (suc n) before)
      ≡ sum_by (λ p. sum_by (λ tuple. count ((before ++ p ∷ []) ++ tuple)) (tuples choice n (before ++ p ∷ []))) (next choice before)
  unfolding tuples
  tuples-by-next n before =
      sum_by-flat_map (λ tuple. count (before ++ tuple)) (λ p. map (λ tuple. p ∷ tuple) (tuples choice n (before ++ p ∷ []))) (next choice before)
      ∙ sum_by-same (λ p. sum_by (λ tuple. count (before ++ tuple)) (map (λ tuple. p ∷ tuple) (tuples choice n (before ++ p ∷ []))))
      (λ p. sum_by (λ tuple. count ((before ++ p ∷ []) ++ tuple)) (tuples choice n (before ++ p ∷ [])))
      (λ p.
      sum_by-map (λ tuple. count (before ++ tuple)) (λ tuple. p ∷ tuple) (tuples choice n (before ++ p ∷ []))
      ∙ sum_by-same (λ tuple. count (before ++ p ∷ tuple)) (λ tuple. count ((before ++ p ∷ []) ++ tuple))
      (λ tuple. ap count (sym (append_assoc before (p ∷ []) tuple))) (tuples choice n (before ++ p ∷ [])))
      (next choice before)

  -- over the prefixes behind one: itself, and those behind each next place
  pub by-next : (n : ℕ) (before : List ℕ)
      → over_prefixes choice count (suc n) before ≡ count before + sum_by (λ p. over_prefixes choice count n (before ++ p ∷ [])) (next choice before)
  unfolding over_prefixes tuples
  by-next zero before =
      let itself : count (before ++ []) ≡ count before = ap count (append-nil before) in
      omega (arith, itself, sum_by-cons (λ tuple. count (before ++ tuple)) [] [], sum_by-none (λ (p : ℕ). 0) (λ p. refl) (next choice before))
  by-next (suc n) before =
      omega (
        arith,
        by-next n before,
        tuples-by-next n before,
        sum_by-both (λ p. over_prefixes choice count n (before ++ p ∷ []))
            (λ p. sum_by (λ tuple. count ((before ++ p ∷ []) ++ tuple)) (tuples choice n (before ++ p ∷ []))) (next choice before),
      )

  -- the sum behind some of the next places
  unfoldable pub behind : ℕ → List ℕ → List ℕ → ℕ
  behind n before places = sum_by (λ p. over_prefixes choice count n (before ++ p ∷ [])) places

  module _ (n : ℕ) (before cs : List ℕ) (all : IsPermutation (next choice before) cs) where
    pub behind-whole : over_prefixes choice count (suc n) before ≡ count before + behind n before cs
    unfolding behind
    behind-whole = omega (arith, by-next n before, sum_by-IsPermutation (λ p. over_prefixes choice count n (before ++ p ∷ [])) (next choice before) cs all)

    behind-more : (i d : ℕ) → i < length cs
        → behind n before (take (i + 1) cs) ≡ behind n before (take i cs) + over_prefixes choice count n (before ++ get_or cs i d ∷ [])
    unfolding behind
    behind-more i d within = sum_by_more (λ p. over_prefixes choice count n (before ++ p ∷ [])) cs i d within

    behind-le : (i : ℕ) → behind n before (take i cs) ≤ behind n before cs
    unfolding behind
    behind-le i = sum_by-take-le (λ p. over_prefixes choice count n (before ++ p ∷ [])) cs i

    behind-next-le : (i d : ℕ) → i < length cs
        → behind n before (take i cs) + over_prefixes choice count n (before ++ get_or cs i d ∷ []) ≤ behind n before cs
    unfolding behind
    behind-next-le i d within = sum_by_more_le (λ p. over_prefixes choice count n (before ++ p ∷ [])) cs i d within

  -- ---- a counter that goes through the next places

  module _ (n : ℕ) (before : List ℕ) (start weighed : ℕ) (first : weighed ≤ start + count before) where
    pub at-first : weighed ≤ start + over_prefixes choice count (suc n) before
    at-first = omega (arith, first, by-next n before)

    module _ (cs : List ℕ) (all : IsPermutation (next choice before) cs) (i now : ℕ) (so_far : now ≤ weighed + behind n before (take i cs)) where
      pub at-place : now ≤ start + over_prefixes choice count (suc n) before
      at-place = omega (arith, first, so_far, behind-whole n before cs all, behind-le n before cs all i)

      pub at-deeper : (d after : ℕ) → i < length cs → after ≤ now + over_prefixes choice count n (before ++ get_or cs i d ∷ [])
          → after ≤ start + over_prefixes choice count (suc n) before
      at-deeper d after within step = omega (arith, first, so_far, step, behind-whole n before cs all, behind-next-le n before cs all i d within)

      pub at-next : (d after : ℕ) → i < length cs → after ≤ now + over_prefixes choice count n (before ++ get_or cs i d ∷ [])
          → after ≤ weighed + behind n before (take (i + 1) cs)
      at-next d after within step = omega (arith, so_far, step, behind-more n before cs all i d within)

-- a multiple of a count
pub over-multiple : (choice : Choice) (k : ℕ) (count : List ℕ → ℕ) (n : ℕ) (before : List ℕ)
    → over_prefixes choice (λ b. k * count b) n before ≡ k * over_prefixes choice count n before
unfolding over_prefixes
over-multiple choice k count zero before = omega arith
over-multiple choice k count (suc n) before =
    let rest : over_prefixes choice (λ b. k * count b) n before ≡ k * over_prefixes choice count n before = over-multiple choice k count n before in
    let more : sum_by (λ t. k * count (before ++ t)) (tuples choice n before) ≡ k * sum_by (λ t. count (before ++ t)) (tuples choice n before) =
    sum_by-multiple k (λ t. count (before ++ t)) (tuples choice n before) in
    ap (λ m. m + sum_by (λ t. k * count (before ++ t)) (tuples choice n before)) rest
    ∙ ap (λ m. k * over_prefixes choice count n before + m) more
    ∙ sym (mul-add k (over_prefixes choice count n before) (sum_by (λ t. count (before ++ t)) (tuples choice n before)))
