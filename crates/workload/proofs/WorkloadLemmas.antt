-- Texts that numbers give, one after the other.
use Rattle.std.proofs.Common.{◌≡◌, ℕ, ◌+◌, List, ◌++◌, map, ap, sym, ◌∙◌, zero-add, append_assoc}
use Rattle.std.specs.List.{flat_map, range_with_len}
use Rattle.std.proofs.lemmas.List.{flat_map_more}
use Rattle.std.proofs.lemmas.List.Folds.{flat_map-map}
use Rattle.std.proofs.lemmas.List.FromFn.{map-range_with_len_more}

-- the text of one number more
pub text-more : (f : ℕ → List ℕ) (before : List ℕ) (n : ℕ)
    → (before ++ flat_map f (range_with_len 0 n)) ++ f n ≡ before ++ flat_map f (range_with_len 0 (n + 1))
text-more f before n =
    let same : (k : ℕ) → flat_map f (map (λ i. i) (range_with_len 0 k)) ≡ flat_map f (range_with_len 0 k) = λ k. flat_map-map f (λ i. i) (range_with_len 0 k) in
    ap (λ (t : List ℕ). (before ++ t) ++ f n) (sym (same n))
    ∙ flat_map_more f before (map (λ i. i) (range_with_len 0 n)) n
    ∙ ap (λ (xs : List ℕ). before ++ flat_map f xs) (sym (map-range_with_len_more (λ i. i) 0 n n (zero-add n)))
    ∙ ap (λ (t : List ℕ). before ++ t) (same (n + 1))

-- five pieces, each added behind the others
pub five-pieces : (t a b c d e : List ℕ) {u v w x y : List ℕ} → u ≡ t ++ a → v ≡ u ++ b → w ≡ v ++ c → x ≡ w ++ d → y ≡ x ++ e
    → y ≡ t ++ ((((a ++ b) ++ c) ++ d) ++ e)
five-pieces t a b c d e p q r s l =
    l ∙ ap (λ (z : List ℕ). z ++ e) (s ∙ ap (λ (z : List ℕ). z ++ d) (r ∙ ap (λ (z : List ℕ). z ++ c) (q ∙ ap (λ (z : List ℕ). z ++ b) p))) ∙ joined
  where
    joined : ((((t ++ a) ++ b) ++ c) ++ d) ++ e ≡ t ++ ((((a ++ b) ++ c) ++ d) ++ e)
    joined = simp append_assoc
