-- The ads of a world by their numbers, and sums that stay below 2^64.
use Rattle.std.proofs.Common.{◌≡◌, ◌≢◌, ◌≤◌, ◌<◌, ◌+◌, ◌-◌, ◌^◌, ℕ, zero, suc, refl, List, [], ◌∷◌, length, map, take, drop, get_or, slice_get, option_map}
use Rattle.std.proofs.Common.{Some, sum_by, min, sub-one, arith, ap, sym, ◌∙◌}
use Rattle.std.proofs.lemmas.List.{at_drop_all, length-take, get_or-take}
use Rattle.std.proofs.lemmas.Option.{slice_get-get_or, slice_get-map, slice_get_read}
use Rattle.std.proofs.lemmas.List.Sums.{sum_by-drop_more}
use Rattle.ad_tree.specs.Frames.{Frame, attributes_at, attributes_in}

-- an entry behind the first
pub slice_get-behind : {X : Type 0} (x : X) (xs : List X) (n : ℕ) → n ≢ 0 → slice_get (x ∷ xs) n ≡ slice_get xs (n - 1)
slice_get-behind x xs zero above = absurd (above refl)
slice_get-behind x xs (suc n) above = rw (sub-one (suc n)) refl

module _ {A B : Type 0} (v : A → B) (x : B) (items : List A) (count n : ℕ) where
  -- an ad that isn't there
  -- an ad that is there
  pub shown-at : (item : A) → n ≢ 0 → n - 1 < count → count ≤ length items → item ≡ get_or items (n - 1) item
      → slice_get (x ∷ map v (take count items)) n ≡ Some (v item)
  shown-at item above within fits read =
      slice_get-behind x (map v (take count items)) n above
      ∙ slice_get-map v (take count items) (n - 1)
      ∙ ap (option_map v) (slice_get_read (take count items) (length (take count items)) (n - 1) item refl (simp length-take (omega arith))
      (read ∙ sym (get_or-take count items (n - 1) item within)))

-- the greatest number of 64 bits
abbrev pub most : ℕ
most = 2 ^ 64 - 1

-- one more frame is counted
pub counted-next : (fs : List Frame) (i total whole : ℕ) → i < length fs → min (total + sum_by (λ f. length f.attributes) (drop i fs)) most ≡ whole
    → min (min (total + length (attributes_at fs i)) most + sum_by (λ f. length f.attributes) (drop (i + 1) fs)) most ≡ whole
counted-next fs i total whole within so_far =
    let d : Frame = record { parent = 0; attributes = [] } in
    let here = ap (λ o. length (attributes_in o)) (slice_get-get_or fs i d within) in
    let more = sum_by-drop_more (λ (f : Frame). length f.attributes) fs i d within in
    omega arith

-- nothing is left to count
pub counted-end : {X : Type 0} (f : X → ℕ) (xs : List X) (i total whole : ℕ) → length xs ≤ i → total ≤ most → min (total + sum_by f (drop i xs)) most ≡ whole
    → total ≡ whole
counted-end f xs i total whole past fits so_far =
    let rest = at_drop_all (sum_by f) xs i past in
    omega arith
