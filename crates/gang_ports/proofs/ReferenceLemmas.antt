-- A label that is looked for in expressions, attributes and frames, one after another.
use Rattle.std.proofs.Common.{◌≡◌, ◌<◌, ◌+◌, ℕ, zero, suc, Bool, true, false, ◌||◌, refl, List, [], ◌∷◌, length, drop, Option, None}
use Rattle.std.proofs.Common.{Some, option_map, slice_get, ap, sym, ◌∙◌, arith}
use Rattle.std.specs.List.{list_any}
use Rattle.ad_tree.specs.Frames.{Frame, attributes_at, attributes_in}
use Rattle.ad_tree.specs.Tree.{Tree, pack}
use Rattle.ad_tree.proofs.TreeLemmas.{pack-drop}
use Rattle.gang_ports.specs.FreePorts.{any_refers, is_referred, refers}

drop-at : {X : Type 0} (xs : List X) (i : ℕ) (x : X) → slice_get xs i ≡ Some x → drop i xs ≡ x ∷ drop (i + 1) xs
drop-at [] i x at = absurd (cc)
drop-at (y ∷ xs) zero x at = let same : y ≡ x = cc in ap (λ z. z ∷ xs) same
drop-at (y ∷ xs) (suc i) x at = let moved : suc (i + 1) ≡ suc i + 1 = omega arith in drop-at xs i x at ∙ ap (λ n. x ∷ drop n (y ∷ xs)) moved

-- ---- a test of items, one after another

module _ {X : Type 0} (p : X → Bool) (xs : List X) (i : ℕ) (whole : Bool) (so_far : list_any p (drop i xs) ≡ whole) where
  any-at : (x : X) (b : Bool) → slice_get xs i ≡ Some x → p x ≡ b → (b || list_any p (drop (i + 1) xs)) ≡ whole
  any-at x b at e = ap (λ c. c || list_any p (drop (i + 1) xs)) (sym e) ∙ sym (ap (list_any p) (drop-at xs i x at)) ∙ so_far

-- ---- expressions

module _ (label : List ℕ) (ts : List Tree) (i : ℕ) (so_far : any_refers label (pack (drop i ts)) ≡ any_refers label (pack ts)) where
  tree-at : (t : Tree) (b : Bool) → slice_get ts i ≡ Some t → refers label t ≡ b
      → (b || any_refers label (pack (drop (i + 1) ts))) ≡ any_refers label (pack ts)
  tree-at t b at e = ap (λ c. c || any_refers label (pack (drop (i + 1) ts))) (sym e) ∙ sym (ap (any_refers label) (pack-drop ts i t at)) ∙ so_far

  pub tree-found : (t : Tree) → slice_get ts i ≡ Some t → true ≡ refers label t → true ≡ any_refers label (pack ts)
  tree-found t at e = tree-at t true at (sym e)

  pub tree-next : (t : Tree) → slice_get ts i ≡ Some t → false ≡ refers label t
      → any_refers label (pack (drop (i + 1) ts)) ≡ any_refers label (pack ts)
  tree-next t at e = tree-at t false at (sym e)

-- ---- attributes

module _ (label : List ℕ) (attributes : List (List ℕ × Tree)) (k : ℕ)
    (so_far : list_any (λ a. refers label a.1) (drop k attributes) ≡ list_any (λ a. refers label a.1) attributes) (t : Tree)
    (at : option_map (λ a. a.1) (slice_get attributes k) ≡ Some t) where
  attribute-at : (b : Bool) → b ≡ refers label t
      → (b || list_any (λ a. refers label a.1) (drop (k + 1) attributes)) ≡ list_any (λ a. refers label a.1) attributes
  attribute-at b e = by (slice_get attributes k) refl at
    where
      by : (o : Option (List ℕ × Tree)) → slice_get attributes k ≡ o → option_map (λ a. a.1) o ≡ Some t
          → (b || list_any (λ a. refers label a.1) (drop (k + 1) attributes)) ≡ list_any (λ a. refers label a.1) attributes
      by None is found = absurd (cc)
      by (Some a) is found =
          let same : a.1 ≡ t =
          cc in any-at (λ (c : List ℕ × Tree). refers label c.1) attributes k (list_any (λ c. refers label c.1) attributes) so_far a b is
          (ap (refers label) same ∙ sym e)

  pub attribute-found : true ≡ refers label t → true ≡ list_any (λ a. refers label a.1) attributes
  attribute-found e = attribute-at true e

  pub attribute-next : false ≡ refers label t → list_any (λ a. refers label a.1) (drop (k + 1) attributes) ≡ list_any (λ a. refers label a.1) attributes
  attribute-next e = attribute-at false e

-- ---- frames

module _ (fs : List Frame) (label : List ℕ) (i : ℕ) (so_far : is_referred (drop i fs) label ≡ is_referred fs label) (within : i < length fs) where
  slice-within : {X : Type 0} (xs : List X) (k : ℕ) → k < length xs → (x : X) × (slice_get xs k ≡ Some x)
  slice-within [] k low = absurd (omega (arith, low))
  slice-within (x ∷ xs) zero low = (x, refl)
  slice-within (x ∷ xs) (suc k) low = slice-within xs k (omega (arith, low))

  frame-at : (b : Bool) → b ≡ list_any (λ a. refers label a.1) (attributes_at fs i) → (b || is_referred (drop (i + 1) fs) label) ≡ is_referred fs label
  frame-at b e =
      let here = slice-within fs i within in
      any-at (λ (f : Frame). list_any (λ a. refers label a.1) f.attributes) fs i (is_referred fs label) so_far here.0 b here.1
      (sym (ap (λ (o : Option Frame). list_any (λ a. refers label a.1) (attributes_in o)) here.1) ∙ sym e)

  pub frame-found : true ≡ list_any (λ a. refers label a.1) (attributes_at fs i) → true ≡ is_referred fs label
  frame-found e = frame-at true e

  pub frame-next : false ≡ list_any (λ a. refers label a.1) (attributes_at fs i) → is_referred (drop (i + 1) fs) label ≡ is_referred fs label
  frame-next e = frame-at false e
