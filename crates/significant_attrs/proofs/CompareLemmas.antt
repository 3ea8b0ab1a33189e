-- Two ads, compared part by part.
use Rattle.std.proofs.Common.{◌≡◌, ◌≤◌, ◌<◌, ℕ, suc, Bool, true, List, [], ◌∷◌, length, Option, Some, option_map, slice_get, refl, ap}
use Rattle.std.proofs.Common.{sym, ◌∙◌, arith}
use Rattle.std.proofs.lemmas.Option.{slice_get-map}
use Rattle.ad_tree.specs.Frames.{Frame, attributes_at, expr_at, name_at, names_in, names_of, parent_of}
use Rattle.ad_tree.specs.Tree.{Tree}

-- ---- lists of attributes

abbrev Attributes : Type 0
Attributes = List (List ℕ × Tree)

names-same-of : (xs ys : Attributes) → length xs ≡ length ys
    → ((k : ℕ) → k < length xs
    → option_map (λ (a : List ℕ × Tree). a.0) (slice_get xs k) ≡ option_map (λ (a : List ℕ × Tree). a.0) (slice_get ys k))
    → names_of xs ≡ names_of ys
names-same-of [] [] long same = refl
names-same-of [] (y ∷ ys) long same = absurd (omega (arith, long))
names-same-of (x ∷ xs) [] long same = absurd (omega (arith, long))
names-same-of (x ∷ xs) (y ∷ ys) long same =
    let first : Option.Some x.0 ≡ Some y.0 = same 0 (omega arith) in
    let head : x.0 ≡ y.0 = cc (first) in
    ap (λ z. z ∷ names_of xs) head ∙ ap (λ zs. y.0 ∷ zs) (names-same-of xs ys (omega (arith, long)) (λ k low. same (suc k) (omega (arith, low))))

module _ (a b : List Frame) where
  -- ---- roots

  -- the names of the roots are the same up to a place
  abbrev pub AreNamesSame : ℕ → Type 0
  AreNamesSame n = (k : ℕ) → k < n → name_at a 0 k ≡ name_at b 0 k

  pub names-same : (n : ℕ) → length (attributes_at a 0) ≡ length (attributes_at b 0) → length (attributes_at a 0) ≤ n → AreNamesSame n
      → names_in a 0 ≡ names_in b 0
  names-same n long end same = names-same-of (attributes_at a 0) (attributes_at b 0) long (λ k low. same k (omega (arith, low, end)))

  pub name-along : (k : ℕ) → names_in a 0 ≡ names_in b 0 → name_at a 0 k ≡ name_at b 0 k
  name-along k same =
      sym (slice_get-map (λ (c : List ℕ × Tree). c.0) (attributes_at a 0) k)
      ∙ ap (λ ns. slice_get ns k) same
      ∙ slice_get-map (λ (c : List ℕ × Tree). c.0) (attributes_at b 0) k

  -- so are their expressions where there is a mark
  abbrev pub AreMarkedSame : List Bool → ℕ → Type 0
  AreMarkedSame marks n = (k : ℕ) → k < n → slice_get marks k ≡ Some true → expr_at a 0 k ≡ expr_at b 0 k

  -- ---- frames below the root

  pub record IsSameFrame (f : ℕ) : Type 0 where
    pub attributes : attributes_at a f ≡ attributes_at b f
    pub parent : parent_of a f ≡ parent_of b f

  abbrev pub AreFramesSame : ℕ → Type 0
  AreFramesSame n = (f : ℕ) → 0 < f → f < n → IsSameFrame f
