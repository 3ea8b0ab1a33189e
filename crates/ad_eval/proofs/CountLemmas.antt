-- How many attributes weren't entered yet, from step to step.
use Rattle.std.proofs.Common.{◌≡◌, ◌≤◌, ◌<◌, ◌+◌, ℕ, zero, suc, Bool, true, false, refl, List, [], ◌∷◌, ◌++◌, length, Some, option_map, slice_get, unwrap_or}
use Rattle.std.proofs.Common.{count_by, sum_by, cond, ap, sym, ◌∙◌, subst, arith, ◌⊎◌, inl, inr, length-append}
use Rattle.std.proofs.lemmas.List.Sums.{sum_by-cons}
use Rattle.pool_text.specs.declared.language.Pos.{Pos}
use Rattle.ad_tree.specs.Tree.{Tree}
use Rattle.ad_tree.specs.Frames.{Frame, expr_at}
use Rattle.cycle_guard.specs.declared.guard.Guard.{Guard}
use Rattle.cycle_guard.specs.Sights.{Sight, unseen, same_pos}
use Rattle.cycle_guard.specs.Shown.{sight_of}
use Rattle.cycle_guard.proofs.GuardLemmas.{same_pos-itself}
use Rattle.eval_scope.specs.World.{PlainWorld, ads, attribute_count, expr_of}
use Rattle.ad_eval.specs.Kept.{attributes_of_ads, attributes_of_frames, first_attributes, is_unseen, unseen_count}

-- ---- the list of all attributes

length-first : (k f n : ℕ) → length (first_attributes k f n) ≡ n
length-first k f zero = refl
length-first k f (suc n) = ap suc (length-first k f n)

length-frames : (k f : ℕ) (gs : List Frame) → length (attributes_of_frames k f gs) ≡ sum_by (λ g. length g.attributes) gs
length-frames k f [] = refl
length-frames k f (g ∷ gs) =
    omega (
      arith,
      length-append (first_attributes k f (length g.attributes)) (attributes_of_frames k (suc f) gs),
      length-first k f (length g.attributes),
      length-frames k (suc f) gs,
      sum_by-cons (λ (h : Frame). length h.attributes) g gs,
    )

length-ads : (k : ℕ) (all : List (List Frame)) → length (attributes_of_ads k all) ≡ sum_by (λ fs. sum_by (λ g. length g.attributes) fs) all
length-ads k [] = refl
length-ads k (fs ∷ rest) =
    omega (
      arith,
      length-append (attributes_of_frames k 0 fs) (attributes_of_ads (suc k) rest),
      length-frames k 0 fs,
      length-ads (suc k) rest,
      sum_by-cons (λ (gs : List Frame). sum_by (λ g. length g.attributes) gs) fs rest,
    )

-- an attribute is among these
abbrev pub IsIn : Pos → List Pos → Type 0
IsIn s [] = ⊥
IsIn s (x ∷ xs) = (x ≡ s) ⊎ IsIn s xs

IsIn-left : (s : Pos) (xs ys : List Pos) → IsIn s xs → IsIn s (xs ++ ys)
IsIn-left s [] ys h = absurd h
IsIn-left s (x ∷ xs) ys (inl e) = inl e
IsIn-left s (x ∷ xs) ys (inr h) = inr (IsIn-left s xs ys h)

IsIn-right : (s : Pos) (xs ys : List Pos) → IsIn s ys → IsIn s (xs ++ ys)
IsIn-right s [] ys h = h
IsIn-right s (x ∷ xs) ys h = inr (IsIn-right s xs ys h)

at_place : ℕ → ℕ → ℕ → Pos
at_place k f a = record { ad = k; frame = f; attr = a }

below-suc : (a n : ℕ) → a < suc n → (n ≡ a) ⊎ (a < n)
below-suc zero zero h = inl refl
below-suc zero (suc n) h = inr (omega arith)
below-suc (suc a) zero h = absurd (omega arith)
below-suc (suc a) (suc n) h = by (below-suc a n (omega arith))
  where
    by : (n ≡ a) ⊎ (a < n) → (suc n ≡ suc a) ⊎ (suc a < suc n)
    by (inl e) = inl (ap suc e)
    by (inr l) = inr (omega arith)

IsIn-first : (k f n a : ℕ) → a < n → IsIn (at_place k f a) (first_attributes k f n)
unfolding at_place
IsIn-first k f zero a h = absurd (omega arith)
IsIn-first k f (suc n) a h = by (below-suc a n h) (λ less. IsIn-first k f n a less)
  where
    by : (n ≡ a) ⊎ (a < n) → (a < n → IsIn (record { ad = k; frame = f; attr = a }) (first_attributes k f n))
        → IsIn (record { ad = k; frame = f; attr = a }) (record { ad = k; frame = f; attr = n } ∷ first_attributes k f n)
    by (inl e) more = inl (ap (λ (m : ℕ). record { ad = k; frame = f; attr = m }) e)
    by (inr less) more = inr (more less)

there-within : (attributes : List (List ℕ × Tree)) (a : ℕ) (t : Tree) → option_map (λ x. x.1) (slice_get attributes a) ≡ Some t → a < length attributes
there-within [] a t e = absurd (cc)
there-within (x ∷ rest) zero t e = omega arith
there-within (x ∷ rest) (suc a) t e = omega (arith, there-within rest a t e)

IsIn-frames : (k f0 j a : ℕ) (gs : List Frame) (t : Tree) → expr_at gs j a ≡ Some t → IsIn (at_place k (f0 + j) a) (attributes_of_frames k f0 gs)
IsIn-frames k f0 j a [] t e = absurd (cc)
IsIn-frames k f0 zero a (g ∷ gs) t e =
    let here = IsIn-first k f0 (length g.attributes) a (there-within g.attributes a t e) in
    let same : f0 ≡ f0 + 0 = omega arith in
    IsIn-left (at_place k (f0 + 0) a) (first_attributes k f0 (length g.attributes)) (attributes_of_frames k (suc f0) gs)
    (subst (λ f. IsIn (at_place k f a) (first_attributes k f0 (length g.attributes))) same here)
IsIn-frames k f0 (suc j) a (g ∷ gs) t e =
    let there = IsIn-frames k (suc f0) j a gs t e in
    let same : suc f0 + j ≡ f0 + suc j = omega arith in
    IsIn-right (at_place k (f0 + suc j) a) (first_attributes k f0 (length g.attributes)) (attributes_of_frames k (suc f0) gs)
    (subst (λ f. IsIn (at_place k f a) (attributes_of_frames k (suc f0) gs)) same there)

IsIn-ads : (k0 j f a : ℕ) (all : List (List Frame)) (t : Tree) → expr_at (unwrap_or (slice_get all j) []) f a ≡ Some t
    → IsIn (at_place (k0 + j) f a) (attributes_of_ads k0 all)
IsIn-ads k0 j f a [] t e = absurd (cc)
IsIn-ads k0 zero f a (fs ∷ rest) t e =
    let here = IsIn-frames k0 0 f a fs t e in
    let same : k0 ≡ k0 + 0 = omega arith in
    let frame : 0 + f ≡ f = omega arith in
    IsIn-left (at_place (k0 + 0) f a) (attributes_of_frames k0 0 fs) (attributes_of_ads (suc k0) rest)
    (subst (λ k. IsIn (at_place k f a) (attributes_of_frames k0 0 fs)) same (subst (λ g. IsIn (at_place k0 g a) (attributes_of_frames k0 0 fs)) frame here))
IsIn-ads k0 (suc j) f a (fs ∷ rest) t e =
    let there = IsIn-ads (suc k0) j f a rest t e in
    let same : suc k0 + j ≡ k0 + suc j = omega arith in
    IsIn-right (at_place (k0 + suc j) f a) (attributes_of_frames k0 0 fs) (attributes_of_ads (suc k0) rest)
    (subst (λ k. IsIn (at_place k f a) (attributes_of_ads (suc k0) rest)) same there)

IsIn-world : (w : PlainWorld) (s : Pos) (t : Tree) → expr_of w s ≡ Some t → IsIn s (attributes_of_ads 0 (ads w))
unfolding at_place
IsIn-world w s t e =
    let same : 0 + s.ad ≡ s.ad = omega arith in
    subst (λ k. IsIn (record { ad = k; frame = s.frame; attr = s.attr }) (attributes_of_ads 0 (ads w))) same (IsIn-ads 0 s.ad s.frame s.attr (ads w) t e)

-- ---- counts

module _ (p q : Pos → Bool) (only : (s : Pos) → q s ≡ true → p s ≡ true) where
  one-less : (x : Pos) → cond (q x) 1 0 ≤ cond (p x) 1 0
  one-less x = by (q x) (p x) (only x)
    where
      by : (b c : Bool) → (b ≡ true → c ≡ true) → cond b 1 0 ≤ cond c 1 0
      by true true h = omega arith
      by true false h = absurd (cc (h refl))
      by false c h = omega arith

  pub count-less : (xs : List Pos) → count_by q xs ≤ count_by p xs
  count-less [] = omega arith
  count-less (x ∷ xs) = omega (arith, sum_by-cons (λ s. cond (q s) 1 0) x xs, sum_by-cons (λ s. cond (p s) 1 0) x xs, one-less x, count-less xs)

  pub count-fewer : (xs : List Pos) (s : Pos) → IsIn s xs → p s ≡ true → q s ≡ false → count_by q xs + 1 ≤ count_by p xs
  count-fewer [] s h was now = absurd h
  count-fewer (x ∷ xs) s (inl e) was now =
      let before : cond {A = ℕ} (p x) 1 0 ≡ 1 = ap (λ b. cond {A = ℕ} b 1 0) (ap p e ∙ was) in
      let after : cond {A = ℕ} (q x) 1 0 ≡ 0 = ap (λ b. cond {A = ℕ} b 1 0) (ap q e ∙ now) in
      omega (arith, sum_by-cons (λ s. cond (q s) 1 0) x xs, sum_by-cons (λ s. cond (p s) 1 0) x xs, count-less xs)
  count-fewer (x ∷ xs) s (inr h) was now =
      omega (arith, sum_by-cons (λ s. cond (q s) 1 0) x xs, sum_by-cons (λ s. cond (p s) 1 0) x xs, one-less x, count-fewer xs s h was now)

count-length : (p : Pos → Bool) (xs : List Pos) → count_by p xs ≤ length xs
count-length p [] = omega arith
count-length p (x ∷ xs) = omega (arith, sum_by-cons (λ s. cond (p s) 1 0) x xs, one x, count-length p xs)
  where
    one : (x : Pos) → cond (p x) 1 0 ≤ 1
    one x = by (p x)
      where
        by : (b : Bool) → cond b 1 0 ≤ 1
        by true = omega arith
        by false = omega arith

-- ---- guards

-- no more attributes are unseen than there are
pub unseen-all : (w : PlainWorld) (g : Guard) → unseen_count w g ≤ attribute_count w
unfolding unseen_count
unseen-all w g = omega (arith, count-length (λ s. is_unseen (sight_of g s)) (attributes_of_ads 0 (ads w)), length-ads 0 (ads w))

is_unseen-changed : (s q : Pos) (old other : Sight) → is_unseen other ≡ false → is_unseen (cond (same_pos s q) other old) ≡ true → is_unseen old ≡ true
is_unseen-changed s q old other seen = by (same_pos s q)
  where
    by : (b : Bool) → is_unseen (cond b other old) ≡ true → is_unseen old ≡ true
    by true e = absurd (cc)
    by false e = e

module _ (w : PlainWorld) (old new : Guard) (s : Pos) (other : Sight) (seen : is_unseen other ≡ false)
    (changed : (q : Pos) → sight_of new q ≡ cond (same_pos s q) other (sight_of old q)) where
  only-unseen : (q : Pos) → is_unseen (sight_of new q) ≡ true → is_unseen (sight_of old q) ≡ true
  only-unseen q e = is_unseen-changed s q (sight_of old q) other seen (sym (ap is_unseen (changed q)) ∙ e)

  -- no attribute becomes unseen
  pub unseen-after : unseen_count w new ≤ unseen_count w old
  unfolding unseen_count
  unseen-after = count-less (λ q. is_unseen (sight_of old q)) (λ q. is_unseen (sight_of new q)) only-unseen (attributes_of_ads 0 (ads w))

  -- one that is entered is no longer unseen
  pub unseen-fewer : (t : Tree) → expr_of w s ≡ Some t → sight_of old s ≡ unseen → unseen_count w new + 1 ≤ unseen_count w old
  unfolding unseen_count
  unseen-fewer t there fresh =
      let now = ap is_unseen (changed s ∙ ap (λ b. cond b other (sight_of old s)) (same_pos-itself s)) ∙ seen in
      count-fewer (λ q. is_unseen (sight_of old q)) (λ q. is_unseen (sight_of new q)) only-unseen (attributes_of_ads 0 (ads w)) s (IsIn-world w s t there)
      (ap is_unseen fresh) now

-- guards that know the same
pub unseen-same : (w : PlainWorld) (old new : Guard) → ((q : Pos) → sight_of new q ≡ sight_of old q) → unseen_count w new ≡ unseen_count w old
unfolding unseen_count
unseen-same w old new same =
    let less =
    count-less (λ q. is_unseen (sight_of old q)) (λ q. is_unseen (sight_of new q)) (λ q e. sym (ap is_unseen (same q)) ∙ e) (attributes_of_ads 0 (ads w)) in
    let more =
    count-less (λ q. is_unseen (sight_of new q)) (λ q. is_unseen (sight_of old q)) (λ q e. ap is_unseen (same q) ∙ e) (attributes_of_ads 0 (ads w)) in
    omega arith
