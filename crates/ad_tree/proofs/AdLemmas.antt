-- Laws of ads: where cited frames stand, that numbering makes ads, and that an ad is opened level by level.
use Rattle.std.proofs.Common.{refl, arith, ◌≡◌, ◌≤◌, ◌<◌, ℕ, zero, suc, ◌+◌, List, [], ◌∷◌, ◌++◌, length, true, ap, sym, ◌∙◌, subst, Option, None, Some}
use Rattle.std.proofs.Common.{option_map, slice_get, Contains, IsTrue}
use Rattle.std.proofs.lemmas.List.Elements.{Contains-append_left, Contains-append_right}
use Rattle.std.proofs.lemmas.Option.{slice_get_within, slice_get_past}
use Rattle.ad_tree.specs.Tree.{Tree, node, frame, Trees, none, more, cited, cited_all}
use Rattle.ad_tree.specs.Names.{are_apart}
use Rattle.ad_tree.specs.Frames.{Frame, empty_frame, attributes_at, attributes_in, names_of, names_in, cited_in, parent_of, IsAd}
use Rattle.ad_tree.specs.Inline.{Inline, shape, inner, Inlines, end, next, Defs, no_defs, def, count, number, number_all, attributes_from, frames, frames_all}
use Rattle.ad_tree.specs.Inline.{frames_in, inlined, inlined_all, defs_of, inside, spelled_tree, is_apart, all_apart, defs_apart}
use Rattle.ad_tree.proofs.NameLemmas.{both_left, both_right, both}
use Rattle.ad_tree.proofs.InlineLemmas.{length-frames, names-attributes_from, names-defs_of, inlined-apart, defs_of-apart}
use Rattle.ad_tree.proofs.SpellingLemmas.{Stand, Stand-left, Stand-right, Stand-behind, as_it_is, map-as_it_is}

-- P holds of each frame's number in a list
abbrev pub Each : (ℕ → Type 0) → List ℕ → Type 0
Each P [] = Unit {0}
Each P (f ∷ fs) = P f × Each P fs

module _ (P : ℕ → Type 0) where
  pub Each-append : (fs gs : List ℕ) → Each P fs → Each P gs → Each P (fs ++ gs)
  Each-append [] gs h k = k
  Each-append (f ∷ fs) gs h k = (h.0, Each-append fs gs h.1 k)

  pub Each-contains : (fs : List ℕ) (f : ℕ) → Each P fs → Contains fs f → P f
  Each-contains [] f h c = absurd (omega (arith, c.1))
  Each-contains (g ∷ gs) f h (zero, w, e) = subst P e h.0
  Each-contains (g ∷ gs) f h (suc k, w, e) = Each-contains gs f h.1 (k, omega (arith, w), e)

-- a frame that is there has its parent
parent-there : (fs : List Frame) (f : ℕ) (g : Frame) → 0 < f → slice_get fs f ≡ Some g → parent_of fs f ≡ Some g.parent
parent-there fs zero g h e = absurd (omega (arith, h))
parent-there fs (suc f) g h e = ap (option_map (λ k. k.parent)) e

-- what an ad asks of a frame that stands at b
pub record IsSound (fs : List Frame) (b : ℕ) (g : Frame) : Type 0 where
  pub nested : Each (λ f. parent_of fs f ≡ Some b) (cited_in g.attributes)
  pub lower : 0 < b → g.parent < b
  pub apart : are_apart (names_of g.attributes) ≡ true

abbrev pub AreSound : List Frame → ℕ → List Frame → Type 0
AreSound fs b [] = Unit {0}
AreSound fs b (g ∷ gs) = IsSound fs b g × AreSound fs (suc b) gs

AreSound-append : (fs : List Frame) (b : ℕ) (gs ks : List Frame) → AreSound fs b gs → AreSound fs (b + length gs) ks → AreSound fs b (gs ++ ks)
AreSound-append fs b [] ks h k = subst (λ n. AreSound fs n ks) at_start k
  where
    at_start : b + 0 ≡ b
    at_start = omega arith
AreSound-append fs b (g ∷ gs) ks h k = (h.0, AreSound-append fs (suc b) gs ks h.1 (subst (λ n. AreSound fs n ks) (one_on b (length gs)) k))
  where
    one_on : (a c : ℕ) → a + suc c ≡ suc a + c
    one_on a c = omega arith

AreSound-at : (fs : List Frame) (b : ℕ) (gs : List Frame) (k : ℕ) (g : Frame) → AreSound fs b gs → slice_get gs k ≡ Some g → IsSound fs (b + k) g
AreSound-at fs b [] k g h e = absurd (cc)
AreSound-at fs b (f ∷ gs) zero g h e = subst (λ n. IsSound fs n g) at_start (subst (IsSound fs b) same h.0)
  where
    at_start : b ≡ b + 0
    at_start = omega arith

    same : f ≡ g
    same = cc
AreSound-at fs b (f ∷ gs) (suc k) g h e = subst (λ n. IsSound fs n g) (one_on b k) (AreSound-at fs (suc b) gs k g h.1 e)
  where
    one_on : (a c : ℕ) → suc a + c ≡ a + suc c
    one_on a c = omega arith

AreSound-from_start : (fs gs : List Frame) (k : ℕ) (g : Frame) → AreSound fs 0 gs → slice_get gs k ≡ Some g → IsSound fs k g
AreSound-from_start fs gs k g h e = subst (λ n. IsSound fs n g) at_start (AreSound-at fs 0 gs k g h e)
  where
    at_start : 0 + k ≡ k
    at_start = omega arith

-- frames that are sound where they stand make an ad
pub IsAd-sound : (fs : List Frame) → 0 < length fs → AreSound fs 0 fs → IsAd fs
IsAd-sound fs root h = record {
  root = root;
  lower = λ f parent e. lower f parent (slice_get fs f) refl e;
  apart = λ f. apart f (slice_get fs f) refl;
  nested = λ f g c. nested f g (slice_get fs f) refl c;
}
  where
    lower : (f parent : ℕ) (o : Option Frame) → slice_get fs f ≡ o → parent_of fs f ≡ Some parent → parent < f
    lower zero parent o at e = absurd (cc)
    lower (suc f) parent None at e = absurd (cc (ap (option_map (λ k. k.parent)) at))
    lower (suc f) parent (Some g) at e =
        let same : g.parent ≡ parent = cc (ap (option_map (λ k. k.parent)) at) in
        subst (λ n. n < suc f) same ((AreSound-from_start fs fs (suc f) g h at).lower (omega arith))

    apart : (f : ℕ) (o : Option Frame) → slice_get fs f ≡ o → are_apart (names_in fs f) ≡ true
    apart f None at = ap (λ o. are_apart (names_of (attributes_in o))) at
    apart f (Some g) at = ap (λ o. are_apart (names_of (attributes_in o))) at ∙ (AreSound-from_start fs fs f g h at).apart

    nested : (f g : ℕ) (o : Option Frame) → slice_get fs f ≡ o → Contains (cited_in (attributes_at fs f)) g → parent_of fs g ≡ Some f
    nested f g None at c = absurd (none (subst (λ o. Contains (cited_in (attributes_in o)) g) at c))
      where
        none : Contains [] g → ⊥
        none k = omega (arith, k.1)
    nested f g (Some k) at c =
        Each-contains (λ m. parent_of fs m ≡ Some f) (cited_in k.attributes) g (AreSound-from_start fs fs f k h at).nested
        (subst (λ o. Contains (cited_in (attributes_in o)) g) at c)

-- the frames that a numbered tree cites have its frame as their parent
module _ (fs : List Frame) where
  mutual
    cited-number : (p b : ℕ) (i : Inline) → 0 < b → Stand as_it_is fs b (frames p b i) → Each (λ f. parent_of fs f ≡ Some p) (cited (number b i))
    cited-number p b (shape label is) h s = cited-number_all p b is h s
    cited-number p b (inner ds) h s = (parent-there fs b (record { parent = p; attributes = attributes_from (suc b) ds }) h s.0, tt)

    cited-number_all : (p b : ℕ) (is : Inlines) → 0 < b → Stand as_it_is fs b (frames_all p b is)
        → Each (λ f. parent_of fs f ≡ Some p) (cited_all (number_all b is))
    cited-number_all p b end h s = tt
    cited-number_all p b (next i is) h s =
        Each-append (λ f. parent_of fs f ≡ Some p) (cited (number b i)) (cited_all (number_all (b + count i) is))
        (cited-number p b i h (Stand-left as_it_is fs b (frames p b i) (frames_all p (b + count i) is) s))
        (cited-number_all p (b + count i) is (omega (arith, h))
        (subst (λ m. Stand as_it_is fs (b + m) (frames_all p (b + count i) is)) (length-frames p b i)
        (Stand-right as_it_is fs b (frames p b i) (frames_all p (b + count i) is) s)))

  cited-attributes : (p b : ℕ) (ds : Defs) → 0 < b → Stand as_it_is fs b (frames_in p b ds)
      → Each (λ f. parent_of fs f ≡ Some p) (cited_in (attributes_from b ds))
  cited-attributes p b no_defs h s = tt
  cited-attributes p b (def name i ds) h s =
      Each-append (λ f. parent_of fs f ≡ Some p) (cited (number b i)) (cited_in (attributes_from (b + count i) ds))
      (cited-number p b i h (Stand-left as_it_is fs b (frames p b i) (frames_in p (b + count i) ds) s))
      (cited-attributes p (b + count i) ds (omega (arith, h))
      (subst (λ m. Stand as_it_is fs (b + m) (frames_in p (b + count i) ds)) (length-frames p b i)
      (Stand-right as_it_is fs b (frames p b i) (frames_in p (b + count i) ds) s)))

  -- an ad literal's frame is sound
  sound-inner : (p b : ℕ) (ds : Defs) → (0 < b → p < b) → is_apart (inner ds) ≡ true → Stand as_it_is fs (suc b) (frames_in b (suc b) ds)
      → IsSound fs b (record { parent = p; attributes = attributes_from (suc b) ds })
  sound-inner p b ds low h s = record {
    nested = cited-attributes b (suc b) ds (omega arith) s;
    lower = low;
    apart = ap are_apart (names-attributes_from (suc b) ds) ∙ both_left _ _ h;
  }

  -- and so are all frames of a tree
  mutual
    sound-frames : (p b : ℕ) (i : Inline) → p < b → is_apart i ≡ true → Stand as_it_is fs b (frames p b i) → AreSound fs b (frames p b i)
    sound-frames p b (shape label is) low h s = sound-frames_all p b is low h s
    sound-frames p b (inner ds) low h s = (sound-inner p b ds (λ _. low) h s.1, sound-frames_in b (suc b) ds (omega arith) (both_right _ _ h) s.1)

    sound-frames_all : (p b : ℕ) (is : Inlines) → p < b → all_apart is ≡ true → Stand as_it_is fs b (frames_all p b is) → AreSound fs b (frames_all p b is)
    sound-frames_all p b end low h s = tt
    sound-frames_all p b (next i is) low h s =
        AreSound-append fs b (frames p b i) (frames_all p (b + count i) is)
        (sound-frames p b i low (both_left _ _ h) (Stand-left as_it_is fs b (frames p b i) (frames_all p (b + count i) is) s))
        (subst (λ m. AreSound fs (b + m) (frames_all p (b + count i) is)) (sym (length-frames p b i))
        (sound-frames_all p (b + count i) is (omega (arith, low)) (both_right _ _ h)
        (subst (λ m. Stand as_it_is fs (b + m) (frames_all p (b + count i) is)) (length-frames p b i)
        (Stand-right as_it_is fs b (frames p b i) (frames_all p (b + count i) is) s))))

    sound-frames_in : (p b : ℕ) (ds : Defs) → p < b → defs_apart ds ≡ true → Stand as_it_is fs b (frames_in p b ds) → AreSound fs b (frames_in p b ds)
    sound-frames_in p b no_defs low h s = tt
    sound-frames_in p b (def name i ds) low h s =
        AreSound-append fs b (frames p b i) (frames_in p (b + count i) ds)
        (sound-frames p b i low (both_left _ _ h) (Stand-left as_it_is fs b (frames p b i) (frames_in p (b + count i) ds) s))
        (subst (λ m. AreSound fs (b + m) (frames_in p (b + count i) ds)) (sym (length-frames p b i))
        (sound-frames_in p (b + count i) ds (omega (arith, low)) (both_right _ _ h)
        (subst (λ m. Stand as_it_is fs (b + m) (frames_in p (b + count i) ds)) (length-frames p b i)
        (Stand-right as_it_is fs b (frames p b i) (frames_in p (b + count i) ds) s))))

-- frames stand behind what is before them, as they are
Stand-plainly : (before gs : List Frame) → Stand as_it_is (before ++ gs) (length before) gs
Stand-plainly before gs = subst (λ fs. Stand as_it_is (before ++ fs) (length before) gs) (map-as_it_is gs) (Stand-behind as_it_is before gs)

-- a tree without repeated names, numbered, is an ad
pub IsAd-frames : (ds : Defs) → is_apart (inner ds) ≡ true → IsAd (frames 0 0 (inner ds))
IsAd-frames ds h =
    let s = Stand-plainly [] (frames 0 0 (inner ds)) in
    IsAd-sound (frames 0 0 (inner ds)) (omega arith) (
      sound-inner (frames 0 0 (inner ds)) 0 0 ds (λ w. absurd (omega (arith, w))) h s.1,
      sound-frames_in (frames 0 0 (inner ds)) 0 1 ds (omega arith) (both_right _ _ h) s.1,
    )

-- and so is an expression's, behind an empty root
pub IsAd-phrase : (i : Inline) → is_apart i ≡ true → IsAd (empty_frame 0 ∷ frames 0 1 i)
IsAd-phrase i h =
    IsAd-sound (empty_frame 0 ∷ frames 0 1 i) (omega arith) (
      record { nested = tt; lower = λ w. absurd (omega (arith, w)); apart = refl },
      sound-frames (empty_frame 0 ∷ frames 0 1 i) 0 1 i (omega arith) h (Stand-plainly (empty_frame 0 ∷ []) (frames 0 1 i)),
    )

-- frames with names apart spell trees without repeated names
pub inside-apart : (fs : List Frame) → ((f : ℕ) → IsTrue (are_apart (names_in fs f))) → (n f : ℕ) → is_apart (inner (inside fs n f)) ≡ true
inside-apart fs h zero f = refl
inside-apart fs h (suc n) f =
    both _ _ (ap are_apart (names-defs_of (inside fs n) (attributes_at fs f)) ∙ h f)
    (defs_of-apart (inside fs n) (inside-apart fs h n) (attributes_at fs f))

pub spelled_tree-apart : (fs : List Frame) → ((f : ℕ) → IsTrue (are_apart (names_in fs f))) → (t : Tree) → is_apart (spelled_tree fs t) ≡ true
spelled_tree-apart fs h t = inlined-apart (inside fs (length fs)) (inside-apart fs h (length fs)) t

-- ---- an ad, level by level ----

module _ (fs : List Frame) (ad : IsAd fs) where
  -- a frame that is cited in frame f is above f
  pub above-cited : (f g : ℕ) → Contains (cited_in (attributes_at fs f)) g → f < g
  above-cited f g c = ad.lower g f (ad.nested f g c)

  -- and is a frame of the ad
  pub cited_within : (f g : ℕ) → Contains (cited_in (attributes_at fs f)) g → g < length fs
  cited_within f g c = by g (slice_get fs g) refl (ad.nested f g c)
    where
      by : (k : ℕ) (o : Option Frame) → slice_get fs k ≡ o → parent_of fs k ≡ Some f → k < length fs
      by zero o at e = absurd (cc)
      by (suc k) None at e = absurd (cc (ap (option_map (λ m. m.parent)) at))
      by (suc k) (Some m) at e = slice_get_within fs (suc k) m at

-- definitions are opened alike where the frames that they cite are
mutual
  pub inlined-along : (k m : ℕ → Defs) (t : Tree) → ((f : ℕ) → Contains (cited t) f → k f ≡ m f) → inlined k t ≡ inlined m t
  inlined-along k m (node label ts) h = ap (shape label) (inlined_all-along k m ts h)
  inlined-along k m (frame f) h = ap inner (h f (0, omega arith, refl))

  pub inlined_all-along : (k m : ℕ → Defs) (ts : Trees) → ((f : ℕ) → Contains (cited_all ts) f → k f ≡ m f) → inlined_all k ts ≡ inlined_all m ts
  inlined_all-along k m none h = refl
  inlined_all-along k m (more t ts) h =
      ap (λ i. next i (inlined_all k ts)) (inlined-along k m t (λ f c. h f (Contains-append_left (cited t) (cited_all ts) f c)))
      ∙ ap (next (inlined m t)) (inlined_all-along k m ts (λ f c. h f (Contains-append_right (cited t) (cited_all ts) f c)))

pub defs_of-along : (k m : ℕ → Defs) (attributes : List (List ℕ × Tree)) → ((f : ℕ) → Contains (cited_in attributes) f → k f ≡ m f)
    → defs_of k attributes ≡ defs_of m attributes
defs_of-along k m [] h = refl
defs_of-along k m (a ∷ rest) h =
    ap (λ i. def a.0 i (defs_of k rest)) (inlined-along k m a.1 (λ f c. h f (Contains-append_left (cited a.1) (cited_in rest) f c)))
    ∙ ap (def a.0 (inlined m a.1)) (defs_of-along k m rest (λ f c. h f (Contains-append_right (cited a.1) (cited_in rest) f c)))

module _ (fs : List Frame) (ad : IsAd fs) where
  missing : (n f : ℕ) → length fs ≤ f → inside fs n f ≡ no_defs
  missing zero f h = refl
  missing (suc n) f h = ap (λ o. defs_of (inside fs n) (attributes_in o)) (slice_get_past fs f h)

  -- as many levels as there are frames above f are enough
  pub inside-enough : (n m f : ℕ) → length fs ≤ n + f → length fs ≤ m + f → inside fs n f ≡ inside fs m f
  inside-enough zero m f h k = sym (missing m f (omega (arith, h)))
  inside-enough (suc n) zero f h k = missing (suc n) f (omega (arith, k))
  inside-enough (suc n) (suc m) f h k =
      defs_of-along (inside fs n) (inside fs m) (attributes_at fs f)
      (λ g c. let up = above-cited fs ad f g c in inside-enough n m g (omega (arith, h, up)) (omega (arith, k, up)))

  -- one level of an ad: what stands in a frame, with its ad literals opened in the same way
  pub inside-level : (f : ℕ) → inside fs (length fs) f ≡ defs_of (inside fs (length fs)) (attributes_at fs f)
  inside-level f = inside-enough (length fs) (suc (length fs)) f (omega arith) (omega arith)
