-- Frames and spelled trees are two views of one thing: what is numbered is spelled back.
use Rattle.std.proofs.Common.{refl, arith, ◌≡◌, ◌≤◌, ℕ, zero, suc, ◌+◌, List, [], ◌∷◌, ◌++◌, length, map, Bool, true, false, ap, sym, ◌∙◌, subst, cond}
use Rattle.std.proofs.Common.{append_assoc, length-append, Some, slice_get}
use Rattle.std.proofs.lemmas.List.{length-map, map-append}
use Rattle.ad_tree.specs.Tree.{Tree}
use Rattle.ad_tree.specs.Names.{same_name, are_apart}
use Rattle.ad_tree.specs.Frames.{Frame, empty_frame, attributes_in, put_attribute, put_all, settled_frame}
use Rattle.ad_tree.specs.Inline.{Inline, shape, inner, Inlines, end, next, Defs, no_defs, def, count, count_all, count_defs, number, number_all}
use Rattle.ad_tree.specs.Inline.{attributes_from, frames, frames_all, frames_in, inlined, inlined_all, defs_of, inside, spelled, spelled_tree, put, settled}
use Rattle.ad_tree.specs.Inline.{settled_all, settled_defs, ad_of, phrase_of, phrase_tree, literals, literals_all, literals_in, is_apart, all_apart, defs_apart}
use Rattle.ad_tree.specs.Inline.{def_names}
use Rattle.ad_tree.proofs.NameLemmas.{both_left, both_right, both}
use Rattle.ad_tree.proofs.AttributeLemmas.{names-put, apart-put_name, put_all-apart}
use Rattle.ad_tree.proofs.InlineLemmas.{length-frames, names-attributes_from}

-- frames, each changed by h, stand in a list from place b on
abbrev pub Stand : (Frame → Frame) → List Frame → ℕ → List Frame → Type 0
Stand h fs b [] = Unit {0}
Stand h fs b (g ∷ gs) = (slice_get fs b ≡ Some (h g)) × Stand h fs (suc b) gs

module _ (h : Frame → Frame) (fs : List Frame) where
  pub Stand-left : (b : ℕ) (gs ks : List Frame) → Stand h fs b (gs ++ ks) → Stand h fs b gs
  Stand-left b [] ks s = tt
  Stand-left b (g ∷ gs) ks s = (s.0, Stand-left (suc b) gs ks s.1)

  pub Stand-right : (b : ℕ) (gs ks : List Frame) → Stand h fs b (gs ++ ks) → Stand h fs (b + length gs) ks
  Stand-right b [] ks s = subst (λ n. Stand h fs n ks) at_start s
    where
      at_start : b ≡ b + 0
      at_start = omega arith
  Stand-right b (g ∷ gs) ks s = subst (λ n. Stand h fs n ks) (one_on b (length gs)) (Stand-right (suc b) gs ks s.1)
    where
      one_on : (a c : ℕ) → suc a + c ≡ a + suc c
      one_on a c = omega arith

-- they stand behind what is before them
pub slice_get-behind : (before after : List Frame) (g : Frame) → slice_get (before ++ g ∷ after) (length before) ≡ Some g
slice_get-behind [] after g = refl
slice_get-behind (b ∷ bs) after g = slice_get-behind bs after g

pub Stand-behind : (h : Frame → Frame) (before gs : List Frame) → Stand h (before ++ map h gs) (length before) gs
Stand-behind h before [] = tt
Stand-behind h before (g ∷ gs) = (
  slice_get-behind before (map h gs) (h g),
  subst (λ n. Stand h (before ++ h g ∷ map h gs) n gs) longer
      (subst (λ fs. Stand h fs (length (before ++ h g ∷ [])) gs) (append_assoc before (h g ∷ []) (map h gs)) (Stand-behind h (before ++ h g ∷ []) gs)),
)
  where
    longer : length (before ++ h g ∷ []) ≡ suc (length before)
    longer = omega (arith, length-append before (h g ∷ []))

-- a definition is put among attributes as among definitions
pub defs_of-put : (k : ℕ → Defs) (name : List ℕ) (t : Tree) (attributes : List (List ℕ × Tree))
    → defs_of k (put_attribute name t attributes) ≡ put name (inlined k t) (defs_of k attributes)
defs_of-put k name t [] = refl
defs_of-put k name t (a ∷ rest) = by (same_name name a.0) (defs_of-put k name t rest)
  where
    by : (b : Bool) → defs_of k (put_attribute name t rest) ≡ put name (inlined k t) (defs_of k rest)
        → defs_of k (cond b ((name, t) ∷ rest) (a ∷ put_attribute name t rest))
        ≡ cond b (def name (inlined k t) (defs_of k rest)) (def a.0 (inlined k a.1) (put name (inlined k t) (defs_of k rest)))
    by true e = refl
    by false e = ap (def a.0 (inlined k a.1)) e

-- frames that were made by defining name by name are spelled back without repeated names
module _ (fs : List Frame) where
  mutual
    pub spelled-number : (n p b : ℕ) (i : Inline) → count i ≤ n → Stand settled_frame fs b (frames p b i) → inlined (inside fs n) (number b i) ≡ settled i
    spelled-number n p b (shape label is) enough s = ap (shape label) (spelled-number_all n p b is enough s)
    spelled-number zero p b (inner ds) enough s = absurd (omega (arith, enough))
    spelled-number (suc n) p b (inner ds) enough s =
        ap (λ attributes. inner (defs_of (inside fs n) attributes)) (ap attributes_in s.0)
        ∙ ap inner (spelled-attributes n b (suc b) ds [] (omega (arith, enough)) s.1)

    pub spelled-number_all : (n p b : ℕ) (is : Inlines) → count_all is ≤ n → Stand settled_frame fs b (frames_all p b is)
        → inlined_all (inside fs n) (number_all b is) ≡ settled_all is
    spelled-number_all n p b end enough s = refl
    spelled-number_all n p b (next i is) enough s =
        ap (λ j. next j (inlined_all (inside fs n) (number_all (b + count i) is)))
        (spelled-number n p b i (omega (arith, enough)) (Stand-left settled_frame fs b (frames p b i) (frames_all p (b + count i) is) s))
        ∙ ap (next (settled i)) (spelled-number_all n p (b + count i) is (omega (arith, enough))
        (subst (λ m. Stand settled_frame fs (b + m) (frames_all p (b + count i) is)) (length-frames p b i)
        (Stand-right settled_frame fs b (frames p b i) (frames_all p (b + count i) is) s)))

    pub spelled-attributes : (n p b : ℕ) (ds : Defs) (done : List (List ℕ × Tree)) → count_defs ds ≤ n → Stand settled_frame fs b (frames_in p b ds)
        → defs_of (inside fs n) (put_all done (attributes_from b ds)) ≡ settled_defs (defs_of (inside fs n) done) ds
    spelled-attributes n p b no_defs done enough s = refl
    spelled-attributes n p b (def name i ds) done enough s =
        spelled-attributes n p (b + count i) ds (put_attribute name (number b i) done) (omega (arith, enough))
        (subst (λ m. Stand settled_frame fs (b + m) (frames_in p (b + count i) ds)) (length-frames p b i)
        (Stand-right settled_frame fs b (frames p b i) (frames_in p (b + count i) ds) s))
        ∙ ap (λ before. settled_defs before ds) (defs_of-put (inside fs n) name (number b i) done
        ∙ ap (λ j. put name j (defs_of (inside fs n) done))
        (spelled-number n p b i (omega (arith, enough)) (Stand-left settled_frame fs b (frames p b i) (frames_in p (b + count i) ds) s)))

-- frames as they are numbered are spelled back as they were
abbrev pub as_it_is : Frame → Frame
as_it_is f = f

module _ (fs : List Frame) where
  mutual
    pub plain-number : (n p b : ℕ) (i : Inline) → count i ≤ n → Stand as_it_is fs b (frames p b i) → inlined (inside fs n) (number b i) ≡ i
    plain-number n p b (shape label is) enough s = ap (shape label) (plain-number_all n p b is enough s)
    plain-number zero p b (inner ds) enough s = absurd (omega (arith, enough))
    plain-number (suc n) p b (inner ds) enough s =
        ap (λ attributes. inner (defs_of (inside fs n) attributes)) (ap attributes_in s.0)
        ∙ ap inner (plain-attributes n b (suc b) ds (omega (arith, enough)) s.1)

    pub plain-number_all : (n p b : ℕ) (is : Inlines) → count_all is ≤ n → Stand as_it_is fs b (frames_all p b is)
        → inlined_all (inside fs n) (number_all b is) ≡ is
    plain-number_all n p b end enough s = refl
    plain-number_all n p b (next i is) enough s =
        ap (λ j. next j (inlined_all (inside fs n) (number_all (b + count i) is)))
        (plain-number n p b i (omega (arith, enough)) (Stand-left as_it_is fs b (frames p b i) (frames_all p (b + count i) is) s))
        ∙ ap (next i) (plain-number_all n p (b + count i) is (omega (arith, enough))
        (subst (λ m. Stand as_it_is fs (b + m) (frames_all p (b + count i) is)) (length-frames p b i)
        (Stand-right as_it_is fs b (frames p b i) (frames_all p (b + count i) is) s)))

    pub plain-attributes : (n p b : ℕ) (ds : Defs) → count_defs ds ≤ n → Stand as_it_is fs b (frames_in p b ds)
        → defs_of (inside fs n) (attributes_from b ds) ≡ ds
    plain-attributes n p b no_defs enough s = refl
    plain-attributes n p b (def name i ds) enough s =
        ap (λ j. def name j (defs_of (inside fs n) (attributes_from (b + count i) ds)))
        (plain-number n p b i (omega (arith, enough)) (Stand-left as_it_is fs b (frames p b i) (frames_in p (b + count i) ds) s))
        ∙ ap (def name i) (plain-attributes n p (b + count i) ds (omega (arith, enough))
        (subst (λ m. Stand as_it_is fs (b + m) (frames_in p (b + count i) ds)) (length-frames p b i)
        (Stand-right as_it_is fs b (frames p b i) (frames_in p (b + count i) ds) s)))

pub map-as_it_is : (fs : List Frame) → map as_it_is fs ≡ fs
map-as_it_is [] = refl
map-as_it_is (f ∷ fs) = ap (λ gs. f ∷ gs) (map-as_it_is fs)

-- ---- the laws on a whole ad and on a phrase ----

-- what a draft that was filled by defining name by name spells
pub spelled-settled_frames : (ds : Defs) → spelled (map settled_frame (frames 0 0 (inner ds))) ≡ settled (inner ds)
spelled-settled_frames ds =
    spelled-number (map settled_frame (frames 0 0 (inner ds))) (length (map settled_frame (frames 0 0 (inner ds)))) 0 0 (inner ds)
    (omega (arith, length-map (frames 0 0 (inner ds)) settled_frame, length-frames 0 0 (inner ds))) (Stand-behind settled_frame [] (frames 0 0 (inner ds)))

pub spelled_tree-settled_frames : (i : Inline) → spelled_tree (empty_frame 0 ∷ map settled_frame (frames 0 1 i)) (number 1 i) ≡ settled i
spelled_tree-settled_frames i =
    spelled-number (empty_frame 0 ∷ map settled_frame (frames 0 1 i)) (length (empty_frame 0 ∷ map settled_frame (frames 0 1 i))) 0 1 i
    (omega (arith, length-map (frames 0 1 i) settled_frame, length-frames 0 1 i)) (Stand-behind settled_frame (empty_frame 0 ∷ []) (frames 0 1 i))

-- what an ad in its numbering spells, so ads with equal spellings are equal
pub spelled-frames : (ds : Defs) → spelled (frames 0 0 (inner ds)) ≡ inner ds
spelled-frames ds =
    plain-number (frames 0 0 (inner ds)) (length (frames 0 0 (inner ds))) 0 0 (inner ds)
    (omega (arith, length-frames 0 0 (inner ds)))
    (subst (λ fs. Stand as_it_is fs 0 (frames 0 0 (inner ds))) (map-as_it_is (frames 0 0 (inner ds))) (Stand-behind as_it_is [] (frames 0 0 (inner ds))))

pub spelled_tree-frames : (i : Inline) → spelled_tree (empty_frame 0 ∷ frames 0 1 i) (number 1 i) ≡ i
spelled_tree-frames i =
    plain-number (empty_frame 0 ∷ frames 0 1 i) (length (empty_frame 0 ∷ frames 0 1 i)) 0 1 i
    (omega (arith, length-frames 0 1 i))
    (subst (λ fs. Stand as_it_is (empty_frame 0 ∷ fs) 1 (frames 0 1 i)) (map-as_it_is (frames 0 1 i))
    (Stand-behind as_it_is (empty_frame 0 ∷ []) (frames 0 1 i)))

-- so a draft that was filled by defining name by name is finished as the ad of the spelled tree
pub ad_of-finished : (ds : Defs) {fs : List Frame} → fs ≡ map settled_frame (frames 0 0 (inner ds)) → frames 0 0 (spelled fs) ≡ ad_of (inner ds)
ad_of-finished ds h = ap (λ gs. frames 0 0 (spelled gs)) h ∙ ap (frames 0 0) (spelled-settled_frames ds)

pub phrase_of-finished : (i : Inline) {fs : List Frame} → fs ≡ empty_frame 0 ∷ map settled_frame (frames 0 1 i)
    → (empty_frame 0 ∷ frames 0 1 (spelled_tree fs (number 1 i)) ≡ phrase_of i) × (number 1 (spelled_tree fs (number 1 i)) ≡ phrase_tree i)
phrase_of-finished i h =
    let e = ap (λ gs. spelled_tree gs (number 1 i)) h ∙ spelled_tree-settled_frames i in
    (ap (λ x. empty_frame 0 ∷ frames 0 1 x) e, ap (number 1) e)

-- ---- the order of the opening brackets ----

-- what stands in the frames from b on
abbrev AllStand : List Frame → ℕ → ℕ → List Defs → Type 0
AllStand fs n b [] = Unit {0}
AllStand fs n b (ds ∷ rest) = (inside fs n b ≡ ds) × AllStand fs n (suc b) rest

module _ (fs : List Frame) (n : ℕ) where
  AllStand-append : (b : ℕ) (ds es : List Defs) → AllStand fs n b ds → AllStand fs n (b + length ds) es → AllStand fs n b (ds ++ es)
  AllStand-append b [] es h k = subst (λ m. AllStand fs n m es) at_start k
    where
      at_start : b + 0 ≡ b
      at_start = omega arith
  AllStand-append b (d ∷ ds) es h k = (h.0, AllStand-append (suc b) ds es h.1 (subst (λ m. AllStand fs n m es) (one_on b (length ds)) k))
    where
      one_on : (a c : ℕ) → a + suc c ≡ suc a + c
      one_on a c = omega arith

  AllStand-at : (b : ℕ) (all : List Defs) (k : ℕ) (ds : Defs) → AllStand fs n b all → slice_get all k ≡ Some ds → inside fs n (b + k) ≡ ds
  AllStand-at b [] k ds h e = absurd (cc)
  AllStand-at b (d ∷ all) zero ds h e = let same : d ≡ ds = cc in ap (inside fs n) at_start ∙ h.0 ∙ same
    where
      at_start : b + 0 ≡ b
      at_start = omega arith
  AllStand-at b (d ∷ all) (suc k) ds h e = ap (inside fs n) (one_on b k) ∙ AllStand-at (suc b) all k ds h.1 e
    where
      one_on : (a c : ℕ) → a + suc c ≡ suc a + c
      one_on a c = omega arith

mutual
  pub length-literals : (i : Inline) → length (literals i) ≡ count i
  length-literals (shape label is) = length-literals_all is
  length-literals (inner ds) = ap suc (length-literals_in ds)

  length-literals_all : (is : Inlines) → length (literals_all is) ≡ count_all is
  length-literals_all end = refl
  length-literals_all (next i is) = omega (arith, length-append (literals i) (literals_all is), length-literals i, length-literals_all is)

  length-literals_in : (ds : Defs) → length (literals_in ds) ≡ count_defs ds
  length-literals_in no_defs = refl
  length-literals_in (def name i ds) = omega (arith, length-append (literals i) (literals_in ds), length-literals i, length-literals_in ds)

inner-equal : (d e : Defs) → inner d ≡ inner e → d ≡ e
inner-equal d e h = cc

module _ (fs : List Frame) (n : ℕ) where
  mutual
    literals-stand : (p b : ℕ) (i : Inline) → count i ≤ n → Stand as_it_is fs b (frames p b i) → AllStand fs n b (literals i)
    literals-stand p b (shape label is) enough s = literals_all-stand p b is enough s
    literals-stand p b (inner ds) enough s =
        (inner-equal (inside fs n b) ds (plain-number fs n p b (inner ds) enough s), literals_in-stand b (suc b) ds (omega (arith, enough)) s.1)

    literals_all-stand : (p b : ℕ) (is : Inlines) → count_all is ≤ n → Stand as_it_is fs b (frames_all p b is) → AllStand fs n b (literals_all is)
    literals_all-stand p b end enough s = tt
    literals_all-stand p b (next i is) enough s =
        AllStand-append fs n b (literals i) (literals_all is)
        (literals-stand p b i (omega (arith, enough)) (Stand-left as_it_is fs b (frames p b i) (frames_all p (b + count i) is) s))
        (subst (λ m. AllStand fs n (b + m) (literals_all is)) (sym (length-literals i))
        (literals_all-stand p (b + count i) is (omega (arith, enough))
        (subst (λ m. Stand as_it_is fs (b + m) (frames_all p (b + count i) is)) (length-frames p b i)
        (Stand-right as_it_is fs b (frames p b i) (frames_all p (b + count i) is) s))))

    literals_in-stand : (p b : ℕ) (ds : Defs) → count_defs ds ≤ n → Stand as_it_is fs b (frames_in p b ds) → AllStand fs n b (literals_in ds)
    literals_in-stand p b no_defs enough s = tt
    literals_in-stand p b (def name i ds) enough s =
        AllStand-append fs n b (literals i) (literals_in ds)
        (literals-stand p b i (omega (arith, enough)) (Stand-left as_it_is fs b (frames p b i) (frames_in p (b + count i) ds) s))
        (subst (λ m. AllStand fs n (b + m) (literals_in ds)) (sym (length-literals i))
        (literals_in-stand p (b + count i) ds (omega (arith, enough))
        (subst (λ m. Stand as_it_is fs (b + m) (frames_in p (b + count i) ds)) (length-frames p b i)
        (Stand-right as_it_is fs b (frames p b i) (frames_in p (b + count i) ds) s))))

-- frame k is the ad literal with the opening bracket k, counted from 0
pub inside-literals : (ds : Defs) (k : ℕ) (es : Defs) → slice_get (literals (inner ds)) k ≡ Some es
    → inside (frames 0 0 (inner ds)) (length (frames 0 0 (inner ds))) k ≡ es
inside-literals ds k es e =
    let fs : List Frame = frames 0 0 (inner ds) in
    ap (inside fs (length fs)) (at_start k)
    ∙ AllStand-at fs (length fs) 0 (literals (inner ds)) k es
    (literals-stand fs (length fs) 0 0 (inner ds) (omega (arith, length-frames 0 0 (inner ds)))
    (subst (λ gs. Stand as_it_is gs 0 (frames 0 0 (inner ds))) (map-as_it_is fs) (Stand-behind as_it_is [] fs))) e
  where
    at_start : (m : ℕ) → m ≡ 0 + m
    at_start m = omega arith

-- frame k + 1 of an expression that stands alone is the ad literal with the opening bracket k
pub inside-phrase_literals : (i : Inline) (k : ℕ) (es : Defs) → slice_get (literals i) k ≡ Some es
    → inside (empty_frame 0 ∷ frames 0 1 i) (length (empty_frame 0 ∷ frames 0 1 i)) (suc k) ≡ es
inside-phrase_literals i k es e =
    let fs : List Frame = empty_frame 0 ∷ frames 0 1 i in
    ap (inside fs (length fs)) (one_on k)
    ∙ AllStand-at fs (length fs) 1 (literals i) k es
    (literals-stand fs (length fs) 0 1 i (omega (arith, length-frames 0 1 i))
    (subst (λ gs. Stand as_it_is (empty_frame 0 ∷ gs) 1 (frames 0 1 i)) (map-as_it_is (frames 0 1 i))
    (Stand-behind as_it_is (empty_frame 0 ∷ []) (frames 0 1 i)))) e
  where
    one_on : (m : ℕ) → suc m ≡ 1 + m
    one_on m = omega arith

-- ---- trees without repeated names ----

-- frames with names apart need no settling
mutual
  pub settled_frame-frames : (p b : ℕ) (i : Inline) → is_apart i ≡ true → map settled_frame (frames p b i) ≡ frames p b i
  settled_frame-frames p b (shape label is) h = settled_frame-frames_all p b is h
  settled_frame-frames p b (inner ds) h =
      ap (λ attributes. record { parent = p; attributes = attributes } ∷ map settled_frame (frames_in b (suc b) ds))
      (put_all-apart (attributes_from (suc b) ds) (ap are_apart (names-attributes_from (suc b) ds) ∙ both_left _ _ h))
      ∙ ap (λ fs. record { parent = p; attributes = attributes_from (suc b) ds } ∷ fs) (settled_frame-frames_in b (suc b) ds (both_right _ _ h))

  pub settled_frame-frames_all : (p b : ℕ) (is : Inlines) → all_apart is ≡ true → map settled_frame (frames_all p b is) ≡ frames_all p b is
  settled_frame-frames_all p b end h = refl
  settled_frame-frames_all p b (next i is) h =
      map-append settled_frame (frames p b i) (frames_all p (b + count i) is)
      ∙ ap (λ fs. fs ++ map settled_frame (frames_all p (b + count i) is)) (settled_frame-frames p b i (both_left _ _ h))
      ∙ ap (λ fs. frames p b i ++ fs) (settled_frame-frames_all p (b + count i) is (both_right _ _ h))

  pub settled_frame-frames_in : (p b : ℕ) (ds : Defs) → defs_apart ds ≡ true → map settled_frame (frames_in p b ds) ≡ frames_in p b ds
  settled_frame-frames_in p b no_defs h = refl
  settled_frame-frames_in p b (def name i ds) h =
      map-append settled_frame (frames p b i) (frames_in p (b + count i) ds)
      ∙ ap (λ fs. fs ++ map settled_frame (frames_in p (b + count i) ds)) (settled_frame-frames p b i (both_left _ _ h))
      ∙ ap (λ fs. frames p b i ++ fs) (settled_frame-frames_in p (b + count i) ds (both_right _ _ h))

-- a tree without repeated names stays as it is
pub settled-apart : (i : Inline) → is_apart i ≡ true → settled i ≡ i
settled-apart i h =
    sym (spelled_tree-settled_frames i)
    ∙ ap (λ fs. spelled_tree (empty_frame 0 ∷ fs) (number 1 i)) (settled_frame-frames 0 1 i h)
    ∙ spelled_tree-frames i

-- settling leaves no repeated names
defs_apart-put : (name : List ℕ) (i : Inline) (ds : Defs) → is_apart i ≡ true → defs_apart ds ≡ true → defs_apart (put name i ds) ≡ true
defs_apart-put name i no_defs h k = both _ _ h refl
defs_apart-put name i (def other j ds) h k = by (same_name name other) (defs_apart-put name i ds h (both_right _ _ k))
  where
    by : (b : Bool) → defs_apart (put name i ds) ≡ true → defs_apart (cond b (def name i ds) (def other j (put name i ds))) ≡ true
    by true e = both _ _ h (both_right _ _ k)
    by false e = both _ _ (both_left _ _ k) e

mutual
  pub apart-settled : (i : Inline) → is_apart (settled i) ≡ true
  apart-settled (shape label is) = apart-settled_all is
  apart-settled (inner ds) = apart-settled_defs no_defs ds refl refl

  pub apart-settled_all : (is : Inlines) → all_apart (settled_all is) ≡ true
  apart-settled_all end = refl
  apart-settled_all (next i is) = both _ _ (apart-settled i) (apart-settled_all is)

  pub apart-settled_defs : (done ds : Defs) → are_apart (def_names done) ≡ true → defs_apart done ≡ true → is_apart (inner (settled_defs done ds)) ≡ true
  apart-settled_defs done no_defs h k = both _ _ h k
  apart-settled_defs done (def name i ds) h k =
      apart-settled_defs (put name (settled i) done) ds
      (ap are_apart (names-put name (settled i) done) ∙ apart-put_name name (def_names done) h)
      (defs_apart-put name (settled i) done (apart-settled i) k)

pub settled-settled : (i : Inline) → settled (settled i) ≡ settled i
settled-settled i = settled-apart (settled i) (apart-settled i)
