-- Laws of spelled trees: how many frames they open, one tree more at the end, and repeated names.
use Rattle.std.proofs.Common.{refl, arith, ◌≡◌, ℕ, suc, ◌+◌, List, [], ◌∷◌, ◌++◌, length, true, ap, sym, ◌∙◌, length-append, append_assoc}
use Rattle.std.proofs.lemmas.List.{append-nil}
use Rattle.ad_tree.specs.Tree.{Tree, node, frame, Trees, none, more, pack}
use Rattle.ad_tree.specs.Frames.{names_of}
use Rattle.ad_tree.specs.Inline.{Inline, shape, inner, Inlines, end, next, Defs, no_defs, def, count, count_all, count_defs, number, number_all}
use Rattle.ad_tree.specs.Inline.{attributes_from, frames, frames_all, frames_in, inlined, inlined_all, defs_of, def_names, is_apart, all_apart, defs_apart}
use Rattle.ad_tree.proofs.NameLemmas.{both}

-- a tree opens one frame for each of its ad literals
mutual
  pub length-frames : (p b : ℕ) (i : Inline) → length (frames p b i) ≡ count i
  length-frames p b (shape label is) = length-frames_all p b is
  length-frames p b (inner ds) = ap suc (length-frames_in b (suc b) ds)

  pub length-frames_all : (p b : ℕ) (is : Inlines) → length (frames_all p b is) ≡ count_all is
  length-frames_all p b end = refl
  length-frames_all p b (next i is) =
      rw length-append (ap (λ n. n + length (frames_all p (b + count i) is)) (length-frames p b i)
      ∙ ap (λ n. count i + n) (length-frames_all p (b + count i) is))

  pub length-frames_in : (p b : ℕ) (ds : Defs) → length (frames_in p b ds) ≡ count_defs ds
  length-frames_in p b no_defs = refl
  length-frames_in p b (def name i ds) =
      rw length-append (ap (λ n. n + length (frames_in p (b + count i) ds)) (length-frames p b i) ∙ ap (λ n. count i + n) (length-frames_in p (b + count i) ds))

-- one tree more at the end
abbrev pub more_last : Trees → Tree → Trees
more_last none t = more t none
more_last (more u us) t = more u (more_last us t)

abbrev pub next_last : Inlines → Inline → Inlines
next_last end i = next i end
next_last (next j js) i = next j (next_last js i)

abbrev pub def_last : Defs → List ℕ → Inline → Defs
def_last no_defs name i = def name i no_defs
def_last (def other j ds) name i = def other j (def_last ds name i)

pub pack-push : (ts : List Tree) (t : Tree) → pack (ts ++ t ∷ []) ≡ more_last (pack ts) t
pack-push [] t = refl
pack-push (u ∷ us) t = ap (more u) (pack-push us t)

pub inlined_all-last : (k : ℕ → Defs) (ts : Trees) (t : Tree) → inlined_all k (more_last ts t) ≡ next_last (inlined_all k ts) (inlined k t)
inlined_all-last k none t = refl
inlined_all-last k (more u us) t = ap (next (inlined k u)) (inlined_all-last k us t)

pub defs_of-push : (k : ℕ → Defs) (attributes : List (List ℕ × Tree)) (name : List ℕ) (t : Tree)
    → defs_of k (attributes ++ (name, t) ∷ []) ≡ def_last (defs_of k attributes) name (inlined k t)
defs_of-push k [] name t = refl
defs_of-push k (a ∷ rest) name t = ap (def a.0 (inlined k a.1)) (defs_of-push k rest name t)

pub number_all-last : (b : ℕ) (is : Inlines) (i : Inline) → number_all b (next_last is i) ≡ more_last (number_all b is) (number (b + count_all is) i)
number_all-last b end i = rw add-zero-of refl
  where
    add-zero-of : b + 0 ≡ b
    add-zero-of = omega arith
number_all-last b (next j js) i =
    ap (more (number b j)) (number_all-last (b + count j) js i
    ∙ ap (λ n. more_last (number_all (b + count j) js) (number n i)) (regroup b (count j) (count_all js)))
  where
    regroup : (a b c : ℕ) → (a + b) + c ≡ a + (b + c)
    regroup a b c = omega arith

pub attributes_from-last : (b : ℕ) (ds : Defs) (name : List ℕ) (i : Inline)
    → attributes_from b (def_last ds name i) ≡ attributes_from b ds ++ (name, number (b + count_defs ds) i) ∷ []
attributes_from-last b no_defs name i = ap (λ n. (name, number n i) ∷ []) at_start
  where
    at_start : b ≡ b + 0
    at_start = omega arith
attributes_from-last b (def other j ds) name i =
    ap (λ rest. (other, number b j) ∷ rest) (attributes_from-last (b + count j) ds name i
    ∙ ap (λ n. attributes_from (b + count j) ds ++ (name, number n i) ∷ []) (regroup b (count j) (count_defs ds)))
  where
    regroup : (a b c : ℕ) → (a + b) + c ≡ a + (b + c)
    regroup a b c = omega arith

pub frames_all-last : (p b : ℕ) (is : Inlines) (i : Inline)
    → frames_all p b (next_last is i) ≡ frames_all p b is ++ frames p (b + count_all is) i
frames_all-last p b end i = append-nil (frames p b i) ∙ ap (λ n. frames p n i) at_start
  where
    at_start : b ≡ b + 0
    at_start = omega arith
frames_all-last p b (next j js) i =
    ap (λ rest. frames p b j ++ rest) (frames_all-last p (b + count j) js i
    ∙ ap (λ n. frames_all p (b + count j) js ++ frames p n i) (regroup b (count j) (count_all js)))
    ∙ sym (append_assoc (frames p b j) (frames_all p (b + count j) js) (frames p (b + (count j + count_all js)) i))
  where
    regroup : (a b c : ℕ) → (a + b) + c ≡ a + (b + c)
    regroup a b c = omega arith

pub frames_in-last : (p b : ℕ) (ds : Defs) (name : List ℕ) (i : Inline)
    → frames_in p b (def_last ds name i) ≡ frames_in p b ds ++ frames p (b + count_defs ds) i
frames_in-last p b no_defs name i = append-nil (frames p b i) ∙ ap (λ n. frames p n i) at_start
  where
    at_start : b ≡ b + 0
    at_start = omega arith
frames_in-last p b (def other j ds) name i =
    ap (λ rest. frames p b j ++ rest) (frames_in-last p (b + count j) ds name i
    ∙ ap (λ n. frames_in p (b + count j) ds ++ frames p n i) (regroup b (count j) (count_defs ds)))
    ∙ sym (append_assoc (frames p b j) (frames_in p (b + count j) ds) (frames p (b + (count j + count_defs ds)) i))
  where
    regroup : (a b c : ℕ) → (a + b) + c ≡ a + (b + c)
    regroup a b c = omega arith

-- the names of definitions stand in their attributes
pub names-attributes_from : (b : ℕ) (ds : Defs) → names_of (attributes_from b ds) ≡ def_names ds
names-attributes_from b no_defs = refl
names-attributes_from b (def name i ds) = ap (λ rest. name ∷ rest) (names-attributes_from (b + count i) ds)

pub names-defs_of : (k : ℕ → Defs) (attributes : List (List ℕ × Tree)) → def_names (defs_of k attributes) ≡ names_of attributes
names-defs_of k [] = refl
names-defs_of k (a ∷ rest) = ap (λ ns. a.0 ∷ ns) (names-defs_of k rest)

-- a tree whose frames' definitions repeat no name repeats none
mutual
  pub inlined-apart : (k : ℕ → Defs) → ((f : ℕ) → is_apart (inner (k f)) ≡ true) → (t : Tree) → is_apart (inlined k t) ≡ true
  inlined-apart k h (node label ts) = inlined_all-apart k h ts
  inlined-apart k h (frame f) = h f

  pub inlined_all-apart : (k : ℕ → Defs) → ((f : ℕ) → is_apart (inner (k f)) ≡ true) → (ts : Trees) → all_apart (inlined_all k ts) ≡ true
  inlined_all-apart k h none = refl
  inlined_all-apart k h (more t ts) = both _ _ (inlined-apart k h t) (inlined_all-apart k h ts)

pub defs_of-apart : (k : ℕ → Defs) → ((f : ℕ) → is_apart (inner (k f)) ≡ true) → (attributes : List (List ℕ × Tree)) → defs_apart (defs_of k attributes) ≡ true
defs_of-apart k h [] = refl
defs_of-apart k h (a ∷ rest) = both _ _ (inlined-apart k h a.1) (defs_of-apart k h rest)
