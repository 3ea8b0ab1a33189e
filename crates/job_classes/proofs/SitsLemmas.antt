-- Two requests whose roots have the same trees under the names that matter: an ad is docked to both alike.
use Rattle.std.proofs.Common.{◌≡◌, ◌≤◌, ◌<◌, ℕ, zero, suc, ◌+◌, Bool, true, false, eqb, List, [], length, get_or, position, Option, Some}
use Rattle.std.proofs.Common.{option_map, slice_get, Contains, refl, sym, ◌∙◌, ap, subst, arith}
use Rattle.std.specs.Prelude.{bytes_eq}
use Rattle.std.proofs.lemmas.Bool.Decides.{nat_tests}
use Rattle.std.proofs.lemmas.List.Elements.{Contains-append_left, Contains-append_right}
use Rattle.std.proofs.lemmas.List.Quantifiers.{position-Some}
use Rattle.pool_text.specs.Folding.{folded}
use Rattle.pool_text.specs.declared.language.AdPlace.{AdPlace}
use Rattle.pool_text.specs.declared.language.Pos.{Pos}
use Rattle.builtin_funcs.proofs.AlikeLemmas.{Both, both_none, both_some, IsOneToOne}
use Rattle.ad_tree.specs.Frames.{Frame, attributes_at, attributes_in, names_in, names_of, parent_of}
use Rattle.ad_tree.specs.Inline.{Inline, shape, inner, Inlines, end, next, Defs, no_defs, def, count, count_all, count_defs, number, number_all}
use Rattle.ad_tree.specs.Inline.{attributes_from, frames, frames_all, frames_in, def_names}
use Rattle.ad_tree.specs.Names.{same_name}
use Rattle.ad_tree.specs.Special.{attribute_named}
use Rattle.ad_tree.specs.Tree.{Tree, frame}
use Rattle.ad_tree.proofs.InlineLemmas.{length-frames, names-attributes_from}
use Rattle.ad_tree.proofs.NameLemmas.{same_folded_form}
use Rattle.ad_tree.proofs.SpellingLemmas.{Stand, Stand-left, Stand-right, as_it_is}
use Rattle.eval_scope.specs.Look.{attribute_in, enclosing, first_found, found_attribute}
use Rattle.eval_scope.specs.World.{PlainWorld, expr_of, frame_of_attribute, size_at}
use Rattle.eval_scope.proofs.LookLemmas.{AreLower}
use Rattle.significant_attrs.specs.Matched.{AreMatchedAlike, docked_to}
use Rattle.significant_attrs.specs.Names.{weighed_names, asked_by, needed_at, needed_in, needed_in_all, needed_in_defs}
use Rattle.significant_attrs.proofs.DockedLemmas.{AreBeside, both_along, both_equal, both_weaker, expr-itself, finds-resource, first-root, label-request}
use Rattle.significant_attrs.proofs.DockedLemmas.{matched-alike, upwards}
use Rattle.significant_attrs.proofs.WorldLemmas.{AreTwinWorlds, Finds, finds_along, finds_both, finds_else, TreeAlike, nodes, frames_alike, TreesAlike}
use Rattle.significant_attrs.proofs.WorldLemmas.{no_trees, more_trees}

-- ---- the definitions of a root, each with the number from which its frames are numbered

-- definition k of those that are numbered from b is the tree i, numbered from s
abbrev pub IsDefAt : ℕ → Defs → ℕ → ℕ → Inline → Type 0
IsDefAt b no_defs k s i = ⊥
IsDefAt b (def text j ds) zero s i = (s ≡ b) × (i ≡ j)
IsDefAt b (def text j ds) (suc k) s i = IsDefAt (b + count j) ds k s i

def_at-above : (b : ℕ) (ds : Defs) (k s : ℕ) (i : Inline) → IsDefAt b ds k s i → b ≤ s
def_at-above b no_defs k s i h = absurd h
def_at-above b (def text j ds) zero s i h = let e = h.0 in omega (arith, e)
def_at-above b (def text j ds) (suc k) s i h = omega (arith, def_at-above (b + count j) ds k s i h)

def_at-number : (b : ℕ) (ds : Defs) (k s t : ℕ) (i j : Inline) → IsDefAt b ds k s i → IsDefAt b ds k t j → s ≡ t
def_at-number b no_defs k s t i j h g = absurd h
def_at-number b (def text x ds) zero s t i j h g = h.0 ∙ sym g.0
def_at-number b (def text x ds) (suc k) s t i j h g = def_at-number (b + count x) ds k s t i j h g

-- the numbers of two definitions never meet
def_at-apart : (b : ℕ) (ds : Defs) (k l s t : ℕ) (i j : Inline) (d e : ℕ) → IsDefAt b ds k s i → IsDefAt b ds l t j → d < count i → e < count j
    → s + d ≡ t + e → (k ≡ l) × (d ≡ e)
def_at-apart b no_defs k l s t i j d e h g low_d low_e same = absurd h
def_at-apart b (def text x ds) zero zero s t i j d e h g low_d low_e same = let one = h.0 in let other = g.0 in (refl, omega (arith, one, other, same))
def_at-apart b (def text x ds) zero (suc l) s t i j d e h g low_d low_e same =
    let one = h.0 in
    let size = ap count h.1 in
    absurd (omega (arith, one, size, low_d, same, def_at-above (b + count x) ds l t j g))
def_at-apart b (def text x ds) (suc k) zero s t i j d e h g low_d low_e same =
    let one = g.0 in
    let size = ap count g.1 in
    absurd (omega (arith, one, size, low_e, same, def_at-above (b + count x) ds k s i h))
def_at-apart b (def text x ds) (suc k) (suc l) s t i j d e h g low_d low_e same =
    let parts = def_at-apart (b + count x) ds k l s t i j d e h g low_d low_e same in (ap suc parts.0, parts.1)

def_at-expr : (b : ℕ) (ds : Defs) (k s : ℕ) (i : Inline) → IsDefAt b ds k s i
    → option_map (λ a. a.1) (slice_get (attributes_from b ds) k) ≡ Some (number s i)
def_at-expr b no_defs k s i h = absurd h
def_at-expr b (def text j ds) zero s i h = ap (λ n. Some (number n j)) (sym h.0) ∙ ap (λ x. Some (number s x)) (sym h.1)
def_at-expr b (def text j ds) (suc k) s i h = def_at-expr (b + count j) ds k s i h

-- ---- where frames stand

module _ (fs : List Frame) where
  first_stands-all : (p b : ℕ) (i : Inline) (is : Inlines) → Stand as_it_is fs b (frames_all p b (next i is)) → Stand as_it_is fs b (frames p b i)
  first_stands-all p b i is s = Stand-left as_it_is fs b (frames p b i) (frames_all p (b + count i) is) s

  rest_stands-all : (p b : ℕ) (i : Inline) (is : Inlines) → Stand as_it_is fs b (frames_all p b (next i is))
      → Stand as_it_is fs (b + count i) (frames_all p (b + count i) is)
  rest_stands-all p b i is s =
      subst (λ m. Stand as_it_is fs (b + m) (frames_all p (b + count i) is)) (length-frames p b i)
      (Stand-right as_it_is fs b (frames p b i) (frames_all p (b + count i) is) s)

  pub first_stands-in : (p b : ℕ) (text : List ℕ) (i : Inline) (ds : Defs) → Stand as_it_is fs b (frames_in p b (def text i ds))
      → Stand as_it_is fs b (frames p b i)
  first_stands-in p b text i ds s = Stand-left as_it_is fs b (frames p b i) (frames_in p (b + count i) ds) s

  pub rest_stands-in : (p b : ℕ) (text : List ℕ) (i : Inline) (ds : Defs) → Stand as_it_is fs b (frames_in p b (def text i ds))
      → Stand as_it_is fs (b + count i) (frames_in p (b + count i) ds)
  rest_stands-in p b text i ds s =
      subst (λ m. Stand as_it_is fs (b + m) (frames_in p (b + count i) ds)) (length-frames p b i)
      (Stand-right as_it_is fs b (frames p b i) (frames_in p (b + count i) ds) s)

  pub def_at-stands : (p b : ℕ) (ds : Defs) (k s : ℕ) (i : Inline) → Stand as_it_is fs b (frames_in p b ds) → IsDefAt b ds k s i
      → Stand as_it_is fs s (frames p s i)
  def_at-stands p b no_defs k s i h at = absurd at
  def_at-stands p b (def text j ds) zero s i h at =
      subst (λ n. Stand as_it_is fs n (frames p n i)) (sym at.0)
      (subst (λ x. Stand as_it_is fs b (frames p b x)) (sym at.1) (first_stands-in p b text j ds h))
  def_at-stands p b (def text j ds) (suc k) s i h at = def_at-stands p (b + count j) ds k s i (rest_stands-in p b text j ds h) at

  -- a frame that stands has its attributes, its names and its parent
  frame-attributes : (p b : ℕ) (ds : Defs) → Stand as_it_is fs b (frames p b (inner ds)) → attributes_at fs b ≡ attributes_from (suc b) ds
  frame-attributes p b ds s = ap attributes_in s.0

  frame-names : (p b : ℕ) (ds : Defs) → Stand as_it_is fs b (frames p b (inner ds)) → names_in fs b ≡ def_names ds
  frame-names p b ds s = ap (λ o. names_of (attributes_in o)) s.0 ∙ names-attributes_from (suc b) ds

  frame-parent : (p b : ℕ) (ds : Defs) → 0 < b → Stand as_it_is fs b (frames p b (inner ds)) → parent_of fs b ≡ Some p
  frame-parent p zero ds low s = absurd (omega (arith, low))
  frame-parent p (suc b) ds low s = ap (option_map (λ g. g.parent)) s.0

-- ---- two requests, and an ad

-- a name that both roots have, with one tree
pub record Origin (R : List ℕ → Type 0) (ds es : Defs) (k l : ℕ) : Type 0 where
  pub called : List ℕ
  pub at_k : position (same_name called) (def_names ds) ≡ Some k
  pub at_l : position (same_name called) (def_names es) ≡ Some l
  pub body : Inline
  pub s : ℕ
  pub t : ℕ
  pub here : IsDefAt 1 ds k s body
  pub there : IsDefAt 1 es l t body
  pub names : (y : List ℕ) → Contains (needed_in body) y → R y

-- requests of these frames, which spell ds and es, and an ad, beside names that both close and that have the same trees in both roots
pub record Setting : Type 1 where
  pub fs : List Frame
  pub gs : List Frame
  pub ds : Defs
  pub es : Defs
  pub res : List Frame
  pub R : List ℕ → Type 0
  pub here : Stand as_it_is fs 0 (frames 0 0 (inner ds))
  pub there : Stand as_it_is gs 0 (frames 0 0 (inner es))
  pub here_lower : AreLower fs
  pub there_lower : AreLower gs
  pub weighed : (y : List ℕ) → Contains weighed_names y → R y
  pub asked : (y : List ℕ) → Contains (asked_by res) y → R y
  pub shared : (x : List ℕ) → R x → Both (Origin R ds es) (position (same_name x) (def_names ds)) (position (same_name x) (def_names es))

-- b and c stand at one distance in a tree that both roots have, and n numbers from there on are in it
record IsTwin (S : Setting) (b c n : ℕ) : Type 0 where
  k : ℕ
  l : ℕ
  origin : Origin S.R S.ds S.es k l
  far : ℕ
  b_far : b ≡ origin.s + far
  c_far : c ≡ origin.t + far
  room : far + n ≤ count origin.body

-- a tree stands in frame p of one request, numbered from b, and in frame q of the other, numbered from c
record Sits (S : Setting) (p q b c : ℕ) (i : Inline) : Type 0 where
  here : Stand as_it_is S.fs b (frames p b i)
  there : Stand as_it_is S.gs c (frames q c i)
  names : (y : List ℕ) → Contains (needed_in i) y → S.R y

-- frames b and c are the roots, or one ad literal within a tree that both have
data Standing (S : Setting) : ℕ → ℕ → Type 0 where
  at_root : Standing S 0 0
  at_literal : {p q b c : ℕ} {inside : Defs} → Standing S p q → Sits S p q b c (inner inside) → IsTwin S b c (count (inner inside)) → Standing S b c

record IsNested (S : Setting) (b c : ℕ) : Type 0 where
  p : ℕ
  q : ℕ
  inside : Defs
  outside : Standing S p q
  sits : Sits S p q b c (inner inside)
  twin : IsTwin S b c (count (inner inside))

data TwinPlace (S : Setting) : AdPlace → AdPlace → Type 0 where
  twin_frames : {b c : ℕ} → IsNested S b c → TwinPlace S (record { ad = 0; frame = b }) (record { ad = 0; frame = c })
  same_frame : (f : ℕ) → TwinPlace S (record { ad = 1; frame = f }) (record { ad = 1; frame = f })

data TwinAttribute (S : Setting) : Pos → Pos → Type 0 where
  root_attributes : {k l : ℕ} → Origin S.R S.ds S.es k l
      → TwinAttribute S (record { ad = 0; frame = 0; attr = k }) (record { ad = 0; frame = 0; attr = l })
  frame_attributes : {b c : ℕ} → IsNested S b c → (k : ℕ)
      → TwinAttribute S (record { ad = 0; frame = b; attr = k }) (record { ad = 0; frame = c; attr = k })
  same_attribute : (f k : ℕ) → TwinAttribute S (record { ad = 1; frame = f; attr = k }) (record { ad = 1; frame = f; attr = k })

-- ---- numbers

-- tests of equal numbers say the same
same_tests : (a b c d : ℕ) → (a ≡ b → c ≡ d) → (c ≡ d → a ≡ b) → eqb a b ≡ eqb c d
same_tests a b c d there back = by (eqb a b) refl (eqb c d) refl
  where
    by : (x : Bool) → eqb a b ≡ x → (y : Bool) → eqb c d ≡ y → x ≡ y
    by true is true other = refl
    by false is false other = refl
    by true is false other = let same : a ≡ b = grind (arith, nat_tests) in let then = there same in absurd (grind (arith, nat_tests))
    by false is true other = let same : c ≡ d = grind (arith, nat_tests) in let then = back same in absurd (grind (arith, nat_tests))

length-attributes_from : (b c : ℕ) (ds : Defs) → length (attributes_from b ds) ≡ length (attributes_from c ds)
length-attributes_from b c no_defs = refl
length-attributes_from b c (def text i ds) = ap suc (length-attributes_from (b + count i) (c + count i) ds)

-- ---- distances

module _ (S : Setting) where
  twin-left : {b c : ℕ} (m n : ℕ) → IsTwin S b c (m + n) → IsTwin S b c m
  twin-left m n w =
      let room = w.room in record { k = w.k; l = w.l; origin = w.origin; far = w.far; b_far = w.b_far; c_far = w.c_far; room = omega (arith, room) }

  twin-right : {b c : ℕ} (m n : ℕ) → IsTwin S b c (m + n) → IsTwin S (b + m) (c + m) n
  twin-right m n w =
      let room = w.room in
      let one = w.b_far in
      let other = w.c_far in
      record { k = w.k; l = w.l; origin = w.origin; far = w.far + m; b_far = omega (arith, one); c_far = omega (arith, other); room = omega (arith, room) }

  twin-inner : {b c : ℕ} (n : ℕ) → IsTwin S b c (suc n) → IsTwin S (suc b) (suc c) n
  twin-inner n w =
      let room = w.room in
      let one = w.b_far in
      let other = w.c_far in
      record { k = w.k; l = w.l; origin = w.origin; far = suc w.far; b_far = omega (arith, one); c_far = omega (arith, other); room = omega (arith, room) }

  -- the definitions of one name are one in either root
  folded-called : (x n : List ℕ) (ns : List (List ℕ)) (k : ℕ) → position (same_name x) ns ≡ Some k → folded x ≡ folded (get_or ns k n)
  folded-called x n ns k at = same_folded_form x (get_or ns k n) (position-Some (same_name x) ns k n at).1

  position-along : (x z : List ℕ) (ns : List (List ℕ)) → folded x ≡ folded z → position (same_name x) ns ≡ position (same_name z) ns
  position-along x z ns same = ap (λ f. position (λ y. bytes_eq f (folded y)) ns) same

  there-one : {k l m n : ℕ} → Origin S.R S.ds S.es k l → Origin S.R S.ds S.es m n → k ≡ m → l ≡ n
  there-one {k} {l} {m} {n} o p same =
      let one = folded-called o.called [] (def_names S.ds) k o.at_k in
      let other = folded-called p.called [] (def_names S.ds) m p.at_k in
      let alike : folded o.called ≡ folded p.called = one ∙ ap (λ j. folded (get_or (def_names S.ds) j [])) same ∙ sym other in
      let found : Option.Some l ≡ Some n = sym o.at_l ∙ position-along o.called p.called (def_names S.es) alike ∙ p.at_l in
      cc (found)

  here-one : {k l m n : ℕ} → Origin S.R S.ds S.es k l → Origin S.R S.ds S.es m n → l ≡ n → k ≡ m
  here-one {k} {l} {m} {n} o p same =
      let one = folded-called o.called [] (def_names S.es) l o.at_l in
      let other = folded-called p.called [] (def_names S.es) n p.at_l in
      let alike : folded o.called ≡ folded p.called = one ∙ ap (λ j. folded (get_or (def_names S.es) j [])) same ∙ sym other in
      let found : Option.Some k ≡ Some m = sym o.at_k ∙ position-along o.called p.called (def_names S.ds) alike ∙ p.at_k in
      cc (found)

  -- frames are equal here where they are equal there
  there-same : {b c d e : ℕ} → IsNested S b c → IsNested S d e → b ≡ d → c ≡ e
  there-same {b} {c} {d} {e} m n same =
      let o = m.twin.origin in
      let p = n.twin.origin in
      let room_m = m.twin.room in
      let room_n = n.twin.room in
      let b_far = m.twin.b_far in
      let d_far = n.twin.b_far in
      let c_far = m.twin.c_far in
      let e_far = n.twin.c_far in
      let parts =
      def_at-apart 1 S.ds m.twin.k n.twin.k o.s p.s o.body p.body m.twin.far n.twin.far o.here p.here (omega (arith, room_m)) (omega (arith, room_n))
      (omega (arith, b_far, d_far, same)) in
      let at : m.twin.l ≡ n.twin.l = there-one o p parts.0 in
      let numbers : o.t ≡ p.t = def_at-number 1 S.es n.twin.l o.t p.t o.body p.body (subst (λ l. IsDefAt 1 S.es l o.t o.body) at o.there) p.there in
      let far = parts.1 in
      omega (arith, c_far, e_far, numbers, far)

  here-same : {b c d e : ℕ} → IsNested S b c → IsNested S d e → c ≡ e → b ≡ d
  here-same {b} {c} {d} {e} m n same =
      let o = m.twin.origin in
      let p = n.twin.origin in
      let room_m = m.twin.room in
      let room_n = n.twin.room in
      let b_far = m.twin.b_far in
      let d_far = n.twin.b_far in
      let c_far = m.twin.c_far in
      let e_far = n.twin.c_far in
      let parts =
      def_at-apart 1 S.es m.twin.l n.twin.l o.t p.t o.body p.body m.twin.far n.twin.far o.there p.there (omega (arith, room_m)) (omega (arith, room_n))
      (omega (arith, c_far, e_far, same)) in
      let at : m.twin.k ≡ n.twin.k = here-one o p parts.0 in
      let numbers : o.s ≡ p.s = def_at-number 1 S.ds n.twin.k o.s p.s o.body p.body (subst (λ k. IsDefAt 1 S.ds k o.s o.body) at o.here) p.here in
      let far = parts.1 in
      omega (arith, b_far, d_far, numbers, far)

  one_to_one : IsOneToOne (TwinPlace S)
  one_to_one p q r s (twin_frames {b = b} {c = c} m) (twin_frames {b = d} {c = e} n) = same_tests b d c e (there-same m n) (here-same m n)
  one_to_one p q r s (twin_frames m) (same_frame f) = refl
  one_to_one p q r s (same_frame f) (twin_frames m) = refl
  one_to_one p q r s (same_frame f) (same_frame g) = refl

  -- ---- beside the ad

  named-root : (x : List ℕ) → S.R x
      → Both (λ k l. TwinAttribute S (record { ad = 0; frame = 0; attr = k }) (record { ad = 0; frame = 0; attr = l })) (attribute_named S.fs 0 x)
      (attribute_named S.gs 0 x)
  named-root x r =
      both_along (ap (position (same_name x)) (frame-names S.fs 0 0 S.ds S.here)) (ap (position (same_name x)) (frame-names S.gs 0 0 S.es S.there))
      (both_weaker (λ k l o. root_attributes o) (S.shared x r))

  beside : AreBeside S.fs S.gs S.res S.R (TwinPlace S) (TwinAttribute S)
  beside = record { frames = same_frame; attributes = same_attribute; roots = named-root; weighed = S.weighed; asked = S.asked }

-- ---- the two worlds

module _ (S : Setting) (moment : ℕ) where
  abbrev w : PlainWorld
  w = docked_to moment S.fs S.res

  abbrev v : PlainWorld
  v = docked_to moment S.gs S.res

  -- ---- what names find in one frame

  named-nested : {b c : ℕ} (n : IsNested S b c) (x : List ℕ)
      → Both (λ k l. TwinAttribute S (record { ad = 0; frame = b; attr = k }) (record { ad = 0; frame = c; attr = l })) (attribute_named S.fs b x)
      (attribute_named S.gs c x)
  named-nested {b} {c} n x =
      both_equal (λ k. frame_attributes n k) (ap (position (same_name x)) (frame-names S.fs n.p b n.inside n.sits.here))
      (ap (position (same_name x)) (frame-names S.gs n.q c n.inside n.sits.there))

  finds-nested : {b c : ℕ} → IsNested S b c → (x : List ℕ)
      → Finds (TwinPlace S) (TwinAttribute S) (found_attribute (attribute_in w (record { ad = 0; frame = b }) x))
      (found_attribute (attribute_in v (record { ad = 0; frame = c }) x))
  finds-nested {b} {c} n x = finds_both (λ k. record { ad = 0; frame = b; attr = k }) (λ k. record { ad = 0; frame = c; attr = k }) (named-nested n x)

  -- ---- and in frames one after another

  above_root : {b c n : ℕ} → IsTwin S b c n → (0 < b) × (0 < c)
  above_root t =
      let one = t.b_far in
      let other = t.c_far in (
        omega (arith, one, def_at-above 1 S.ds t.k t.origin.s t.origin.body t.origin.here),
        omega (arith, other, def_at-above 1 S.es t.l t.origin.t t.origin.body t.origin.there),
      )

  first-enclosing : {p q : ℕ} → Standing S p q → (x : List ℕ) → S.R x
      → Finds (TwinPlace S) (TwinAttribute S) (first_found w x (enclosing w (record { ad = 0; frame = p })))
      (first_found v x (enclosing v (record { ad = 0; frame = q })))
  first-enclosing at_root x r = first-root S.fs S.gs S.res S.R (TwinPlace S) (TwinAttribute S) (beside S) moment x r
  first-enclosing (at_literal {p = p} {q = q} {b = b} {c = c} {inside = inside} outside sits twin) x r =
      let low = above_root twin in
      finds_along (upwards b w x S.here_lower (frame-parent S.fs p b inside low.0 sits.here))
      (upwards c v x S.there_lower (frame-parent S.gs q c inside low.1 sits.there))
      (finds_else (finds-nested (record { p = p; q = q; inside = inside; outside = outside; sits = sits; twin = twin }) x) (first-enclosing outside x r))

  -- ---- expressions of the requests

  abbrev TwinTree : ℕ → ℕ → Tree → Tree → Type 0
  TwinTree p q = TreeAlike (TwinPlace S) (TwinAttribute S) w v (record { ad = 0; frame = p }) (record { ad = 0; frame = q })

  mutual
    tree-twin : (p q b c : ℕ) (i : Inline) → Standing S p q → Stand as_it_is S.fs b (frames p b i) → Stand as_it_is S.gs c (frames q c i)
        → ((y : List ℕ) → Contains (needed_in i) y → S.R y)
        → IsTwin S b c (count i) → TwinTree p q (number b i) (number c i)
    tree-twin p q b c (shape label is) standing here there names twin =
        nodes (label-request S.fs S.gs S.res S.R (TwinPlace S) (TwinAttribute S) (beside S) moment p q (first-enclosing standing) label
        (λ y h. names y (Contains-append_left (needed_at label) (needed_in_all is) y h)))
        (trees-twin p q b c is standing here there (λ y h. names y (Contains-append_right (needed_at label) (needed_in_all is) y h)) twin)
    tree-twin p q b c (inner inside) standing here there names twin =
        frames_alike (twin_frames (record {
          p =
              p;
          q = q;
          inside = inside;
          outside = standing;
          sits = record { here = here; there = there; names = names };
          twin = twin;
        }))

    trees-twin : (p q b c : ℕ) (is : Inlines) → Standing S p q → Stand as_it_is S.fs b (frames_all p b is) → Stand as_it_is S.gs c (frames_all q c is)
        → ((y : List ℕ) → Contains (needed_in_all is) y → S.R y)
        → IsTwin S b c (count_all is)
        → TreesAlike (TwinPlace S) (TwinAttribute S) w v (record { ad = 0; frame = p }) (record { ad = 0; frame = q }) (number_all b is) (number_all c is)
    trees-twin p q b c end standing here there names twin = no_trees
    trees-twin p q b c (next i is) standing here there names twin =
        more_trees
        (tree-twin p q b c i standing (first_stands-all S.fs p b i is here) (first_stands-all S.gs q c i is there)
        (λ y h. names y (Contains-append_left (needed_in i) (needed_in_all is) y h)) (twin-left S (count i) (count_all is) twin))
        (trees-twin p q (b + count i) (c + count i) is standing (rest_stands-all S.fs p b i is here) (rest_stands-all S.gs q c i is there)
        (λ y h. names y (Contains-append_right (needed_in i) (needed_in_all is) y h)) (twin-right S (count i) (count_all is) twin))

  attributes-twin : (p q b c : ℕ) (ds : Defs) (k : ℕ) → Standing S p q → Stand as_it_is S.fs b (frames_in p b ds)
      → Stand as_it_is S.gs c (frames_in q c ds) → ((y : List ℕ) → Contains (needed_in_defs ds) y → S.R y)
      → IsTwin S b c (count_defs ds)
      → Both (TwinTree p q) (option_map (λ a. a.1) (slice_get (attributes_from b ds) k)) (option_map (λ a. a.1) (slice_get (attributes_from c ds) k))
  attributes-twin p q b c no_defs k standing here there names twin = both_none
  attributes-twin p q b c (def text i ds) zero standing here there names twin =
      both_some (tree-twin p q b c i standing (first_stands-in S.fs p b text i ds here) (first_stands-in S.gs q c text i ds there)
      (λ y h. names y (Contains-append_left (needed_in i) (needed_in_defs ds) y h)) (twin-left S (count i) (count_defs ds) twin))
  attributes-twin p q b c (def text i ds) (suc k) standing here there names twin =
      attributes-twin p q (b + count i) (c + count i) ds k standing (rest_stands-in S.fs p b text i ds here) (rest_stands-in S.gs q c text i ds there)
      (λ y h. names y (Contains-append_right (needed_in i) (needed_in_defs ds) y h)) (twin-right S (count i) (count_defs ds) twin)

  -- ---- the worlds are twins

  sizes : (p q : AdPlace) → TwinPlace S p q → size_at w p ≡ size_at v q
  sizes p q (twin_frames {b = b} {c = c} n) =
      ap (λ l. length l) (frame-attributes S.fs n.p b n.inside n.sits.here) ∙ length-attributes_from (suc b) (suc c) n.inside
      ∙ ap (λ l. length l) (sym (frame-attributes S.gs n.q c n.inside n.sits.there))
  sizes p q (same_frame f) = refl

  within : (p q : AdPlace) → TwinPlace S p q → (x : List ℕ)
      → Finds (TwinPlace S) (TwinAttribute S) (found_attribute (attribute_in w p x)) (found_attribute (attribute_in v q x))
  within p q (twin_frames n) x = finds-nested n x
  within p q (same_frame f) x = finds-resource S.fs S.gs S.res S.R (TwinPlace S) (TwinAttribute S) (beside S) moment f x

  exprs : (s t : Pos) → TwinAttribute S s t
      → Both (TreeAlike (TwinPlace S) (TwinAttribute S) w v (frame_of_attribute s) (frame_of_attribute t)) (expr_of w s) (expr_of v t)
  exprs s t (root_attributes {k = k} {l = l} o) =
      both_along
      (ap (λ l. option_map (λ a. a.1) (slice_get l k)) (frame-attributes S.fs 0 0 S.ds S.here) ∙ def_at-expr 1 S.ds k o.s o.body o.here)
      (ap (λ m. option_map (λ a. a.1) (slice_get m l)) (frame-attributes S.gs 0 0 S.es S.there) ∙ def_at-expr 1 S.es l o.t o.body o.there)
      (both_some (tree-twin 0 0 o.s o.t o.body at_root (def_at-stands S.fs 0 1 S.ds k o.s o.body S.here.1 o.here)
      (def_at-stands S.gs 0 1 S.es l o.t o.body S.there.1 o.there) o.names
      (record { k = k; l = l; origin = o; far = 0; b_far = omega arith; c_far = omega arith; room = omega arith })))
  exprs s t (frame_attributes {b = b} {c = c} n k) =
      both_along
      (ap (λ l. option_map (λ a. a.1) (slice_get l k)) (frame-attributes S.fs n.p b n.inside n.sits.here))
      (ap (λ l. option_map (λ a. a.1) (slice_get l k)) (frame-attributes S.gs n.q c n.inside n.sits.there))
      (attributes-twin b c (suc b) (suc c) n.inside k (at_literal n.outside n.sits n.twin) n.sits.here.1 n.sits.there.1 n.sits.names
      (twin-inner S (count_defs n.inside) n.twin))
  exprs s t (same_attribute f k) = expr-itself S.fs S.gs S.res S.R (TwinPlace S) (TwinAttribute S) (beside S) moment f k

  twins : AreTwinWorlds w v (TwinPlace S) (TwinAttribute S)
  twins = record { moments = refl; one_to_one = one_to_one S; sizes = sizes; within = within; exprs = exprs }

  -- so the ad is docked to both alike
  pub told-alike : AreMatchedAlike w v
  told-alike = matched-alike S.fs S.gs S.res S.R (TwinPlace S) (TwinAttribute S) (beside S) moment twins
