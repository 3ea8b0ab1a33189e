-- Twins: an ad is docked to both alike, since it comes to nothing in which they differ.
use Rattle.std.proofs.Common.{◌≡◌, ◌≤◌, ◌<◌, ℕ, zero, suc, ◌+◌, Bool, List, [], ◌∷◌, length, get_or, position, Option, None, Some}
use Rattle.std.proofs.Common.{option_map, slice_get, Contains, refl, sym, ◌∙◌, ap, subst, arith}
use Rattle.std.proofs.lemmas.List.Elements.{Contains-append_left, Contains-append_right}
use Rattle.std.proofs.lemmas.List.Quantifiers.{position-Some}
use Rattle.std.proofs.lemmas.Option.{slice_get-get_or, slice_get-map}
use Rattle.pool_text.specs.Folding.{folded}
use Rattle.pool_text.specs.declared.language.AdPlace.{AdPlace}
use Rattle.pool_text.specs.declared.language.Pos.{Pos}
use Rattle.builtin_funcs.proofs.AlikeLemmas.{Both, both_none, both_some, IsOneToOne}
use Rattle.ad_tree.specs.Frames.{Frame, IsAd, attributes_at, cited_in, expr_at, names_of, parent_of}
use Rattle.ad_tree.specs.Inline.{Defs, defs_of, inlined, inlined_all, inside}
use Rattle.ad_tree.specs.Names.{has_name, same_name}
use Rattle.ad_tree.specs.Special.{attribute_named}
use Rattle.ad_tree.specs.Tree.{Tree, node, frame, Trees, none, more, cited, cited_all}
use Rattle.ad_tree.proofs.AdLemmas.{above-cited, cited_within}
use Rattle.ad_tree.proofs.NameLemmas.{same_folded_form}
use Rattle.eval_scope.specs.Look.{attribute_in, enclosing, first_found, found_attribute}
use Rattle.eval_scope.specs.World.{PlainWorld, expr_of, frame_of_attribute, size_at}
use Rattle.eval_scope.proofs.LookLemmas.{AreLower}
use Rattle.significant_attrs.specs.Matched.{AreMatchedAlike, docked_to}
use Rattle.significant_attrs.specs.Names.{weighed_names, needed_at, needed_in, needed_in_all, needed_in_defs}
use Rattle.significant_attrs.specs.Reach.{IsReached, is_first, is_needed, first_names, reached_from}
use Rattle.significant_attrs.specs.Twins.{AreAllMarked, AreTwins}
use Rattle.significant_attrs.proofs.ContainLemmas.{contains_at}
use Rattle.significant_attrs.proofs.DockedLemmas.{AreBeside, both_along, both_equal, expr-itself, finds-resource, first-root, label-request, matched-alike}
use Rattle.significant_attrs.proofs.DockedLemmas.{upwards}
use Rattle.significant_attrs.proofs.ReachLemmas.{flat_map-names, list_is_least}
use Rattle.significant_attrs.proofs.WorldLemmas.{Finds, finds_along, finds_both, finds_else, TreeAlike, nodes, frames_alike, TreesAlike, no_trees, more_trees}

-- ---- what the matching comes to; R tells of a name whether it does

-- frame b is an ad literal in an expression of frame p, and what is needed in it is come to; m levels of frames are opened below it, which is enough
record IsOpened (fs : List Frame) (R : List ℕ → Type 0) (p b m : ℕ) : Type 0 where
  cited : Contains (cited_in (attributes_at fs p)) b
  deep : length fs < m + b
  names : (y : List ℕ) → Contains (needed_in_defs (inside fs m b)) y → R y

-- the root, and each ad literal that stands in one of these
data IsStanding (fs : List Frame) (R : List ℕ → Type 0) : ℕ → Type 0 where
  at_root : IsStanding fs R 0
  at_literal : {p b m : ℕ} → IsStanding fs R p → IsOpened fs R p b m → IsStanding fs R b

record IsNested (fs : List Frame) (R : List ℕ → Type 0) (b : ℕ) : Type 0 where
  p : ℕ
  m : ℕ
  outside : IsStanding fs R p
  opened : IsOpened fs R p b m

-- places and attributes that matching comes to, each related to itself
data SamePlace (fs : List Frame) (R : List ℕ → Type 0) : AdPlace → AdPlace → Type 0 where
  nested_frame : {b : ℕ} → IsNested fs R b → SamePlace fs R (record { ad = 0; frame = b }) (record { ad = 0; frame = b })
  same_frame : (f : ℕ) → SamePlace fs R (record { ad = 1; frame = f }) (record { ad = 1; frame = f })

data SameAttribute (fs : List Frame) (R : List ℕ → Type 0) : Pos → Pos → Type 0 where
  root_attribute : {k : ℕ} (a : List ℕ × Tree) → slice_get (attributes_at fs 0) k ≡ Some a → R a.0
      → SameAttribute fs R (record { ad = 0; frame = 0; attr = k }) (record { ad = 0; frame = 0; attr = k })
  nested_attribute : {b : ℕ} → IsNested fs R b → (k : ℕ)
      → SameAttribute fs R (record { ad = 0; frame = b; attr = k }) (record { ad = 0; frame = b; attr = k })
  same_attribute : (f k : ℕ) → SameAttribute fs R (record { ad = 1; frame = f; attr = k }) (record { ad = 1; frame = f; attr = k })

one_to_one : (fs : List Frame) (R : List ℕ → Type 0) → IsOneToOne (SamePlace fs R)
one_to_one fs R p q r s (nested_frame m) (nested_frame n) = refl
one_to_one fs R p q r s (nested_frame m) (same_frame f) = refl
one_to_one fs R p q r s (same_frame f) (nested_frame m) = refl
one_to_one fs R p q r s (same_frame f) (same_frame g) = refl

-- ---- lists of attributes

needed-defs : (k : ℕ → Defs) (attributes : List (List ℕ × Tree)) (j : ℕ) (a : List ℕ × Tree) (y : List ℕ) → slice_get attributes j ≡ Some a
    → Contains (needed_in (inlined k a.1)) y → Contains (needed_in_defs (defs_of k attributes)) y
needed-defs k [] j a y at h = absurd (cc)
needed-defs k (b ∷ rest) zero a y at h =
    let same : b ≡ a = cc in
    Contains-append_left (needed_in (inlined k b.1)) (needed_in_defs (defs_of k rest)) y
    (subst (λ (c : List ℕ × Tree). Contains (needed_in (inlined k c.1)) y) (sym same) h)
needed-defs k (b ∷ rest) (suc j) a y at h =
    Contains-append_right (needed_in (inlined k b.1)) (needed_in_defs (defs_of k rest)) y (needed-defs k rest j a y at h)

cited-attribute : (attributes : List (List ℕ × Tree)) (j : ℕ) (a : List ℕ × Tree) (g : ℕ) → slice_get attributes j ≡ Some a
    → Contains (cited a.1) g → Contains (cited_in attributes) g
cited-attribute [] j a g at h = absurd (cc)
cited-attribute (b ∷ rest) zero a g at h =
    let same : b ≡ a = cc in
    Contains-append_left (cited b.1) (cited_in rest) g (subst (λ (c : List ℕ × Tree). Contains (cited c.1) g) (sym same) h)
cited-attribute (b ∷ rest) (suc j) a g at h = Contains-append_right (cited b.1) (cited_in rest) g (cited-attribute rest j a g at h)

-- the attribute at the place of a name has that name
named-at : (attributes : List (List ℕ × Tree)) (x : List ℕ) (k : ℕ) → position (same_name x) (names_of attributes) ≡ Some k
    → (a : List ℕ × Tree) × (slice_get attributes k ≡ Some a) × (folded x ≡ folded a.0)
named-at attributes x k at = by (slice_get attributes k) refl
  where
    named : option_map (λ (a : List ℕ × Tree). a.0) (slice_get attributes k) ≡ Some (get_or (names_of attributes) k [])
    named =
        sym (slice_get-map (λ (a : List ℕ × Tree). a.0) attributes k)
        ∙ slice_get-get_or (names_of attributes) k [] (position-Some (same_name x) (names_of attributes) k [] at).0

    by : (o : Option (List ℕ × Tree)) → slice_get attributes k ≡ o
        → (a : List ℕ × Tree) × (slice_get attributes k ≡ Some a) × (folded x ≡ folded a.0)
    by None is = absurd (cc (named, ap (option_map (λ (a : List ℕ × Tree). a.0)) is))
    by (Some a) is =
        let same : a.0 ≡ get_or (names_of attributes) k [] = cc (named, ap (option_map (λ (a : List ℕ × Tree). a.0)) is) in
        (a, is, same_folded_form x (get_or (names_of attributes) k []) (position-Some (same_name x) (names_of attributes) k [] at).1 ∙ ap folded (sym same))

-- ---- two requests beside one of the ads

module _ (ads : List (List Frame)) (fs gs res : List Frame) (marks : List Bool) (ad : IsAd fs) (twins : AreTwins marks fs gs)
    (marked : AreAllMarked ads fs marks) (stands : Contains ads res) (moment : ℕ) where
  abbrev R : List ℕ → Type 0
  R x = IsReached (first_names ads) fs (folded x)

  abbrev M : AdPlace → AdPlace → Type 0
  M = SamePlace fs R

  abbrev N : Pos → Pos → Type 0
  N = SameAttribute fs R

  -- ---- the same in both

  attributes-nested : (b p : ℕ) → parent_of fs b ≡ Some p → attributes_at fs b ≡ attributes_at gs b
  attributes-nested zero p parent = absurd (cc)
  attributes-nested (suc f) p parent = twins.nested (suc f) (omega arith)

  lower : AreLower gs
  lower f parent is = ad.lower f parent (twins.parents f ∙ is)

  -- an attribute of a name that is reached has its mark
  expr-same : (k : ℕ) (a : List ℕ × Tree) → slice_get (attributes_at fs 0) k ≡ Some a → R a.0 → expr_at fs 0 k ≡ expr_at gs 0 k
  expr-same k a at r =
      twins.exprs k (marked k (slice_get-map (λ (b : List ℕ × Tree). has_name b.0 (reached_from (first_names ads) fs)) (attributes_at fs 0) k
      ∙ ap (option_map (λ (b : List ℕ × Tree). has_name b.0 (reached_from (first_names ads) fs))) at
      ∙ ap Option.Some ((list_is_least (first_names ads) fs a.0).1 r)))

  -- ---- names

  named-nested : {b : ℕ} (n : IsNested fs R b) (x : List ℕ)
      → Both (λ k l. N (record { ad = 0; frame = b; attr = k }) (record { ad = 0; frame = b; attr = l })) (attribute_named fs b x) (attribute_named gs b x)
  named-nested {b} n x =
      both_equal {m = attribute_named fs b x} (λ k. nested_attribute n k) refl
      (ap (λ l. position (same_name x) (names_of l)) (sym (attributes-nested b n.p (ad.nested n.p b n.opened.cited))))

  named-root : (x : List ℕ) → R x
      → Both (λ k l. N (record { ad = 0; frame = 0; attr = k }) (record { ad = 0; frame = 0; attr = l })) (attribute_named fs 0 x) (attribute_named gs 0 x)
  named-root x r = both_along refl (ap (position (same_name x)) (sym twins.names)) (by (attribute_named fs 0 x) refl)
    where
      by : (o : Option ℕ) → attribute_named fs 0 x ≡ o
          → Both (λ k l. N (record { ad = 0; frame = 0; attr = k }) (record { ad = 0; frame = 0; attr = l })) o o
      by None at = both_none
      by (Some k) at =
          let found = named-at (attributes_at fs 0) x k at in both_some (root_attribute found.0 found.1 (subst (IsReached (first_names ads) fs) found.2 r))

  asked : (y : List ℕ) → Contains (first_names ads) y → R y
  asked y c = is_first y c

  beside : AreBeside fs gs res R M N
  beside = record {
    frames = same_frame;
    attributes = same_attribute;
    roots = named-root;
    weighed = λ y c. asked y (Contains-append_left weighed_names _ y c);
    asked = λ y c. asked y (Contains-append_right weighed_names _ y (flat_map-names ads res y stands c));
  }

  abbrev w : PlainWorld
  w = docked_to moment fs res

  abbrev v : PlainWorld
  v = docked_to moment gs res

  first-enclosing : {p : ℕ} → IsStanding fs R p → (x : List ℕ) → R x
      → Finds M N (first_found w x (enclosing w (record { ad = 0; frame = p }))) (first_found v x (enclosing v (record { ad = 0; frame = p })))
  first-enclosing at_root x r = first-root fs gs res R M N beside moment x r
  first-enclosing (at_literal {p = p} {b = b} {m = m} outside opened) x r =
      finds_along (upwards b w x ad.lower (ad.nested p b opened.cited)) (upwards b v x lower (sym (twins.parents b) ∙ ad.nested p b opened.cited))
      (finds_else (finds_both (λ k. record { ad = 0; frame = b; attr = k }) (λ k. record { ad = 0; frame = b; attr = k })
      (named-nested (record { p = p; m = m; outside = outside; opened = opened }) x))
      (first-enclosing outside x r))

  -- ---- expressions of the requests, which stand in frame p with m levels opened below

  abbrev TwinTree : ℕ → Tree → Tree → Type 0
  TwinTree p = TreeAlike M N w v (record { ad = 0; frame = p }) (record { ad = 0; frame = p })

  mutual
    tree-twin : (p m : ℕ) (t : Tree) → IsStanding fs R p → length fs ≤ m + p
        → ((g : ℕ) → Contains (cited t) g → Contains (cited_in (attributes_at fs p)) g)
        → ((y : List ℕ) → Contains (needed_in (inlined (inside fs m) t)) y → R y)
        → TwinTree p t t
    tree-twin p m (node label ts) standing deep within names =
        nodes (label-request fs gs res R M N beside moment p p (first-enclosing standing) label
        (λ y h. names y (Contains-append_left (needed_at label) (needed_in_all (inlined_all (inside fs m) ts)) y h)))
        (trees-twin p m ts standing deep within (λ y h. names y (Contains-append_right (needed_at label) (needed_in_all (inlined_all (inside fs m) ts)) y h)))
    tree-twin p m (frame g) standing deep within names =
        let at : Contains (cited_in (attributes_at fs p)) g = within g (0, omega arith, refl) in
        let above = above-cited fs ad p g at in
        frames_alike (nested_frame (record {
          p =
              p;
          m = m;
          outside = standing;
          opened = record { cited = at; deep = omega (arith, deep, above); names = names };
        }))

    trees-twin : (p m : ℕ) (ts : Trees) → IsStanding fs R p → length fs ≤ m + p
        → ((g : ℕ) → Contains (cited_all ts) g → Contains (cited_in (attributes_at fs p)) g)
        → ((y : List ℕ) → Contains (needed_in_all (inlined_all (inside fs m) ts)) y → R y)
        → TreesAlike M N w v (record { ad = 0; frame = p }) (record { ad = 0; frame = p }) ts ts
    trees-twin p m none standing deep within names = no_trees
    trees-twin p m (more t ts) standing deep within names =
        more_trees
        (tree-twin p m t standing deep (λ g h. within g (Contains-append_left (cited t) (cited_all ts) g h))
        (λ y h. names y (Contains-append_left (needed_in (inlined (inside fs m) t)) (needed_in_all (inlined_all (inside fs m) ts)) y h)))
        (trees-twin p m ts standing deep (λ g h. within g (Contains-append_right (cited t) (cited_all ts) g h))
        (λ y h. names y (Contains-append_right (needed_in (inlined (inside fs m) t)) (needed_in_all (inlined_all (inside fs m) ts)) y h)))

  -- an attribute of frame p, all of whose needs are named
  attribute-twin : (p m k : ℕ) (a : List ℕ × Tree) → IsStanding fs R p → length fs ≤ m + p → slice_get (attributes_at fs p) k ≡ Some a
      → ((y : List ℕ) → Contains (needed_in (inlined (inside fs m) a.1)) y → R y)
      → TwinTree p a.1 a.1
  attribute-twin p m k a standing deep at names = tree-twin p m a.1 standing deep (λ g h. cited-attribute (attributes_at fs p) k a g at h) names

  nested-twin : (b : ℕ) (n : IsNested fs R b) (k : ℕ) → Both (TwinTree b) (expr_at fs b k) (expr_at fs b k)
  nested-twin b n k = by n.m n.opened (slice_get (attributes_at fs b) k) refl
    where
      by : (m : ℕ) → IsOpened fs R n.p b m → (o : Option (List ℕ × Tree)) → slice_get (attributes_at fs b) k ≡ o
          → Both (TwinTree b) (option_map (λ (a : List ℕ × Tree). a.1) o) (option_map (λ (a : List ℕ × Tree). a.1) o)
      by m opened None at = both_none
      by zero opened (Some a) at =
          let deep = opened.deep in
          absurd (omega (arith, deep, cited_within fs ad n.p b opened.cited))
      by (suc m) opened (Some a) at =
          let deep = opened.deep in
          both_some (attribute-twin b m k a (at_literal n.outside opened) (omega (arith, deep)) at
          (λ y h. opened.names y (needed-defs (inside fs m) (attributes_at fs b) k a y at h)))

  -- ---- the worlds are twins

  sizes : (p q : AdPlace) → M p q → size_at w p ≡ size_at v q
  sizes p q (nested_frame {b = b} n) = ap (λ l. length l) (attributes-nested b n.p (ad.nested n.p b n.opened.cited))
  sizes p q (same_frame f) = refl

  within : (p q : AdPlace) → M p q → (x : List ℕ) → Finds M N (found_attribute (attribute_in w p x)) (found_attribute (attribute_in v q x))
  within p q (nested_frame {b = b} n) x =
      finds_both (λ k. record { ad = 0; frame = b; attr = k }) (λ k. record { ad = 0; frame = b; attr = k }) (named-nested n x)
  within p q (same_frame f) x = finds-resource fs gs res R M N beside moment f x

  exprs : (s t : Pos) → N s t → Both (TreeAlike M N w v (frame_of_attribute s) (frame_of_attribute t)) (expr_of w s) (expr_of v t)
  exprs s t (root_attribute {k = k} a at r) =
      both_along (ap (option_map (λ (b : List ℕ × Tree). b.1)) at) (sym (expr-same k a at r) ∙ ap (option_map (λ (b : List ℕ × Tree). b.1)) at)
      (both_some (attribute-twin 0 (length fs) k a at_root (omega arith) at (λ y h. is_needed a y (contains_at (attributes_at fs 0) k a at) r h)))
  exprs s t (nested_attribute {b = b} n k) =
      both_along refl (ap (λ l. option_map (λ (a : List ℕ × Tree). a.1) (slice_get l k)) (sym (attributes-nested b n.p (ad.nested n.p b n.opened.cited))))
      (nested-twin b n k)
  exprs s t (same_attribute f k) = expr-itself fs gs res R M N beside moment f k

  pub twins-alike : AreMatchedAlike (docked_to moment fs res) (docked_to moment gs res)
  twins-alike =
      matched-alike fs gs res R M N beside moment (record { moments = refl; one_to_one = one_to_one fs R; sizes = sizes; within = within; exprs = exprs })
