-- An ad beside two requests: what names find in the roots and in the ad, and that the ad is docked to both alike.
use Rattle.std.proofs.Common.{◌≡◌, ℕ, zero, suc, ◌&&◌, List, [], ◌∷◌, map, Option, None, Some, option_map, slice_get, Contains, codes, refl}
use Rattle.std.proofs.Common.{sym, ◌∙◌, ap, subst, arith}
use Rattle.std.specs.List.{flat_map}
use Rattle.std.proofs.lemmas.List.Elements.{Contains-append_left, Contains-append_right}
use Rattle.pool_text.specs.declared.language.AdPlace.{AdPlace}
use Rattle.pool_text.specs.declared.language.Pos.{Pos}
use Rattle.builtin_funcs.proofs.AlikeLemmas.{Both, both_none, both_some}
use Rattle.ad_tree.specs.declared.tree.Scope.{Scope}
use Rattle.ad_tree.specs.Enclosing.{enclosing_frames}
use Rattle.ad_tree.specs.Frames.{Frame, attributes_in, expr_at, parent_of}
use Rattle.ad_tree.specs.Special.{attribute_named}
use Rattle.ad_tree.specs.Tree.{Label, literal, name, unary, binary, all, any, choice, select, subscript, call, Tree, node, frame, Trees, none, more}
use Rattle.ad_tree.specs.Tree.{list as list_node}
use Rattle.eval_scope.specs.Look.{attribute_in, enclosing, first_found, found_attribute, in_frame, or_else}
use Rattle.eval_scope.specs.World.{PlainWorld}
use Rattle.eval_scope.proofs.LookLemmas.{AreLower, enclosing-next, first_found-append, from_frame}
use Rattle.ad_eval.specs.Dock.{meets_requirement}
use Rattle.significant_attrs.specs.Matched.{AreMatchedAlike, docked_to}
use Rattle.significant_attrs.specs.Names.{weighed_names, asked_at, asked_in, asked_in_all, asked_in_attributes, asked_by, needed_at}
use Rattle.significant_attrs.proofs.WorldLemmas.{AreTwinWorlds, Finds, finds_nothing, finds_along, finds_both, finds_else, FindsAt, TreeAlike, nodes}
use Rattle.significant_attrs.proofs.WorldLemmas.{frames_alike, TreesAlike, no_trees, more_trees, meets-same, rank-same}

-- ---- related options

pub both_equal : {A : Type 0} {Rel : A → A → Type 0} {o p m : Option A} → ((a : A) → Rel a a) → o ≡ m → p ≡ m → Both Rel o p
both_equal {A} {Rel} {o} {p} {m} diagonal one other = rw (one, other) (by m)
  where
    by : (n : Option A) → Both Rel n n
    by None = both_none
    by (Some a) = both_some (diagonal a)

pub both_along : {A B : Type 0} {Rel : A → B → Type 0} {o o2 : Option A} {p p2 : Option B} → o2 ≡ o → p2 ≡ p → Both Rel o p → Both Rel o2 p2
both_along one other h = rw (one, other) h

pub both_weaker : {A B : Type 0} {Rel Sel : A → B → Type 0} {o : Option A} {p : Option B} → ((a : A) (b : B) → Rel a b → Sel a b) → Both Rel o p
    → Both Sel o p
both_weaker f both_none = both_none
both_weaker f (both_some {a = a} {b = b} r) = both_some (f a b r)

-- ---- names

-- what stands in an expression of an ad is asked for by the ad
flat_map-contains : {A : Type 0} (f : A → List (List ℕ)) (xs : List A) (k : ℕ) (x : A) (y : List ℕ) → slice_get xs k ≡ Some x → Contains (f x) y
    → Contains (flat_map f xs) y
flat_map-contains f [] k x y at h = absurd (cc)
flat_map-contains f (z ∷ xs) zero x y at h =
    let same : z ≡ x = cc in Contains-append_left (f z) (flat_map f xs) y (subst (λ v. Contains (f v) y) (sym same) h)
flat_map-contains f (z ∷ xs) (suc k) x y at h = Contains-append_right (f z) (flat_map f xs) y (flat_map-contains f xs k x y at h)

expr-asked : (fs : List Frame) (f k : ℕ) (t : Tree) (y : List ℕ) → expr_at fs f k ≡ Some t → Contains (asked_in t) y → Contains (asked_by fs) y
expr-asked fs f k t y is h = by_frame (slice_get fs f) refl
  where
    by_attribute : (g : Frame) (o : Option (List ℕ × Tree)) → slice_get g.attributes k ≡ o → option_map (λ a. a.1) o ≡ Some t
        → Contains (asked_in_attributes g.attributes) y
    by_attribute g None at e = absurd (cc)
    by_attribute g (Some a) at e =
        let same : a.1 ≡ t = cc in flat_map-contains (λ a. asked_in a.1) g.attributes k a y at (subst (λ v. Contains (asked_in v) y) (sym same) h)

    by_frame : (o : Option Frame) → slice_get fs f ≡ o → Contains (asked_by fs) y
    by_frame None at = absurd (cc (is, ap (λ o. option_map (λ a. a.1) (slice_get (attributes_in o) k)) at))
    by_frame (Some g) at =
        flat_map-contains (λ g. asked_in_attributes g.attributes) fs f g y at
        (by_attribute g (slice_get g.attributes k) refl (sym (ap (λ o. option_map (λ a. a.1) (slice_get (attributes_in o) k)) at) ∙ is))

-- what encloses a nested frame of the request: the frame itself, and what encloses its parent
pub upwards : {p : ℕ} (b : ℕ) (u : PlainWorld) (x : List ℕ) (lower : AreLower u.request) → parent_of u.request b ≡ Some p
    → first_found u x (enclosing u (record { ad = 0; frame = b }))
    ≡ or_else (found_attribute (attribute_in u (record { ad = 0; frame = b }) x)) (first_found u x (enclosing u (record { ad = 0; frame = p })))
upwards {p} b u x lower parent =
    ap (first_found u x) (enclosing-next u 0 b lower)
    ∙ ap (λ o. or_else (found_attribute (attribute_in u (record { ad = 0; frame = b }) x)) (first_found u x (from_frame u 0 o))) parent

-- ---- the two worlds

-- requests of these frames beside an ad: the ad's frames and attributes are related to themselves, and what the roots have of the names that matter to each
-- other
pub record AreBeside (fs gs res : List Frame) (R : List ℕ → Type 0) (M : AdPlace → AdPlace → Type 0) (N : Pos → Pos → Type 0) : Type 0 where
  pub frames : (f : ℕ) → M (record { ad = 1; frame = f }) (record { ad = 1; frame = f })
  pub attributes : (f k : ℕ) → N (record { ad = 1; frame = f; attr = k }) (record { ad = 1; frame = f; attr = k })
  pub roots : (x : List ℕ) → R x
      → Both (λ k l. N (record { ad = 0; frame = 0; attr = k }) (record { ad = 0; frame = 0; attr = l })) (attribute_named fs 0 x) (attribute_named gs 0 x)
  pub weighed : (y : List ℕ) → Contains weighed_names y → R y
  pub asked : (y : List ℕ) → Contains (asked_by res) y → R y

module _ (fs gs res : List Frame) (R : List ℕ → Type 0) (M : AdPlace → AdPlace → Type 0) (N : Pos → Pos → Type 0)
    (beside : AreBeside fs gs res R M N) (moment : ℕ) where
  abbrev w : PlainWorld
  w = docked_to moment fs res

  abbrev v : PlainWorld
  v = docked_to moment gs res

  -- ---- what names find in one frame, and in frames one after another

  named-resource : (f : ℕ) (x : List ℕ)
      → Both (λ k l. N (record { ad = 1; frame = f; attr = k }) (record { ad = 1; frame = f; attr = l })) (attribute_named res f x) (attribute_named res f x)
  named-resource f x = both_equal {m = attribute_named res f x} (λ k. beside.attributes f k) refl refl

  finds-root : (x : List ℕ) → R x
      → Finds M N (found_attribute (attribute_in w (record { ad = 0; frame = 0 }) x)) (found_attribute (attribute_in v (record { ad = 0; frame = 0 }) x))
  finds-root x r = finds_both (λ k. record { ad = 0; frame = 0; attr = k }) (λ k. record { ad = 0; frame = 0; attr = k }) (beside.roots x r)

  pub finds-resource : (f : ℕ) (x : List ℕ)
      → Finds M N (found_attribute (attribute_in w (record { ad = 1; frame = f }) x)) (found_attribute (attribute_in v (record { ad = 1; frame = f }) x))
  finds-resource f x = finds_both (λ k. record { ad = 1; frame = f; attr = k }) (λ k. record { ad = 1; frame = f; attr = k }) (named-resource f x)

  pub first-root : (x : List ℕ) → R x
      → Finds M N (first_found w x (in_frame (record { ad = 0; frame = 0 }) ∷ [])) (first_found v x (in_frame (record { ad = 0; frame = 0 }) ∷ []))
  first-root x r = finds_else (finds-root x r) finds_nothing

  first-resource : (hs : List ℕ) (x : List ℕ)
      → Finds M N (first_found w x (map (λ f. in_frame (record { ad = 1; frame = f })) hs))
      (first_found v x (map (λ f. in_frame (record { ad = 1; frame = f })) hs))
  first-resource [] x = finds_nothing
  first-resource (f ∷ hs) x = finds_else (finds-resource f x) (first-resource hs x)

  -- ---- names in expressions of the requests, which stand in frames p and q

  pub label-request : (p q : ℕ)
      → ((x : List ℕ) → R x
      → Finds M N (first_found w x (enclosing w (record { ad = 0; frame = p }))) (first_found v x (enclosing v (record { ad = 0; frame = q }))))
      → (label : Label) → ((y : List ℕ) → Contains (needed_at label) y → R y)
      → FindsAt M N w v (record { ad = 0; frame = p }) (record { ad = 0; frame = q }) label
  label-request p q up (name Scope.Bare x) names =
      finds_along (first_found-append w x (enclosing w (record { ad = 0; frame = p })) (in_frame (record { ad = 1; frame = 0 }) ∷ []))
      (first_found-append v x (enclosing v (record { ad = 0; frame = q })) (in_frame (record { ad = 1; frame = 0 }) ∷ []))
      (finds_else (up x (names x (0, omega arith, refl))) (first-resource (0 ∷ []) x))
  label-request p q up (name Scope.My x) names = first-root x (names x (0, omega arith, refl))
  label-request p q up (name Scope.Target x) names = first-resource (0 ∷ []) x
  label-request p q up (literal lit) names = tt
  label-request p q up (unary op) names = tt
  label-request p q up (binary op) names = tt
  label-request p q up all names = tt
  label-request p q up any names = tt
  label-request p q up choice names = tt
  label-request p q up (select x) names = tt
  label-request p q up subscript names = tt
  label-request p q up (call x) names = tt
  label-request p q up list_node names = tt

  -- ---- names in expressions of the ad

  label-itself : (f : ℕ) (label : Label) → ((y : List ℕ) → Contains (asked_at label) y → R y)
      → FindsAt M N w v (record { ad = 1; frame = f }) (record { ad = 1; frame = f }) label
  label-itself f (name Scope.Bare x) names =
      finds_along (first_found-append w x (enclosing w (record { ad = 1; frame = f })) (in_frame (record { ad = 0; frame = 0 }) ∷ []))
      (first_found-append v x (enclosing v (record { ad = 1; frame = f })) (in_frame (record { ad = 0; frame = 0 }) ∷ []))
      (finds_else (first-resource (enclosing_frames res f) x) (first-root x (names x (0, omega arith, refl))))
  label-itself f (name Scope.My x) names = first-resource (0 ∷ []) x
  label-itself f (name Scope.Target x) names = first-root x (names x (0, omega arith, refl))
  label-itself f (literal lit) names = tt
  label-itself f (unary op) names = tt
  label-itself f (binary op) names = tt
  label-itself f all names = tt
  label-itself f any names = tt
  label-itself f choice names = tt
  label-itself f (select x) names = tt
  label-itself f subscript names = tt
  label-itself f (call x) names = tt
  label-itself f list_node names = tt

  mutual
    tree-itself : (f : ℕ) (t : Tree) → ((y : List ℕ) → Contains (asked_in t) y → R y)
        → TreeAlike M N w v (record { ad = 1; frame = f }) (record { ad = 1; frame = f }) t t
    tree-itself f (node label ts) names =
        nodes (label-itself f label (λ y h. names y (Contains-append_left (asked_at label) (asked_in_all ts) y h)))
        (trees-itself f ts (λ y h. names y (Contains-append_right (asked_at label) (asked_in_all ts) y h)))
    tree-itself f (frame g) names = frames_alike (beside.frames g)

    trees-itself : (f : ℕ) (ts : Trees) → ((y : List ℕ) → Contains (asked_in_all ts) y → R y)
        → TreesAlike M N w v (record { ad = 1; frame = f }) (record { ad = 1; frame = f }) ts ts
    trees-itself f none names = no_trees
    trees-itself f (more t ts) names =
        more_trees (tree-itself f t (λ y h. names y (Contains-append_left (asked_in t) (asked_in_all ts) y h)))
        (trees-itself f ts (λ y h. names y (Contains-append_right (asked_in t) (asked_in_all ts) y h)))

  pub expr-itself : (f k : ℕ) → Both (TreeAlike M N w v (record { ad = 1; frame = f }) (record { ad = 1; frame = f })) (expr_at res f k) (expr_at res f k)
  expr-itself f k = by (expr_at res f k) refl
    where
      by : (o : Option Tree) → expr_at res f k ≡ o → Both (TreeAlike M N w v (record { ad = 1; frame = f }) (record { ad = 1; frame = f })) o o
      by None is = both_none
      by (Some t) is = both_some (tree-itself f t (λ y h. beside.asked y (expr-asked res f k t y is h)))

  -- ---- so the ad is docked to both alike

  pub matched-alike : AreTwinWorlds w v M N → AreMatchedAlike w v
  matched-alike twins = record {
    docks =
        ap (λ b. b && meets_requirement w (record { ad = 1; frame = 0 })) requests
        ∙ ap (λ b. meets_requirement v (record { ad = 0; frame = 0 }) && b) resources;
    rank = rank-same w v M N twins (record { ad = 0; frame = 0 }) (record { ad = 0; frame = 0 })
        (beside.roots (codes "Rank") (beside.weighed (codes "Rank") (2, omega arith, refl)));
    regard = rank-same w v M N twins (record { ad = 1; frame = 0 }) (record { ad = 1; frame = 0 }) (named-resource 0 (codes "Rank"));
  }
    where
      requests : meets_requirement w (record { ad = 0; frame = 0 }) ≡ meets_requirement v (record { ad = 0; frame = 0 })
      requests = meets-same w v M N twins (record { ad = 0; frame = 0 }) (record { ad = 0; frame = 0 })
          (beside.roots (codes "Requirements") (beside.weighed (codes "Requirements") (0, omega arith, refl)))
          (beside.roots (codes "Constraint") (beside.weighed (codes "Constraint") (1, omega arith, refl)))

      resources : meets_requirement w (record { ad = 1; frame = 0 }) ≡ meets_requirement v (record { ad = 1; frame = 0 })
      resources =
          meets-same w v M N twins (record { ad = 1; frame = 0 }) (record { ad = 1; frame = 0 }) (named-resource 0 (codes "Requirements"))
          (named-resource 0 (codes "Constraint"))
