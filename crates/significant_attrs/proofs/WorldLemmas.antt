-- Two worlds in which expressions have values that are the same up to the places of ads.
use Rattle.std.proofs.Common.{◌≡◌, ℕ, zero, suc, Bool, true, false, cond, pos, List, length, Option, None, Some, option_map, codes, refl, ap}
use Rattle.std.specs.Option.{option_and_then, option_map_or, option_or}
use Rattle.pool_text.specs.declared.language.AdPlace.{AdPlace}
use Rattle.pool_text.specs.declared.language.Lit.{Lit}
use Rattle.pool_text.specs.declared.language.Pos.{Pos}
use Rattle.ad_value.specs.Plain.{Plain, error, integer, plain_of_lit}
use Rattle.ad_value.specs.Logic.{is_true}
use Rattle.ad_value.specs.Operators.{binary_value, unary_value}
use Rattle.ad_value.specs.Demands.{all_demanded, chosen, list_value, selected, subscripted}
use Rattle.builtin_funcs.specs.Calls.{call_value, is_known}
use Rattle.builtin_funcs.proofs.AlikeLemmas.{Both, both_none, both_some, Both-map, Both-then, Both-unwrap, Each, no_items, more_items, Each-length, Alike}
use Rattle.builtin_funcs.proofs.AlikeLemmas.{undefineds, errors, booleans, lists, places, IsOneToOne, LookAlike, is_flat, flat-alike, binary_value-alike}
use Rattle.builtin_funcs.proofs.AlikeLemmas.{chosen-alike, conjunction-alike, demanded-alike, disjunction-alike, list_value-alike, selected-alike}
use Rattle.builtin_funcs.proofs.AlikeLemmas.{subscripted-alike, unary_value-alike}
use Rattle.builtin_funcs.proofs.AlikeRowLemmas.{call-alike}
use Rattle.ad_tree.specs.Names.{same_name}
use Rattle.ad_tree.specs.Special.{attribute_named}
use Rattle.ad_tree.specs.Tree.{Label, literal, name, unary, binary, all, any, choice, select, subscript, call, Tree, node, frame, Trees, none, more}
use Rattle.ad_tree.specs.Tree.{list as list_node}
use Rattle.eval_scope.specs.declared.found.Found.{Found}
use Rattle.eval_scope.specs.Look.{attribute_in, find, found_attribute, or_else}
use Rattle.eval_scope.specs.World.{PlainWorld, expr_of, frame_of_attribute, frames_of_ad, size_at}
use Rattle.ad_eval.specs.Dock.{attribute_of, meets_requirement, rank_by, rank_number}
use Rattle.ad_eval.specs.Node.{attribute_value, called, conditional, function_value, named, node_value, only_ad}
use Rattle.ad_eval.specs.Value.{evaluation_at, references, results_by, value_at, value_by}

-- ---- what is related; M relates places and N attributes of the two worlds

pub data Finds (M : AdPlace → AdPlace → Type 0) (N : Pos → Pos → Type 0) : Found → Found → Type 0 where
  finds_nothing : Finds M N Found.Nothing Found.Nothing
  finds_places : {p q : AdPlace} → M p q → Finds M N (Found.Place p) (Found.Place q)
  finds_attributes : {s t : Pos} → N s t → Finds M N (Found.Attr s) (Found.Attr t)

pub finds_along : {M : AdPlace → AdPlace → Type 0} {N : Pos → Pos → Type 0} {a b c d : Found} → c ≡ a → d ≡ b → Finds M N a b
    → Finds M N c d
finds_along one other h = rw (one, other) h

pub finds_both : {M : AdPlace → AdPlace → Type 0} {N : Pos → Pos → Type 0} (P Q : ℕ → Pos) {o p : Option ℕ} → Both (λ k l. N (P k) (Q l)) o p
    → Finds M N (found_attribute (option_map P o)) (found_attribute (option_map Q p))
finds_both P Q both_none = finds_nothing
finds_both P Q (both_some h) = finds_attributes h

pub finds_else : {M : AdPlace → AdPlace → Type 0} {N : Pos → Pos → Type 0} {a b c d : Found} → Finds M N a b → Finds M N c d
    → Finds M N (or_else a c) (or_else b d)
finds_else finds_nothing k = k
finds_else (finds_places m) k = finds_places m
finds_else (finds_attributes n) k = finds_attributes n

-- a name finds related things from p and from q
abbrev pub FindsAt : (AdPlace → AdPlace → Type 0) → (Pos → Pos → Type 0) → PlainWorld → PlainWorld → AdPlace → AdPlace → Label → Type 0
FindsAt M N w v p q (name scope x) = Finds M N (find w p scope x) (find v q scope x)
FindsAt M N w v p q label = Unit {0}

-- trees that stand at p and at q differ in the numbers of frames alone, which are related, and their names find related things
mutual
  pub data TreeAlike (M : AdPlace → AdPlace → Type 0) (N : Pos → Pos → Type 0) (w v : PlainWorld) (p q : AdPlace) : Tree → Tree → Type 0 where
    nodes : {label : Label} {ts us : Trees} → FindsAt M N w v p q label → TreesAlike M N w v p q ts us
        → TreeAlike M N w v p q (node label ts) (node label us)
    frames_alike : {f g : ℕ} → M (record { ad = p.ad; frame = f }) (record { ad = q.ad; frame = g }) → TreeAlike M N w v p q (frame f) (frame g)

  pub data TreesAlike (M : AdPlace → AdPlace → Type 0) (N : Pos → Pos → Type 0) (w v : PlainWorld) (p q : AdPlace) : Trees → Trees → Type 0 where
    no_trees : TreesAlike M N w v p q none none
    more_trees : {t u : Tree} {ts us : Trees} → TreeAlike M N w v p q t u → TreesAlike M N w v p q ts us → TreesAlike M N w v p q (more t ts) (more u us)

pub record AreTwinWorlds (w v : PlainWorld) (M : AdPlace → AdPlace → Type 0) (N : Pos → Pos → Type 0) : Type 0 where
  pub moments : w.moment ≡ v.moment
  pub one_to_one : IsOneToOne M
  pub sizes : (p q : AdPlace) → M p q → size_at w p ≡ size_at v q
  pub within : (p q : AdPlace) → M p q → (x : List ℕ) → Finds M N (found_attribute (attribute_in w p x)) (found_attribute (attribute_in v q x))
  pub exprs : (s t : Pos) → N s t → Both (TreeAlike M N w v (frame_of_attribute s) (frame_of_attribute t)) (expr_of w s) (expr_of v t)

-- ---- values

literal-flat : (lit : Lit) → is_flat (plain_of_lit lit) ≡ true
literal-flat Lit.Undefined = refl
literal-flat Lit.Error = refl
literal-flat (Lit.Boolean b) = refl
literal-flat (Lit.Integer n) = refl
literal-flat (Lit.Decimal m) = refl
literal-flat (Lit.Str bytes) = refl

only_ad-alike : {M : AdPlace → AdPlace → Type 0} {vs ws : List Plain} → Each (Alike M) vs ws → Both M (only_ad vs) (only_ad ws)
only_ad-alike no_items = both_none
only_ad-alike (more_items (places h) no_items) = both_some h
only_ad-alike (more_items h no_items) = both_none
only_ad-alike (more_items (places h) (more_items k ks)) = both_none
only_ad-alike (more_items h (more_items k ks)) = both_none

conditional-alike : {M : AdPlace → AdPlace → Type 0} {rs qs : List (Option Plain)} → Each (Both (Alike M)) rs qs
    → Both (Alike M) (conditional rs) (conditional qs)
conditional-alike no_items = both_some errors
conditional-alike (more_items h no_items) = both_some errors
conditional-alike (more_items h (more_items k no_items)) = both_some errors
conditional-alike {M} (more_items h (more_items {a = a} {b = b} k (more_items {a = c} {b = d} l no_items))) =
    Both-then (Alike M) (chosen a c) (chosen b d) (λ v w m. chosen-alike k l m) h
conditional-alike (more_items h (more_items k (more_items l (more_items m others)))) = both_some errors

-- the same sum for both where the same was found
either-alike : {M : AdPlace → AdPlace → Type 0} {o p : Option AdPlace} {v w : Plain} (f g : AdPlace → Plain)
    → ((a b : AdPlace) → M a b → Alike M (f a) (g b)) → Both M o p → Alike M v w
    → Alike M (option_map_or f o v) (option_map_or g p w)
either-alike f g h both_none k = k
either-alike f g h (both_some {a = a} {b = b} m) k = h a b m

module _ (w v : PlainWorld) (M : AdPlace → AdPlace → Type 0) (N : Pos → Pos → Type 0) (twins : AreTwinWorlds w v M N) where
  function_value-alike : (x : List ℕ) {vs ws : List Plain} → Each (Alike M) vs ws → Alike M (function_value w x vs) (function_value v x ws)
  function_value-alike x {vs} {ws} hs = by (same_name x (codes "size"))
    where
      moments-alike : Alike M (call_value x vs w.moment) (call_value x ws v.moment)
      moments-alike = rw twins.moments (call-alike twins.one_to_one x v.moment hs)

      chosen_ad : (b : Bool) → Both M (cond b (only_ad vs) None) (cond b (only_ad ws) None)
      chosen_ad true = only_ad-alike hs
      chosen_ad false = both_none

      by : (b : Bool) → Alike M (option_map_or (λ p. integer (pos (size_at w p))) (cond b (only_ad vs) None) (call_value x vs w.moment))
          (option_map_or (λ q. integer (pos (size_at v q))) (cond b (only_ad ws) None) (call_value x ws v.moment))
      by b = either-alike (λ p. integer (pos (size_at w p))) (λ q. integer (pos (size_at v q)))
          (λ p q m. flat-alike (integer (pos (size_at w p))) (integer (pos (size_at v q))) refl (ap (λ n. integer (pos n)) (twins.sizes p q m))) (chosen_ad b)
          moments-alike

  called-alike : (x : List ℕ) {rs qs : List (Option Plain)} → Each (Both (Alike M)) rs qs → Both (Alike M) (called w x rs) (called v x qs)
  called-alike x {rs} {qs} hs = by (is_known x (length rs)) (is_known x (length qs)) (ap (is_known x) (Each-length hs)) (same_name x (codes "ifThenElse"))
    where
      by : (a b : Bool) → a ≡ b → (c : Bool)
          → Both (Alike M) (cond a (cond c (conditional rs) (option_map (function_value w x) (all_demanded rs))) (Some error))
          (cond b (cond c (conditional qs) (option_map (function_value v x) (all_demanded qs))) (Some error))
      by true true same true = conditional-alike hs
      by true true same false = Both-map (Alike M) (function_value w x) (function_value v x) (λ vs ws k. function_value-alike x k) (demanded-alike hs)
      by true false same c = absurd (cc)
      by false true same c = absurd (cc)
      by false false same c = both_some errors

  module _ (at later : Pos → Option Plain) (values : (s t : Pos) → N s t → Both (Alike M) (at s) (later t)) where
    named-alike : {f g : Found} → Finds M N f g → Both (Alike M) (named at f) (named later g)
    named-alike finds_nothing = both_some undefineds
    named-alike (finds_places m) = both_some (places m)
    named-alike (finds_attributes {s = s} {t = t} n) = values s t n

    look-alike : LookAlike M (attribute_value at w) (attribute_value later v)
    look-alike p q m x = named-alike (twins.within p q m x)

    node-alike : (p q : AdPlace) (label : Label) → FindsAt M N w v p q label → {rs qs : List (Option Plain)} → Each (Both (Alike M)) rs qs
        → Both (Alike M) (node_value at w p label rs) (node_value later v q label qs)
    node-alike p q (literal lit) f h = both_some (flat-alike (plain_of_lit lit) (plain_of_lit lit) (literal-flat lit) refl)
    node-alike p q (name scope x) f h = named-alike f
    node-alike p q (unary op) f no_items = both_some errors
    node-alike p q (unary op) f (more_items h no_items) = Both-map (Alike M) (unary_value op) (unary_value op) (λ a b k. unary_value-alike op k) h
    node-alike p q (unary op) f (more_items h (more_items k others)) = both_some errors
    node-alike p q (binary op) f no_items = both_some errors
    node-alike p q (binary op) f (more_items h no_items) = both_some errors
    node-alike p q (binary op) f (more_items h (more_items {a = r} {b = s} k no_items)) =
        Both-then (Alike M) (λ x. option_map (binary_value op x) r) (λ x. option_map (binary_value op x) s)
        (λ a b l. Both-map (Alike M) (binary_value op a) (binary_value op b) (λ c d m. binary_value-alike twins.one_to_one op l m) k) h
    node-alike p q (binary op) f (more_items h (more_items k (more_items l others))) = both_some errors
    node-alike p q all f h = conjunction-alike (booleans true) h
    node-alike p q any f h = disjunction-alike (booleans false) h
    node-alike p q choice f h = conditional-alike h
    node-alike p q (select x) f no_items = both_some errors
    node-alike p q (select x) f (more_items h no_items) =
        Both-then (Alike M) (selected (attribute_value at w) x) (selected (attribute_value later v) x)
        (λ a b k. selected-alike (attribute_value at w) (attribute_value later v) look-alike x k) h
    node-alike p q (select x) f (more_items h (more_items k others)) = both_some errors
    node-alike p q subscript f no_items = both_some errors
    node-alike p q subscript f (more_items h no_items) = both_some errors
    node-alike p q subscript f (more_items h (more_items {a = r} {b = s} k no_items)) =
        Both-then (Alike M) (λ x. option_and_then (subscripted (attribute_value at w) x) r) (λ x. option_and_then (subscripted (attribute_value later v) x) s)
        (λ a b l. Both-then (Alike M) (subscripted (attribute_value at w) a) (subscripted (attribute_value later v) b)
        (λ c d m. subscripted-alike (attribute_value at w) (attribute_value later v) look-alike l m) k) h
    node-alike p q subscript f (more_items h (more_items k (more_items l others))) = both_some errors
    node-alike p q (call x) f h = called-alike x h
    node-alike p q list_node f h = Both-map (Alike M) list_value list_value (λ vs ws k. list_value-alike k) (demanded-alike h)

    mutual
      tree-alike : {p q : AdPlace} {t u : Tree} → TreeAlike M N w v p q t u → Both (Alike M) (value_by at w p t) (value_by later v q u)
      tree-alike {p} {q} (nodes {label = label} f hs) = node-alike p q label f (trees-alike hs)
      tree-alike (frames_alike m) = both_some (places m)

      trees-alike : {p q : AdPlace} {ts us : Trees} → TreesAlike M N w v p q ts us → Each (Both (Alike M)) (results_by at w p ts) (results_by later v q us)
      trees-alike no_trees = no_items
      trees-alike (more_trees h hs) = more_items (tree-alike h) (trees-alike hs)

  -- related attributes have values that are alike, with any number of references
  value_at-alike : (n : ℕ) (s t : Pos) → N s t → Both (Alike M) (value_at n w s) (value_at n v t)
  unfolding value_at
  value_at-alike zero s t h = both_none
  value_at-alike (suc n) s t h =
      Both-then (Alike M) (value_by (value_at n w) w (frame_of_attribute s)) (value_by (value_at n v) v (frame_of_attribute t))
      (λ a b k. tree-alike (value_at n w) (value_at n v) (value_at-alike n) k) (twins.exprs s t h)

  evaluation-alike : (s t : Pos) → N s t → Alike M (evaluation_at w s) (evaluation_at v t)
  evaluation-alike s t h = Both-unwrap error error errors (value_at-alike references s t h)

  -- ---- requirements and ranks, where the special attributes of two frames are related

  truth-same : {a b : Plain} → Alike M a b → is_true a ≡ is_true b
  truth-same (lists hs) = refl
  truth-same (places h) = refl
  truth-same h = refl

  number-same : {a b : Plain} → Alike M a b → rank_number a ≡ rank_number b
  number-same (lists hs) = refl
  number-same (places h) = refl
  number-same h = refl

  either-both : {R : ℕ → ℕ → Type 0} {a b c d : Option ℕ} → Both R a b → Both R c d → Both R (option_or a c) (option_or b d)
  either-both both_none k = k
  either-both (both_some r) k = both_some r

  by_attribute : {A : Type 0} {p q : AdPlace} {k l : Option ℕ} (f : Plain → A) (d : A) → ((a b : Plain) → Alike M a b → f a ≡ f b)
      → Both (λ k l. N (attribute_of p k) (attribute_of q l)) k l
      → option_map_or (λ k. f (evaluation_at w (attribute_of p k))) k d ≡ option_map_or (λ l. f (evaluation_at v (attribute_of q l))) l d
  by_attribute f d same both_none = refl
  by_attribute {p = p} {q = q} f d same (both_some {a = k} {b = l} n) = same _ _ (evaluation-alike (attribute_of p k) (attribute_of q l) n)

  -- a name has related attributes in the frames at p and q
  abbrev pub AreNamed : AdPlace → AdPlace → List ℕ → Type 0
  AreNamed p q x =
      Both (λ k l. N (attribute_of p k) (attribute_of q l)) (attribute_named (frames_of_ad w p.ad) p.frame x) (attribute_named (frames_of_ad v q.ad) q.frame x)

  pub meets-same : (p q : AdPlace) → AreNamed p q (codes "Requirements") → AreNamed p q (codes "Constraint")
      → meets_requirement w p ≡ meets_requirement v q
  meets-same p q h k = by_attribute is_true false (λ a b h. truth-same h) (either-both h k)

  pub rank-same : (p q : AdPlace) → AreNamed p q (codes "Rank") → rank_by w p ≡ rank_by v q
  rank-same p q h = by_attribute rank_number (pos 0) (λ a b k. number-same k) h
