-- Values are light where all literals are.
use Rattle.std.proofs.Common.{◌≡◌, ◌≤◌, ℕ, zero, suc, ℤ, pos, negsuc, Bool, true, false}
use Rattle.std.proofs.Common.{◌&&◌, refl, List, [], ◌∷◌, length, Option, None, Some, IfSome, option_map}
use Rattle.std.proofs.Common.{slice_get, if◌then◌else◌, arith, codes}
use Rattle.std.specs.Prelude.{unwrap_or}
use Rattle.std.specs.Option.{option_and_then, option_map_or}
use Rattle.std.proofs.lemmas.Bool.Decides.{nat_tests}
use Rattle.pool_text.specs.declared.language.AdPlace.{AdPlace}
use Rattle.pool_text.specs.declared.language.Pos.{Pos}
use Rattle.ad_value.specs.Plain.{Plain, undefined, error, boolean, integer, decimal, text, list, ad_at, Plains, no_plains, plain_then, elements, plains_of}
use Rattle.ad_value.specs.Limits.{weight_limit}
use Rattle.ad_value.specs.Logic.{and_is_decided, and_value, or_is_decided, or_value}
use Rattle.ad_value.specs.Operators.{binary_value, unary_value, weights_of}
use Rattle.ad_value.specs.Demands.{all_demanded, chosen, conjunction, disjunction, element, list_value, selected, subscripted}
use Rattle.builtin_funcs.specs.Calls.{call_value, is_known}
use Rattle.builtin_funcs.proofs.AlikeLemmas.{is_single, and-single, binary-single, or-single, unary-single}
use Rattle.builtin_funcs.proofs.WeightLemmas.{bounded_le, call_le}
use Rattle.ad_tree.specs.Tree.{Label, literal, name, unary, binary, all, any, choice, select, subscript, call, Tree, node, frame, Trees, none, more}
use Rattle.ad_tree.specs.Tree.{list as list_node}
use Rattle.ad_tree.specs.Names.{same_name}
use Rattle.eval_scope.specs.declared.found.Found.{Found}
use Rattle.eval_scope.specs.World.{PlainWorld, expr_of, frame_of_attribute, size_at}
use Rattle.eval_scope.specs.Look.{attribute_in, find, found_attribute}
use Rattle.ad_eval.specs.Light.{IsLight, IsWrittenLight, has_light_literals, have_light_literals, is_light_label}
use Rattle.ad_eval.specs.Node.{attribute_value, called, conditional, function_value, named, node_value, sized_ad}
use Rattle.ad_eval.specs.Value.{results_by, value_at, value_by, value_with}

-- a result is light where there is one
abbrev Light : Option Plain → Type 0
Light r = IfSome r IsLight

-- one after another
data AllLight : List (Option Plain) → Type 0 where
  no_more : AllLight []
  and_more : {r : Option Plain} {rs : List (Option Plain)} → Light r → AllLight rs → AllLight (r ∷ rs)

single-light : (v : Plain) → is_single v ≡ true → IsLight v
single-light undefined h = omega arith
single-light error h = omega arith
single-light (boolean b) h = omega arith
single-light (integer n) h = omega arith
single-light (decimal m) h = omega arith
single-light (text bytes) h = absurd (cc)
single-light (list items) h = absurd (cc)
single-light (ad_at place) h = absurd (cc)

error-light : IsLight error
error-light = omega arith

Light-then : (k : Plain → Option Plain) (o : Option Plain) → Light o → ((v : Plain) → IsLight v → Light (k v)) → Light (option_and_then k o)
Light-then k None h others = tt
Light-then k (Some v) h others = others v h

Light-map : (f : Plain → Plain) (o : Option Plain) → ((v : Plain) → IsLight (f v)) → Light (option_map f o)
Light-map f None h = tt
Light-map f (Some v) h = h v

either-light : (b : Bool) (o p : Option Plain) → Light o → Light p → Light (if b then o else p)
either-light true o p h k = h
either-light false o p h k = k

first-true : (a b : Bool) → (a && b) ≡ true → a ≡ true
first-true true b h = refl
first-true false b h = absurd (cc)

second-true : (a b : Bool) → (a && b) ≡ true → b ≡ true
second-true true b h = h
second-true false b h = absurd (cc)

-- ---- operators

conjunction-light : (left : Plain) → IsLight left → {rs : List (Option Plain)} → AllLight rs → Light (conjunction left rs)
conjunction-light left light no_more = light
conjunction-light left light (and_more {r = r} {rs = rs} h others) =
    either-light (and_is_decided left) (Some left) (option_and_then (λ p. conjunction (and_value left p) rs) r) light
    (Light-then (λ p. conjunction (and_value left p) rs) r h
    (λ p k. conjunction-light (and_value left p) (single-light (and_value left p) (and-single left p)) others))

disjunction-light : (left : Plain) → IsLight left → {rs : List (Option Plain)} → AllLight rs → Light (disjunction left rs)
disjunction-light left light no_more = light
disjunction-light left light (and_more {r = r} {rs = rs} h others) =
    either-light (or_is_decided left) (Some left) (option_and_then (λ p. disjunction (or_value left p) rs) r) light
    (Light-then (λ p. disjunction (or_value left p) rs) r h
    (λ p k. disjunction-light (or_value left p) (single-light (or_value left p) (or-single left p)) others))

chosen-light : (a b : Option Plain) (v : Plain) → Light a → Light b → Light (chosen a b v)
chosen-light a b (boolean true) h k = h
chosen-light a b (boolean false) h k = k
chosen-light a b undefined h k = single-light undefined refl
chosen-light a b v h k = error-light

conditional-light : {rs : List (Option Plain)} → AllLight rs → Light (conditional rs)
conditional-light no_more = error-light
conditional-light (and_more h no_more) = error-light
conditional-light (and_more h (and_more k no_more)) = error-light
conditional-light (and_more {r = a} h (and_more {r = b} k (and_more {r = c} l no_more))) =
    Light-then (chosen b c) a h (λ v light. chosen-light b c v k l)
conditional-light (and_more h (and_more k (and_more l (and_more m others)))) = error-light

-- an element weighs less than its list
element-light : (items : Plains) (n : ℕ) → weights_of items ≤ weight_limit → IsLight (unwrap_or (slice_get (elements items) n) error)
element-light no_plains n h = error-light
element-light (plain_then v items) zero h = omega (arith, h)
element-light (plain_then v items) (suc n) h = element-light items n (omega (arith, h))

element_of-light : (items : Plains) (z : ℤ) → IsLight (list items) → IsLight (element items z)
element_of-light items (pos n) h = element-light items n (omega (arith, h))
element_of-light items (negsuc n) h = error-light

module _ (at : Pos → Option Plain) (lights : (s : Pos) → Light (at s)) (w : PlainWorld) where
  named-light : (found : Found) → Light (named at found)
  named-light Found.Nothing = single-light undefined refl
  named-light (Found.Place place) = omega arith
  named-light (Found.Attr s) = lights s

  attribute-light : (place : AdPlace) (x : List ℕ) → Light (attribute_value at w place x)
  attribute-light place x = named-light (found_attribute (attribute_in w place x))

  selected-light : (x : List ℕ) (v : Plain) → Light (selected (attribute_value at w) x v)
  selected-light x (ad_at place) = attribute-light place x
  selected-light x undefined = single-light undefined refl
  selected-light x v = error-light

  subscripted-light : (v i : Plain) → IsLight v → Light (subscripted (attribute_value at w) v i)
  subscripted-light error i h = error-light
  subscripted-light v error h = error-light
  subscripted-light undefined i h = single-light undefined refl
  subscripted-light v undefined h = single-light undefined refl
  subscripted-light (list items) (integer n) h = element_of-light items n h
  subscripted-light (ad_at place) (text x) h = attribute-light place x
  subscripted-light v i h = error-light

  function-light : (x : List ℕ) (args : List Plain) → IsLight (function_value w x args)
  function-light x args = by (sized_ad x args)
    where
      by : (o : Option AdPlace) → IsLight (option_map_or (λ place. integer (pos (size_at w place))) o (call_value x args w.moment))
      by (Some place) = single-light (integer (pos (size_at w place))) refl
      by None = call_le x args w.moment

  called-light : (x : List ℕ) {rs : List (Option Plain)} → AllLight rs → Light (called w x rs)
  called-light x {rs = rs} h =
      either-light (is_known x (length rs)) (if same_name x (codes "ifThenElse") then conditional rs else option_map (function_value w x) (all_demanded rs))
      (Some error)
      (either-light (same_name x (codes "ifThenElse")) (conditional rs) (option_map (function_value w x) (all_demanded rs)) (conditional-light h)
      (demanded (all_demanded rs)))
      error-light
    where
      demanded : (o : Option (List Plain)) → Light (option_map (function_value w x) o)
      demanded None = tt
      demanded (Some args) = function-light x args

  list-light : (o : Option (List Plain)) → Light (option_map list_value o)
  list-light None = tt
  list-light (Some ps) = bounded_le (list (plains_of ps))

  node-light : (p : AdPlace) (label : Label) → is_light_label label ≡ true → {rs : List (Option Plain)} → AllLight rs → Light (node_value at w p label rs)
  node-light p (literal lit) light h = grind (arith, nat_tests, light)
  node-light p (name scope x) light h = named-light (find w p scope x)
  node-light p (unary op) light no_more = error-light
  node-light p (unary op) light (and_more {r = a} h no_more) = Light-map (unary_value op) a (λ v. single-light (unary_value op v) (unary-single op v))
  node-light p (unary op) light (and_more h (and_more k others)) = error-light
  node-light p (binary op) light no_more = error-light
  node-light p (binary op) light (and_more h no_more) = error-light
  node-light p (binary op) light (and_more {r = a} h (and_more {r = b} k no_more)) =
      Light-then (λ v. option_map (binary_value op v) b) a h
      (λ v of_v. Light-map (binary_value op v) b (λ u. single-light (binary_value op v u) (binary-single op v u)))
  node-light p (binary op) light (and_more h (and_more k (and_more l others))) = error-light
  node-light p all light h = conjunction-light (boolean true) (single-light (boolean true) refl) h
  node-light p any light h = disjunction-light (boolean false) (single-light (boolean false) refl) h
  node-light p choice light h = conditional-light h
  node-light p (select x) light no_more = error-light
  node-light p (select x) light (and_more {r = a} h no_more) =
      Light-then (selected (attribute_value at w) x) a h (λ v of_v. selected-light x v)
  node-light p (select x) light (and_more h (and_more k others)) = error-light
  node-light p subscript light no_more = error-light
  node-light p subscript light (and_more h no_more) = error-light
  node-light p subscript light (and_more {r = a} h (and_more {r = b} k no_more)) =
      Light-then (λ v. option_and_then (subscripted (attribute_value at w) v) b) a h
      (λ v of_v. Light-then (subscripted (attribute_value at w) v) b k (λ i of_i. subscripted-light v i of_v))
  node-light p subscript light (and_more h (and_more k (and_more l others))) = error-light
  node-light p (call x) light h = called-light x h
  node-light p list_node light {rs = rs} h = list-light (all_demanded rs)

  mutual
    value_by-light : (p : AdPlace) (t : Tree) → has_light_literals t ≡ true → Light (value_by at w p t)
    value_by-light p (node label ts) light =
        node-light p label (first-true (is_light_label label) (have_light_literals ts) light)
        (results_by-light p ts (second-true (is_light_label label) (have_light_literals ts) light))
    value_by-light p (frame f) light = omega arith

    results_by-light : (p : AdPlace) (ts : Trees) → have_light_literals ts ≡ true → AllLight (results_by at w p ts)
    results_by-light p none light = no_more
    results_by-light p (more t ts) light =
        and_more (value_by-light p t (first-true (has_light_literals t) (have_light_literals ts) light))
        (results_by-light p ts (second-true (has_light_literals t) (have_light_literals ts) light))

-- ---- attributes, and expressions

module _ (w : PlainWorld) (written : IsWrittenLight w) where
  pub value_at-light : (n : ℕ) (s : Pos) → IfSome (value_at n w s) IsLight
  unfolding value_at
  value_at-light zero s = tt
  value_at-light (suc n) s = by (value_at n w) (value_at-light n) (expr_of w s) (written s)
    where
      by : (at : Pos → Option Plain) → ((q : Pos) → Light (at q)) → (o : Option Tree) → IfSome o (λ t. has_light_literals t ≡ true)
          → Light (option_and_then (value_by at w (frame_of_attribute s)) o)
      by at lights None light = tt
      by at lights (Some t) light = value_by-light at lights w (frame_of_attribute s) t light

  pub value_with-light : (n : ℕ) (p : AdPlace) (t : Tree) → has_light_literals t ≡ true → IfSome (value_with n w p t) IsLight
  value_with-light n p t light = value_by-light (value_at n w) (value_at-light n) w p t light

-- a value is light, and so is Error in the place of none
pub light-or_error : (o : Option Plain) → IfSome o IsLight → IsLight (unwrap_or o error)
light-or_error None h = error-light
light-or_error (Some v) h = h
