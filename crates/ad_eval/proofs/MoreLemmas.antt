-- More references never change a value that there is.
use Rattle.std.proofs.Common.{◌≡◌, ◌≤◌, ◌+◌, ◌-◌, ℕ, zero, suc, Bool, true, false, refl, List, [], ◌∷◌, length, Option, None, Some, option_map, if◌then◌else◌}
use Rattle.std.proofs.Common.{ap, sym, ◌∙◌, arith, codes}
use Rattle.std.specs.Option.{option_and_then}
use Rattle.pool_text.specs.declared.language.AdPlace.{AdPlace}
use Rattle.pool_text.specs.declared.language.Pos.{Pos}
use Rattle.ad_value.specs.Plain.{Plain, undefined, error, boolean, integer, decimal, text, list, ad_at}
use Rattle.ad_value.specs.Logic.{and_is_decided, and_value, or_is_decided, or_value}
use Rattle.ad_value.specs.Operators.{binary_value, unary_value}
use Rattle.ad_value.specs.Demands.{all_demanded, chosen, conjunction, disjunction, list_value, selected, subscripted}
use Rattle.builtin_funcs.specs.Calls.{is_known}
use Rattle.ad_tree.specs.Tree.{Label, literal, name, unary, binary, all, any, choice, select, subscript, call, Tree, node, frame, Trees, none, more}
use Rattle.ad_tree.specs.Tree.{list as list_node}
use Rattle.ad_tree.specs.Names.{same_name}
use Rattle.eval_scope.specs.declared.found.Found.{Found}
use Rattle.eval_scope.specs.World.{PlainWorld, expr_of, frame_of_attribute}
use Rattle.eval_scope.specs.Look.{attribute_in, find, found_attribute}
use Rattle.ad_eval.specs.Node.{attribute_value, called, conditional, function_value, named, node_value}
use Rattle.ad_eval.specs.Value.{results_by, value_at, value_by, value_with}

-- the second has the first's value, where the first has one
abbrev pub Below : {A : Type 0} → Option A → Option A → Type 0
Below {A} o p = (v : A) → o ≡ Some v → p ≡ Some v

Below-itself : {A : Type 0} (o : Option A) → Below o o
Below-itself o v e = e

Below-None : {A : Type 0} (p : Option A) → Below None p
Below-None p v e = absurd (cc)

Below-then : {A B : Type 0} (k l : A → Option B) (o p : Option A) → Below o p → ((v : A) → Below (k v) (l v))
    → Below (option_and_then k o) (option_and_then l p)
Below-then k l None p h others u e = absurd (cc)
Below-then k l (Some v) p h others u e = ap (option_and_then l) (h v refl) ∙ others v u e

Below-map : {A B : Type 0} (f : A → B) (o p : Option A) → Below o p → Below (option_map f o) (option_map f p)
Below-map f None p h u e = absurd (cc)
Below-map f (Some v) p h u e = ap (option_map f) (h v refl) ∙ e

-- one by one
data AllBelow : List (Option Plain) → List (Option Plain) → Type 0 where
  no_more : AllBelow [] []
  and_more : {r q : Option Plain} {rs qs : List (Option Plain)} → Below r q → AllBelow rs qs → AllBelow (r ∷ rs) (q ∷ qs)

AllBelow-length : {rs qs : List (Option Plain)} → AllBelow rs qs → length rs ≡ length qs
AllBelow-length no_more = refl
AllBelow-length (and_more h others) = ap suc (AllBelow-length others)

demanded-below : {rs qs : List (Option Plain)} → AllBelow rs qs → Below (all_demanded rs) (all_demanded qs)
demanded-below no_more = Below-itself (Some [])
demanded-below (and_more {r = r} {q = q} {rs = rs} {qs = qs} h others) =
    Below-then (λ p. option_map (λ ps. p ∷ ps) (all_demanded rs)) (λ p. option_map (λ ps. p ∷ ps) (all_demanded qs)) r q h
    (λ p. Below-map (λ ps. p ∷ ps) (all_demanded rs) (all_demanded qs) (demanded-below others))

either-below : {A : Type 0} (b : Bool) (x o p : Option A) → Below o p → Below (if b then x else o) (if b then x else p)
either-below true x o p h = Below-itself x
either-below false x o p h = h

conjunction-below : (left : Plain) {rs qs : List (Option Plain)} → AllBelow rs qs → Below (conjunction left rs) (conjunction left qs)
conjunction-below left no_more = Below-itself (Some left)
conjunction-below left (and_more {r = r} {q = q} {rs = rs} {qs = qs} h others) =
    either-below (and_is_decided left) (Some left) (option_and_then (λ p. conjunction (and_value left p) rs) r)
    (option_and_then (λ p. conjunction (and_value left p) qs) q)
    (Below-then (λ p. conjunction (and_value left p) rs) (λ p. conjunction (and_value left p) qs) r q h (λ p. conjunction-below (and_value left p) others))

disjunction-below : (left : Plain) {rs qs : List (Option Plain)} → AllBelow rs qs → Below (disjunction left rs) (disjunction left qs)
disjunction-below left no_more = Below-itself (Some left)
disjunction-below left (and_more {r = r} {q = q} {rs = rs} {qs = qs} h others) =
    either-below (or_is_decided left) (Some left) (option_and_then (λ p. disjunction (or_value left p) rs) r)
    (option_and_then (λ p. disjunction (or_value left p) qs) q)
    (Below-then (λ p. disjunction (or_value left p) rs) (λ p. disjunction (or_value left p) qs) r q h (λ p. disjunction-below (or_value left p) others))

chosen-below : (a b c d : Option Plain) (v : Plain) → Below a c → Below b d → Below (chosen a b v) (chosen c d v)
chosen-below a b c d undefined h k = Below-itself (Some undefined)
chosen-below a b c d error h k = Below-itself (Some error)
chosen-below a b c d (boolean true) h k = h
chosen-below a b c d (boolean false) h k = k
chosen-below a b c d (integer n) h k = Below-itself (Some error)
chosen-below a b c d (decimal m) h k = Below-itself (Some error)
chosen-below a b c d (text bytes) h k = Below-itself (Some error)
chosen-below a b c d (list items) h k = Below-itself (Some error)
chosen-below a b c d (ad_at place) h k = Below-itself (Some error)

conditional-below : {rs qs : List (Option Plain)} → AllBelow rs qs → Below (conditional rs) (conditional qs)
conditional-below no_more = Below-itself (Some error)
conditional-below (and_more h no_more) = Below-itself (Some error)
conditional-below (and_more h (and_more k no_more)) = Below-itself (Some error)
conditional-below (and_more {r = a} {q = x} h (and_more {r = b} {q = y} k (and_more {r = c} {q = z} l no_more))) =
    Below-then (chosen b c) (chosen y z) a x h (λ v. chosen-below b c y z v k l)
conditional-below (and_more h (and_more k (and_more l (and_more m others)))) = Below-itself (Some error)

module _ (at later : Pos → Option Plain) (above : (s : Pos) → Below (at s) (later s)) (w : PlainWorld) where
  named-below : (found : Found) → Below (named at found) (named later found)
  named-below Found.Nothing = Below-itself (Some undefined)
  named-below (Found.Place place) = Below-itself (Some (ad_at place))
  named-below (Found.Attr s) = above s

  attribute-below : (place : AdPlace) (x : List ℕ) → Below (attribute_value at w place x) (attribute_value later w place x)
  attribute-below place x = named-below (found_attribute (attribute_in w place x))

  selected-below : (x : List ℕ) (v : Plain) → Below (selected (attribute_value at w) x v) (selected (attribute_value later w) x v)
  selected-below x undefined = Below-itself (Some undefined)
  selected-below x error = Below-itself (Some error)
  selected-below x (boolean b) = Below-itself (Some error)
  selected-below x (integer n) = Below-itself (Some error)
  selected-below x (decimal m) = Below-itself (Some error)
  selected-below x (text bytes) = Below-itself (Some error)
  selected-below x (list items) = Below-itself (Some error)
  selected-below x (ad_at place) = attribute-below place x

  subscripted-below : (v i : Plain) → Below (subscripted (attribute_value at w) v i) (subscripted (attribute_value later w) v i)
  subscripted-below error i = λ u e. e
  subscripted-below undefined undefined = λ u e. e
  subscripted-below undefined error = λ u e. e
  subscripted-below undefined (boolean b) = λ u e. e
  subscripted-below undefined (integer n) = λ u e. e
  subscripted-below undefined (decimal n) = λ u e. e
  subscripted-below undefined (text bytes) = λ u e. e
  subscripted-below undefined (list items) = λ u e. e
  subscripted-below undefined (ad_at place) = λ u e. e
  subscripted-below (boolean b) undefined = λ u e. e
  subscripted-below (boolean b) error = λ u e. e
  subscripted-below (boolean b) (boolean c) = λ u e. e
  subscripted-below (boolean b) (integer n) = λ u e. e
  subscripted-below (boolean b) (decimal n) = λ u e. e
  subscripted-below (boolean b) (text bytes) = λ u e. e
  subscripted-below (boolean b) (list items) = λ u e. e
  subscripted-below (boolean b) (ad_at place) = λ u e. e
  subscripted-below (integer m) undefined = λ u e. e
  subscripted-below (integer m) error = λ u e. e
  subscripted-below (integer m) (boolean c) = λ u e. e
  subscripted-below (integer m) (integer n) = λ u e. e
  subscripted-below (integer m) (decimal n) = λ u e. e
  subscripted-below (integer m) (text bytes) = λ u e. e
  subscripted-below (integer m) (list items) = λ u e. e
  subscripted-below (integer m) (ad_at place) = λ u e. e
  subscripted-below (decimal m) undefined = λ u e. e
  subscripted-below (decimal m) error = λ u e. e
  subscripted-below (decimal m) (boolean c) = λ u e. e
  subscripted-below (decimal m) (integer n) = λ u e. e
  subscripted-below (decimal m) (decimal n) = λ u e. e
  subscripted-below (decimal m) (text bytes) = λ u e. e
  subscripted-below (decimal m) (list items) = λ u e. e
  subscripted-below (decimal m) (ad_at place) = λ u e. e
  subscripted-below (text t) undefined = λ u e. e
  subscripted-below (text t) error = λ u e. e
  subscripted-below (text t) (boolean c) = λ u e. e
  subscripted-below (text t) (integer n) = λ u e. e
  subscripted-below (text t) (decimal n) = λ u e. e
  subscripted-below (text t) (text bytes) = λ u e. e
  subscripted-below (text t) (list items) = λ u e. e
  subscripted-below (text t) (ad_at place) = λ u e. e
  subscripted-below (list l) undefined = λ u e. e
  subscripted-below (list l) error = λ u e. e
  subscripted-below (list l) (boolean c) = λ u e. e
  subscripted-below (list l) (integer n) = λ u e. e
  subscripted-below (list l) (decimal n) = λ u e. e
  subscripted-below (list l) (text bytes) = λ u e. e
  subscripted-below (list l) (list items) = λ u e. e
  subscripted-below (list l) (ad_at place) = λ u e. e
  subscripted-below (ad_at p) undefined = λ u e. e
  subscripted-below (ad_at p) error = λ u e. e
  subscripted-below (ad_at p) (boolean c) = λ u e. e
  subscripted-below (ad_at p) (integer n) = λ u e. e
  subscripted-below (ad_at p) (decimal n) = λ u e. e
  subscripted-below (ad_at p) (text bytes) = attribute-below p bytes
  subscripted-below (ad_at p) (list items) = λ u e. e
  subscripted-below (ad_at p) (ad_at place) = λ u e. e

  called-below : (x : List ℕ) {rs qs : List (Option Plain)} → AllBelow rs qs → Below (called w x rs) (called w x qs)
  called-below x {rs = rs} {qs = qs} h =
      by (is_known x (length rs)) (is_known x (length qs)) (ap (is_known x) (AllBelow-length h)) (same_name x (codes "ifThenElse"))
    where
      by : (a b : Bool) → a ≡ b → (c : Bool)
          → Below (if a then if c then conditional rs else option_map (function_value w x) (all_demanded rs) else Some error)
          (if b then if c then conditional qs else option_map (function_value w x) (all_demanded qs) else Some error)
      by true true same true = conditional-below h
      by true true same false = Below-map (function_value w x) (all_demanded rs) (all_demanded qs) (demanded-below h)
      by true false same c = absurd (cc)
      by false true same c = absurd (cc)
      by false false same c = Below-itself (Some error)

  node-below : (p : AdPlace) (label : Label) {rs qs : List (Option Plain)} → AllBelow rs qs → Below (node_value at w p label rs) (node_value later w p label qs)
  node-below p (literal lit) h = λ u e. e
  node-below p (name scope x) h = named-below (find w p scope x)
  node-below p (unary op) no_more = λ u e. e
  node-below p (unary op) (and_more {r = a} {q = x} h no_more) = Below-map (unary_value op) a x h
  node-below p (unary op) (and_more h (and_more k others)) = λ u e. e
  node-below p (binary op) no_more = λ u e. e
  node-below p (binary op) (and_more h no_more) = λ u e. e
  node-below p (binary op) (and_more {r = a} {q = x} h (and_more {r = b} {q = y} k no_more)) =
      Below-then (λ v. option_map (binary_value op v) b) (λ v. option_map (binary_value op v) y) a x h (λ v. Below-map (binary_value op v) b y k)
  node-below p (binary op) (and_more h (and_more k (and_more l others))) = λ u e. e
  node-below p all h = conjunction-below (boolean true) h
  node-below p any h = disjunction-below (boolean false) h
  node-below p choice h = conditional-below h
  node-below p (select x) no_more = λ u e. e
  node-below p (select x) (and_more {r = a} {q = y} h no_more) =
      Below-then (selected (attribute_value at w) x) (selected (attribute_value later w) x) a y h (λ v. selected-below x v)
  node-below p (select x) (and_more h (and_more k others)) = λ u e. e
  node-below p subscript no_more = λ u e. e
  node-below p subscript (and_more h no_more) = λ u e. e
  node-below p subscript (and_more {r = a} {q = x} h (and_more {r = b} {q = y} k no_more)) =
      Below-then (λ v. option_and_then (subscripted (attribute_value at w) v) b) (λ v. option_and_then (subscripted (attribute_value later w) v) y) a x h
      (λ v. Below-then (subscripted (attribute_value at w) v) (subscripted (attribute_value later w) v) b y k (λ i. subscripted-below v i))
  node-below p subscript (and_more h (and_more k (and_more l others))) = λ u e. e
  node-below p (call x) h = called-below x h
  node-below p list_node {rs = rs} {qs = qs} h = Below-map list_value (all_demanded rs) (all_demanded qs) (demanded-below h)

  mutual
    tree-below : (p : AdPlace) (t : Tree) → Below (value_by at w p t) (value_by later w p t)
    tree-below p (node label ts) = node-below p label (trees-below p ts)
    tree-below p (frame f) = λ u e. e

    trees-below : (p : AdPlace) (ts : Trees) → AllBelow (results_by at w p ts) (results_by later w p ts)
    trees-below p none = no_more
    trees-below p (more t ts) = and_more (tree-below p t) (trees-below p ts)

-- one reference more
value_at-below : (w : PlainWorld) (n : ℕ) (s : Pos) → Below (value_at n w s) (value_at (suc n) w s)
unfolding value_at
value_at-below w zero s = Below-None (value_at 1 w s)
value_at-below w (suc n) s =
    Below-then (value_by (value_at n w) w (frame_of_attribute s)) (value_by (value_at (suc n) w) w (frame_of_attribute s)) (expr_of w s) (expr_of w s)
    (Below-itself (expr_of w s))
    (λ t. tree-below (value_at n w) (value_at (suc n) w) (value_at-below w n) w (frame_of_attribute s) t)

-- any number more
steps_up : {A : Type 0} (f : ℕ → Option A) → ((n : ℕ) → Below (f n) (f (suc n))) → (n d : ℕ) → Below (f n) (f (n + d))
steps_up f one n zero v e = let same : n ≡ n + 0 = omega arith in ap f (sym same) ∙ e
steps_up f one n (suc d) v e = let same : suc (n + d) ≡ n + suc d = omega arith in ap f (sym same) ∙ one (n + d) v (steps_up f one n d v e)

up_to : {A : Type 0} (f : ℕ → Option A) → ((n : ℕ) → Below (f n) (f (suc n))) → (n m : ℕ) → n ≤ m → Below (f n) (f m)
up_to f one n m le v e = let same : n + (m - n) ≡ m = omega arith in ap f (sym same) ∙ steps_up f one n (m - n) v e

-- a value at n references is the value at every greater number
pub value_at-more_references : (w : PlainWorld) (s : Pos) (n m : ℕ) (v : Plain) → n ≤ m → value_at n w s ≡ Some v → value_at m w s ≡ Some v
value_at-more_references w s n m v le e = up_to (λ k. value_at k w s) (λ k. value_at-below w k s) n m le v e

pub value_with-more_references : (w : PlainWorld) (p : AdPlace) (t : Tree) (n m : ℕ) (v : Plain) → n ≤ m → value_with n w p t ≡ Some v
    → value_with m w p t ≡ Some v
value_with-more_references w p t n m v le e =
    up_to (λ k. value_with k w p t) (λ k. tree-below (value_at k w) (value_at (suc k) w) (value_at-below w k) w p t) n m le v e
