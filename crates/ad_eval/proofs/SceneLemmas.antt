-- The value of each kind of expression in a scene.
use Rattle.std.proofs.Common.{◌≡◌, ℕ, List, [], ◌∷◌, Some, true, false, option_map, refl, ap}
use Rattle.std.specs.Option.{option_and_then}
use Rattle.pool_text.specs.declared.language.Lit.{Lit}
use Rattle.pool_text.specs.declared.language.UnOp.{UnOp}
use Rattle.pool_text.specs.declared.language.BinOp.{BinOp}
use Rattle.ad_tree.specs.declared.tree.Scope.{Scope}
use Rattle.ad_tree.specs.Tree.{Tree, Trees, node, frame, none, more, one, two, literal, name, unary, binary, all, any, choice, select, subscript, call}
use Rattle.ad_tree.specs.Tree.{list as list_node}
use Rattle.ad_value.specs.Plain.{ad_at, boolean, plain_of_lit}
use Rattle.ad_value.specs.Operators.{binary_value, unary_value}
use Rattle.ad_value.specs.Demands.{all_demanded, conjunction, disjunction, list_value, selected, subscripted}
use Rattle.eval_scope.specs.Look.{find}
use Rattle.ad_eval.specs.declared.scene.Scene.{Scene as TheScene}
use Rattle.ad_eval.specs.Node.{attribute_value, called, conditional, named}
use Rattle.ad_eval.specs.Scene.{results_in, values_in, world_in}
use Rattle.ad_eval.specs.Value.{value_at, value_with}

module _ (scene : TheScene) (e : Tree) (n : ℕ) where
  pub in_literal : (lit : Lit) → e ≡ node (literal lit) none → values_in scene e n ≡ Some (plain_of_lit lit)
  unfolding values_in
  in_literal lit is = ap (λ t. value_with n (world_in scene) scene.at t) is

  pub in_name : (scope : Scope) (x : List ℕ) → e ≡ node (name scope x) none
      → values_in scene e n ≡ named (value_at n (world_in scene)) (find (world_in scene) scene.at scope x)
  unfolding values_in
  in_name scope x is = ap (λ t. value_with n (world_in scene) scene.at t) is

  pub in_unary : (op : UnOp) (a : Tree) → e ≡ node (unary op) (one a) → values_in scene e n ≡ option_map (unary_value op) (values_in scene a n)
  unfolding values_in
  in_unary op a is = ap (λ t. value_with n (world_in scene) scene.at t) is

  pub in_binary : (op : BinOp) (a b : Tree) → e ≡ node (binary op) (two a b)
      → values_in scene e n ≡ option_and_then (λ x. option_map (binary_value op x) (values_in scene b n)) (values_in scene a n)
  unfolding values_in
  in_binary op a b is = ap (λ t. value_with n (world_in scene) scene.at t) is

  pub in_all : (ts : Trees) → e ≡ node all ts → values_in scene e n ≡ conjunction (boolean true) (results_in scene ts n)
  unfolding values_in results_in
  in_all ts is = ap (λ t. value_with n (world_in scene) scene.at t) is

  pub in_any : (ts : Trees) → e ≡ node any ts → values_in scene e n ≡ disjunction (boolean false) (results_in scene ts n)
  unfolding values_in results_in
  in_any ts is = ap (λ t. value_with n (world_in scene) scene.at t) is

  pub in_choice : (ts : Trees) → e ≡ node choice ts → values_in scene e n ≡ conditional (results_in scene ts n)
  unfolding values_in results_in
  in_choice ts is = ap (λ t. value_with n (world_in scene) scene.at t) is

  pub in_select : (x : List ℕ) (a : Tree) → e ≡ node (select x) (one a)
      → values_in scene e n ≡ option_and_then (selected (attribute_value (value_at n (world_in scene)) (world_in scene)) x) (values_in scene a n)
  unfolding values_in
  in_select x a is = ap (λ t. value_with n (world_in scene) scene.at t) is

  pub in_subscript : (a b : Tree) → e ≡ node subscript (two a b)
      → values_in scene e n ≡ option_and_then (λ x. option_and_then (subscripted (attribute_value (value_at n (world_in scene)) (world_in scene)) x)
      (values_in scene b n)) (values_in scene a n)
  unfolding values_in
  in_subscript a b is = ap (λ t. value_with n (world_in scene) scene.at t) is

  pub in_call : (x : List ℕ) (ts : Trees) → e ≡ node (call x) ts → values_in scene e n ≡ called (world_in scene) x (results_in scene ts n)
  unfolding values_in results_in
  in_call x ts is = ap (λ t. value_with n (world_in scene) scene.at t) is

  pub in_list : (ts : Trees) → e ≡ node list_node ts → values_in scene e n ≡ option_map list_value (all_demanded (results_in scene ts n))
  unfolding values_in results_in
  in_list ts is = ap (λ t. value_with n (world_in scene) scene.at t) is

  pub in_frame : (f : ℕ) → e ≡ frame f → values_in scene e n ≡ Some (ad_at (record { ad = scene.at.ad; frame = f }))
  unfolding values_in
  in_frame f is = ap (λ t. value_with n (world_in scene) scene.at t) is

pub results-none : (scene : TheScene) (n : ℕ) → results_in scene none n ≡ []
unfolding results_in
results-none scene n = refl

pub results-more : (scene : TheScene) (t : Tree) (ts : Trees) (n : ℕ) → results_in scene (more t ts) n ≡ values_in scene t n ∷ results_in scene ts n
unfolding values_in results_in
results-more scene t ts n = refl

pub inside_is : (scene : TheScene) (e : Tree) (n : ℕ) → values_in scene e n ≡ value_with n (world_in scene) scene.at e
unfolding values_in
inside_is scene e n = refl
