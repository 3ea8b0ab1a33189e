-- Where an expression is evaluated.
use Rattle.std.specs.Prelude.{ℕ, List, Option, option_map}
use Rattle.std.specs.Option.{option_and_then}
use Rattle.pool_text.specs.declared.language.BinOp.{BinOp}
use Rattle.pool_text.specs.declared.language.UnOp.{UnOp}
use Rattle.ad_value.specs.Demands.{all_demanded, list_value, selected, subscripted}
use Rattle.ad_value.specs.Operators.{binary_value, unary_value}
use Rattle.ad_value.specs.Plain.{Plain}
use Rattle.pool_text.specs.declared.language.AdPlace.{AdPlace}
use Rattle.ad_tree.specs.Tree.{Tree, Trees}
use Rattle.eval_scope.specs.Shown.{world_of}
use Rattle.eval_scope.specs.World.{PlainWorld}
use Rattle.ad_eval.specs.declared.scene.Scene.{Scene}
use Rattle.ad_eval.specs.Node.{attribute_value}
use Rattle.ad_eval.specs.Value.{results_by, value_at, value_with}

-- the world of a scene
unfoldable pub world_in : Scene → PlainWorld
world_in scene = world_of scene.world.now

-- the value of an expression there, by the number of references to spend
unfoldable pub values_in : Scene → Tree → ℕ → Option Plain
values_in scene e n = value_with n (world_in scene) scene.at e

-- the results of several
unfoldable pub results_in : Scene → Trees → ℕ → List (Option Plain)
results_in scene es n = results_by (value_at n (world_in scene)) (world_in scene) scene.at es

-- the value of an attribute of the frame at a place alone
abbrev pub attributes_in : Scene → ℕ → AdPlace → List ℕ → Option Plain
attributes_in scene n place x = attribute_value (value_at n (world_in scene)) (world_in scene) place x

-- ---- of operators, selections, subscripts and lists

abbrev pub unary_in : Scene → UnOp → Tree → ℕ → Option Plain
unary_in scene op a n = option_map (unary_value op) (values_in scene a n)

abbrev pub binary_in : Scene → BinOp → Tree → Tree → ℕ → Option Plain
binary_in scene op a b n = option_and_then (λ x. option_map (binary_value op x) (values_in scene b n)) (values_in scene a n)

abbrev pub selected_in : Scene → List ℕ → Tree → ℕ → Option Plain
selected_in scene x a n = option_and_then (selected (attributes_in scene n) x) (values_in scene a n)

abbrev pub subscripted_in : Scene → Tree → Tree → ℕ → Option Plain
subscripted_in scene a b n = option_and_then (λ x. option_and_then (subscripted (attributes_in scene n) x) (values_in scene b n)) (values_in scene a n)

abbrev pub listed_in : Scene → Trees → ℕ → Option Plain
listed_in scene ts n = option_map list_value (all_demanded (results_in scene ts n))
