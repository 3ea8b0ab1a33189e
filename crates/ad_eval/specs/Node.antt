-- The value of one node of an expression, over the results of the nodes below it. A result is none where the bound on references
-- was passed; what isn't demanded isn't looked at.
use Rattle.std.specs.Prelude.{ℕ, pos, true, false, List, [], ◌∷◌, length, Option, None, Some, option_map, option_and_then, codes, if◌then◌else◌}
use Rattle.std.specs.Option.{option_map_or}
use Rattle.pool_text.specs.declared.language.AdPlace.{AdPlace}
use Rattle.pool_text.specs.declared.language.Pos.{Pos}
use Rattle.ad_value.specs.Plain.{Plain, undefined, error, boolean, integer, ad_at, plain_of_lit}
use Rattle.ad_value.specs.Operators.{binary_value, unary_value}
use Rattle.ad_value.specs.Demands.{all_demanded, chosen, conjunction, disjunction, list_value, selected, subscripted}
use Rattle.builtin_funcs.specs.Calls.{call_value, is_known}
use Rattle.ad_tree.specs.Tree.{Label, literal, name, unary, binary, all, any, choice, select, subscript, call, list}
use Rattle.ad_tree.specs.Names.{same_name}
use Rattle.eval_scope.specs.declared.found.Found.{Found}
use Rattle.eval_scope.specs.World.{PlainWorld, size_at}
use Rattle.eval_scope.specs.Look.{attribute_in, find, found_attribute}

-- ---- references; `at` gives the values of attributes

-- what was found: Undefined for nothing, the Ad of a label, the value of an attribute
abbrev pub named : (Pos → Option Plain) → Found → Option Plain
named at Found.Nothing = Some undefined
named at (Found.Place place) = Some (ad_at place)
named at (Found.Attr s) = at s

-- the value of an attribute of the frame at a place alone
abbrev pub attribute_value : (Pos → Option Plain) → PlainWorld → AdPlace → List ℕ → Option Plain
attribute_value at w place x = named at (found_attribute (attribute_in w place x))

-- ---- calls

-- the conditional of three results, which `ifThenElse` is too
abbrev pub conditional : List (Option Plain) → Option Plain
conditional (condition ∷ first ∷ second ∷ []) = option_and_then (chosen first second) condition
conditional rs = Some error

-- the place of the only argument where that is an Ad
abbrev pub only_ad : List Plain → Option AdPlace
only_ad (ad_at place ∷ []) = Some place
only_ad args = None

-- the Ad whose size is asked for
abbrev pub sized_ad : List ℕ → List Plain → Option AdPlace
sized_ad x args = if same_name x (codes "size") then only_ad args else None

-- a function of values: `size` of an Ad is how many attributes its frame has, and all else is the table of functions
abbrev pub function_value : PlainWorld → List ℕ → List Plain → Plain
function_value w x args = option_map_or (λ place. integer (pos (size_at w place))) (sized_ad x args) (call_value x args w.moment)

-- a call is Error with nothing demanded where the name is unknown or the number of arguments is wrong
abbrev pub called : PlainWorld → List ℕ → List (Option Plain) → Option Plain
called w x rs =
    if is_known x (length rs) then if same_name x (codes "ifThenElse") then conditional rs else option_map (function_value w x) (all_demanded rs) else Some
    error

-- ---- nodes

-- the value of a node of an expression that stands in the frame at p
abbrev pub node_value : (Pos → Option Plain) → PlainWorld → AdPlace → Label → List (Option Plain) → Option Plain
node_value at w p (literal lit) rs = Some (plain_of_lit lit)
node_value at w p (name scope x) rs = named at (find w p scope x)
node_value at w p (unary op) (a ∷ []) = option_map (unary_value op) a
node_value at w p (binary op) (a ∷ b ∷ []) = option_and_then (λ x. option_map (binary_value op x) b) a
node_value at w p all rs = conjunction (boolean true) rs
node_value at w p any rs = disjunction (boolean false) rs
node_value at w p choice rs = conditional rs
node_value at w p (select x) (a ∷ []) = option_and_then (selected (attribute_value at w) x) a
node_value at w p subscript (a ∷ b ∷ []) = option_and_then (λ x. option_and_then (subscripted (attribute_value at w) x) b) a
node_value at w p (call x) rs = called w x rs
node_value at w p list rs = option_map list_value (all_demanded rs)
node_value at w p label rs = Some error
