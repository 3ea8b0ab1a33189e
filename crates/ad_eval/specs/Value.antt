-- The value of an expression in a world, with so many references to spend.
use Rattle.std.specs.Prelude.{ℕ, zero, suc, List, [], ◌∷◌, Option, None, Some, option_and_then, unwrap_or}
use Rattle.pool_text.specs.declared.language.AdPlace.{AdPlace}
use Rattle.pool_text.specs.declared.language.Pos.{Pos}
use Rattle.ad_value.specs.Plain.{Plain, error, ad_at}
use Rattle.ad_tree.specs.Tree.{Tree, node, frame, Trees, none, more}
use Rattle.eval_scope.specs.World.{PlainWorld, expr_of, frame_of_attribute}
use Rattle.ad_eval.specs.Node.{node_value}

-- the value of an expression that stands in the frame at p, where `at` gives the values of attributes
abbrev mutual
  pub value_by : (Pos → Option Plain) → PlainWorld → AdPlace → Tree → Option Plain
  value_by at w p (node label ts) = node_value at w p label (results_by at w p ts)
  value_by at w p (frame f) = Some (ad_at (record { ad = p.ad; frame = f }))

  pub results_by : (Pos → Option Plain) → PlainWorld → AdPlace → Trees → List (Option Plain)
  results_by at w p none = []
  results_by at w p (more t ts) = value_by at w p t ∷ results_by at w p ts

-- the value of an attribute with n references to spend, of which the one to itself is the first; none where it needs more
unfoldable pub value_at : ℕ → PlainWorld → Pos → Option Plain
value_at zero w s = None
value_at (suc n) w s = option_and_then (value_by (value_at n w) w (frame_of_attribute s)) (expr_of w s)

-- the value of an expression with n references to spend
abbrev pub value_with : ℕ → PlainWorld → AdPlace → Tree → Option Plain
value_with n w p e = value_by (value_at n w) w p e

-- an evaluation has so many references to spend
abbrev pub references : ℕ
references = 24

-- the value of an expression: Error as a whole where the references don't suffice
abbrev pub evaluation : PlainWorld → AdPlace → Tree → Plain
evaluation w p e = unwrap_or (value_with references w p e) error

-- the value of an attribute: Error as a whole where the references don't suffice, and where there is no such attribute
abbrev pub evaluation_at : PlainWorld → Pos → Plain
evaluation_at w s = unwrap_or (value_at references w s) error

-- so many references are left within an attribute's expression: the one to the attribute itself is spent
abbrev pub inner_references : ℕ
inner_references = 23

-- the value of a part of an attribute's expression: Error as a whole where the references that are left don't suffice
abbrev pub inner_evaluation : PlainWorld → AdPlace → Tree → Plain
inner_evaluation w p e = unwrap_or (value_with inner_references w p e) error
