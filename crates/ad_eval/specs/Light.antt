-- Values that weigh little where what is written does.
use Rattle.std.specs.Prelude.{◌≡◌, ◌≤◌, Bool, true, ◌&&◌, IfSome, nat_le}
use Rattle.pool_text.specs.declared.language.Pos.{Pos}
use Rattle.ad_value.specs.Limits.{weight_limit}
use Rattle.ad_value.specs.Operators.{weight_of}
use Rattle.ad_value.specs.Plain.{Plain, plain_of_lit}
use Rattle.ad_tree.specs.Tree.{Label, literal, Tree, node, frame, Trees, none, more}
use Rattle.eval_scope.specs.World.{PlainWorld, expr_of}

-- a value weighs no more than a list literal and a function's result may
abbrev pub IsLight : Plain → Type 0
IsLight v = weight_of v ≤ weight_limit

-- a literal weighs no more than that
abbrev pub is_light_label : Label → Bool
is_light_label (literal lit) = nat_le (weight_of (plain_of_lit lit)) weight_limit
is_light_label label = true

-- each literal of an expression is light
abbrev mutual
  pub has_light_literals : Tree → Bool
  has_light_literals (node label ts) = is_light_label label && have_light_literals ts
  has_light_literals (frame f) = true

  pub have_light_literals : Trees → Bool
  have_light_literals none = true
  have_light_literals (more t ts) = has_light_literals t && have_light_literals ts

-- the literals of each attribute in a world are light
abbrev pub IsWrittenLight : PlainWorld → Type 0
IsWrittenLight w = (s : Pos) → IfSome (expr_of w s) (λ t. has_light_literals t ≡ true)
