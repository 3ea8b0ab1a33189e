-- How high trees are, as a number.
use Rattle.std.specs.Prelude.{◌≡◌, min, List, [], ◌∷◌}
use Rattle.ad_tree.specs.Inline.{Inline, shape, inner, height}
use Rattle.ad_tree.specs.Tree.{Label, all, any}
use Rattle.ad_builder.specs.declared.measure.Kind.{Kind}
use Rattle.ad_builder.specs.declared.measure.Kind.TheVariants.{All, Any, Node, Ad}
use Rattle.ad_builder.specs.declared.measure.Measure.{Measure}
use Rattle.ad_builder.specs.Counts.{tallest_measured}

-- the kinds of trees that take more behind what they have: chains of `&&` and of `||`, other nodes, and ad literals
abbrev pub kind_at : Label → Kind
kind_at all = All
kind_at any = Any
kind_at label = Node

abbrev pub kind_of : Inline → Kind
kind_of (shape label xs) = kind_at label
kind_of (inner ds) = Ad

-- the height of a tree, exact up to the tallest that is measured, and its kind
pub record IsMeasure (m : Measure) (x : Inline) : Type 0 where
  pub height : m.height ≡ min tallest_measured (height x)
  pub kind : m.kind ≡ kind_of x

-- those of the trees of a stack
abbrev pub AreMeasures : List Measure → List Inline → Type 0
AreMeasures [] [] = Unit {0}
AreMeasures (m ∷ ms) (x ∷ xs) = IsMeasure m x × AreMeasures ms xs
AreMeasures ms xs = ⊥
