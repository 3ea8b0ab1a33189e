-- The spelled trees that the rules of the grammar build.
use Rattle.ad_tree.specs.Inline.{Inline, Inlines, shape, end, next}
use Rattle.ad_tree.specs.Tree.{Label, binary, all, any}
use Rattle.ad_builder.specs.declared.instruction.Infix.{Infix}
use Rattle.ad_builder.specs.declared.instruction.Infix.TheVariants as infixes

-- a node with no tree below
abbrev pub leaf : Label → Inline
leaf label = shape label end

-- a node with one tree below
abbrev pub over_one : Label → Inline → Inline
over_one label x = shape label (next x end)

-- a node with two trees below
abbrev pub over_two : Label → Inline → Inline → Inline
over_two label x y = shape label (next x (next y end))

-- a node with three trees below
abbrev pub over_three : Label → Inline → Inline → Inline → Inline
over_three label x y z = shape label (next x (next y (next z end)))

-- trees with one more behind them
abbrev pub followed_by : Inlines → Inline → Inlines
followed_by end y = next y end
followed_by (next x xs) y = next x (followed_by xs y)

-- the tree of two operands: a chain of `&&` is one node, to which an operand on the right is added, and so with `||`
abbrev pub joined : Infix → Inline → Inline → Inline
joined infixes.And (shape all xs) y = shape all (followed_by xs y)
joined infixes.And x y = over_two all x y
joined infixes.Or (shape any xs) y = shape any (followed_by xs y)
joined infixes.Or x y = over_two any x y
joined (infixes.Binary op) x y = over_two (binary op) x y
