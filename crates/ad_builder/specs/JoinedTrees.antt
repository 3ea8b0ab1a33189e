-- Plain trees of two operands, and of one tree more.
use Rattle.std.specs.Prelude.{◌≡◌}
use Rattle.ad_tree.specs.Tree.{Tree, Trees, node, frame, none, more, two, binary, all, any}
use Rattle.ad_builder.specs.declared.instruction.Infix.{Infix}
use Rattle.ad_builder.specs.declared.instruction.Infix.TheVariants as infixes

-- trees with one more behind them
abbrev pub last_tree : Trees → Tree → Trees
last_tree none u = more u none
last_tree (more t ts) u = more t (last_tree ts u)

-- an operator between two operands: a chain of its own takes the second as one operand more
abbrev pub joined_tree : Infix → Tree → Tree → Tree
joined_tree infixes.And (node all ts) u = node all (last_tree ts u)
joined_tree infixes.And t u = node all (two t u)
joined_tree infixes.Or (node any ts) u = node any (last_tree ts u)
joined_tree infixes.Or t u = node any (two t u)
joined_tree (infixes.Binary op) t u = node (binary op) (two t u)

-- a node with one tree more; a frame takes none
abbrev pub TakesElement : Tree → Tree → Tree → Type 0
TakesElement (node label ts) u whole = whole ≡ node label (last_tree ts u)
TakesElement (frame f) u whole = ⊥
