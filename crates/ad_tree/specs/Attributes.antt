-- The attributes of a frame.
use Rattle.std.specs.Prelude.{ℕ, List, map}
use Rattle.ad_tree.specs.declared.attribute.Attribute.{Attribute}
use Rattle.ad_tree.specs.Tree.{Tree, tree}

-- an attribute as a name and a plain tree
abbrev pub attribute_of : Attribute → List ℕ × Tree
attribute_of a = (a.name, tree a.expr)

-- a list of them
abbrev pub attributes_of : List Attribute → List (List ℕ × Tree)
attributes_of attributes = map attribute_of attributes
