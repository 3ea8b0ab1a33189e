-- What a condition chooses.
use Rattle.std.specs.Prelude.{◌≡◌, ◌≤◌, ◌+◌, Option, Some}
use Rattle.ad_value.specs.Plain.{Plain, plain}
use Rattle.ad_value.specs.Demands.{chosen}
use Rattle.ad_tree.specs.Tree.{Tree, size, tree}
use Rattle.ad_eval.specs.declared.branch.Branch.{Branch}

-- the conditional is its branch, which is one of the two, or has its value at once
abbrev pub IsBranch : Plain → Tree → Tree → Branch → Type 0
IsBranch condition first second (Branch.Taken e) =
    ((value : Tree → Option Plain) → chosen (value first) (value second) condition ≡ value (tree e.now)) × (size (tree e.now) ≤ size first + size second)
IsBranch condition first second (Branch.Value v) = (a b : Option Plain) → chosen a b condition ≡ Some (plain v)
