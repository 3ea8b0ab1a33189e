-- Ports whose resources are worth the same whatever is docked to the ports before them.
use Rattle.std.specs.Prelude.{ℕ, Bool, false, ◌||◌, not, List, take}
use Rattle.std.specs.List.{list_any}
use Rattle.ad_tree.specs.Frames.{Frame}
use Rattle.ad_tree.specs.Names.{same_name}
use Rattle.ad_tree.specs.declared.request.Port.{Port}
use Rattle.ad_tree.specs.declared.tree.Scope.{Scope}
use Rattle.ad_tree.specs.Tree.{Label, Tree, Trees, frame, more, name, node, none}

-- a node is the label as a bare name
abbrev pub is_reference : List ℕ → Label → Bool
is_reference label (name Scope.Bare n) = same_name n label
is_reference label other = false

-- a bare name in the expression is the label
abbrev mutual
  pub refers : List ℕ → Tree → Bool
  refers label (node other ts) = is_reference label other || any_refers label ts
  refers label (frame f) = false

  pub any_refers : List ℕ → Trees → Bool
  any_refers label none = false
  any_refers label (more t ts) = refers label t || any_refers label ts

-- a bare name anywhere in the request is the label
abbrev pub is_referred : List Frame → List ℕ → Bool
is_referred request label = list_any (λ f. list_any (λ attribute. refers label attribute.1) f.attributes) request

-- the port is free: no bare name anywhere in the request is the label of a port before it
unfoldable pub is_free_port : List Frame → List Port → ℕ → Bool
is_free_port request ports i = not (list_any (λ port. is_referred request port.label) (take i ports))
