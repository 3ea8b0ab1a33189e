-- The ports of a gang, as the root of its ad lists them.
use Rattle.std.specs.Prelude.{ℕ, Bool, ◌&&◌, nat_le, codes, List, [], ◌∷◌, length, map, Option, None, Some, option_map, if◌then◌else◌}
use Rattle.std.specs.Option.{option_and_then}
use Rattle.pool_text.specs.declared.language.Lit.{Lit}
use Rattle.ad_tree.specs.declared.request.Port.{Port}
use Rattle.ad_tree.specs.declared.tree.Scope.{Scope}
use Rattle.ad_tree.specs.Enclosing.{expr_named}
use Rattle.ad_tree.specs.Frames.{Frame}
use Rattle.ad_tree.specs.Names.{are_apart}
use Rattle.ad_tree.specs.Requests.{port_limit}
use Rattle.ad_tree.specs.Tree.{Tree, Trees, frame, list, literal, more, name, node, none}

-- bytes, where there are some
abbrev pub some_bytes : List ℕ → Option (List ℕ)
some_bytes [] = None
some_bytes (b ∷ bytes) = Some (b ∷ bytes)

-- the label that an expression spells: a string of some bytes, or a bare name
abbrev pub label_of : Tree → Option (List ℕ)
label_of (node (literal (Lit.Str bytes)) ts) = some_bytes bytes
label_of (node (name Scope.Bare n) ts) = Some n
label_of t = None

-- the port that an ad literal opens, where its frame has a label
abbrev pub port_of : List Frame → Tree → Option Port
port_of fs (frame f) = option_map (λ label. record { label = label; frame = f }) (option_and_then label_of (expr_named fs f (codes "Label")))
port_of fs t = None

-- the ports that some trees open, where each opens one
abbrev pub ports_of_all : List Frame → Trees → Option (List Port)
ports_of_all fs none = Some []
ports_of_all fs (more t ts) = option_and_then (λ port. option_map (λ ports. port ∷ ports) (ports_of_all fs ts)) (port_of fs t)

-- the trees of a list
abbrev pub list_in : Tree → Option Trees
list_in (node list ts) = Some ts
list_in t = None

-- one port to eight, no two of them with one label
abbrev pub are_ports : List Port → Bool
are_ports ports = nat_le 1 (length ports) && (nat_le (length ports) port_limit && are_apart (map (λ port. port.label) ports))

-- the ports of an ad: what its root's attribute `Ports` lists
abbrev pub ports_of : List Frame → Option (List Port)
ports_of fs =
    option_and_then (λ ports. if are_ports ports then Some ports else None)
    (option_and_then (ports_of_all fs) (option_and_then list_in (expr_named fs 0 (codes "Ports"))))
