-- Which attributes of a request the matching with some ads can come to.
use Rattle.std.specs.Prelude.{ℕ, zero, suc, List, [], ◌∷◌, ◌++◌, length, map, Option, None, Some, option_map, Contains, if◌then◌else◌}
use Rattle.std.specs.List.{flat_map}
use Rattle.std.specs.Option.{option_map_or}
use Rattle.pool_text.specs.Folding.{folded}
use Rattle.ad_tree.specs.Tree.{Tree}
use Rattle.ad_tree.specs.Names.{has_name}
use Rattle.ad_tree.specs.Frames.{Frame, attributes_at}
use Rattle.ad_tree.specs.Inline.{spelled_tree}
use Rattle.significant_attrs.specs.Names.{weighed_names, asked_by, needed_in}

-- the names from which it goes on: what matching itself asks for, and what the ads ask for
abbrev pub first_names : List (List Frame) → List (List ℕ)
first_names ads = weighed_names ++ flat_map asked_by ads

-- ---- the least set of folded names that has the first ones, and with the name of an attribute what that attribute needs

-- a folded name that matching can come to: one of the first, or one that an attribute of such a name needs
pub data IsReached (first : List (List ℕ)) (request : List Frame) : List ℕ → Type 0 where
  is_first : (x : List ℕ) → Contains first x → IsReached first request (folded x)
  is_needed : (a : List ℕ × Tree) (y : List ℕ) → Contains (attributes_at request 0) a → IsReached first request (folded a.0)
      → Contains (needed_in (spelled_tree request a.1)) y → IsReached first request (folded y)

-- ---- the same set as a list

-- the needs of the first attribute whose name is among the names, with the other attributes
abbrev pub picked : List (List ℕ) → List (List ℕ × List (List ℕ)) → Option (List (List ℕ) × List (List ℕ × List (List ℕ)))
picked names [] = None
picked names (a ∷ rest) = if has_name a.0 names then Some (a.1, rest) else option_map (λ p. (p.0, a ∷ p.1)) (picked names rest)

-- the names with the needs of n such attributes, each in turn
abbrev pub closure : ℕ → List (List ℕ) → List (List ℕ × List (List ℕ)) → List (List ℕ)
closure zero names attributes = names
closure (suc n) names attributes = option_map_or (λ p. closure n (names ++ p.0) p.1) (picked names attributes) names

-- the root's attributes, each with what it needs
abbrev pub root_needs : List Frame → List (List ℕ × List (List ℕ))
root_needs request = map (λ a. (a.0, needed_in (spelled_tree request a.1))) (attributes_at request 0)

-- all names that are reached
unfoldable pub reached_from : List (List ℕ) → List Frame → List (List ℕ)
reached_from first request = closure (length (root_needs request)) first (root_needs request)
