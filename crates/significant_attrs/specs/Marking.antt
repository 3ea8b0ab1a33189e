-- How the attributes of a request's root are marked that are reached: names wait in a row, and each marks the attribute that has it.
use Rattle.std.specs.Prelude.{ℕ, ◌+◌, Bool, true, false, List, [], ◌∷◌, ◌++◌, length, map, position, Option, slice_get, slice_index_or}
use Rattle.std.specs.Prelude.{slice_set, if◌then◌else◌}
use Rattle.std.specs.Option.{option_map_or}
use Rattle.ad_tree.specs.Frames.{Frame, attributes_at, names_in}
use Rattle.ad_tree.specs.Inline.{spelled_tree}
use Rattle.ad_tree.specs.Names.{has_name, same_name}
use Rattle.ad_tree.specs.Tree.{Tree}
use Rattle.significant_attrs.specs.Names.{needed_in}
use Rattle.significant_attrs.specs.Reach.{reached_from}

-- the place of a name in the root
abbrev pub place_of : List Frame → List ℕ → Option ℕ
place_of request y = position (same_name y) (names_in request 0)

-- what an attribute needs
abbrev pub needs_of : List Frame → List ℕ × Tree → List (List ℕ)
needs_of request a = needed_in (spelled_tree request a.1)

abbrev pub needs_at : List Frame → ℕ → List (List ℕ)
needs_at request k = option_map_or (needs_of request) (slice_get (attributes_at request 0) k) []

-- the marks after a name's turn
abbrev pub marks_after : List Frame → List ℕ → List Bool → List Bool
marks_after request y marks = option_map_or (λ k. slice_set marks k true) (place_of request y) marks

-- the names after it: what an attribute needs that gets its mark waits too
abbrev pub names_after : List Frame → List ℕ → List Bool → List (List ℕ) → List (List ℕ)
names_after request y marks names = option_map_or (λ k. if slice_index_or marks k true then names else names ++ needs_at request k) (place_of request y) names

-- how many names may still come to wait
abbrev pub pending : List Frame → List Bool → List (List ℕ × Tree) → ℕ
pending request (false ∷ marks) (a ∷ attributes) = length (needs_of request a) + pending request marks attributes
pending request (true ∷ marks) (a ∷ attributes) = pending request marks attributes
pending request marks attributes = 0

-- the attributes of the root whose names are among the first
abbrev pub first_attributes : List (List ℕ) → List (List ℕ × Tree) → List (List ℕ)
first_attributes first [] = []
first_attributes first (a ∷ attributes) = if has_name a.0 first then a.0 ∷ first_attributes first attributes else first_attributes first attributes

-- each attribute is marked exactly where it is reached
abbrev pub reached_marks : List (List ℕ) → List Frame → List Bool
reached_marks first request = map (λ a. has_name a.0 (reached_from first request)) (attributes_at request 0)
