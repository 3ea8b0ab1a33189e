-- The attributes that matching asks for.
use Rattle.std.specs.Prelude.{ℕ, List, Option, position, codes}
use Rattle.std.specs.Option.{option_or}
use Rattle.ad_tree.specs.Names.{same_name}
use Rattle.ad_tree.specs.Frames.{Frame, names_in, names_of}
use Rattle.ad_tree.specs.declared.frame.MatchAttributes.{MatchAttributes}

-- the attribute of frame f that has a name, by its place in the frame
abbrev pub attribute_named : List Frame → ℕ → List ℕ → Option ℕ
attribute_named fs f name = position (same_name name) (names_in fs f)

-- the requirement of frame f: its attribute Requirements, or Constraint where that is absent
abbrev pub requirement_of : List Frame → ℕ → Option ℕ
requirement_of fs f = option_or (attribute_named fs f (codes "Requirements")) (attribute_named fs f (codes "Constraint"))

-- the rank of frame f
abbrev pub rank_of : List Frame → ℕ → Option ℕ
rank_of fs f = attribute_named fs f (codes "Rank")

-- the places of both in a frame by itself
abbrev pub match_attributes_of : Frame → MatchAttributes
match_attributes_of f = record {
  requirement = option_or (position (same_name (codes "Requirements")) (names_of f.attributes))
      (position (same_name (codes "Constraint")) (names_of f.attributes));
  rank = position (same_name (codes "Rank")) (names_of f.attributes);
}
