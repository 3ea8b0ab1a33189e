-- The names by which expressions ask for attributes of a request's root.
use Rattle.std.specs.Prelude.{ℕ, List, [], ◌∷◌, ◌++◌, codes}
use Rattle.std.specs.List.{flat_map}
use Rattle.ad_tree.specs.declared.tree.Scope.{Scope}
use Rattle.ad_tree.specs.Tree.{Label, name, Tree, node, frame, Trees, none, more}
use Rattle.ad_tree.specs.Frames.{Frame}
use Rattle.ad_tree.specs.Inline.{Inline, shape, inner, Inlines, end, next, Defs, no_defs, def}

-- what matching itself asks for
abbrev pub weighed_names : List (List ℕ)
weighed_names = codes "Requirements" ∷ (codes "Constraint" ∷ (codes "Rank" ∷ []))

-- ---- of an ad's expressions

-- a name that may be looked for at the other side
abbrev pub asked_at : Label → List (List ℕ)
asked_at (name Scope.Bare x) = x ∷ []
asked_at (name Scope.Target x) = x ∷ []
asked_at label = []

-- those of an expression, without its ad literals, which are frames of their own
abbrev mutual
  pub asked_in : Tree → List (List ℕ)
  asked_in (node label ts) = asked_at label ++ asked_in_all ts
  asked_in (frame f) = []

  pub asked_in_all : Trees → List (List ℕ)
  asked_in_all none = []
  asked_in_all (more t ts) = asked_in t ++ asked_in_all ts

-- those of attributes
abbrev pub asked_in_attributes : List (List ℕ × Tree) → List (List ℕ)
asked_in_attributes attributes = flat_map (λ a. asked_in a.1) attributes

-- those of all frames of an ad
abbrev pub asked_by : List Frame → List (List ℕ)
asked_by fs = flat_map (λ f. asked_in_attributes f.attributes) fs

-- ---- of a request's own expressions

-- a name that may be looked for in the root
abbrev pub needed_at : Label → List (List ℕ)
needed_at (name Scope.Bare x) = x ∷ []
needed_at (name Scope.My x) = x ∷ []
needed_at label = []

-- those of an expression with its ad literals
abbrev mutual
  pub needed_in : Inline → List (List ℕ)
  needed_in (shape label is) = needed_at label ++ needed_in_all is
  needed_in (inner ds) = needed_in_defs ds

  pub needed_in_all : Inlines → List (List ℕ)
  needed_in_all end = []
  needed_in_all (next i is) = needed_in i ++ needed_in_all is

  pub needed_in_defs : Defs → List (List ℕ)
  needed_in_defs no_defs = []
  needed_in_defs (def text i ds) = needed_in i ++ needed_in_defs ds
