-- Definitions that leave each ad literal where it is.
use Rattle.std.specs.Prelude.{ℕ, ◌≡◌, true, false, List, [], ◌∷◌}
use Rattle.ad_tree.specs.Tree.{Tree, cited}
use Rattle.ad_tree.specs.Names.{same_name}

-- a definition among attributes: a new name takes the place of none, and where the name is there, neither what it had nor
-- what it gets cites a frame
abbrev pub MovesNone : List ℕ → Tree → List (List ℕ × Tree) → Type 0
MovesNone name t [] = Unit {0}
MovesNone name t (a ∷ rest) =
    (same_name name a.0 ≡ true → (cited a.1 ≡ []) × (cited t ≡ [])) × (same_name name a.0 ≡ false → MovesNone name t rest)
