-- Frames with those that enclose them, and what a name has in them.
use Rattle.std.specs.Prelude.{ℕ, zero, suc, List, [], ◌∷◌, Option, None, Some}
use Rattle.std.specs.Option.{option_and_then, option_or}
use Rattle.ad_tree.specs.Tree.{Tree}
use Rattle.ad_tree.specs.Frames.{Frame, parent_of, expr_at}
use Rattle.ad_tree.specs.Special.{attribute_named}

-- the frames of an ad from one on, each followed by its parent, n at most
abbrev pub upward : ℕ → List Frame → Option ℕ → List ℕ
upward zero fs f = []
upward (suc n) fs None = []
upward (suc n) fs (Some f) = f ∷ upward n fs (parent_of fs f)

-- frame f, its parent, and so on up to the root; parents are lower, so there are at most f + 1 of them
abbrev pub enclosing_frames : List Frame → ℕ → List ℕ
enclosing_frames fs f = upward (suc f) fs (Some f)

-- the expression that a name has in frame f alone
abbrev pub expr_named : List Frame → ℕ → List ℕ → Option Tree
expr_named fs f name = option_and_then (λ k. expr_at fs f k) (attribute_named fs f name)

-- the expression that a name has in the first of some frames that has it
abbrev pub first_expr : List Frame → List ℕ → List ℕ → Option Tree
first_expr fs name [] = None
first_expr fs name (f ∷ rest) = option_or (expr_named fs f name) (first_expr fs name rest)

-- the expression that a name has in frame f or in those that enclose it, from the inside out
abbrev pub enclosed_expr : List Frame → ℕ → List ℕ → Option Tree
enclosed_expr fs f name = first_expr fs name (enclosing_frames fs f)
