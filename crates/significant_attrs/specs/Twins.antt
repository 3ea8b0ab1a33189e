-- Requests that differ only where the matching with some ads can't come to.
use Rattle.std.specs.Prelude.{◌≡◌, ◌<◌, ℕ, Bool, true, List, length, Some, slice_get}
use Rattle.ad_tree.specs.Frames.{Frame, attributes_at, expr_at, names_in, parent_of}
use Rattle.significant_attrs.specs.Marking.{reached_marks}
use Rattle.significant_attrs.specs.Reach.{first_names}

-- two requests are the same, but for the expressions of those attributes of the root that have no mark
pub record AreTwins (marks : List Bool) (one other : List Frame) : Type 0 where
  pub many : length one ≡ length other
  pub parents : (f : ℕ) → parent_of one f ≡ parent_of other f
  pub nested : (f : ℕ) → 0 < f → attributes_at one f ≡ attributes_at other f
  pub names : names_in one 0 ≡ names_in other 0
  pub exprs : (k : ℕ) → slice_get marks k ≡ Some true → expr_at one 0 k ≡ expr_at other 0 k

-- each attribute of the root that the matching with these ads can come to has its mark
abbrev pub AreAllMarked : List (List Frame) → List Frame → List Bool → Type 0
AreAllMarked ads request marks = (k : ℕ) → slice_get (reached_marks (first_names ads) request) k ≡ Some true → slice_get marks k ≡ Some true
