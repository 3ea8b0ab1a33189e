-- What contracts see of a request's attributes that are marked.
use Rattle.std.specs.Prelude.{ℕ, suc, Bool, true, false, List, [], ◌∷◌, if◌then◌else◌}
use Rattle.std.specs.Ordering.{is_lt, nat_cmp}
use Rattle.std.specs.Cmp.Lexicographic.{slice_cmp}
use Rattle.ad_tree.specs.Frames.{Frame}
use Rattle.ad_tree.specs.Tree.{Tree}
use Rattle.job_classes.specs.Keys.{Entry, entry_of}

-- the entries of the attributes that are marked
abbrev pub marked_entries : List Frame → List Bool → List (List ℕ × Tree) → List Entry
marked_entries request (true ∷ marks) (a ∷ attributes) = entry_of request a ∷ marked_entries request marks attributes
marked_entries request (false ∷ marks) (a ∷ attributes) = marked_entries request marks attributes
marked_entries request marks attributes = []

-- the place of an entry of this name among others that are in order
abbrev pub place_among : List ℕ → List Entry → ℕ
place_among name [] = 0
place_among name (other ∷ others) = if is_lt (slice_cmp nat_cmp name other.0) then 0 else suc (place_among name others)
