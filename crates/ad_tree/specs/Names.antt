-- Names, which are equal where they are equal after the letters A to Z are made small.
use Rattle.std.specs.Prelude.{ℕ, Bool, true, false, ◌&&◌, ◌||◌, not, List, [], ◌∷◌, bytes_eq}
use Rattle.pool_text.specs.Folding.{folded}

-- whether two names are equal after folding
abbrev pub same_name : List ℕ → List ℕ → Bool
same_name a b = bytes_eq (folded a) (folded b)

-- whether one of the others is equal to the name
abbrev pub has_name : List ℕ → List (List ℕ) → Bool
has_name name [] = false
has_name name (other ∷ others) = same_name other name || has_name name others

-- whether no two of the names are equal
abbrev pub are_apart : List (List ℕ) → Bool
are_apart [] = true
are_apart (name ∷ names) = not (has_name name names) && are_apart names
