-- Classes: requests by their keys, in the order in which they came.
use Rattle.std.specs.Prelude.{ℕ, suc, Bool, true, false, ◌&&◌, List, [], ◌∷◌, Option, None, Some, bytes_eq, if◌then◌else◌}
use Rattle.job_classes.specs.Keys.{Entry}

-- two keys are the same
abbrev pub same_key : List Entry → List Entry → Bool
same_key [] [] = true
same_key (a ∷ rest) (b ∷ others) = (bytes_eq a.0 b.0 && bytes_eq a.1 b.1) && same_key rest others
same_key rest others = false

-- a class has this key; one that was begun alone has none
abbrev pub has_key : List Entry → Option (List Entry) → Bool
has_key key None = false
has_key key (Some other) = same_key other key

-- the number, from 0, of the first class with a key, or of a new one
abbrev pub number_of : List Entry → List (Option (List Entry)) → ℕ
number_of key [] = 0
number_of key (class ∷ classes) = if has_key key class then 0 else suc (number_of key classes)

-- the classes after a key joined: the same where one of them has it, and else one more
abbrev pub joined : List Entry → List (Option (List Entry)) → List (Option (List Entry))
joined key [] = Some key ∷ []
joined key (class ∷ classes) = if has_key key class then class ∷ classes else class ∷ joined key classes
