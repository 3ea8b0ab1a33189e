-- Classes by their keys alone, as they come about.
use Rattle.std.specs.Prelude.{ℕ, List, [], ◌∷◌, ◌++◌, length, map, Option, None, Some}
use Rattle.job_classes.specs.Classes.{joined, number_of}
use Rattle.job_classes.specs.Keys.{Entry}
use Rattle.pool_commands.specs.Classing.{Class}

-- the number of the class that a job of this key comes to, from 0
abbrev pub number_for : Option (List Entry) → List (Option (List Entry)) → ℕ
number_for None keys = length keys
number_for (Some key) keys = number_of key keys

-- the keys of the classes with one such job more
abbrev pub keys_with : Option (List Entry) → List (Option (List Entry)) → List (Option (List Entry))
keys_with None keys = keys ++ None ∷ []
keys_with (Some key) keys = joined key keys

-- the keys of classes
abbrev pub class_keys : List Class → List (Option (List Entry))
class_keys classes = map (λ class. class.key) classes
