-- Classes of jobs, each the list of its jobs' names, and their text.
use Rattle.std.specs.Prelude.{ℕ, zero, suc, List, [], ◌∷◌, ◌++◌, codes, decimal, length}
use Rattle.pool_replies.specs.Cycles.{with_blanks}

-- lists with one member more: at the end of the list of this number, from 0, or in a new list behind the others
abbrev pub with_member : ℕ → List ℕ → List (List (List ℕ)) → List (List (List ℕ))
with_member i name [] = (name ∷ []) ∷ []
with_member zero name (names ∷ lists) = (names ++ name ∷ []) ∷ lists
with_member (suc i) name (names ∷ lists) = names ∷ with_member i name lists

-- `class I` and the names of its jobs
abbrev pub class_line : ℕ → List (List ℕ) → List ℕ
class_line i names = codes "class " ++ decimal i ++ with_blanks names ++ codes "\n"

-- a line for each class, of which the first has the number i
abbrev pub class_lines : ℕ → List (List (List ℕ)) → List ℕ
class_lines i [] = []
class_lines i (names ∷ lists) = class_line i names ++ class_lines (suc i) lists

-- `classes K` and a line for each class
abbrev pub classes_text : List (List (List ℕ)) → List ℕ
classes_text lists = codes "classes " ++ decimal (length lists) ++ codes "\n" ++ class_lines 1 lists
