-- The lines of a list of bytes. A line feed, 10, ends a line and is no part of it.
use Rattle.std.specs.Prelude.{ℕ, ◌==◌, List, [], ◌∷◌, ◌++◌, if◌then◌else◌}
use Rattle.std.specs.List.{flat_map}

-- the lines with a byte put before the first of them
abbrev pub onto : ℕ → List (List ℕ) → List (List ℕ)
onto byte [] = []
onto byte (line ∷ lines) = (byte ∷ line) ∷ lines

-- the lines that have ended
abbrev pub ended : List ℕ → List (List ℕ)
ended [] = []
ended (byte ∷ bytes) = if byte == 10 then [] ∷ ended bytes else onto byte (ended bytes)

-- the bytes behind the last line feed, where `lines` are those that end in them with a byte before
abbrev pub rest_behind : List (List ℕ) → ℕ → List ℕ → List ℕ
rest_behind [] byte rest = byte ∷ rest
rest_behind (line ∷ lines) byte rest = rest

-- the bytes behind the last line feed, which are no line yet
abbrev pub rest_of : List ℕ → List ℕ
rest_of [] = []
rest_of (byte ∷ bytes) = if byte == 10 then rest_of bytes else rest_behind (ended bytes) byte (rest_of bytes)

-- a rest as the last line of an input that ends: none where no byte is left
abbrev pub last_line : List ℕ → List (List ℕ)
last_line [] = []
last_line (byte ∷ bytes) = (byte ∷ bytes) ∷ []

-- all lines of a whole input
abbrev pub whole : List ℕ → List (List ℕ)
whole bytes = ended bytes ++ last_line (rest_of bytes)

-- the lines one behind another, each with its line feed
abbrev pub with_feeds : List (List ℕ) → List ℕ
with_feeds lines = flat_map (λ line. line ++ 10 ∷ []) lines

-- a line without the one carriage return that may end it
abbrev pub without_return : List ℕ → List ℕ
without_return [] = []
without_return (byte ∷ []) = if byte == 13 then [] else byte ∷ []
without_return (byte ∷ next ∷ bytes) = byte ∷ without_return (next ∷ bytes)
