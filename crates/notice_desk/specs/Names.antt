-- Names that stand on a desk.
use Rattle.std.specs.Prelude.{◌≢◌, ℕ, List, All, AllPairs}

-- none of the names is this one
abbrev pub IsAbsent : List ℕ → List (List ℕ) → Type 0
IsAbsent name names = All (λ other. other ≢ name) names

-- no two of the names are equal
abbrev pub AreDistinct : List (List ℕ) → Type 0
AreDistinct names = AllPairs (λ a b. a ≢ b) names
