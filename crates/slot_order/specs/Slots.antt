-- Lists of slots, as contracts see an order.
use Rattle.std.specs.Prelude.{ℕ, Bool, true, not, ◌&&◌, ◌==◌, List, [], ◌∷◌, ◌++◌, if◌then◌else◌}
use Rattle.std.specs.List.{list_any}

-- no two slots are one
abbrev pub are_apart : List ℕ → Bool
are_apart [] = true
are_apart (slot ∷ slots) = not (list_any (λ s. s == slot) slots) && are_apart slots

-- the slots with one more, which goes last if it isn't there
abbrev pub with_last : ℕ → List ℕ → List ℕ
with_last slot slots = if list_any (λ s. s == slot) slots then slots else slots ++ slot ∷ []

-- the slots without one
abbrev pub without : ℕ → List ℕ → List ℕ
without slot [] = []
without slot (other ∷ slots) = if other == slot then slots else other ∷ without slot slots
