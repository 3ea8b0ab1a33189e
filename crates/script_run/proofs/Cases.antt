-- A choice between two orders of numbers.
use Rattle.std.proofs.Common.{ℕ, ◌≤◌, ◌<◌, ◌⊎◌, inl, inr}
use Rattle.std.proofs.lemmas.Bool.Decides.{leb_tells}

pub at_most_or_above : (a b : ℕ) → (a ≤ b) ⊎ (b < a)
at_most_or_above a b = elim (leb_tells a b) [ inl h ↦ inl h.1 | inr h ↦ inr h.1 ]
