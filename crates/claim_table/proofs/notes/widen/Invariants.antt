use Rattle.std.proofs.Common.{◌≡◌, ◌<◌, ◌≤◌, ℕ, All, take, vec_len}
use Rattle.claim_table.specs.Kept.{note_at}
use Rattle.claim_table.proofs.notes.widen.Given as goal

abbrev pub invariant-loop-slot : goal.invariant-loop-slot
invariant-loop-slot l =
    ((other : ℕ) → note_at l.offers.items other ≡ note_at l.initial.offers.items other)
    × ((other : ℕ) → note_at l.claims.items other ≡ note_at l.initial.claims.items other)
    × (vec_len l.offers ≤ vec_len l.claims)
    × All (λ s. s < vec_len l.offers) (take l.slot-index l.slots)
