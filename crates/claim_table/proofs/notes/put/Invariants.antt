use Rattle.std.proofs.Common.{◌≡◌, ◌<◌, ℕ, cond, take, vec_len}
use Rattle.claim_table.specs.Jobs.{lists}
use Rattle.claim_table.specs.Kept.{note_at}
use Rattle.claim_table.proofs.notes.put.Given as goal

abbrev pub invariant-loop-slot : goal.invariant-loop-slot
invariant-loop-slot l =
    ((slot : ℕ) → slot < vec_len l.initial.notes
    → note_at l.notes.items slot ≡ cond (lists (take l.slot-index l.slots) slot) l.number (note_at l.initial.notes.items slot))
    × (vec_len l.notes ≡ vec_len l.initial.notes)
