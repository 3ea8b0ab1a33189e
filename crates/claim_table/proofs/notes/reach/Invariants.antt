use Rattle.std.proofs.Common.{◌≡◌, ◌≤◌, ℕ, ◌-◌, ◌+◌, max, vec_len}
use Rattle.claim_table.specs.Kept.{note_at}
use Rattle.claim_table.proofs.notes.reach.Given as goal

abbrev pub invariant-loop-notes : goal.invariant-loop-notes
invariant-loop-notes l =
    ((other : ℕ) → note_at l.notes.items other ≡ note_at l.initial.notes.items other) × (vec_len l.initial.notes ≤ vec_len l.notes)
    × (vec_len l.notes ≤ max (vec_len l.initial.notes) (l.slot + 1))

abbrev pub decreases-loop-notes : goal.decreases-loop-notes
decreases-loop-notes l = (l.slot + 1) - vec_len l.notes
