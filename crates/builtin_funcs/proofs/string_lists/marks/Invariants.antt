use Rattle.std.proofs.Common.{◌≡◌, ℕ, false, ◌||◌, eqb, drop, length, get_or}
use Rattle.std.specs.List.{list_any}
use Rattle.builtin_funcs.proofs.string_lists.marks.Given as goal

abbrev pub invariant-loop-delimiter : goal.invariant-loop-delimiter
invariant-loop-delimiter l =
    (length l.marks ≡ 256) × ((byte : ℕ)
    → (get_or l.marks byte false || list_any (λ d. eqb d byte) (drop l.delimiter-index l.delimiters)) ≡ list_any (λ d. eqb d byte) l.delimiters)
