use Rattle.std.proofs.Common.{ℕ, ◌-◌, ◌∙◌, List, length, take, ap}
use Rattle.std.proofs.lemmas.List.{take_min}
use Rattle.pool_script.specs.Runs.{run_of}
use Rattle.pool_script.proofs.reader.run_into.Goals as goal

pub returns : goal.returns
returns c =
    let piece = c.args.piece.now in
    let room = c.saturating_sub-room.ensures ∙ ap (λ (text : List ℕ). 65536 - length text) c.bytes.ensures in
    let fitting = ap (λ (n : ℕ). take n piece) c.min.ensures ∙ take_min c.saturating_sub-room.result piece ∙ ap (λ (n : ℕ). take n piece) room in
    c.run_of_lines.ensures ∙ ap (λ (l : List ℕ). length (run_of l)) fitting
