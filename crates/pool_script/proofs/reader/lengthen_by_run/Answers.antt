use Rattle.std.proofs.Common.{◌≡◌, ◌++◌, ℕ, ◌∙◌, List, take, drop, ap}
use Rattle.pool_script.specs.Runs.{run_into}
use Rattle.pool_script.specs.declared.reader.Block.{Block}
use Rattle.pool_script.proofs.RunLemmas.{run_and_left, run_within, taken_run}
use Rattle.pool_script.proofs.reader.lengthen_by_run.Goals as goal

pub split_at-requires : goal.split_at-requires
split_at-requires c = rw c.run_into.ensures (run_within c.args.block.now c.args.piece.now)

pub returns-clause-ok : goal.returns-clause-ok
returns-clause-ok c =
    let block = c.args.block.now in
    let piece = c.args.piece.now in
    let run : c.split_at.result.0.now ≡ run_into block piece =
    c.split_at.ensures.front ∙ ap (λ (n : ℕ). take n piece) c.run_into.ensures ∙ taken_run block piece in
    ap {A = List ℕ} {B = Block} (λ (text : List ℕ). record { line = block.line; text = text })
    (c.in_ok-append.ensures.ok ∙ ap (λ (l : List ℕ). block.text ++ l) run)

pub returns-clause-left : goal.returns-clause-left
returns-clause-left c =
    let block = c.args.block.now in
    let piece = c.args.piece.now in
    ap (λ (l : List ℕ). run_into block piece ++ l) (c.split_at.ensures.back ∙ ap (λ (n : ℕ). drop n piece) c.run_into.ensures) ∙ run_and_left block piece
