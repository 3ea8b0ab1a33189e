use Rattle.std.proofs.Common.{◌∙◌, ap, arith, drop, take, length, length-drop, List, ℕ}
use Rattle.std.proofs.lemmas.List.{take_rest}
use Rattle.pool_io.specs.Memory.{is_empty}
use Rattle.pool_io.proofs.MemoryLemmas.{Reads-copy}
use Rattle.pool_io.proofs.memory_source.MemorySourceSource.read.Goals as goal

pub returns-clause-reads : goal.returns-clause-reads
returns-clause-reads c =
    let s = c.self.inside in
    let rest = take_rest c.bytes.result.now s.at ∙ ap (λ (l : List ℕ). drop s.at l) c.bytes.ensures in
    let copied = c.copy_from_slice.ensures.after ∙ ap (λ (l : List ℕ). take c.min-count.result l) rest in
    let rest_length = ap length rest in
    rw (← c.self.view_is) (Reads-copy s.text c.args.buf.now c.copy_from_slice.new.self s.at s.latest s.given s.calls c.saturating_add-self-inside-2.result
    c.saturating_add-self-inside.result s.most c.min-count.result s.faults (is_empty s.failing) c.self.invariant.0 c.self.invariant.1
    (omega (arith, length-drop s.at s.text)) copied c.saturating_add-self-inside-2.ensures c.saturating_add-self-inside.ensures)
