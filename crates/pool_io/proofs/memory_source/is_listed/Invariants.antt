use Rattle.std.proofs.Common.{◌≡◌, drop, eqb}
use Rattle.std.specs.List.{list_any}
use Rattle.pool_io.proofs.memory_source.is_listed.Given as goal

abbrev pub invariant-loop-i : goal.invariant-loop-i
invariant-loop-i l = list_any (λ n. eqb n l.number) (drop l.i l.failing) ≡ list_any (λ n. eqb n l.number) l.failing
