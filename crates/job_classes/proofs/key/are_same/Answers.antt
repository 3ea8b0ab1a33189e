use Rattle.std.proofs.Common.{arith}
use Rattle.job_classes.proofs.EntryLemmas.{same_key-length}
use Rattle.job_classes.proofs.key.are_same.Goals as goal

pub returns-then-a-b : goal.returns-then-a-b
returns-then-a-b c = same_key-length c.args.a.now c.args.b.now (λ e. omega (arith, e, c.if-a-b.true))
