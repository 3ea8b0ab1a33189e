use Rattle.std.proofs.Common.{suc, arith}
use Rattle.eval_scope.specs.Shown.{world_of}
use Rattle.ad_eval.specs.Value.{value_at}
use Rattle.ad_eval.proofs.ReferenceLemmas.{descends}
use Rattle.ad_eval.proofs.laws.circles_have_no_value.Goals as goal

pub returns : goal.returns
returns c = λ s needs n. descends (λ m. value_at m (world_of c.args.world.now) s) needs (suc n) n (omega arith)
