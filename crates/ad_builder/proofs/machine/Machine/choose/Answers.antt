use Rattle.std.proofs.Common.{ap, ◌∙◌}
use Rattle.ad_builder.specs.Machine.{stack, step}
use Rattle.ad_builder.specs.declared.instruction.Instruction.TheVariants as instructions
use Rattle.ad_builder.proofs.MachineLemmas.{chosen-more}
use Rattle.ad_builder.proofs.machine.Machine.choose.Goals as goal

pub loop-preserved : goal.loop-preserved
loop-preserved c =
    c.in_ok-push.ensures.ok ∙ ap (step instructions.Choice) c.loop.invariant ∙ chosen-more c.loop.counter (stack c.args.self.now)
