use Rattle.std.proofs.Common.{ℕ, Option, ap, sym, ◌∙◌}
use Rattle.eval_scope.specs.Look.{first_found}
use Rattle.eval_scope.specs.Shown.{world_of}
use Rattle.eval_scope.proofs.LookLemmas.{AreLower-world, from_frame, passed-over}
use Rattle.eval_scope.proofs.world.World.find_upward.Goals as goal

pub loop-next-preserved : goal.loop-next-preserved
loop-next-preserved c =
    let w = world_of c.args.self.now in
    let ad = c.args.at.ad in
    let from = λ (o : Option ℕ). first_found w c.args.name.now (from_frame w ad o) in
    ap from c.parent-next.ensures.parent
    ∙ sym (passed-over w c.args.name.now ad c.in-Some.frame (AreLower-world c.args.self.now ad) (sym c.within.ensures.found ∙ c.in_default-within.is))
    ∙ ap from (sym c.in-Some.is)
    ∙ c.loop-next.invariant
