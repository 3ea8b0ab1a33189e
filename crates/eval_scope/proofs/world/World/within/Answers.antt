use Rattle.std.proofs.Common.{rules, sym}
use Rattle.eval_scope.specs.Shown.{world_of}
use Rattle.eval_scope.proofs.LookLemmas.{attribute_in-there}
use Rattle.eval_scope.proofs.world.World.within.Goals as goal

pub returns-clause-found : goal.returns-clause-found
returns-clause-found c = search rules

pub returns-clause-there : goal.returns-clause-there
returns-clause-there c =
    attribute_in-there (world_of c.args.self.now) c.args.at c.args.name.now
    record { ad = c.args.at.ad; frame = c.args.at.frame; attr = c.in_ok-attr.attr } (sym (returns-clause-found c))
