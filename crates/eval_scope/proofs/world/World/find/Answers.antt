use Rattle.std.proofs.Common.{sym, subst}
use Rattle.ad_tree.specs.declared.tree.Scope.{Scope}
use Rattle.eval_scope.specs.Look.{IsThere, candidates, in_frame}
use Rattle.eval_scope.specs.Shown.{world_of}
use Rattle.eval_scope.proofs.LookLemmas.{IsThere-at, IsThere-first}
use Rattle.eval_scope.proofs.world.World.find.Goals as goal

pub returns-in-Bare-clause-there : goal.returns-in-Bare-clause-there
returns-in-Bare-clause-there c =
    let w = world_of c.args.self.now in
    subst (IsThere w) (sym c.find_bare.ensures) (IsThere-first w c.args.name.now (candidates w c.args.at Scope.Bare))

pub returns-in-My-clause-there : goal.returns-in-My-clause-there
returns-in-My-clause-there c =
    let w = world_of c.args.self.now in
    subst (IsThere w) (sym c.find_in.ensures) (IsThere-at w c.args.name.now (in_frame c.root_of.result))

pub returns-in-Target-clause-there : goal.returns-in-Target-clause-there
returns-in-Target-clause-there c =
    let w = world_of c.args.self.now in
    subst (IsThere w) (sym c.find_beyond.ensures) (IsThere-first w c.args.name.now (candidates w c.args.at Scope.Target))
