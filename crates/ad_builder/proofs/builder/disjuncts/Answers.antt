use Rattle.ad_builder.proofs.BuilderLemmas.{if_ok, any-longer}
use Rattle.ad_tree.proofs.TreeLemmas.{tree-Or}
use Rattle.std.proofs.Common.{ap, ◌∙◌}
use Rattle.ad_tree.specs.Tree.{tree, trees}
use Rattle.ad_builder.proofs.builder.disjuncts.Goals as goal

pub returns-in-Or : goal.returns-in-Or
returns-in-Or c =
    if_ok c.with_last.result (λ list more. any-longer (trees c.in-Or.list) (trees list) (tree c.args.second) more (ap tree c.in-Or.is ∙ tree-Or c.in-Or.list))
    c.with_last.ensures
