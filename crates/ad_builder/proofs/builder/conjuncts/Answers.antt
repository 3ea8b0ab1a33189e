use Rattle.ad_builder.proofs.BuilderLemmas.{if_ok, all-longer}
use Rattle.ad_tree.proofs.TreeLemmas.{tree-And}
use Rattle.std.proofs.Common.{ap, ◌∙◌}
use Rattle.ad_tree.specs.Tree.{tree, trees}
use Rattle.ad_builder.proofs.builder.conjuncts.Goals as goal

pub returns-in-And : goal.returns-in-And
returns-in-And c =
    if_ok c.with_last.result (λ list more. all-longer (trees c.in-And.list) (trees list) (tree c.args.second) more
    (ap tree c.in-And.is ∙ tree-And c.in-And.list)) c.with_last.ensures
