use Rattle.std.proofs.Common.{refl}
use Rattle.ad_tree.proofs.NameLemmas.{both_left, both_right}
use Rattle.ad_builder.proofs.builder.Builder.add.Goals as goal

pub returns : goal.returns
returns c = record {
  measured = c.in_ok-is_added.ensures.measure;
  parent = refl;
  drafted = refl;
  frames = refl;
  definitions = refl;
  steady = refl;
  built = λ built. both_left _ _ built;
  added = λ built. c.in_ok-is_added.ensures.tree (both_right _ _ built);
}
