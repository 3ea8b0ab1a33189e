use Rattle.std.proofs.Common.{◌∙◌, ap}
use Rattle.ad_tree.specs.Frames.{put_attribute}
use Rattle.ad_tree.proofs.AttributeLemmas.{put_attribute-known, put_attribute-unknown}
use Rattle.ad_tree.proofs.SpellingLemmas.{defs_of-put}
use Rattle.ad_tree.proofs.laws.a_definition_stands_at_its_first_place.Goals as goal

pub returns-clause-known : goal.returns-clause-known
returns-clause-known g c front behind old split away same =
    ap (put_attribute g.given.0 g.given.1) split ∙ put_attribute-known g.given.0 g.given.1 front behind old away same

pub returns-clause-unknown : goal.returns-clause-unknown
returns-clause-unknown g c away = put_attribute-unknown g.given.0 g.given.1 g.given.2 away

pub returns-clause-spelled : goal.returns-clause-spelled
returns-clause-spelled g c open_frame = defs_of-put open_frame g.given.0 g.given.1 g.given.2
