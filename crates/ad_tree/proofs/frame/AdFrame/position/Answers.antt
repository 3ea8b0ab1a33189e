use Rattle.std.proofs.Common.{◌≡◌, ◌∙◌, position, rules}
use Rattle.ad_tree.specs.Attributes.{attributes_of}
use Rattle.ad_tree.specs.Frames.{names_of}
use Rattle.ad_tree.specs.Names.{same_name}
use Rattle.ad_tree.proofs.FrameLemmas.{position-names}
use Rattle.ad_tree.proofs.frame.AdFrame.position.Goals as goal

pub returns : goal.returns
returns c =
    let found : c.get_index_of.result ≡ position (same_name c.args.name.now) (names_of (attributes_of c.args.self.now.attributes.keys)) =
    c.get_index_of.ensures.index ∙ position-names c.args.name.now c.args.self.now.attributes.keys in
    search rules
