use Rattle.std.proofs.Common.{arith, ◌<◌, ◌-◌, length}
use Rattle.std.proofs.lemmas.List.{length-map}
use Rattle.ad_tree.specs.Table.{frame_of}
use Rattle.ad_tree.proofs.DraftLemmas.{inner-same}
use Rattle.ad_tree.proofs.draft.Draft.reserve.Goals as goal

pub returns-else-frame-eq0 : goal.returns-else-frame-eq0
returns-else-frame-eq0 c =
    let fs = c.args.self.now.inner.items in
    let within : c.args.frame - 1 < length fs = omega (arith, length-map fs frame_of, c.requires, c.if-frame-eq0.false) in
    inner-same (frame_of c.args.self.now.root) fs (c.args.frame - 1) c.reserve-else-frame-eq0.new.self c.index_mut.result.now within c.index_mut.ensures.value
    c.reserve-else-frame-eq0.ensures
