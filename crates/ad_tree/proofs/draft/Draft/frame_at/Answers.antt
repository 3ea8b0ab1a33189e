use Rattle.std.proofs.Common.{arith}
use Rattle.ad_tree.proofs.DraftLemmas.{inner-read}
use Rattle.ad_tree.specs.Table.{frame_of}
use Rattle.ad_tree.proofs.draft.Draft.frame_at.Goals as goal

pub returns : goal.returns
returns c =
    inner-read (frame_of c.args.self.now.root) c.args.self.now.inner.items c.args.frame c.index.result.now c.if-frame-eq0.false (omega arith) c.index.ensures
