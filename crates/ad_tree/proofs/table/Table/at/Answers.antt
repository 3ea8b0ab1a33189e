use Rattle.std.proofs.Common.{arith, ap, sym, slice_get}
use Rattle.std.proofs.lemmas.List.{length-map}
use Rattle.ad_tree.proofs.DraftLemmas.{inner-read}
use Rattle.ad_tree.specs.Table.{frame_of, table_frames}
use Rattle.ad_tree.proofs.table.Table.at.Goals as goal

pub returns-then-frame-eq0 : goal.returns-then-frame-eq0
returns-then-frame-eq0 c = ap (slice_get (table_frames c.args.self.now)) c.if-frame-eq0.true

pub returns : goal.returns
returns c =
    let inner = c.args.self.now.inner.items in
    sym (inner-read (frame_of c.args.self.now.root) inner c.args.frame c.index.result.now c.if-frame-eq0.false
    (omega (arith, c.requires, c.if-frame-eq0.false, length-map inner frame_of)) c.index.ensures)
