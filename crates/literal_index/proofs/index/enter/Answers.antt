use Rattle.ad_tree.specs.Ad.{ad_frames}
use Rattle.ad_tree.specs.Frames.{attributes_at}
use Rattle.literal_index.proofs.RowLemmas.{entered, unchanged}
use Rattle.literal_index.proofs.index.enter.Goals as goal

pub returns-in-Err-clause-err : goal.returns-in-Err-clause-err
returns-in-Err-clause-err c under placed none =
    unchanged c.args.slot (attributes_at (ad_frames c.args.ad.now) 0) under c.args.entries.now c.put_attributes.new.entries c.args.slots.now c.insert.new.self
    c.remove.new.self
    placed none c.in-Err.ensures.err c.in_ok-insert.ensures.updates.0 c.remove.ensures.updates.0

pub returns-clause-ok : goal.returns-clause-ok
returns-clause-ok c under placed none =
    entered c.args.slot (ad_frames c.args.ad.now) under c.args.entries.now c.put_attributes.new.entries c.args.slots.now c.insert.new.self
    placed none c.in_default.ensures.ok c.in_ok-insert.ensures.updates.0
