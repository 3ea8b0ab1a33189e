use Rattle.std.proofs.Common.{◌<◌, ◌^◌, sym, subst}
use Rattle.ad_tree.specs.Ad.{ad_frames}
use Rattle.literal_index.proofs.WaitingLemmas.{kept-added}
use Rattle.literal_index.proofs.index.Index.add.Goals as goal

pub returns-clause-ok : goal.returns-clause-ok
returns-clause-ok c before after kept none =
    kept-added c.args.slot (ad_frames c.args.ad.now) before after c.args.self.now.entries c.args.self.now.slots c.args.self.now.waiting c.insert.new.self
    c.in_ok-share.field-0
    kept none (record { ad = c.args.ad.now.is_ad; slot = c.ranges.slot.fits; few = subst (λ n. n < 2 ^ 32) c.count-few.ensures c.count-few.type_inv })
    (sym c.in_ok-share.ensures) c.in_ok-insert.ensures.updates.0
