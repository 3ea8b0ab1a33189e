use Rattle.std.proofs.Common.{arith, refl}
use Rattle.ad_tree.specs.Ad.{ad_frames}
use Rattle.significant_attrs.specs.Names.{asked_by, asked_in_attributes}
use Rattle.significant_attrs.proofs.AddLemmas.{frame-added}
use Rattle.significant_attrs.proofs.asking.add_asked.Goals as goal

pub loop-frame-preserved : goal.loop-frame-preserved
loop-frame-preserved c =
    frame-added asked_by asked_in_attributes (λ g rest. refl) (ad_frames c.args.ad.now) c.loop-frame.frame c.loop-frame.names c.add_of_frame.new.names _
    (omega (arith, c.loop-frame-test.true, c.frames-frame-end.ensures)) c.in_ok-add_of_frame.ensures c.loop-frame.invariant
