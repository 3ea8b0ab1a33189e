use Rattle.std.proofs.Common.{arith, sym, ◌∙◌}
use Rattle.ad_tree.specs.Ad.{ad_frames}
use Rattle.gang_ports.proofs.ReferenceLemmas.{frame-found, frame-next}
use Rattle.gang_ports.proofs.free_ports.is_referred.Goals as goal

pub returns-then-is_referred_in : goal.returns-then-is_referred_in
returns-then-is_referred_in c =
    frame-found (ad_frames c.args.ad.now) c.args.label.now c.loop-frame.frame c.loop-frame.invariant
    (omega (arith, c.loop-frame-test.true, c.frames-frame-end.ensures)) (sym c.if-is_referred_in.true ∙ c.is_referred_in.ensures)

pub loop-frame-preserved : goal.loop-frame-preserved
loop-frame-preserved c =
    frame-next (ad_frames c.args.ad.now) c.args.label.now c.loop-frame.frame c.loop-frame.invariant
    (omega (arith, c.loop-frame-test.true, c.frames-frame-end.ensures)) (sym c.if-is_referred_in.false ∙ c.is_referred_in.ensures)
