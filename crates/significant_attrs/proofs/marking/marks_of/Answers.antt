use Rattle.std.proofs.Common.{arith, false, replicate, sym, ◌∙◌, ap, subst}
use Rattle.ad_tree.specs.Ad.{ad_frames}
use Rattle.significant_attrs.specs.Shown.{names_in}
use Rattle.significant_attrs.proofs.MarkLemmas.{IsMarking, falls, marking-begins, marking-ends, turned}
use Rattle.significant_attrs.proofs.marking.marks_of.Goals as goal

pub loop-i-init : goal.loop-i-init
loop-i-init c =
    subst (λ ns. IsMarking (names_in c.args.reach.now) (ad_frames c.args.ad.now) ns 0 c.in_ok-marks.marks.items) (sym c.in_ok-names.ensures)
    (marking-begins (names_in c.args.reach.now) (ad_frames c.args.ad.now) c.in_ok-marks.marks.items
    (c.in_ok-marks.ensures.items_if_clones_equal (λ y h. h) ∙ ap (λ n. replicate n false) c.count.ensures))

pub loop-i-smaller : goal.loop-i-smaller
loop-i-smaller c =
    falls (names_in c.args.reach.now) (ad_frames c.args.ad.now) c.loop-i.names c.visit.new.names c.loop-i.i c.loop-i.marks.items c.visit.new.marks.items
    c.loop-i.invariant
    (omega (arith, c.loop-i-test.true, c.len.ensures)) c.in_ok-visit.ensures.marks c.in_ok-visit.ensures.names

pub loop-i-preserved : goal.loop-i-preserved
loop-i-preserved c =
    turned (names_in c.args.reach.now) (ad_frames c.args.ad.now) c.loop-i.names c.visit.new.names c.loop-i.i c.loop-i.marks.items c.visit.new.marks.items
    c.loop-i.invariant
    (omega (arith, c.loop-i-test.true, c.len.ensures)) c.in_ok-visit.ensures.marks c.in_ok-visit.ensures.names

pub returns : goal.returns
returns c =
    marking-ends (names_in c.args.reach.now) (ad_frames c.args.ad.now) c.args.ad.now.is_ad c.loop-i.names c.loop-i.i c.loop-i.marks.items c.loop-i.invariant
    (omega (arith, c.loop-i-test.false, c.len.ensures))
