use Rattle.std.proofs.Common.{arith, false, ◌∙◌, ap}
use Rattle.ad_tree.specs.Ad.{ad_frames}
use Rattle.ad_tree.specs.Frames.{attributes_at}
use Rattle.job_classes.proofs.EntryLemmas.{entry-added, entry-passed}
use Rattle.job_classes.proofs.key.Key.of_marked.Goals as goal
use Rattle.job_classes.proofs.key.Key.of_marked.Goals.{then-marks-k+in_ok-entry+in_ok-enter, else-marks-k}

pub loop-k-preserved : goal.loop-k-preserved
loop-k-preserved c =
    elim c.if-marks-k.branch [
      | then-marks-k+in_ok-entry+in_ok-enter w ↦
          entry-added (ad_frames c.args.ad.now) c.args.marks.now (attributes_at (ad_frames c.args.ad.now) 0) c.loop-k.k false _ c.loop-k.entries.items
          c.if-marks-k.entries.items _
          (omega (arith, c.loop-k-test.true, c.count-k-end.ensures, c.requires)) w.if-marks-k.true w.in_ok-entry.ensures
          (ap (λ v. v.items) w.entries-is ∙ w.in_ok-enter.ensures) c.loop-k.invariant
      | else-marks-k w ↦
          entry-passed (ad_frames c.args.ad.now) c.args.marks.now (attributes_at (ad_frames c.args.ad.now) 0) c.loop-k.k false c.loop-k.entries.items
          c.if-marks-k.entries.items _
          (omega (arith, c.loop-k-test.true, c.count-k-end.ensures, c.requires)) c.requires w.if-marks-k.false (ap (λ v. v.items) w.entries-is)
          c.loop-k.invariant
    ]
