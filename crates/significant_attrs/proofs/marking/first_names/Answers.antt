use Rattle.std.proofs.Common.{false, true, sym, ◌∙◌, ap}
use Rattle.ad_tree.specs.Ad.{ad_frames}
use Rattle.ad_tree.specs.Frames.{attributes_at}
use Rattle.ad_tree.specs.Names.{has_name}
use Rattle.significant_attrs.specs.Shown.{names_in}
use Rattle.significant_attrs.proofs.AddLemmas.{first-added}
use Rattle.significant_attrs.proofs.marking.first_names.Goals as goal
use Rattle.significant_attrs.proofs.marking.first_names.Goals.{then-branch+in_ok-add, else-branch}

pub loop-k-preserved : goal.loop-k-preserved
loop-k-preserved c =
    elim c.if-branch.branch [
      | then-branch+in_ok-add w ↦
          first-added (names_in c.args.reach.now) (attributes_at (ad_frames c.args.ad.now) 0) c.loop-k.k c.name-name.result.now true c.loop-k.names
          c.if-branch.names _
          c.name-name.ensures (sym (c.in_ok-has.ensures ∙ ap (λ n. has_name n (names_in c.args.reach.now)) c.bytes.ensures) ∙ w.if-branch.true)
          (w.names-is ∙ w.in_ok-add.ensures) c.loop-k.invariant
      | else-branch w ↦
          first-added (names_in c.args.reach.now) (attributes_at (ad_frames c.args.ad.now) 0) c.loop-k.k c.name-name.result.now false c.loop-k.names
          c.if-branch.names _
          c.name-name.ensures (sym (c.in_ok-has.ensures ∙ ap (λ n. has_name n (names_in c.args.reach.now)) c.bytes.ensures) ∙ w.if-branch.false) w.names-is
          c.loop-k.invariant
    ]
