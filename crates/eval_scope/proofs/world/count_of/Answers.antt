use Rattle.std.proofs.Common.{arith, ap, ◌≡◌, ◌+◌, ◌<◌, ◌≤◌, ℕ, min, sum_by, length, drop, ◌∙◌}
use Rattle.ad_tree.specs.Ad.{ad_frames}
use Rattle.ad_tree.specs.Frames.{attributes_at}
use Rattle.eval_scope.proofs.WorldLemmas.{counted-next, counted-end, most}
use Rattle.eval_scope.proofs.world.count_of.Goals as goal

pub loop-frame-preserved : goal.loop-frame-preserved
loop-frame-preserved c =
    let fs = ad_frames c.args.ad.now in
    let within : c.loop-frame.frame < length fs = omega arith in
    let added : c.saturating_add-total.result ≡ min (c.loop-frame.total + length (attributes_at fs c.loop-frame.frame)) most =
    c.saturating_add-total.ensures ∙ ap (λ (n : ℕ). min (c.loop-frame.total + n) most) (c.from.ensures ∙ c.count.ensures) in (
      ap (λ (n : ℕ). min (n + sum_by (λ f. length f.attributes) (drop (c.loop-frame.frame + 1) fs)) most) added
          ∙ counted-next fs c.loop-frame.frame c.loop-frame.total (min (sum_by (λ f. length f.attributes) fs) most) within c.loop-frame.invariant.0,
      omega arith,
    )

pub returns : goal.returns
returns c =
    let fs = ad_frames c.args.ad.now in
    let past : length fs ≤ c.loop-frame.frame = omega arith in
    counted-end (λ f. length f.attributes) fs c.loop-frame.frame c.loop-frame.total (min (sum_by (λ f. length f.attributes) fs) most) past
    c.loop-frame.invariant.1 c.loop-frame.invariant.0
