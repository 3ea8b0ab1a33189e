use Rattle.std.proofs.Common.{◌≡◌, ◌+◌, ◌-◌, ◌^◌, ◌≤◌, length, drop, sum_by, min}
use Rattle.ad_tree.specs.Ad.{ad_frames}
use Rattle.eval_scope.proofs.world.count_of.Given as goal

-- what is counted and what is left make the whole
abbrev pub invariant-loop-frame : goal.invariant-loop-frame
invariant-loop-frame l =
    (min (l.total + sum_by (λ f. length f.attributes) (drop l.frame (ad_frames l.ad))) (2 ^ 64 - 1)
    ≡ min (sum_by (λ f. length f.attributes) (ad_frames l.ad)) (2 ^ 64 - 1))
    × (l.total ≤ 2 ^ 64 - 1)
