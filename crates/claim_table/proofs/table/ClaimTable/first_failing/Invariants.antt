use Rattle.std.proofs.Common.{◌≡◌, ◌<◌, ◌*◌, ℕ, get_or, if◌then◌else◌, take, true}
use Rattle.pool_steps.specs.Spent.{IsPaid, Spends}
use Rattle.ad_tree.specs.Ad.{ad_frames}
use Rattle.ad_tree.specs.Small.{IsSmall}
use Rattle.eval_scope.specs.Shown.{world_of}
use Rattle.dock_match.specs.Docks.{is_last_decided}
use Rattle.dock_match.specs.Pool.{slots_world}
use Rattle.dock_match.specs.Small.{AreSmallAds}
use Rattle.claim_table.specs.Claims.{entered_in, passes, world_at}
use Rattle.claim_table.specs.Scenes.{settings_in, stock_in}
use Rattle.claim_table.specs.Small.{AreSmallJobs}
use Rattle.claim_table.specs.Table.{jobs_of}
use Rattle.claim_table.proofs.FailingLemmas.{upto}
use Rattle.claim_table.proofs.table.ClaimTable.first_failing.Given as goal

abbrev pub invariant-loop-slot : goal.invariant-loop-slot
invariant-loop-slot g l =
    let scene = l.scene in
    let request = l.scene.job.now.request in
    record {
      world : world_of l.world ≡ slots_world scene.moment (stock_in scene) request (take l.slot-index l.slots);
      passed : (k : ℕ) → k < l.slot-index
          → passes scene.moment (stock_in scene) (settings_in scene) (jobs_of l.self) scene.number (get_or l.slots k 0)
          (world_at scene.moment (stock_in scene) request l.slots k) ≡ true;
      spent : Spends l.initial.meter l.meter
          (4 * upto scene.moment (stock_in scene) request l.slots (λ slot world. if is_last_decided world then 0 else 1) l.slot-index)
          (upto scene.moment (stock_in scene) request l.slots (entered_in scene.moment (stock_in scene) (settings_in scene) (jobs_of l.self)) l.slot-index)
          (9 * l.slot-index);
      ratio : IsSmall (ad_frames request.ad) → AreSmallAds (stock_in scene).ads → AreSmallJobs (jobs_of l.self) → IsPaid l.initial.meter l.meter;
    }
