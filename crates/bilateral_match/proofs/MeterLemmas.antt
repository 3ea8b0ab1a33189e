-- What a search spends.
use Rattle.std.proofs.Common.{◌≡◌, ◌<◌, ◌≤◌, ◌+◌, ◌*◌, ℕ, List, [], length, take, get_or, sum_by, arith}
use Rattle.ad_tree.specs.Frames.{Frame}
use Rattle.conjunct_plan.specs.Tests.{tests_of}
use Rattle.ad_candidates.specs.Candidates.{AreCandidates}
use Rattle.ad_candidates.specs.Counts.{least_left}
use Rattle.dock_match.specs.Pool.{Pool}
use Rattle.pool_steps.specs.declared.meter.Meter.{Meter}
use Rattle.pool_steps.specs.Spent.{IsSame, Spends}
use Rattle.pool_steps.proofs.MeterLemmas.{same-on}
use Rattle.bilateral_match.specs.Counts.{entered_for, open_count}
use Rattle.bilateral_match.specs.Scan.{attributes_for, evaluations_for}
use Rattle.bilateral_match.proofs.LoopLemmas.{ends, stays}
use Rattle.bilateral_match.proofs.MemberScanLemmas.{entered-sum, open-sum}

module _ {F E T : Type 0} where
  -- ---- a loop over places that so much was spent in, up to one of them

  module _ (f g : ℕ → ℕ) (xs ys : List ℕ) (are : xs ≡ ys) (i looked total : ℕ) (before now : Meter F E T) (same : IsSame before now)
      (evaluations : now.tops.now ≤ before.tops.now + sum_by f (take i xs)) (entries : now.entry.now ≤ before.entry.now + sum_by g (take i xs))
      (looks : now.touch.now ≤ before.touch.now + looked) where
    -- it ends early at the next one
    pub spent-stays : (after : Meter F E T) (more : ℕ) → i < length xs → looked + more ≤ total
        → Spends now after (f (get_or xs i 0)) (g (get_or xs i 0)) more → Spends before after (sum_by f ys) (sum_by g ys) total
    spent-stays after more within fits step = record {
      same = same-on same step.same;
      most_evaluations = stays f xs ys are i before.tops.now now.tops.now after.tops.now evaluations within step.most_evaluations;
      most_entries = stays g xs ys are i before.entry.now now.entry.now after.entry.now entries within step.most_entries;
      most_looks = omega (arith, looks, step.most_looks, fits);
    }

    -- it ends past the last one
    pub spent-ends : length xs ≤ i → looked ≤ total → Spends before now (sum_by f ys) (sum_by g ys) total
    spent-ends past fits = record {
      same = same;
      most_evaluations = ends f xs ys are i before.tops.now now.tops.now 0 evaluations past;
      most_entries = ends g xs ys are i before.entry.now now.entry.now 0 entries past;
      most_looks = omega (arith, looks, fits);
    }

  -- what is spent over the candidates for a job is no more than over all resources
  pub searched : (pool : Pool) (request : List Frame) (places : List ℕ) → AreCandidates request pool.ads places → {before after : Meter F E T}
      → Spends before after (sum_by (evaluations_for pool request) places) (sum_by (attributes_for pool request) places) (9 * length places)
      → Spends before after (5 * open_count pool request) (entered_for pool request) (9 * least_left pool.ads (tests_of request 0 []))
  searched pool request places some spent = record {
    same = spent.same;
    most_evaluations = omega (arith, spent.most_evaluations, open-sum pool request places some);
    most_entries = omega (arith, spent.most_entries, entered-sum pool request places some);
    most_looks = omega (arith, spent.most_looks, some.few);
  }
