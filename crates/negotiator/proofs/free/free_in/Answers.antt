use Rattle.std.proofs.Common.{◌+◌, ℕ, ap, arith, sym, ◌∙◌}
use Rattle.std.proofs.lemmas.List.Sums.{count_by_more_no, count_by_more_yes}
use Rattle.claim_table.specs.Table.{jobs_of}
use Rattle.job_clusters.specs.Pools.{is_free}
use Rattle.negotiator.proofs.free.free_in.Goals.{else-is_free_slot, then-is_free_slot}
use Rattle.negotiator.proofs.free.free_in.Goals as goal

pub loop-slot-preserved : goal.loop-slot-preserved
loop-slot-preserved c =
    let free = is_free (jobs_of c.args.claims.now) in
    elim c.if-is_free_slot.branch [
      | then-is_free_slot w ↦ record {
        free = w.free-is ∙ ap (λ (n : ℕ). n + 1) c.loop-slot.invariant.free
            ∙ sym (count_by_more_yes free c.args.slots.now c.loop-slot.slot-index 0 c.loop-slot-test.true
            (sym c.is_free_slot.ensures ∙ w.if-is_free_slot.true));
        few = omega (arith, w.free-is, c.loop-slot.invariant.few);
      }
      | else-is_free_slot w ↦ record {
        free = w.free-is ∙ c.loop-slot.invariant.free ∙ sym (count_by_more_no free c.args.slots.now c.loop-slot.slot-index 0 c.loop-slot-test.true
            (sym c.is_free_slot.ensures ∙ w.if-is_free_slot.false));
        few = omega (arith, w.free-is, c.loop-slot.invariant.few);
      }
    ]
