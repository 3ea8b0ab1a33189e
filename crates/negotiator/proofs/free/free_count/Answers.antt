use Rattle.std.proofs.Common.{◌+◌, ℕ, ap, arith, count_by, refl, sym, ◌∙◌}
use Rattle.std.proofs.lemmas.List.{take_all}
use Rattle.ad_store.specs.Store.{stock_of}
use Rattle.claim_table.specs.Table.{jobs_of}
use Rattle.job_clusters.specs.Pools.{is_free}
use Rattle.negotiator.proofs.ActiveLemmas.{free-none, free-one}
use Rattle.negotiator.proofs.free.free_count.Goals.{else-is_free_slot, then-is_free_slot}
use Rattle.negotiator.proofs.free.free_count.Goals as goal

pub loop-i-init : goal.loop-i-init
loop-i-init c = record { free = refl; few = omega arith }

pub loop-i-preserved : goal.loop-i-preserved
loop-i-preserved c =
    let jobs = jobs_of c.args.claims.now in
    let slots = (stock_of c.args.store.now).slots in
    elim c.if-is_free_slot.branch [
      | then-is_free_slot w ↦ record {
        free = w.free-is ∙ ap (λ (n : ℕ). n + 1) c.loop-i.invariant.free
            ∙ sym (free-one jobs slots c.loop-i.i c.at.result c.at.ensures.place (sym c.is_free_slot.ensures ∙ w.if-is_free_slot.true));
        few = omega (arith, w.free-is, c.loop-i.invariant.few);
      }
      | else-is_free_slot w ↦ record {
        free = w.free-is ∙ c.loop-i.invariant.free ∙ sym (free-none jobs slots c.loop-i.i c.at.result c.at.ensures.place
            (sym c.is_free_slot.ensures ∙ w.if-is_free_slot.false));
        few = omega (arith, w.free-is, c.loop-i.invariant.few);
      }
    ]

pub returns-clause-free : goal.returns-clause-free
returns-clause-free c =
    let slots = (stock_of c.args.store.now).slots in
    c.loop-i.invariant.free ∙ ap (count_by (is_free (jobs_of c.args.claims.now))) (take_all c.loop-i.i slots
    (omega (arith, c.loop-i-test.false, c.len-i-end.ensures.slots)))

pub returns-clause-few : goal.returns-clause-few
returns-clause-few c = omega (arith, c.loop-i.invariant.few, c.loop-i.auto.i-end, c.len-i-end.ensures.few)
