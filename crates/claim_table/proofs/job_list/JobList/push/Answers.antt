use Rattle.std.proofs.Common.{◌≡◌, ℕ, List, Some, None, cond, bytes_eq, refl, sym, ◌∙◌, ap, subst}
use Rattle.std.specs.Prelude.{slice_index_or}
use Rattle.slab.specs.Slab.{Updates, get}
use Rattle.slot_order.specs.Names.{slot_at}
use Rattle.claim_table.specs.declared.job.Job.{Job}
use Rattle.claim_table.specs.Listed.{AreListed, jobs_at}
use Rattle.claim_table.proofs.ListedLemmas.{entered_listed, jobs-push, same-updates, unnumbered, vacant_apart}
use Rattle.claim_table.proofs.job_list.JobList.push.Goals as goal

pub invariant_of-self-2 : goal.invariant_of-self-2
invariant_of-self-2 c =
    let l = c.args.self.now in
    let key = c.enter.new.table.vacant_key in
    let job : Job = c.args.job in
    let changes : Updates l.table c.insert_reserved.new.self key (Some job) =
    same-updates l.table c.enter.new.table c.enter.ensures.table c.insert_reserved.new.self key (Some job)
    (subst (λ k. Updates c.enter.new.table c.insert_reserved.new.self k (Some job)) c.insert_reserved.ensures.key c.insert_reserved.ensures.updates) in
    let vacant : get l.table key ≡ None =
    sym (ap (λ s. slice_index_or s key None) c.enter.ensures.table) ∙ ap (get c.enter.new.table) (sym c.insert_reserved.ensures.key)
    ∙ c.insert_reserved.ensures.was_vacant in
    let absent = vacant_apart l.table l.order key l.listed.filled vacant in
    record {
      listed = subst (λ s. AreListed c.insert_reserved.new.self s (slot_at c.enter.new.names)) (sym c.in_ok-enter.ensures.order)
          (entered_listed l.table c.insert_reserved.new.self l.order (slot_at l.names) key l.listed (slot_at c.enter.new.names) job.name job changes refl absent
          (unnumbered l.table l.order (slot_at l.names) l.listed c.slots_are_apart.ensures job.name c.requires)
          (subst (λ n. (other : List ℕ) → slot_at c.enter.new.names other ≡ cond (bytes_eq n other) (Some key) (slot_at l.names other)) c.bytes.ensures
          c.in_ok-enter.ensures.turns));
    }

pub returns-clause-ok : goal.returns-clause-ok
returns-clause-ok c =
    let l = c.args.self.now in
    let key = c.enter.new.table.vacant_key in
    let job : Job = c.args.job in
    let changes : Updates l.table c.insert_reserved.new.self key (Some job) =
    same-updates l.table c.enter.new.table c.enter.ensures.table c.insert_reserved.new.self key (Some job)
    (subst (λ k. Updates c.enter.new.table c.insert_reserved.new.self k (Some job)) c.insert_reserved.ensures.key c.insert_reserved.ensures.updates) in
    let vacant : get l.table key ≡ None =
    sym (ap (λ s. slice_index_or s key None) c.enter.ensures.table) ∙ ap (get c.enter.new.table) (sym c.insert_reserved.ensures.key)
    ∙ c.insert_reserved.ensures.was_vacant in
    ap (jobs_at c.insert_reserved.new.self) c.in_ok-enter.ensures.order
    ∙ jobs-push l.table c.insert_reserved.new.self key (Some job) changes job refl l.order (vacant_apart l.table l.order key l.listed.filled vacant)

pub returns-clause-last : goal.returns-clause-last
returns-clause-last c = (c.enter.new.table.vacant_key, c.in_ok-enter.ensures.order)
