use Rattle.std.proofs.Common.{◌<◌, ◌+◌, ◌||◌, ◌∙◌, ℕ, ap, arith, length, refl, slice_get, subst, sym}
use Rattle.claim_table.specs.Table.{jobs_of}
use Rattle.negotiator.specs.declared.queues.Queue.{Queue}
use Rattle.negotiator.proofs.ActiveLemmas.{read-at}
use Rattle.negotiator.proofs.HeadLemmas.{head-due, head-more, same-moved}
use Rattle.negotiator.proofs.queues.Queue.advance.Goals as goal

pub loop-k-init : goal.loop-k-init
loop-k-init c = record { ahead = c.requires.ahead; same = refl; at = refl }

pub at-place-requires : goal.at-place-requires
at-place-requires c =
    let long = ap (λ (q : Queue). length q.places) c.loop-k.invariant.same in
    omega (arith, long, c.loop-k-test.true, c.len-k-end.ensures)

pub is_due-requires-clause-job : goal.is_due-requires-clause-job
is_due-requires-clause-job c =
    let at = ap (λ (q : Queue). slice_get q.places c.loop-k.k) (sym c.loop-k.invariant.same) ∙ c.at-place.ensures in
    let here = read-at c.args.self.now.places c.loop-k.k c.at-place.result.now at in
    subst (λ (i : ℕ). i < length (jobs_of c.args.claims.now)) here.1 (c.requires.within c.loop-k.k 0 here.0)

pub is_due-requires-clause-mark : goal.is_due-requires-clause-mark
is_due-requires-clause-mark c =
    let at = ap (λ (q : Queue). slice_get q.places c.loop-k.k) (sym c.loop-k.invariant.same) ∙ c.at-place.ensures in
    let here = read-at c.args.self.now.places c.loop-k.k c.at-place.result.now at in
    let job = subst (λ (i : ℕ). i < length (jobs_of c.args.claims.now)) here.1 (c.requires.within c.loop-k.k 0 here.0) in
    omega (arith, job, c.requires.marks)

pub returns-then-is_due-clause-ahead : goal.returns-then-is_due-clause-ahead
returns-then-is_due-clause-ahead c = c.loop-k.invariant.ahead

pub returns-then-is_due-clause-at_head : goal.returns-then-is_due-clause-at_head
returns-then-is_due-clause-at_head c =
    head-due (jobs_of c.args.claims.now) c.args.failed.now c.loop-k.self c.at-place.result.now
    (ap (slice_get c.loop-k.self.places) c.loop-k.invariant.at ∙ c.at-place.ensures) (sym c.is_due.ensures ∙ c.if-is_due.true)

pub returns-then-is_due-clause-same : goal.returns-then-is_due-clause-same
returns-then-is_due-clause-same c = c.loop-k.invariant.same

pub is_idle-requires : goal.is_idle-requires
is_idle-requires c =
    let at = ap (λ (q : Queue). slice_get q.places c.loop-k.k) (sym c.loop-k.invariant.same) ∙ c.at-place.ensures in
    let here = read-at c.args.self.now.places c.loop-k.k c.at-place.result.now at in
    subst (λ (i : ℕ). i < length (jobs_of c.args.claims.now)) here.1 (c.requires.within c.loop-k.k 0 here.0)

pub pass-requires : goal.pass-requires
pass-requires c = let at = c.loop-k.invariant.at in omega (arith, at, c.loop-k-test.true, c.len-k-end.type_inv)

pub loop-k-preserved : goal.loop-k-preserved
loop-k-preserved c = record {
  ahead = head-more (jobs_of c.args.claims.now) c.args.failed.now c.loop-k.self c.pass.new.self c.at-place.result.now c.loop-k.invariant.ahead
      (ap (slice_get c.loop-k.self.places) c.loop-k.invariant.at ∙ c.at-place.ensures) (sym c.is_due.ensures ∙ c.if-is_due.false)
      (c.pass.ensures ∙ ap (λ b. let q : Queue =
      record c.loop-k.self { head = c.loop-k.self.head + 1; has_failed = c.loop-k.self.has_failed || b } in q) c.is_idle.ensures);
  same = same-moved c.args.self.now c.loop-k.self c.pass.new.self (c.loop-k.self.head + 1) (c.loop-k.self.has_failed || c.is_idle.result)
      c.loop-k.invariant.same c.pass.ensures;
  at = ap (λ (q : Queue). q.head) c.pass.ensures ∙ ap (λ n. n + 1) c.loop-k.invariant.at;
}

pub returns-clause-ahead : goal.returns-clause-ahead
returns-clause-ahead c = c.loop-k.invariant.ahead

pub returns-clause-at_head : goal.returns-clause-at_head
returns-clause-at_head c = λ more.
    let long = ap (λ (q : Queue). length q.places) c.loop-k.invariant.same in
    let at = c.loop-k.invariant.at in
    absurd (omega (arith, more, long, at, c.loop-k-test.false, c.len-k-end.ensures))

pub returns-clause-same : goal.returns-clause-same
returns-clause-same c = c.loop-k.invariant.same
