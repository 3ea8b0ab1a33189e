use Rattle.std.proofs.Common.{◌+◌, ◌<◌, ◌≤◌, ℕ, List, [], false, Some, ap, length, map, sym, ◌∙◌, subst, arith}
use Rattle.std.proofs.lemmas.List.{length-map}
use Rattle.claim_table.specs.Table.{jobs_of}
use Rattle.negotiator.specs.Cycle.{Waiting}
use Rattle.negotiator.specs.Markets.{waiting_of}
use Rattle.negotiator.specs.Queues.{Key, queue_of}
use Rattle.negotiator.specs.Scenes.{market_in}
use Rattle.negotiator.proofs.HeadLemmas.{fresh-all}
use Rattle.negotiator.proofs.QueueLemmas.{QueuesTo, queues-all, queues-more, queues-none}
use Rattle.negotiator.proofs.ShiftLemmas.{user-of}
use Rattle.negotiator.proofs.queues.gather.Goals as goal

pub loop-i-init : goal.loop-i-init
loop-i-init c =
    subst (λ (es : List (Key × List ℕ)). QueuesTo (market_in c.args.scene.now (jobs_of c.args.claims.now)) 0 (map queue_of es))
    (sym c.new-gathered.ensures.empty) (queues-none (market_in c.args.scene.now (jobs_of c.args.claims.now)))

pub enqueue-requires : goal.enqueue-requires
enqueue-requires c = c.loop-i.invariant.numbers

pub loop-i-preserved : goal.loop-i-preserved
loop-i-preserved c =
    let jobs = jobs_of c.args.claims.now in
    let d : Waiting = record { user = []; wants = 0; is_idle = false } in
    let within : c.loop-i.i < length (map waiting_of jobs) = omega (arith, length-map jobs waiting_of, c.loop-i-test.true, c.len-i-end.ensures.len) in
    subst (QueuesTo (market_in c.args.scene.now jobs) (c.loop-i.i + 1)) (sym c.in_ok-enqueue.ensures)
    (queues-more (market_in c.args.scene.now jobs) c.loop-i.i (map queue_of c.loop-i.gathered.entries) c.loop-i.invariant c.bytes-user.result.now d within
    (user-of jobs c.loop-i.i c.bytes-user.result.now d (c.user.ensures ∙ ap Some (sym c.bytes-user.ensures))))

pub returns : goal.returns
returns c =
    let jobs = jobs_of c.args.claims.now in
    let low : length (map waiting_of jobs) ≤ c.loop-i.i = omega (arith, length-map jobs waiting_of, c.loop-i-test.false, c.len-i-end.ensures.len) in
    let high : c.loop-i.i ≤ length (map waiting_of jobs) = omega (arith, length-map jobs waiting_of, c.loop-i.auto.i-end, c.len-i-end.ensures.len) in
    record {
      are =
          queues-all (market_in c.args.scene.now jobs) c.loop-i.i (map queue_of c.loop-i.gathered.entries) c.loop-i.invariant low high;
      fresh =
          fresh-all c.loop-i.gathered.entries;
    }
