use Rattle.std.proofs.Common.{arith}
use Rattle.claim_table.specs.Priorities.{priority_of}
use Rattle.claim_table.specs.Settings.{settings_of}
use Rattle.negotiator.proofs.QueueLemmas.{gathered-more}
use Rattle.negotiator.specs.Queues.{Key}
use Rattle.negotiator.proofs.queues.enqueue.Goals as goal

pub returns : goal.returns
returns c =
    let settings = settings_of c.args.priorities.now in
    let key : Key = (c.get.result, c.in_ok-from_slice.field-0) in
    let more = gathered-more (λ u. priority_of u settings) c.args.user.now c.args.place key c.in_ok-from_slice.ensures.items c.get.ensures.number
    c.args.gathered.now.entries c.in_ok-gathered.ensures.ordered c.requires in
    let written = c.in_ok-gathered.ensures.update.1 in
    let value = c.in_ok-gathered.ensures.value in
    let first = c.or_insert.ensures.value in
    let pushed = c.in_ok-push.ensures.ok in
    let new = c.new.ensures in
    grind (arith, more, written, value, first, pushed, new)
