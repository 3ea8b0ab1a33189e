use Rattle.std.proofs.Common.{ap}
use Rattle.ad_builder.specs.Machine.{stack, below}
use Rattle.ad_grammar.specs.Rules.{plain_at}
use Rattle.ad_grammar.specs.Steps.{left}
use Rattle.ad_grammar.proofs.RuleLemmas.{begins-call, call-begun}
use Rattle.ad_grammar.proofs.phrase.named.Goals as goal

pub returns-then-takes : goal.returns-then-takes
returns-then-takes c =
    let st = stack c.args.machine.now in
    let put = c.in_ok-push.ensures.ok in
    begins-call (λ e. plain_at e c.args.name (left c.args.reader.now)) (left c.takes.new.self) st (stack c.push.new.self)
    (λ e. call-begun e c.args.name (left c.args.reader.now) (left c.takes.new.self) st (stack c.push.new.self) (c.takes.ensures.taken c.if-takes.true) put)
    (ap below put)
