use Rattle.std.proofs.Common.{subst}
use Rattle.claim_table.specs.declared.answers.PriorityFault.{PriorityFault}
use Rattle.claim_table.specs.Causes.{IsCause}
use Rattle.claim_table.specs.Priorities.{lacks_place}
use Rattle.claim_table.specs.Settings.{settings_of}
use Rattle.pool_books.specs.Books.{state_with}
use Rattle.pool_commands.proofs.SubmitLemmas.{priority-full, priority-set}
use Rattle.pool_commands.proofs.submission.set_priority.Goals as goal

pub returns-in-Ok-clause-step : goal.returns-in-Ok-clause-step
returns-in-Ok-clause-step c = λ moment books.
    let settings = settings_of c.args.priorities.now in
    priority-set (state_with moment settings books) c.args.user.now c.bytes.result.now c.in_ok-named.named c.args.n (settings_of c.set.new.self) c.bytes.ensures
    c.in_ok-named.ensures.text c.in-Ok.ensures.room c.in-Ok.ensures.ok

pub returns-in-Err-Full-clause-step : goal.returns-in-Err-Full-clause-step
returns-in-Err-Full-clause-step c = λ moment books.
    let settings = settings_of c.args.priorities.now in
    let full =
    subst (λ (fault : PriorityFault). IsCause fault (lacks_place c.bytes.result.now settings)) c.in-Err-Full.field-0-is c.in-Err-Full.ensures.cause in
    priority-full (state_with moment settings books) c.args.user.now c.bytes.result.now c.args.n (settings_of c.set.new.self) c.bytes.ensures full
    c.in-Err-Full.ensures.err
