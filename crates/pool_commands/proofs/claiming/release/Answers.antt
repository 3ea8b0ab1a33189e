use Rattle.std.proofs.Common.{◌≡◌, ℕ, true, List, [], Err, sym, ◌∙◌, ap, subst}
use Rattle.claim_table.specs.declared.answers.JobFault.{JobFault}
use Rattle.claim_table.specs.declared.answers.JobState.{JobState}
use Rattle.pool_replies.specs.Refusals.{is_printable_refusal, is_wrong_state}
use Rattle.pool_replies.specs.Replies.{is_printable}
use Rattle.pool_replies.specs.declared.reply.Reply.{Reply}
use Rattle.pool_replies.specs.declared.refusal.Refusal.TheVariants as why
use Rattle.pool_replies.specs.declared.reply.Reply.TheVariants as reply
use Rattle.pool_books.specs.Books.{state_with}
use Rattle.pool_books.specs.ClaimAnswers.{IsReleaseAnswer}
use Rattle.pool_books.specs.Claiming.{release}
use Rattle.pool_books.specs.State.{State}
use Rattle.pool_commands.proofs.claiming.release.Goals as goal

pub returns-in-Ok-clause-step : goal.returns-in-Ok-clause-step
returns-in-Ok-clause-step c = λ moment priorities.
    let s : State = state_with moment priorities c.args.books.now in
    let t : State = state_with moment priorities c.release.new.self in
    ap (λ (n : List ℕ). release s n) (sym c.bytes.ensures) ∙ c.in-Ok.ensures.release moment priorities
    ∙ ap (λ (n : List ℕ). let p : State × Reply = (t, reply.Released n) in p) (c.bytes.ensures ∙ sym c.in_ok-named.ensures.text)

pub returns-in-Err-NoJob-clause-step : goal.returns-in-Err-NoJob-clause-step
returns-in-Err-NoJob-clause-step c = λ moment priorities.
    let s : State = state_with moment priorities c.args.books.now in
    let t : State = state_with moment priorities c.release.new.self in
    ap (λ (n : List ℕ). release s n) (sym c.bytes.ensures)
    ∙ subst (λ (fault : JobFault). IsReleaseAnswer s c.bytes.result.now t (Err fault)) c.in-Err-NoJob.field-0-is
    (c.in-Err-NoJob.ensures.release moment priorities)

pub returns-clause-step : goal.returns-clause-step
returns-clause-step c = λ moment priorities.
    let s : State = state_with moment priorities c.args.books.now in
    let t : State = state_with moment priorities c.release.new.self in
    let told =
    subst (λ (fault : JobFault). IsReleaseAnswer s c.bytes.result.now t (Err fault)) c.in-Err-WrongState.field-0-is
    (c.in-Err-WrongState.ensures.release moment priorities) in
    ap (λ (n : List ℕ). release s n) (sym c.bytes.ensures) ∙ told.1
    ∙ ap (λ (state : JobState). let p : State × Reply = (t, reply.Refused (why.WrongState state)) in p) (sym c.in-Err-WrongState.state-is)

pub returns-clause-printable : goal.returns-clause-printable
unfolding is_printable is_printable_refusal
returns-clause-printable c =
    let s : State = state_with 0 [] c.args.books.now in
    let t : State = state_with 0 [] c.release.new.self in
    let told =
    subst (λ (fault : JobFault). IsReleaseAnswer s c.bytes.result.now t (Err fault)) c.in-Err-WrongState.field-0-is
    (c.in-Err-WrongState.ensures.release 0 []) in
    subst (λ (state : JobState). is_wrong_state state ≡ true) (sym c.in-Err-WrongState.state-is) told.0
