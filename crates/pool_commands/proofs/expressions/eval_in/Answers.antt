use Rattle.std.proofs.Common.{◌≡◌, IfOk, sym, ◌∙◌, subst}
use Rattle.ad_parser.specs.Outcomes.{expr_outcome}
use Rattle.ad_parser.proofs.Outcomes.{expr_outcome-has}
use Rattle.pool_replies.specs.declared.reply.Reply.{Reply}
use Rattle.pool_books.specs.Indexed.{ads_of}
use Rattle.pool_books.proofs.HitLemmas.{if_ok}
use Rattle.pool_commands.proofs.StepLemmas.{eval_in-faulty, eval_in-parsed}
use Rattle.pool_commands.proofs.expressions.eval_in.Goals as goal

pub returns-in-Err-clause-reply : goal.returns-in-Err-clause-reply
returns-in-Err-clause-reply g c =
    if_ok c.faulty.result _ _ (λ reply told.
    let text = c.args.expr.now in
    eval_in-faulty c.args.moment (ads_of c.args.books.now.ads) c.args.name.now (expr_outcome text) c.in-Err.fault
    (c.in-Err.ensures.outcome (expr_outcome text) (expr_outcome-has text)) told.1 ∙ sym told.0)
    c.faulty.ensures.reply

pub returns-clause-reply : goal.returns-clause-reply
returns-clause-reply g c =
    let ads = ads_of c.args.books.now.ads in
    let text = c.args.expr.now in
    let P : Reply → Type 0 = λ answered. IfOk c.eval_beside-reply.result (λ reply. answered ≡ reply) in
    subst P (sym (eval_in-parsed c.args.moment ads c.args.name.now (expr_outcome text) c.in-Ok.phrase
    (c.in-Ok.ensures.outcome (expr_outcome text) (expr_outcome-has text)))) c.eval_beside-reply.ensures.reply
