use Rattle.std.proofs.Common.{sym, ◌∙◌}
use Rattle.ad_parser.specs.Outcomes.{expr_outcome}
use Rattle.ad_parser.proofs.Outcomes.{expr_outcome-has}
use Rattle.pool_books.proofs.HitLemmas.{if_ok}
use Rattle.pool_commands.proofs.StepLemmas.{eval-faulty, eval-parsed}
use Rattle.pool_commands.proofs.expressions.eval.Goals as goal

pub returns-in-Err-clause-reply : goal.returns-in-Err-clause-reply
returns-in-Err-clause-reply g c =
    if_ok c.faulty.result _ _ (λ reply told.
    let text = c.args.expr.now in
    eval-faulty c.args.moment (expr_outcome text) c.in-Err.fault (c.in-Err.ensures.outcome (expr_outcome text) (expr_outcome-has text)) told.1 ∙ sym told.0)
    c.faulty.ensures.reply

pub returns-clause-reply : goal.returns-clause-reply
returns-clause-reply g c =
    let text = c.args.expr.now in
    eval-parsed c.args.moment (expr_outcome text) c.in-Ok.phrase c.in_ok-text.field-0 (c.in-Ok.ensures.outcome (expr_outcome text) (expr_outcome-has text))
    c.in_ok-text.ensures.text
