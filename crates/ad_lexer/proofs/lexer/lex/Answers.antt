use Rattle.std.proofs.Common.{sym, subst, refl, inl, Err}
use Rattle.std.specs.Str.{IsValidUpTo}
use Rattle.ad_lexer.specs.Tokens.{Answers}
use Rattle.ad_lexer.proofs.Texts.{answers_tokens, answers_fault}
use Rattle.ad_lexer.proofs.lexer.lex.Goals as goal

pub returns-in-Ok-clause-tokens : goal.returns-in-Ok-clause-tokens
returns-in-Ok-clause-tokens c = answers_tokens c.args.text.now c.divide.result c.divide.ensures

pub returns-in-Ok-clause-fault : goal.returns-in-Ok-clause-fault
returns-in-Ok-clause-fault c = answers_fault c.args.text.now c.divide.result c.divide.ensures

pub returns-in-Err-clause-fault : goal.returns-in-Err-clause-fault
returns-in-Err-clause-fault c =
    answers_fault c.args.text.now (Err c.fault_at.result)
    (subst (λ f. Answers c.args.text.now (Err f)) (sym c.fault_at.ensures)
    (inl (refl, c.in-Err.ensures.cases.0, subst (λ n. IsValidUpTo c.args.text.now n) (sym c.valid_up_to.ensures) c.in-Err.ensures.cases.1)))
