use Rattle.std.proofs.Common.{Err, ap, refl, arith}
use Rattle.ad_grammar.specs.Grammar.{IsExpr}
use Rattle.ad_builder.specs.Machine.{stack, top}
use Rattle.ad_grammar.specs.Steps.{left}
use Rattle.ad_parser.specs.Answers.{AnswersExpr, frames_of_expr}
use Rattle.ad_parser.proofs.ParseLemmas.{hands_on, stops_at, no-expr, expr-spells, checked-fault, checked-within}
use Rattle.ad_parser.proofs.parse.phrase_in.Goals as goal

pub returns-in_err-machine : goal.returns-in_err-machine
returns-in_err-machine c =
    let text = c.args.text.now in
    let shallow = c.in_ok-reader.ensures.ok in
    stops_at IsExpr frames_of_expr text (AnswersExpr text) (λ fault is. is) c.in_err-machine.field-0.0 c.from_residual-in_err-machine.result
    c.from_residual-in_err-machine.ensures.0 c.from_residual-in_err-machine.ensures.1
    (λ grammar. no-expr text (left c.in_ok-reader.reader) shallow (c.in_err-machine.ensures.none (ap Err grammar)))

pub returns-in_err-check : goal.returns-in_err-check
returns-in_err-check c =
    let text = c.args.text.now in
    let x = top (stack c.in_ok-machine.machine) in
    let spells = expr-spells text (left c.in_ok-reader.reader) c.in_ok-reader.ensures.ok x (c.in_ok-machine.ensures.ok c.in_ok-machine.machine refl) in
    hands_on IsExpr frames_of_expr text (AnswersExpr text) (λ fault is. is) c.in_err-check.field-0.0 c.from_residual-in_err-check.result
    c.from_residual-in_err-check.ensures.0 c.from_residual-in_err-check.ensures.1
    (checked-fault IsExpr frames_of_expr text x spells 1 (omega arith) c.in_err-check.field-0.0 c.in_err-check.ensures)

pub returns : goal.returns
returns c =
    let text = c.args.text.now in
    let x = top (stack c.in_ok-machine.machine) in
    let spells = expr-spells text (left c.in_ok-reader.reader) c.in_ok-reader.ensures.ok x (c.in_ok-machine.ensures.ok c.in_ok-machine.machine refl) in (
      x,
      spells,
      checked-within IsExpr frames_of_expr text x spells 1 (omega arith) c.in_ok-check.field-0 c.in_ok-check.ensures,
      c.in_ok-finish_phrase.ensures.frames,
      c.in_ok-finish_phrase.ensures.expr,
    )

pub check-requires : goal.check-requires
check-requires c = record { roots = omega arith; alone = c.in_ok-machine.ensures.alone c.in_ok-machine.machine refl }
