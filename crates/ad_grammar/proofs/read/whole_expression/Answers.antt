use Rattle.std.proofs.Common.{◌+◌, ap, refl, arith, Err, ◌∙◌}
use Rattle.ad_grammar.specs.declared.stop.Stop.TheVariants as stops
use Rattle.ad_builder.specs.Machine.{stack, top}
use Rattle.ad_grammar.specs.Rules.{parsed_expr}
use Rattle.ad_grammar.specs.Steps.{left}
use Rattle.ad_grammar.proofs.ReadLemmas.{is_read-ok, is_read-none, is_read-by, expression-none, expression-all, expression-more}
use Rattle.ad_grammar.proofs.read.whole_expression.Goals as goal

pub returns-in_err-expression : goal.returns-in_err-expression
returns-in_err-expression c =
    let ws = left c.args.reader.now in
    is_read-by (parsed_expr ws) c.from_residual.result c.in_err-expression.field-0.0 c.from_residual.ensures.0 c.from_residual.ensures.1
    (λ stop. expression-none ws (c.count-fuel.result + 1) (ap (λ n. n + 1) c.count-fuel.ensures.value) (c.in_err-expression.ensures.none (ap Err stop)))

pub returns-then-count-gt0 : goal.returns-then-count-gt0
returns-then-count-gt0 c =
    let ws = left c.args.reader.now in
    let read = c.in_ok-expression.ensures in
    is_read-none (parsed_expr ws) stops.Grammar
    (expression-more ws (c.count-fuel.result + 1) (ap (λ n. n + 1) c.count-fuel.ensures.value) (top (stack c.expression.new.machine))
    (left c.expression.new.reader)
    (read.ok c.in_ok-expression.field-0 refl) (omega (arith, c.count.ensures.value, c.if-count-gt0.true)))

pub returns : goal.returns
returns c =
    let ws = left c.args.reader.now in
    let read = c.in_ok-expression.ensures in
    is_read-ok (parsed_expr ws) c.expression.new.machine
    (expression-all ws (c.count-fuel.result + 1) (ap (λ n. n + 1) c.count-fuel.ensures.value) (top (stack c.expression.new.machine))
    (left c.expression.new.reader)
    (read.ok c.in_ok-expression.field-0 refl) (omega (arith, c.count.ensures.value, c.if-count-gt0.false)))
    (read.on c.in_ok-expression.field-0 refl ∙ c.of_expression-machine.ensures)
