use Rattle.ad_tree.specs.Inline.{inner}
use Rattle.ad_printer.specs.Printed.{printed}
use Rattle.ad_printer.proofs.BackLemmas.{expr_spelled, ad_spelled, one_expr, one_ad}
use Rattle.ad_printer.proofs.laws.printed_trees_are_read.Goals as goal

pub returns-clause-expression : goal.returns-clause-expression
returns-clause-expression c = expr_spelled

pub returns-clause-one_expression : goal.returns-clause-one_expression
returns-clause-one_expression c = λ x other made low s. one_expr (printed x) other x s (expr_spelled x made low)

pub returns-clause-ad : goal.returns-clause-ad
returns-clause-ad c = ad_spelled

pub returns-clause-one_ad : goal.returns-clause-one_ad
returns-clause-one_ad c = λ ds other made low s. one_ad (printed (inner ds)) other (inner ds) s (ad_spelled ds made low)
