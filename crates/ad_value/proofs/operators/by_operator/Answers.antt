use Rattle.std.proofs.Common.{◌∙◌}
use Rattle.ad_value.specs.Plain.{plain}
use Rattle.ad_value.proofs.OperatorLemmas.{binary_value-strict}
use Rattle.ad_value.proofs.operators.by_operator.Goals as goal

pub returns-in_default : goal.returns-in_default
returns-in_default c =
    c.strict_result.ensures
    ∙ binary_value-strict c.args.op (plain c.args.a.now) (plain c.args.b.now) c.in_default.not-Same c.in_default.not-NotSame
