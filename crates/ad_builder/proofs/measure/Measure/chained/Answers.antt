use Rattle.ad_builder.proofs.MeasureLemmas.{longer}
use Rattle.std.proofs.Common.{arith}
use Rattle.ad_builder.proofs.measure.Measure.chained.Goals as goal

pub returns-then-eq-clause-longer : goal.returns-then-eq-clause-longer
returns-then-eq-clause-longer c = λ label xs y is a b.
    longer c.args.self c.args.second c.beside.result label xs y a b (omega arith) c.beside.ensures.kind
