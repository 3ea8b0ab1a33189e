use Rattle.std.proofs.Common.{◌≡◌, IfOk, sym, subst, arith}
use Rattle.ad_value.specs.Plain.{Plain, plain}
use Rattle.eval_scope.specs.Shown.{world_of}
use Rattle.ad_eval.proofs.TopLemmas.{evaluation-literal, few-attributes}
use Rattle.ad_eval.proofs.top.value_at.Goals as goal

pub returns-in-Some-clause-value : goal.returns-in-Some-clause-value
returns-in-Some-clause-value g c =
    let w = world_of c.args.world.now in
    let same = evaluation-literal w c.args.pos c.in-Some.lit.now (sym c.in-Some.ensures) in
    subst (λ (p : Plain). IfOk c.from_lit.result (λ v. plain v ≡ p)) (sym same) c.from_lit.ensures

pub returns-in-None-clause-ratio : goal.returns-in-None-clause-ratio
returns-in-None-clause-ratio g c small = omega (arith, c.tick.ensures, few-attributes c.args.world.now small, c.by_expression.ensures.entries)
