use Rattle.std.proofs.Common.{Bool, List, ap, ◌∙◌}
use Rattle.ad_tree.specs.Ad.{ad_frames}
use Rattle.conjunct_plan.specs.Tests.{requirement_expr}
use Rattle.eval_scope.specs.Shown.{world_of}
use Rattle.eval_scope.specs.World.{PlainWorld, resource_side}
use Rattle.match_explain.specs.Counted.{against, counted}
use Rattle.match_explain.specs.Why.{failing, first_failing}
use Rattle.match_explain.proofs.JudgeLemmas.{request-accepts, request-declines, truths-are}
use Rattle.match_explain.proofs.ReportLemmas.{docked-world}
use Rattle.match_explain.proofs.judging.judge.Goals as goal

pub returns-in-Some-clause-verdict : goal.returns-in-Some-clause-verdict
returns-in-Some-clause-verdict g c =
    let question = c.args.question.now in
    let request = ad_frames question.request.now.ad in
    let ad = ad_frames c.args.ad.now in
    let same =
    docked-world question.moment request ad question.request.now.ports (world_of c.new.result) (world_of c.with-world.result) c.new.ensures
    c.with-world.ensures c.requires.single in
    let held : List Bool = c.in_ok-held.held.items in
    let are =
    truths-are question.moment request ad question.conjuncts.items c.requires.gathered (world_of c.with-world.result) c.request_place.result
    c.deref.result.now held same c.request_place.ensures c.deref.ensures.value c.in_ok-held.ensures.truths in
    request-declines question.moment request ad held are c.in_ok-j.field-0 c.in-Some.j
    (c.in_ok-j.ensures ∙ ap (λ (bs : List Bool). against (requirement_expr request 0) (first_failing (λ b. b) bs)) c.deref-3.ensures.value) c.in-Some.is

pub returns-in-Some-clause-counts : goal.returns-in-Some-clause-counts
returns-in-Some-clause-counts g c =
    let question = c.args.question.now in
    let request = ad_frames question.request.now.ad in
    let ad = ad_frames c.args.ad.now in
    let same =
    docked-world question.moment request ad question.request.now.ports (world_of c.new.result) (world_of c.with-world.result) c.new.ensures
    c.with-world.ensures c.requires.single in
    let are =
    truths-are question.moment request ad question.conjuncts.items c.requires.gathered (world_of c.with-world.result) c.request_place.result
    c.deref.result.now c.in_ok-held.held.items same c.request_place.ensures c.deref.ensures.value c.in_ok-held.ensures.truths in
    c.count.ensures ∙ ap (λ (bs : List Bool). counted bs c.args.counts.now) (c.deref-2.ensures.value ∙ are)

pub returns-clause-verdict : goal.returns-clause-verdict
returns-clause-verdict g c =
    let question = c.args.question.now in
    let request = ad_frames question.request.now.ad in
    let ad = ad_frames c.args.ad.now in
    let same =
    docked-world question.moment request ad question.request.now.ports (world_of c.new.result) (world_of c.with-world.result) c.new.ensures
    c.with-world.ensures c.requires.single in
    let held : List Bool = c.in_ok-held.held.items in
    let are =
    truths-are question.moment request ad question.conjuncts.items c.requires.gathered (world_of c.with-world.result) c.request_place.result
    c.deref.result.now held same c.request_place.ensures c.deref.ensures.value c.in_ok-held.ensures.truths in
    c.resource_verdict.ensures
    ∙ request-accepts question.moment request ad held are c.in_ok-j.field-0 c.in_ok-failing.failing
    (c.in_ok-j.ensures ∙ ap (λ (bs : List Bool). against (requirement_expr request 0) (first_failing (λ b. b) bs)) c.deref-3.ensures.value) c.in_default.is
    (c.in_ok-failing.ensures.found ∙ ap (λ (w : PlainWorld). failing w (resource_side w)) same)

pub returns-clause-counts : goal.returns-clause-counts
returns-clause-counts g c =
    let question = c.args.question.now in
    let request = ad_frames question.request.now.ad in
    let ad = ad_frames c.args.ad.now in
    let same =
    docked-world question.moment request ad question.request.now.ports (world_of c.new.result) (world_of c.with-world.result) c.new.ensures
    c.with-world.ensures c.requires.single in
    let are =
    truths-are question.moment request ad question.conjuncts.items c.requires.gathered (world_of c.with-world.result) c.request_place.result
    c.deref.result.now c.in_ok-held.held.items same c.request_place.ensures c.deref.ensures.value c.in_ok-held.ensures.truths in
    c.count.ensures ∙ ap (λ (bs : List Bool). counted bs c.args.counts.now) (c.deref-2.ensures.value ∙ are)
