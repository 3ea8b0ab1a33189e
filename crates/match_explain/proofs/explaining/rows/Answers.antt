use Rattle.std.proofs.Common.{◌<◌, Bor, List, ap, arith, get_or, length, map, option_map, refl, ◌∙◌}
use Rattle.std.proofs.lemmas.Option.{slice_get-get_or, slice_get-map, slice_get_read}
use Rattle.ad_tree.specs.Ad.{ad_frames}
use Rattle.ad_tree.specs.Tree.{tree}
use Rattle.ad_tree.specs.declared.tree.Expr.{Expr}
use Rattle.match_explain.proofs.ReportLemmas.{rows-next}
use Rattle.match_explain.proofs.explaining.rows.Goals as goal

pub loop-i-preserved : goal.loop-i-preserved
loop-i-preserved c =
    let question = c.args.question.now in
    let es : List (Bor Expr) = question.conjuncts.items in
    let e : Bor Expr = c.index.result.now in
    let i = c.loop-i.i in
    let counts = c.args.counts.now in
    let within : i < length es = omega (arith, c.loop-i-test.true, c.len-i-end.ensures) in
    let there =
    slice_get-map (λ (x : Bor Expr). tree x.now) es i ∙ ap (option_map (λ (x : Bor Expr). tree x.now)) (slice_get_read es (length es) i e refl within
    c.index.ensures) in
    let beside = slice_get-get_or counts i 0 (omega (arith, within, c.requires)) in
    rows-next (ad_frames question.request.now.ad) (map (λ (x : Bor Expr). tree x.now) es) counts i (tree e.now) (get_or counts i 0) c.in_ok-text.text
    c.loop-i.rows c.push.new.self
    there beside c.loop-i.invariant c.in_ok-text.ensures c.in_ok-push.ensures.ok
