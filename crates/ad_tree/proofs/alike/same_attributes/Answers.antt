use Rattle.std.proofs.Common.{◌≡◌, List, ℕ, refl, sym, ◌∙◌}
use Rattle.std.proofs.lemmas.Bool.{not-false}
use Rattle.std.specs.Cmp.Lexicographic.{bytes_decides}
use Rattle.ad_tree.specs.Ad.{ad_frames}
use Rattle.ad_tree.specs.Frames.{attributes_at}
use Rattle.ad_tree.specs.Tree.{Tree, tree}
use Rattle.ad_tree.proofs.SameLemmas.{attribute-at, same-attribute, same-more}
use Rattle.ad_tree.proofs.alike.same_attributes.Goals as goal

pub loop-k-preserved : goal.loop-k-preserved
loop-k-preserved c =
    let here : List (List ℕ × Tree) = attributes_at (ad_frames c.args.a.now) c.args.frame in
    let there : List (List ℕ × Tree) = attributes_at (ad_frames c.args.b.now) c.args.frame in
    let same_name : c.name.result.now ≡ c.name-in-loop-k.result.now =
    (bytes_decides c.name.result.now c.name-in-loop-k.result.now).0 (not-false _ (sym c.ne.ensures ∙ c.if-ne.false)) in
    same-more here there c.loop-k.k (c.name.result.now, tree c.expr.result.now) (c.name-in-loop-k.result.now, tree c.expr-in-loop-k.result.now)
    c.loop-k.invariant
    (attribute-at here c.loop-k.k c.name.result.now (tree c.expr.result.now) c.name.ensures c.expr.ensures)
    (attribute-at there c.loop-k.k c.name-in-loop-k.result.now (tree c.expr-in-loop-k.result.now) c.name-in-loop-k.ensures c.expr-in-loop-k.ensures)
    (same-attribute c.name.result.now c.name-in-loop-k.result.now (tree c.expr.result.now) (tree c.expr-in-loop-k.result.now) same_name
    (c.if-not-same_expr.ensures.0 refl))
