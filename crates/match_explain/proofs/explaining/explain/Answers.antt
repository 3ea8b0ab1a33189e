use Rattle.std.proofs.Common.{◌≡◌, Bor, List, ℕ, ap, arith, length, map, ◌∙◌}
use Rattle.ad_store.specs.Store.{stock_of}
use Rattle.ad_tree.specs.Ad.{ad_frames}
use Rattle.ad_tree.specs.Tree.{Tree, tree}
use Rattle.ad_tree.specs.declared.tree.Expr.{Expr}
use Rattle.conjunct_plan.specs.Tests.{conjuncts_at}
use Rattle.match_explain.specs.Counted.{rows_of}
use Rattle.match_explain.specs.Why.{conjunct_row, holding}
use Rattle.match_explain.proofs.CountLemmas.{zeros-of}
use Rattle.match_explain.proofs.ReportLemmas.{rows-all, written-over}
use Rattle.match_explain.proofs.explaining.explain.Goals as goal

pub verdicts-requires-clause-none : goal.verdicts-requires-clause-none
verdicts-requires-clause-none g c =
    let es : List (Bor Expr) = c.in_ok-conjuncts_in.field-0.items in
    c.deref_mut.ensures.value
    ∙ c.in_ok-counts.ensures
    ∙ ap (map {B = ℕ} (λ (e : Bor Expr). 0)) c.deref.ensures.value
    ∙ zeros-of (λ (e : Bor Expr). tree e.now) es
    ∙ ap (map {B = ℕ} (λ (t : Tree). 0)) c.in_ok-conjuncts_in.ensures

pub returns-clause-report : goal.returns-clause-report
returns-clause-report g c =
    let fs = ad_frames c.args.request.now.ad in
    let ads = (stock_of c.args.store.now).ads in
    let ts = conjuncts_at fs 0 in
    let vec = c.in_ok-counts.counts in
    let new = c.verdicts.new.counts in
    let whole = written-over vec.items new vec.len (omega (arith, c.verdicts.auto.counts, ap length c.deref_mut.ensures.value)) vec.ok.0 in
    let counts : c.deref-2.result.now ≡ map (holding c.args.moment fs ads) ts = c.deref-2.ensures.value ∙ whole ∙ c.in_ok-verdicts.ensures.counts in
    let rows : c.in_ok-conjuncts.conjuncts ≡ map (conjunct_row c.args.moment fs ads) ts =
    c.in_ok-conjuncts.ensures
    ∙ (λ k. rows_of fs (c.in_ok-conjuncts_in.ensures k) (counts k))
    ∙ rows-all fs (holding c.args.moment fs ads) ts in
    (λ k. record { conjuncts = rows k; verdicts = c.in_ok-verdicts.ensures.verdicts k })
