-- The verdict on one ad, from the truths of the request's conjuncts.
use Rattle.std.proofs.Common.{◌≡◌, ◌∙◌, ap, sym, refl, ℕ, Bool, Bor, List, map, Option, None, Some}
use Rattle.std.proofs.lemmas.Simd.{map-map}
use Rattle.pool_text.specs.declared.language.AdPlace.{AdPlace}
use Rattle.ad_tree.specs.Frames.{Frame}
use Rattle.ad_tree.specs.Tree.{tree}
use Rattle.ad_tree.specs.declared.tree.Expr.{Expr}
use Rattle.conjunct_plan.specs.Tests.{conjuncts_at, requirement_expr}
use Rattle.eval_scope.specs.World.{PlainWorld, request_side, resource_side}
use Rattle.match_explain.specs.declared.report.Verdict.{Verdict}
use Rattle.match_explain.specs.Counted.{against}
use Rattle.match_explain.specs.Why.{docked_to, failing, first_failing, holds, holds_for, verdict, verdict_by}
use Rattle.match_explain.proofs.FailingLemmas.{against-truths}

module _ (moment : ℕ) (request ad : List Frame) (es : List (Bor Expr)) (gathered : map (λ (e : Bor Expr). tree e.now) es ≡ conjuncts_at request 0) where
  -- the truths are those of the request's conjuncts
  pub truths-are : (w : PlainWorld) (at : AdPlace) (xs : List (Bor Expr)) (held : List Bool) → w ≡ docked_to moment request ad → at ≡ request_side w
      → xs ≡ es
      → held ≡ map (λ (e : Bor Expr). holds w at (tree e.now)) xs → held ≡ map (holds_for moment request ad) (conjuncts_at request 0)
  truths-are w at xs held docked side same is =
      is
      ∙ ap (λ (ys : List (Bor Expr)). map (λ (e : Bor Expr). holds w at (tree e.now)) ys) same
      ∙ ap (λ (p : AdPlace). map (λ (e : Bor Expr). holds w p (tree e.now)) es) side
      ∙ ap (λ (v : PlainWorld). map (λ (e : Bor Expr). holds v (request_side v) (tree e.now)) es) docked
      ∙ sym (map-map (holds_for moment request ad) (λ (e : Bor Expr). tree e.now) es)
      ∙ ap (map (holds_for moment request ad)) gathered
  -- as many as there are counts

module _ (moment : ℕ) (request ad : List Frame) (held : List Bool) (are : held ≡ map (holds_for moment request ad) (conjuncts_at request 0)) where
  world : PlainWorld
  world = docked_to moment request ad

  -- what fails of the request
  request-told : (found : Option ℕ) → found ≡ against (requirement_expr request 0) (first_failing (λ b. b) held)
      → found ≡ failing world (request_side world)
  unfolding world
  request-told found is =
      is
      ∙ ap (λ (bs : List Bool). against (requirement_expr request 0) (first_failing (λ b. b) bs)) are
      ∙ sym (against-truths (docked_to moment request ad) (request_side (docked_to moment request ad)) (requirement_expr request 0) refl)

  pub request-declines : (found : Option ℕ) (j : ℕ) → found ≡ against (requirement_expr request 0) (first_failing (λ b. b) held) → found ≡ Some j
      → Verdict.Request j ≡ verdict (docked_to moment request ad)
  unfolding world
  request-declines found j is some =
      ap (λ (o : Option ℕ). verdict_by o (failing (docked_to moment request ad) (resource_side (docked_to moment request ad))))
      (sym some ∙ request-told found is)

  pub request-accepts : (found other : Option ℕ) → found ≡ against (requirement_expr request 0) (first_failing (λ b. b) held) → found ≡ None
      → other ≡ failing (docked_to moment request ad) (resource_side (docked_to moment request ad))
      → verdict_by None other ≡ verdict (docked_to moment request ad)
  unfolding world
  request-accepts found other is none told = (λ k. verdict_by ((sym none ∙ request-told found is) k) (told k))
