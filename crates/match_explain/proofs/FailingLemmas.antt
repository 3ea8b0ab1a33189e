-- The first of a list that fails a test.
use Rattle.std.proofs.Common.{◌≡◌, ◌∙◌, ap, sym, refl, ℕ, zero, suc, ◌+◌, add-one, Bool, true, false, cond, List, [], ◌∷◌, take, map}
use Rattle.std.proofs.Common.{Option, None, Some, option_map, slice_get}
use Rattle.std.specs.Option.{option_map_or}
use Rattle.ad_tree.specs.Tree.{Tree}
use Rattle.conjunct_plan.specs.Tests.{conjuncts, requirement_expr}
use Rattle.eval_scope.specs.World.{PlainWorld, frames_of_ad}
use Rattle.pool_text.specs.declared.language.AdPlace.{AdPlace}
use Rattle.match_explain.specs.Counted.{against}
use Rattle.match_explain.specs.Why.{failing, first_failing, holds}

module _ {X : Type 0} (test : X → Bool) where
  suc-none : (o : Option ℕ) → option_map suc o ≡ None → o ≡ None
  suc-none None is = refl
  suc-none (Some n) is = absurd (cc)

  none-suc : (xs : List X) (i : ℕ) (x : X) → slice_get xs i ≡ Some x → first_failing test (take i xs) ≡ None → test x ≡ true
      → first_failing test (take (suc i) xs) ≡ None
  none-suc [] i x is none passes = absurd (cc)
  none-suc (y ∷ xs) zero x is none passes =
      let same : y ≡ x = cc in
      ap (λ b. cond b (option_map suc None) (Some 1)) (ap test same ∙ passes)
  none-suc (y ∷ xs) (suc i) x is none passes = by (λ behind. none-suc xs i x is behind passes) (test y) none
    where
      by : (first_failing test (take i xs) ≡ None → first_failing test (take (suc i) xs) ≡ None)
          → (b : Bool) → cond b (option_map suc (first_failing test (take i xs))) (Some 1) ≡ None
          → cond b (option_map suc (first_failing test (take (suc i) xs))) (Some 1) ≡ None
      by rest true is = ap (option_map suc) (rest (suc-none (first_failing test (take i xs)) is))
      by rest false is = absurd (cc)

  found-suc : (xs : List X) (i : ℕ) (x : X) → slice_get xs i ≡ Some x → first_failing test (take i xs) ≡ None → test x ≡ false
      → first_failing test xs ≡ Some (suc i)
  found-suc [] i x is none fails = absurd (cc)
  found-suc (y ∷ xs) zero x is none fails =
      let same : y ≡ x = cc in
      ap (λ b. cond b (option_map suc (first_failing test xs)) (Some 1)) (ap test same ∙ fails)
  found-suc (y ∷ xs) (suc i) x is none fails = by (λ behind. found-suc xs i x is behind fails) (test y) none
    where
      by : (first_failing test (take i xs) ≡ None → first_failing test xs ≡ Some (suc i))
          → (b : Bool) → cond b (option_map suc (first_failing test (take i xs))) (Some 1) ≡ None
          → cond b (option_map suc (first_failing test xs)) (Some 1) ≡ Some (suc (suc i))
      by rest true is = ap (option_map suc) (rest (suc-none (first_failing test (take i xs)) is))
      by rest false is = absurd (cc)

  -- a list that passes up to an element, which passes too
  pub none-more : (xs : List X) (i : ℕ) (x : X) → slice_get xs i ≡ Some x → first_failing test (take i xs) ≡ None → test x ≡ true
      → first_failing test (take (i + 1) xs) ≡ None
  none-more xs i x is none passes = rw (add-one i) (none-suc xs i x is none passes)

  -- or which is the first that fails
  pub found-here : (xs : List X) (i : ℕ) (x : X) → slice_get xs i ≡ Some x → first_failing test (take i xs) ≡ None → test x ≡ false
      → first_failing test xs ≡ Some (i + 1)
  found-here xs i x is none fails = rw (add-one i) (found-suc xs i x is none fails)

  -- of elements of another list
  pub failing-map : {Y : Type 0} (f : Y → X) (ys : List Y) → first_failing test (map f ys) ≡ first_failing (λ y. test (f y)) ys
  failing-map f [] = refl
  failing-map f (y ∷ ys) = ap (λ o. cond (test (f y)) (option_map suc o) (Some 1)) (failing-map f ys)

-- what fails of a side, by the truths of its conjuncts
pub against-truths : (w : PlainWorld) (p : AdPlace) (o : Option Tree) → requirement_expr (frames_of_ad w p.ad) p.frame ≡ o
    → failing w p ≡ against o (first_failing (λ b. b) (map (holds w p) (option_map_or conjuncts o [])))
against-truths w p o is = ap (λ found. option_map_or (λ t. first_failing (holds w p) (conjuncts t)) found (Some 0)) is ∙ by o
  where
    by : (found : Option Tree)
        → option_map_or (λ t. first_failing (holds w p) (conjuncts t)) found (Some 0)
        ≡ against found (first_failing (λ b. b) (map (holds w p) (option_map_or conjuncts found [])))
    by None = refl
    by (Some t) = sym (failing-map (λ b. b) (holds w p) (conjuncts t))

pub failing-found : (w : PlainWorld) (p : AdPlace) (t : Tree) → requirement_expr (frames_of_ad w p.ad) p.frame ≡ Some t
    → failing w p ≡ first_failing (holds w p) (conjuncts t)
failing-found w p t is = ap (λ found. option_map_or (λ t. first_failing (holds w p) (conjuncts t)) found (Some 0)) is
