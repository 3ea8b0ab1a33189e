-- Tests that leave no ad but such as another leaves.
use Rattle.std.proofs.Common.{◌≡◌, ◌≤◌, ℕ, ℤ, Bool, true, false, not, cond, List, [], ◌∷◌, Option, None, Some, refl, arith, ap, subst, sym, true≢false, ◌+◌}
use Rattle.std.specs.Option.{option_map, option_map_or}
use Rattle.std.proofs.lemmas.List.Sums.{sum_by-cons}
use Rattle.pool_text.specs.declared.language.BinOp.{BinOp}
use Rattle.pool_text.specs.declared.language.Lit.{Lit}
use Rattle.ad_tree.specs.Enclosing.{enclosed_expr}
use Rattle.ad_store.specs.Stock.{Advert}
use Rattle.ad_value.specs.Plain.{Plain}
use Rattle.ad_value.specs.Logic.{is_true}
use Rattle.conjunct_plan.specs.declared.test.Test.{Test}
use Rattle.conjunct_plan.specs.Decided.{asked, counted, is_decided, value_with}
use Rattle.ad_candidates.specs.Counts.{left_by}
use Rattle.ad_candidates.specs.KnownTests.{BoundsAsClosely}

-- an ad that one test leaves is left by another, where they ask for one attribute and the other is true wherever the one is
module _ (test other : Test) (same : asked test ≡ asked other)
    (holds : (x : Plain) → is_true (value_with test x) ≡ true → is_true (value_with other x) ≡ true) where
  left-too : (a : Option Plain) → not (option_map_or (λ value. not (is_true value)) (option_map (value_with test) a) false) ≡ true
      → not (option_map_or (λ value. not (is_true value)) (option_map (value_with other) a) false) ≡ true
  left-too None h = refl
  left-too (Some x) h = by (is_true (value_with test x)) refl h
    where
      by : (b : Bool) → is_true (value_with test x) ≡ b → not (not b) ≡ true → not (not (is_true (value_with other x))) ≡ true
      by true is k = ap (λ c. not (not c)) (holds x is)
      by false is k = absurd (cc)

  -- so the one leaves no more ads than the other
  pub fewer-left : (ads : List Advert) → left_by ads test ≤ left_by ads other
  fewer-left [] = grind arith
  fewer-left (advert ∷ ads) =
      let one : left_by (advert ∷ ads) test ≡ cond (leaves test) 1 0 + left_by ads test = sum_by-cons
      (λ (a : Advert). cond (not (is_decided test a.ad 0)) 1 0) advert ads in
      let two : left_by (advert ∷ ads) other ≡ cond (leaves other) 1 0 + left_by ads other = sum_by-cons
      (λ (a : Advert). cond (not (is_decided other a.ad 0)) 1 0) advert ads in
      omega (arith, one, two, by (leaves test) (leaves other) too (fewer-left ads))
    where
      leaves : Test → Bool
      leaves t = not (is_decided t advert.ad 0)

      too : leaves test ≡ true → leaves other ≡ true
      too h =
          subst (λ (name : List ℕ). not (option_map_or (λ value. not (is_true value))
          (option_map (value_with other) (counted (enclosed_expr advert.ad 0 name))) false) ≡ true)
          same (left-too (counted (enclosed_expr advert.ad 0 (asked test))) h)

      by : (a b : Bool) → (a ≡ true → b ≡ true) → left_by ads test ≤ left_by ads other
          → cond a 1 0 + left_by ads test ≤ cond b 1 0 + left_by ads other
      by true true h le = omega (arith, le)
      by false true h le = omega (arith, le)
      by false false h le = omega (arith, le)
      by true false h le = absurd (true≢false (sym (h refl)))

-- a test that bounds an attribute as closely as another
pub bounded : (p : BinOp) (s : Bool) (m n : ℤ) → BoundsAsClosely p s m n → (test other : Test) (x y : List ℕ) (q : BinOp) (t : Bool)
    → test ≡ Test.Compare x p (Lit.Integer m) s → other ≡ Test.Compare y q (Lit.Integer n) t → s ≡ t → p ≡ q → x ≡ y
    → (ads : List Advert) → left_by ads test ≤ left_by ads other
bounded p s m n closely test other x y q t is other-is same-side same-op same-name ads =
    subst (λ (k : Test). left_by ads k ≤ left_by ads other) (sym is)
    (subst (λ (k : Test). left_by ads (Test.Compare x p (Lit.Integer m) s) ≤ left_by ads k) (sym that)
    (fewer-left (Test.Compare x p (Lit.Integer m) s) (Test.Compare x p (Lit.Integer n) s) refl (closely x) ads))
  where
    that : other ≡ Test.Compare x p (Lit.Integer n) s
    that = cc
