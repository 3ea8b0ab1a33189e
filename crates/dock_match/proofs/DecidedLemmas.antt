-- A decided dock is not true.
use Rattle.std.proofs.Common.{◌≡◌, ◌<◌, ℕ, zero, suc, Bool, true, false, not, ◌&&◌, ◌||◌, refl, List, [], ◌∷◌, length, Option, None}
use Rattle.std.proofs.Common.{Some, unwrap_or, cond, nat_eq, All, ap, sym, ◌∙◌, subst, arith}
use Rattle.std.specs.List.{filter_map, list_any, cons_option}
use Rattle.std.specs.Option.{option_and_then, option_map_or}
use Rattle.std.proofs.lemmas.Bool.{eqb-true}
use Rattle.std.proofs.lemmas.List.Elements.{All-tail}
use Rattle.pool_text.specs.declared.language.AdPlace.{AdPlace}
use Rattle.ad_value.specs.Plain.{Plain, undefined, error, boolean, integer, decimal, text, list, ad_at}
use Rattle.ad_value.specs.Logic.{is_true}
use Rattle.ad_tree.specs.Tree.{Tree}
use Rattle.ad_tree.specs.Frames.{Frame, expr_at}
use Rattle.ad_tree.specs.Special.{requirement_of}
use Rattle.eval_scope.specs.World.{PlainWorld, frames_of_ad, port_frame, request_side, resource_side}
use Rattle.ad_tree.specs.Enclosing.{enclosed_expr}
use Rattle.eval_scope.specs.declared.found.Found.{Found}
use Rattle.eval_scope.specs.Look.{enclosing_any, first_found, labels, targets}
use Rattle.ad_eval.specs.Dock.{attribute_of, is_docked, meets_requirement}
use Rattle.ad_eval.specs.Value.{evaluation_at, value_at, value_by, value_with}
use Rattle.conjunct_plan.specs.declared.test.Test.{Test}
use Rattle.conjunct_plan.specs.Decided.{is_decided, rules_out, test_value}
use Rattle.conjunct_plan.specs.Tests.{conjuncts, labels_of, requirement_expr, test_of}
use Rattle.dock_match.specs.Docks.{is_last_decided, last_ad}
use Rattle.dock_match.proofs.ConjunctLemmas.{IsTrueAt, conjuncts-true}
use Rattle.dock_match.proofs.FindLemmas.{Finds, finds-alone, finds-enclosed, unlabelled}
use Rattle.dock_match.proofs.TestLemmas.{IsSide, conjunct-value}

-- ---- conjuncts

-- where each tree has P, no test of one is decided against
none-decided : (F : Tree → Option Test) (D : Test → Bool) (P : Tree → Type 0)
    → ((t : Tree) (test : Test) → F t ≡ Some test → D test ≡ true → P t → ⊥)
    → (ts : List Tree) → list_any D (filter_map F ts) ≡ true → All P ts → ⊥
none-decided F D P never [] e h = cc
none-decided F D P never (t ∷ ts) e h = by (λ k. none-decided F D P never ts k (All-tail P t ts h)) (F t) refl e
  where
    among : (list_any D (filter_map F ts) ≡ true → ⊥) → (test : Test) → F t ≡ Some test → (b : Bool) → D test ≡ b
        → (b || list_any D (filter_map F ts)) ≡ true → ⊥
    among behind test is true decided k = never t test is decided (h 0 t (omega arith))
    among behind test is false decided k = behind k

    by : (list_any D (filter_map F ts) ≡ true → ⊥) → (o : Option Test) → F t ≡ o → list_any D (cons_option o (filter_map F ts)) ≡ true → ⊥
    by behind None is k = behind k
    by behind (Some test) is k = among behind test is (D test) refl k

pub true-is : (v : Plain) → is_true v ≡ true → v ≡ boolean true
true-is undefined e = absurd (cc)
true-is error e = absurd (cc)
true-is (boolean b) e = ap boolean e
true-is (integer n) e = absurd (cc)
true-is (decimal m) e = absurd (cc)
true-is (text bytes) e = absurd (cc)
true-is (list items) e = absurd (cc)
true-is (ad_at place) e = absurd (cc)

-- ---- a requirement

module _ (w : PlainWorld) (p : AdPlace) where
  true-value : (o : Option Plain) → is_true (unwrap_or o error) ≡ true → o ≡ Some (boolean true)
  true-value None e = absurd (cc)
  true-value (Some v) e = ap Some (true-is v e)

  pub attribute-value : (n k : ℕ) (t : Tree) → expr_at (frames_of_ad w p.ad) p.frame k ≡ Some t
      → value_at (suc n) w (attribute_of p k) ≡ value_with n w p t
  unfolding value_at
  attribute-value n k t is = ap (option_and_then (value_by (value_at n w) w p)) is

  -- a requirement of which a test is decided against is not true, where no true conjunct has such a test
  pub none-met : (F : Tree → Option Test) (D : Test → Bool)
      → ((t : Tree) (test : Test) → F t ≡ Some test → D test ≡ true → IsTrueAt (value_at 23 w) w p t → ⊥)
      → list_any D (option_map_or (λ t. filter_map F (conjuncts t)) (requirement_expr (frames_of_ad w p.ad) p.frame) []) ≡ true
      → meets_requirement w p ≡ true → ⊥
  none-met F D never ruled met = by (requirement_of (frames_of_ad w p.ad) p.frame) ruled met
    where
      by_expr : (k : ℕ) (o : Option Tree) → expr_at (frames_of_ad w p.ad) p.frame k ≡ o
          → list_any D (option_map_or (λ t. filter_map F (conjuncts t)) o []) ≡ true
          → is_true (evaluation_at w (attribute_of p k)) ≡ true → ⊥
      by_expr k None is h holds = cc
      by_expr k (Some t) is h holds =
          let whole : value_with 23 w p t ≡ Some (boolean true) = sym (attribute-value 23 k t is) ∙ true-value (value_at 24 w (attribute_of p k)) holds in
          none-decided F D (IsTrueAt (value_at 23 w) w p) never (conjuncts t) h (conjuncts-true (value_at 23 w) w p t whole)

      by : (o : Option ℕ)
          → list_any D (option_map_or (λ t. filter_map F (conjuncts t)) (option_and_then (λ k. expr_at (frames_of_ad w p.ad) p.frame k) o) []) ≡ true
          → option_map_or (λ k. is_true (evaluation_at w (attribute_of p k))) o false ≡ true → ⊥
      by None h holds = cc
      by (Some k) h holds = by_expr k (expr_at (frames_of_ad w p.ad) p.frame k) refl h holds

  -- a conjunct isn't true whose value is that of a test that is decided against
  pub none-true : (n : ℕ) (t : Tree) (test : Test) (other : List Frame) (g : ℕ)
      → ((v : Plain) → test_value test other g ≡ Some v → value_with (suc n) w p t ≡ Some v)
      → is_decided test other g ≡ true → IsTrueAt (value_at (suc n) w) w p t → ⊥
  none-true n t test other g value decided holds = by (test_value test other g) refl decided
    where
      by : (o : Option Plain) → test_value test other g ≡ o → option_map_or (λ value. not (is_true value)) o false ≡ true → ⊥
      by None has h = cc
      by (Some v) has h =
          let given : Some v ≡ Some (boolean true) = sym (value v has) ∙ holds in
          let same : v ≡ boolean true = cc in
          let turned : false ≡ true = ap (λ z. not (is_true z)) (sym same) ∙ h in
          cc

-- ---- one side

module _ (w : PlainWorld) (p : AdPlace) (ls : List (List ℕ)) (other : List Frame) (g : ℕ) (side : IsSide w p (frames_of_ad w p.ad) ls other g) where
  -- a true conjunct has no test that is decided against
  not-decided : (n : ℕ) (t : Tree) (test : Test) → test_of (frames_of_ad w p.ad) p.frame ls t ≡ Some test → is_decided test other g ≡ true
      → IsTrueAt (value_at (suc n) w) w p t → ⊥
  not-decided n t test is =
      none-true w p n t test other g (λ v has. conjunct-value w n p (frames_of_ad w p.ad) ls other g side t test v is has)

  -- a requirement with such a test is not true
  pub not-met : rules_out (frames_of_ad w p.ad) p.frame ls other g ≡ true → meets_requirement w p ≡ true → ⊥
  not-met = none-met w p (test_of (frames_of_ad w p.ad) p.frame ls) (λ test. is_decided test other g) (not-decided 22)

-- ---- both sides

module _ (w : PlainWorld) (some : 0 < length w.docked) where
  there : nat_eq (length w.docked) 0 ≡ false
  there = by (nat_eq (length w.docked) 0) refl
    where
      by : (b : Bool) → nat_eq (length w.docked) 0 ≡ b → nat_eq (length w.docked) 0 ≡ false
      by true e = let none_docked : length w.docked ≡ 0 = eqb-true (length w.docked) 0 e in absurd (omega (arith, some, none_docked))
      by false e = e

  pub request-sees : IsSide w (request_side w) w.request (labels_of w.ports) (last_ad w) 0
  request-sees = record {
    own = λ x. finds-enclosed w (request_side w) x;
    root = λ x. finds-alone w (record { ad = 0; frame = 0 }) x;
    beyond =
        λ x. subst (λ (b : Bool). Finds w (first_found w x (enclosing_any w (cond b None (Some (resource_side w))))) (enclosed_expr (last_ad w) 0 x))
        (sym there) (finds-enclosed w (resource_side w) x);
    unlabelled = λ x. unlabelled w x 1 w.ports w.docked;
  }

  beyond-resource : (m : ℕ) → 0 < m → (x : List ℕ) → Finds w (first_found w x (targets w m)) (enclosed_expr w.request (port_frame w.ports m) x)
  beyond-resource zero h x = absurd (omega (arith, h))
  beyond-resource (suc k) h x = finds-enclosed w (record { ad = 0; frame = port_frame w.ports (suc k) }) x

  labels-resource : (m : ℕ) → 0 < m → (x : List ℕ) → first_found w x (labels w m) ≡ Found.Nothing
  labels-resource zero h x = absurd (omega (arith, h))
  labels-resource (suc k) h x = refl

  pub resource-sees : IsSide w (resource_side w) (last_ad w) [] w.request (request_side w).frame
  resource-sees = record {
    own = λ x. finds-enclosed w (resource_side w) x;
    root = λ x. finds-alone w (record { ad = length w.docked; frame = 0 }) x;
    beyond = λ x. beyond-resource (length w.docked) some x;
    unlabelled = λ x apart. labels-resource (length w.docked) some x;
  }

  -- a decided dock is not true
  pub not-docked : is_last_decided w ≡ true → is_docked w ≡ false
  not-docked decided =
      by (rules_out w.request (request_side w).frame (labels_of w.ports) (last_ad w) 0) (rules_out (last_ad w) 0 [] w.request (request_side w).frame)
      (meets_requirement w (request_side w)) (meets_requirement w (resource_side w)) refl refl refl refl decided
    where
      by : (a b c d : Bool) → rules_out w.request (request_side w).frame (labels_of w.ports) (last_ad w) 0 ≡ a
          → rules_out (last_ad w) 0 [] w.request (request_side w).frame ≡ b
          → meets_requirement w (request_side w) ≡ c → meets_requirement w (resource_side w) ≡ d → (a || b) ≡ true → (c && d) ≡ false
      by a b false d ruled others met meets e = refl
      by a b true false ruled others met meets e = refl
      by true b true true ruled others met meets e = absurd (not-met w (request_side w) (labels_of w.ports) (last_ad w) 0 request-sees ruled met)
      by false true true true ruled others met meets e = absurd (not-met w (resource_side w) [] w.request (request_side w).frame resource-sees others meets)
      by false false true true ruled others met meets e = absurd (cc)
