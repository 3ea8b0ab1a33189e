-- A side that is met is true.
use Rattle.std.proofs.Common.{◌≡◌, ◌<◌, ℕ, suc, Bool, true, false, ◌&&◌, ◌||◌, length, option_map, refl, List, [], ◌∷◌, Option, None}
use Rattle.std.proofs.Common.{Some, unwrap_or, ap, sym, ◌∙◌}
use Rattle.std.specs.List.{list_all}
use Rattle.std.specs.Option.{option_and_then, option_map_or}
use Rattle.std.proofs.lemmas.List.Folds.{list_all-append}
use Rattle.pool_text.specs.declared.language.AdPlace.{AdPlace}
use Rattle.pool_text.specs.declared.language.Pos.{Pos}
use Rattle.ad_value.specs.Plain.{Plain, error, boolean}
use Rattle.ad_value.specs.Logic.{is_true}
use Rattle.ad_value.specs.Demands.{conjunction}
use Rattle.ad_tree.specs.Tree.{Tree, Trees, node, frame, none, more, literal, name, unary, binary, all, any, choice, select, subscript, call, list}
use Rattle.ad_tree.specs.Frames.{Frame, expr_at}
use Rattle.ad_tree.specs.Special.{requirement_of}
use Rattle.eval_scope.specs.World.{PlainWorld, frames_of_ad, request_side, resource_side}
use Rattle.ad_eval.specs.Dock.{attribute_of, is_docked, meets_requirement}
use Rattle.ad_eval.specs.Value.{evaluation_at, results_by, value_at}
use Rattle.conjunct_plan.specs.declared.test.Test.{Test}
use Rattle.conjunct_plan.specs.Decided.{is_dock_decided, is_met, is_met_test, is_side_met, rules_out, test_value, verdict_by}
use Rattle.conjunct_plan.specs.Tests.{conjuncts, conjuncts_of_all, labels_of, test_of}
use Rattle.dock_match.specs.declared.sides.OpenSides.{OpenSides}
use Rattle.dock_match.specs.Docks.{last_ad, last_open}
use Rattle.dock_match.specs.Sides.{is_open, open_sides}
use Rattle.dock_match.proofs.ConjunctLemmas.{IsTrueAt}
use Rattle.dock_match.proofs.DecidedLemmas.{attribute-value, request-sees, resource-sees, true-is}
use Rattle.dock_match.proofs.TestLemmas.{IsSide, conjunct-value}

-- both of two are true
both-hold : (a b : Bool) → (a && b) ≡ true → (a ≡ true) × (b ≡ true)
both-hold true true e = (refl, refl)
both-hold true false e = absurd (cc)
both-hold false b e = absurd (cc)

-- an expression is true where each of its conjuncts is
module _ (at : Pos → Option Plain) (w : PlainWorld) (p : AdPlace) (M : Tree → Bool) (sound : (t : Tree) → M t ≡ true → IsTrueAt at w p t) where
  itself : (t : Tree) → list_all M (t ∷ []) ≡ true → IsTrueAt at w p t
  itself t e = sound t (both-hold (M t) true e).0

  mutual
    pub all-hold : (t : Tree) → list_all M (conjuncts t) ≡ true → IsTrueAt at w p t
    all-hold (node all ts) e = chain-holds ts e
    all-hold (node (literal lit) ts) e = itself (node (literal lit) ts) e
    all-hold (node (name s x) ts) e = itself (node (name s x) ts) e
    all-hold (node (unary op) ts) e = itself (node (unary op) ts) e
    all-hold (node (binary op) ts) e = itself (node (binary op) ts) e
    all-hold (node any ts) e = itself (node any ts) e
    all-hold (node choice ts) e = itself (node choice ts) e
    all-hold (node (select x) ts) e = itself (node (select x) ts) e
    all-hold (node subscript ts) e = itself (node subscript ts) e
    all-hold (node (call x) ts) e = itself (node (call x) ts) e
    all-hold (node list ts) e = itself (node list ts) e
    all-hold (frame f) e = itself (frame f) e

    chain-holds : (ts : Trees) → list_all M (conjuncts_of_all ts) ≡ true → conjunction (boolean true) (results_by at w p ts) ≡ Some (boolean true)
    chain-holds none e = refl
    chain-holds (more t ts) e =
        let both =
        both-hold (list_all M (conjuncts t)) (list_all M (conjuncts_of_all ts)) (sym (list_all-append M (conjuncts t) (conjuncts_of_all ts)) ∙ e) in
        ap (λ r. conjunction (boolean true) (r ∷ results_by at w p ts)) (all-hold t both.0) ∙ chain-holds ts both.1

module _ (w : PlainWorld) (p : AdPlace) (ls : List (List ℕ)) (other : List Frame) (g : ℕ) (side : IsSide w p (frames_of_ad w p.ad) ls other g) where
  -- a test that is met is true
  test-holds : (n : ℕ) (t : Tree) → is_met_test (frames_of_ad w p.ad) p.frame ls other g t ≡ true → IsTrueAt (value_at (suc n) w) w p t
  test-holds n t met = by (test_of (frames_of_ad w p.ad) p.frame ls t) refl met
    where
      by_value : (test : Test) → test_of (frames_of_ad w p.ad) p.frame ls t ≡ Some test → (o : Option Plain) → test_value test other g ≡ o
          → option_map_or is_true o false ≡ true → IsTrueAt (value_at (suc n) w) w p t
      by_value test is None has h = absurd (cc)
      by_value test is (Some v) has h = conjunct-value w n p (frames_of_ad w p.ad) ls other g side t test v is has ∙ ap Some (true-is v h)

      by : (o : Option Test) → test_of (frames_of_ad w p.ad) p.frame ls t ≡ o → option_map_or (λ test. is_met test other g) o false ≡ true
          → IsTrueAt (value_at (suc n) w) w p t
      by None is h = absurd (cc)
      by (Some test) is h = by_value test is (test_value test other g) refl h

  -- a side that is met is true
  pub side-holds : is_side_met (frames_of_ad w p.ad) p.frame ls other g ≡ true → meets_requirement w p ≡ true
  side-holds met = by (requirement_of (frames_of_ad w p.ad) p.frame) met
    where
      by_expr : (k : ℕ) (o : Option Tree) → expr_at (frames_of_ad w p.ad) p.frame k ≡ o
          → option_map_or (λ t. list_all (is_met_test (frames_of_ad w p.ad) p.frame ls other g) (conjuncts t)) o false ≡ true
          → is_true (evaluation_at w (attribute_of p k)) ≡ true
      by_expr k None is h = absurd (cc)
      by_expr k (Some t) is h =
          ap (λ (v : Option Plain). is_true (unwrap_or v error))
          (attribute-value w p 23 k t is ∙ all-hold (value_at 23 w) w p (is_met_test (frames_of_ad w p.ad) p.frame ls other g) (test-holds
          22) t h)

      by : (o : Option ℕ)
          → option_map_or (λ t. list_all (is_met_test (frames_of_ad w p.ad) p.frame ls other g) (conjuncts t))
          (option_and_then (λ k. expr_at (frames_of_ad w p.ad) p.frame k) o) false ≡ true
          → option_map_or (λ k. is_true (evaluation_at w (attribute_of p k))) o false ≡ true
      by None h = absurd (cc)
      by (Some k) h = by_expr k (expr_at (frames_of_ad w p.ad) p.frame k) refl h

-- ---- both sides

-- which sides are open, by whether each is ruled out and whether it is met
abbrev open_by : Bool → Bool → Bool → Bool → Option OpenSides
open_by ruled met other_ruled other_met =
    option_and_then (λ asking. option_map (λ answering. record { request = asking; resource = answering }) (is_open (verdict_by other_ruled other_met)))
    (is_open (verdict_by ruled met))

none-open : (a b c d : Bool) → open_by a b c d ≡ None → (a || c) ≡ true
none-open true b c d e = refl
none-open false b true d e = refl
none-open false true false true e = absurd (cc)
none-open false true false false e = absurd (cc)
none-open false false false true e = absurd (cc)
none-open false false false false e = absurd (cc)

-- a side that isn't open is met
abbrev pub AreMet : OpenSides → Bool → Bool → Type 0
AreMet sides met other_met = (sides.request ≡ false → met ≡ true) × (sides.resource ≡ false → other_met ≡ true)

sides-are : (sides : OpenSides) (request resource : Bool) → Some (record { request = request; resource = resource }) ≡ Some sides
    → (request ≡ sides.request) × (resource ≡ sides.resource)
sides-are sides request resource e =
    (ap (λ o. option_map_or (λ (s : OpenSides). s.request) o false) e, ap (λ o. option_map_or (λ (s : OpenSides). s.resource) o false) e)

some-open : (a b c d : Bool) (sides : OpenSides) → open_by a b c d ≡ Some sides → ((a || c) ≡ false) × AreMet sides b d
some-open true b c d sides e = absurd (cc)
some-open false true true d sides e = absurd (cc)
some-open false false true d sides e = absurd (cc)
some-open false true false true sides e = (refl, (λ h. refl, λ h. refl))
some-open false true false false sides e = (refl, (λ h. refl, λ h. sym ((sides-are sides false true e).1 ∙ h)))
some-open false false false true sides e = (refl, (λ h. sym ((sides-are sides true false e).0 ∙ h), λ h. refl))
some-open false false false false sides e = (refl, (λ h. sym ((sides-are sides true true e).0 ∙ h), λ h. sym ((sides-are sides true true e).1 ∙ h)))

module _ (request : List Frame) (f : ℕ) (labels : List (List ℕ)) (ad : List Frame) where
  pub none-undecided : open_sides request f labels ad ≡ None → is_dock_decided request f labels ad ≡ true
  none-undecided = none-open (rules_out request f labels ad 0) (is_side_met request f labels ad 0) (rules_out ad 0 [] request f) (is_side_met ad 0 [] request f)

  pub some-undecided : (sides : OpenSides) → open_sides request f labels ad ≡ Some sides → is_dock_decided request f labels ad ≡ false
  some-undecided sides e =
      (some-open (rules_out request f labels ad 0) (is_side_met request f labels ad 0) (rules_out ad 0 [] request f) (is_side_met ad 0 [] request f) sides e).0

  sides-met : (sides : OpenSides) → open_sides request f labels ad ≡ Some sides
      → AreMet sides (is_side_met request f labels ad 0) (is_side_met ad 0 [] request f)
  sides-met sides e =
      (some-open (rules_out request f labels ad 0) (is_side_met request f labels ad 0) (rules_out ad 0 [] request f) (is_side_met ad 0 [] request f) sides e).1

module _ (w : PlainWorld) (some : 0 < length w.docked) where
  pub request-holds : is_side_met w.request (request_side w).frame (labels_of w.ports) (last_ad w) 0 ≡ true → meets_requirement w (request_side w) ≡ true
  request-holds = side-holds w (request_side w) (labels_of w.ports) (last_ad w) 0 (request-sees w some)

  pub resource-holds : is_side_met (last_ad w) 0 [] w.request (request_side w).frame ≡ true → meets_requirement w (resource_side w) ≡ true
  resource-holds = side-holds w (resource_side w) [] w.request (request_side w).frame (resource-sees w some)

  -- the requirement of a side that tests don't leave open is true
  pub request-closed : (sides : OpenSides) → last_open w ≡ Some sides → sides.request ≡ false → meets_requirement w (request_side w) ≡ true
  request-closed sides left closed = request-holds ((sides-met w.request (request_side w).frame (labels_of w.ports) (last_ad w) sides left).0 closed)

  pub resource-closed : (sides : OpenSides) → last_open w ≡ Some sides → sides.resource ≡ false → meets_requirement w (resource_side w) ≡ true
  resource-closed sides left closed = resource-holds ((sides-met w.request (request_side w).frame (labels_of w.ports) (last_ad w) sides left).1 closed)

  pub both-closed : (sides : OpenSides) → last_open w ≡ Some sides → sides.request ≡ false → sides.resource ≡ false → is_docked w ≡ true
  both-closed sides left closed closes =
      ap (λ (b : Bool). b && meets_requirement w (resource_side w)) (request-closed sides left closed) ∙ resource-closed sides left closes
