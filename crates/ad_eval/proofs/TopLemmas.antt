-- Whole evaluations, which begin with nothing entered and 24 references.
use Rattle.std.proofs.Common.{◌≡◌, ◌≤◌, ◌+◌, ℕ, Option, Some, Result, Ok, Err, IfOk, cond, unwrap_or, take, refl, ap, sym, ◌∙◌, subst, arith}
use Rattle.std.proofs.lemmas.List.{length-map, length-take}
use Rattle.std.proofs.lemmas.List.Sums.{sum_by-le}
use Rattle.pool_text.specs.declared.language.Lit.{Lit}
use Rattle.pool_text.specs.declared.language.Pos.{Pos}
use Rattle.pool_text.specs.declared.memory.OutOfMemory.{OutOfMemory}
use Rattle.ad_value.specs.declared.value.Value.{Value}
use Rattle.ad_value.specs.Plain.{Plain, error, plain, plain_of_lit}
use Rattle.cycle_guard.specs.declared.guard.Guard.{Guard}
use Rattle.cycle_guard.specs.Sights.{unseen, pending, done, same_pos}
use Rattle.cycle_guard.specs.Shown.{sight_of}
use Rattle.eval_scope.specs.Shown.{world_of}
use Rattle.eval_scope.specs.declared.world.World.{World as TheWorld}
use Rattle.eval_scope.specs.World.{PlainWorld, ads, attribute_count, expr_of, frame_of_attribute, literal_of}
use Rattle.ad_tree.specs.Ad.{ad_frames}
use Rattle.ad_tree.specs.Small.{attribute_total}
use Rattle.ad_tree.specs.Tree.{Tree}
use Rattle.ad_eval.specs.declared.outcome.Outcome.{Outcome}
use Rattle.ad_eval.specs.declared.scene.Scene.{Scene as TheScene}
use Rattle.ad_eval.specs.declared.stop.Stop.{Stop}
use Rattle.ad_eval.specs.Answered.{IsValueOrError}
use Rattle.ad_eval.specs.Kept.{Answers, Counts, Ready}
use Rattle.ad_eval.specs.Scene.{values_in, world_in}
use Rattle.ad_eval.specs.Small.{AreSmall}
use Rattle.ad_eval.specs.Value.{evaluation_at, value_at, value_with}
use Rattle.ad_eval.proofs.KeptLemmas.{answer_none, answer_some, counts_then, is_ready, ready_as, ready_is}
use Rattle.ad_eval.proofs.CountLemmas.{unseen-all, unseen-fewer}
use Rattle.ad_eval.proofs.EnterLemmas.{counts_entered}
use Rattle.ad_eval.proofs.ReferenceLemmas.{ready_inside, value_at-literal, value_at-more}
use Rattle.ad_eval.proofs.SceneLemmas.{inside_is}

unseen-done : (v : Plain) (h : ℕ) → unseen ≡ done v h → ⊥
unseen-done v h e = cc

unseen-pending : unseen ≡ pending → ⊥
unseen-pending e = cc

-- where nothing is entered, nothing is kept and nothing waits
pub ready_new : {A : Type 0} (w : PlainWorld) (g : Guard) (f : ℕ → Option A) → ((q : Pos) → sight_of g q ≡ unseen) → Ready w g f
ready_new w g f fresh = is_ready w g f (record {
  kept = λ s v h is. absurd (unseen-done v h (sym (fresh s) ∙ is));
  wait = λ s waits n some. absurd (unseen-pending (sym (fresh s) ∙ waits));
})

-- the answer with so many references, Error where it is none
pub result_of : (w : PlainWorld) (f : ℕ → Option Plain) (left : ℕ) (g g1 : Guard) (r : Result Outcome Stop) (shown : Result Value OutOfMemory) (p : Plain)
    → unwrap_or (f left) error ≡ p → Answers w f left g g1 r → IsValueOrError r shown → IfOk shown (λ v. plain v ≡ p)
result_of w f left g g1 r (Err e) p same h is = tt
result_of w f left g g1 (Ok o) (Ok v) p same h is =
    let t = answer_some w f left g g1 o h in
    is ∙ ap (λ q. unwrap_or q error) (sym (t.height.reached left t.within)) ∙ same
result_of w f left g g1 (Err Stop.References) (Ok v) p same h is = is ∙ ap (λ q. unwrap_or q error) (sym (answer_none w f left g g1 h)) ∙ same
result_of w f left g g1 (Err Stop.OutOfMemory) (Ok v) p same h wrong = absurd (cc)

-- no more attributes are entered than there are
pub entered_all : (w : PlainWorld) (a b : ℕ) (g g1 : Guard) → Counts w a b g g1 → b ≤ a + attribute_count w
unfolding Counts
entered_all w a b g g1 count = omega (arith, unseen-all w g, count)

pub scene_world : (s : TheScene) → world_in s ≡ world_of s.world.now
unfolding world_in
scene_world s = refl

pub scene_values : (s : TheScene) (e : Tree) (n : ℕ) → values_in s e n ≡ value_with n (world_of s.world.now) s.at e
scene_values s e n = inside_is s e n ∙ ap (λ w. value_with n w s.at e) (scene_world s)

-- the same of a scene
pub entered-in : (s : TheScene) (a b : ℕ) (g g1 : Guard) → Counts (world_in s) a b g g1 → b ≤ a + attribute_count (world_of s.world.now)
entered-in s a b g g1 count = subst (λ (w : PlainWorld). b ≤ a + attribute_count w) (scene_world s) (entered_all (world_in s) a b g g1 count)

-- the value of an attribute whose expression is a literal
pub evaluation-literal : (w : PlainWorld) (pos : Pos) (lit : Lit) → literal_of (expr_of w pos) ≡ Some lit → evaluation_at w pos ≡ plain_of_lit lit
evaluation-literal w pos lit is = ap (λ o. unwrap_or o error) (value_at-literal w pos lit is 23)

-- the expression of an attribute, evaluated where nothing but that attribute is entered
module _ (s : TheScene) (pos : Pos) (x : Tree) (there : expr_of (world_in s) pos ≡ Some x) (place : s.at ≡ frame_of_attribute pos) where
  expression_is : (n : ℕ) → values_in s x n ≡ value_with n (world_in s) (frame_of_attribute pos) x
  expression_is n = inside_is s x n ∙ ap (λ p. value_with n (world_in s) p x) place

  pub evaluation_is : unwrap_or (values_in s x 23) error ≡ evaluation_at (world_of s.world.now) pos
  evaluation_is =
      ap (λ o. unwrap_or o error) (expression_is 23 ∙ sym (value_at-more (world_in s) pos x there 23))
      ∙ ap (λ (w : PlainWorld). evaluation_at w pos) (scene_world s)

  module _ (g g1 : Guard) (fresh : (q : Pos) → sight_of g q ≡ unseen) (entered : (q : Pos) → sight_of g1 q ≡ cond (same_pos pos q) pending (sight_of g q)) where
    pub ready_first : Ready (world_in s) g1 (values_in s x)
    ready_first =
        let w = world_in s in
        let f = λ (n : ℕ). value_at n w pos in
        let e = λ (n : ℕ). value_with n w (frame_of_attribute pos) x in
        ready_as w e (values_in s x) g1 (λ n. sym (expression_is n))
        (is_ready w g1 e (ready_inside w g g1 pos x there entered (ready_is w g f (ready_new w g f fresh))))

    pub entered_first : (a b c : ℕ) (g2 : Guard) → b ≡ a + 1 → Counts (world_in s) b c g1 g2 → c ≤ a + attribute_count (world_of s.world.now)
    entered_first a b c g2 one count =
        let w = world_in s in
        let first = counts_entered w a b g g1 one (unseen-fewer w g g1 pos pending refl entered x there (fresh pos)) in
        entered-in s a c g g2 (counts_then w a b c g g1 g2 first count)

-- nine small ads have 9,216 attributes at most
pub few-attributes : (w : TheWorld) → AreSmall (world_of w) → attribute_count (world_of w) ≤ 9216
few-attributes w small =
    let docked = take w.docked w.resources in
    omega (arith, sum_by-le attribute_total 1024 (ads (world_of w)) small, length-map docked (λ ad. ad_frames ad.now), length-take w.docked w.resources, w.most)
