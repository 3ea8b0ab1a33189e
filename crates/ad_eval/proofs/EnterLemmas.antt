-- The attribute that is entered: its expression is evaluated in a scene of its own.
use Rattle.std.proofs.Common.{◌≡◌, ◌≤◌, ◌<◌, ◌+◌, ◌-◌, ◌*◌, ℕ, None, Some, IsSome, Result, Ok, Err, cond, refl, ap, sym, ◌∙◌, subst, arith}
use Rattle.pool_text.specs.declared.language.Lit.{Lit}
use Rattle.pool_text.specs.declared.language.Pos.{Pos}
use Rattle.ad_value.specs.Plain.{Plain, plain, plain_of_lit}
use Rattle.ad_tree.specs.Tree.{Tree}
use Rattle.cycle_guard.specs.declared.guard.Guard.{Guard}
use Rattle.cycle_guard.specs.Sights.{done, same_pos}
use Rattle.cycle_guard.specs.Shown.{sight_of}
use Rattle.eval_scope.specs.Shown.{world_of}
use Rattle.eval_scope.specs.World.{PlainWorld, expr_of, frame_of_attribute, literal_of}
use Rattle.ad_eval.specs.declared.outcome.Outcome.{Outcome}
use Rattle.ad_eval.specs.declared.stop.Stop.{Stop}
use Rattle.ad_eval.specs.declared.scene.Scene.{Scene as TheScene}
use Rattle.ad_eval.specs.Answered.{IsApplied, IsKept, IsRecalled}
use Rattle.ad_eval.specs.Kept.{Answers, Counts, IsReached, IsReady, Ready, unseen_count}
use Rattle.ad_eval.specs.Scene.{values_in, world_in}
use Rattle.ad_eval.specs.Value.{value_at, value_with}
use Rattle.ad_eval.proofs.CountLemmas.{unseen-after, unseen-same}
use Rattle.ad_eval.proofs.KeptLemmas.{answer_none, answer_some, answers_some, is_ready, reached_as, reached_of, ready_is, ready_of, stops_by}
use Rattle.ad_eval.proofs.PartLemmas.{stops_wanting}
use Rattle.ad_eval.proofs.ReferenceLemmas.{kept-reached, kept-short, literal-reached}
use Rattle.ad_eval.proofs.MeasureLemmas.{turn}
use Rattle.ad_eval.proofs.SceneLemmas.{inside_is}

pub world_there : (s : TheScene) (pos : Pos) → IsSome (expr_of (world_in s) pos) → IsSome (expr_of (world_of s.world.now) pos)
unfolding world_in
world_there s pos h = h

pub world_has : (s : TheScene) (pos : Pos) (t : Tree) → expr_of (world_of s.world.now) pos ≡ Some t → expr_of (world_in s) pos ≡ Some t
unfolding world_in
world_has s pos t h = h

pub pred_is : (left inner : ℕ) → inner + 1 ≡ left → inner ≡ left - 1
pred_is left inner e = omega arith

-- ---- counts
module _ (w : PlainWorld) (a b : ℕ) (g h : Guard) where
  pub counts_from : a ≡ b → unseen_count w h ≤ unseen_count w g → Counts w a b g h
  unfolding Counts
  counts_from same less = omega (arith, same, less)

  pub counts_equal : a ≡ b → unseen_count w h ≡ unseen_count w g → Counts w a b g h
  unfolding Counts
  counts_equal same equal = omega (arith, same, equal)

  pub counts_entered : b ≡ a + 1 → unseen_count w h + 1 ≤ unseen_count w g → Counts w a b g h
  unfolding Counts
  counts_entered one fewer = omega (arith, one, fewer)

-- ---- the inner scene
module _ (s i : TheScene) (pos : Pos) (x : Tree) (world : world_in i ≡ world_in s) (place : i.at ≡ frame_of_attribute pos) where
  inner_is : (n : ℕ) → values_in i x n ≡ value_with n (world_in s) (frame_of_attribute pos) x
  inner_is n = inside_is i x n ∙ ap (λ v. value_with n v i.at x) world ∙ ap (λ p. value_with n (world_in s) p x) place

  pub ready_there : (g : Guard) → Ready (world_in s) g (λ n. value_with n (world_in s) (frame_of_attribute pos) x) → Ready (world_in i) g (values_in i x)
  ready_there g ready =
      subst (λ v. Ready v g (values_in i x)) (sym world)
      (is_ready (world_in s) g (values_in i x) (ready_of (world_in s) (λ n. value_with n (world_in s) (frame_of_attribute pos) x) (values_in i x) g
      (λ n. sym (inner_is n)) (ready_is (world_in s) g (λ n. value_with n (world_in s) (frame_of_attribute pos) x) ready)))

  module _ (g g1 : Guard) (left : i.left + 1 ≡ s.left) where
    there : (r : Result Outcome Stop) → Answers (world_in i) (values_in i x) i.left g g1 r → Answers (world_in s) (values_in i x) (s.left - 1) g g1 r
    there r h =
        subst (λ n. Answers (world_in s) (values_in i x) n g g1 r) (pred_is s.left i.left left)
        (subst (λ v. Answers v (values_in i x) i.left g g1 r) world h)

    pub answer_there_none : Answers (world_in i) (values_in i x) i.left g g1 (Err Stop.References)
        → value_with (s.left - 1) (world_in s) (frame_of_attribute pos) x ≡ None
    answer_there_none h = sym (inner_is (s.left - 1)) ∙ answer_none (world_in s) (values_in i x) (s.left - 1) g g1 (there (Err Stop.References) h)

    pub answer_there_some : (o : Outcome) → Answers (world_in i) (values_in i x) i.left g g1 (Ok o)
        → IsReached (world_in s) (λ n. value_with n (world_in s) (frame_of_attribute pos) x) (s.left - 1) g g1 (plain o.value) o.height
    answer_there_some o h =
        reached_of (world_in s) (λ n. value_with n (world_in s) (frame_of_attribute pos) x) (values_in i x) (s.left - 1) g g1 (plain o.value) o.height
        (λ n. sym (inner_is n)) (answer_some (world_in s) (values_in i x) (s.left - 1) g g1 o (there (Ok o) h))

pub counts_there : (s i : TheScene) (a b : ℕ) (g h : Guard) → world_in i ≡ world_in s → Counts (world_in i) a b g h → Counts (world_in s) a b g h
counts_there s i a b g h world count = subst (λ v. Counts v a b g h) world count

pub inner_work : (s i : TheScene) (inside : ℕ) → world_in i ≡ world_in s → i.left + 1 ≡ s.left
    → (s.left - 1) * turn (world_in s) + inside < s.left * turn (world_in s) → 8 * (i.left * turn (world_in i)) + 8 * inside < 8 * (s.left * turn (world_in s))
inner_work s i inside world left less =
    let same = ap (λ v. i.left * turn v) world ∙ ap (λ n. n * turn (world_in s)) (pred_is s.left i.left left) in
    by (i.left * turn (world_in i)) ((s.left - 1) * turn (world_in s)) (s.left * turn (world_in s)) same less
  where
    by : (a b d : ℕ) → a ≡ b → b + inside < d → 8 * a + 8 * inside < 8 * d
    by a b d e l = omega arith

-- ---- values that are kept, and those of literals
module _ (w : PlainWorld) (left : ℕ) (pos : Pos) where
  -- the value of a literal is answered
  pub answers_literal : (g : Guard) (lit : Lit) (r : Result Outcome Stop) → 0 < left → Ready w g (λ n. value_at n w pos)
      → literal_of (expr_of w pos) ≡ Some lit → IsApplied (plain_of_lit lit) 1 r → Answers w (λ n. value_at n w pos) left g g r
  answers_literal g lit (Ok o) some ready is (value, height) =
      answers_some w (λ n. value_at n w pos) left g g o
      (reached_as w (λ n. value_at n w pos) left g g (plain_of_lit lit) (plain o.value) 1 o.height value height
      (literal-reached w g pos lit is left some (ready_is w g (λ n. value_at n w pos) ready)))
  answers_literal g lit (Err stop) some ready is wanting = stops_wanting w left (λ n. value_at n w pos) g g stop wanting

  -- a kept value is answered
  pub recalls : (g : Guard) (v : Plain) (h : ℕ) (r : Result Outcome Stop) → IsReady w g (λ n. value_at n w pos) → sight_of g pos ≡ done v h
      → IsRecalled left v h r → Answers w (λ n. value_at n w pos) left g g r
  recalls g v h (Ok o) ready is (value, (height, within)) =
      answers_some w (λ n. value_at n w pos) left g g o (reached_as w (λ n. value_at n w pos) left g g v (plain o.value) h o.height value height
      (kept-reached w g pos left v h ready is within))
  recalls g v h (Err Stop.References) ready is short =
      stops_by w (λ n. value_at n w pos) left g g Stop.References (λ none. kept-short w g pos left v h ready is short)
  recalls g v h (Err Stop.OutOfMemory) ready is wanting = stops_by w (λ n. value_at n w pos) left g g Stop.OutOfMemory (λ none. absurd (cc))

  -- a value that is kept is answered
  pub keeps : (g0 g2 g3 : Guard) (v : Plain) (h : ℕ) (r : Result Outcome Stop)
      → (((q : Pos) → sight_of g3 q ≡ cond (same_pos pos q) (done v h) (sight_of g2 q)) → IsReached w (λ n. value_at n w pos) left g0 g3 v h)
      → IsKept pos v h g2 g3 r → Answers w (λ n. value_at n w pos) left g0 g3 r
  keeps g0 g2 g3 v h (Ok o) reached (value, (height, finished)) =
      answers_some w (λ n. value_at n w pos) left g0 g3 o
      (reached_as w (λ n. value_at n w pos) left g0 g3 v (plain o.value) h o.height value height (reached finished))
  keeps g0 g2 g3 v h (Err stop) reached (wanting, same) = stops_by w (λ n. value_at n w pos) left g0 g3 stop (λ is. absurd (cc))

  pub counts_kept : (n : ℕ) (g2 g3 : Guard) (v : Plain) (h : ℕ) (r : Result Outcome Stop) → IsKept pos v h g2 g3 r → Counts w n n g2 g3
  counts_kept n g2 g3 v h (Ok o) (value, (height, finished)) = counts_from w n n g2 g3 refl (unseen-after w g2 g3 pos (done v h) refl finished)
  counts_kept n g2 g3 v h (Err stop) (wanting, same) = counts_equal w n n g2 g3 refl (unseen-same w g2 g3 same)
