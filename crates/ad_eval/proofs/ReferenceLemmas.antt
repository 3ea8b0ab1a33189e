-- References: circles, attributes that are entered, and values that are kept.
use Rattle.std.proofs.Common.{◌≡◌, ◌≢◌, ◌≤◌, ◌<◌, ◌+◌, ◌-◌, ℕ, zero, suc, true, false}
use Rattle.std.proofs.Common.{refl, Option, None, Some, IsSome, cond, ap, sym, ◌∙◌, subst, arith, ◌⊎◌}
use Rattle.std.proofs.Common.{inl, inr, sub-one}
use Rattle.std.specs.Option.{is_some, option_and_then, option_map}
use Rattle.pool_text.specs.declared.language.AdPlace.{AdPlace}
use Rattle.pool_text.specs.declared.language.Lit.{Lit}
use Rattle.pool_text.specs.declared.language.Pos.{Pos}
use Rattle.ad_value.specs.Plain.{Plain, plain_of_lit}
use Rattle.ad_tree.specs.Tree.{Tree, all, any, binary, call, choice, frame, list, literal, name, node, select, subscript, unary}
use Rattle.cycle_guard.specs.declared.guard.Guard.{Guard}
use Rattle.cycle_guard.specs.Sights.{unseen, pending, done, same_pos}
use Rattle.cycle_guard.specs.Shown.{sight_of}
use Rattle.cycle_guard.proofs.GuardLemmas.{same_pos-cases, same_pos-itself}
use Rattle.eval_scope.specs.World.{PlainWorld, expr_of, frame_of_attribute, literal_of}
use Rattle.ad_eval.specs.Kept.{HasHeight, IsReady, IsReached, is_pending}
use Rattle.ad_eval.specs.Value.{value_at, value_by, value_with}
use Rattle.ad_eval.proofs.KeptLemmas.{Some-or-None, is_pending-pending}

-- ---- what an attribute is

pub value_at-none : (w : PlainWorld) (s : Pos) → value_at zero w s ≡ None
unfolding value_at
value_at-none w s = refl

pub value_at-more : (w : PlainWorld) (s : Pos) (t : Tree) → expr_of w s ≡ Some t → (n : ℕ) → value_at (suc n) w s ≡ value_with n w (frame_of_attribute s) t
unfolding value_at
value_at-more w s t there n = ap (option_and_then (value_by (value_at n w) w (frame_of_attribute s))) there

-- ---- an attribute whose expression is a literal

value_by-literal : (at : Pos → Option Plain) (w : PlainWorld) (p : AdPlace) (found : Option Tree) (lit : Lit) → literal_of found ≡ Some lit
    → option_and_then (value_by at w p) found ≡ Some (plain_of_lit lit)
value_by-literal at w p None lit is = absurd (cc)
value_by-literal at w p (Some (frame f)) lit is = absurd (cc)
value_by-literal at w p (Some (node (literal own) ts)) lit is = ap (option_map plain_of_lit) is
value_by-literal at w p (Some (node (name scope x) ts)) lit is = absurd (cc)
value_by-literal at w p (Some (node (unary op) ts)) lit is = absurd (cc)
value_by-literal at w p (Some (node (binary op) ts)) lit is = absurd (cc)
value_by-literal at w p (Some (node all ts)) lit is = absurd (cc)
value_by-literal at w p (Some (node any ts)) lit is = absurd (cc)
value_by-literal at w p (Some (node choice ts)) lit is = absurd (cc)
value_by-literal at w p (Some (node (select x) ts)) lit is = absurd (cc)
value_by-literal at w p (Some (node subscript ts)) lit is = absurd (cc)
value_by-literal at w p (Some (node (call x) ts)) lit is = absurd (cc)
value_by-literal at w p (Some (node list ts)) lit is = absurd (cc)

pub value_at-literal : (w : PlainWorld) (s : Pos) (lit : Lit) → literal_of (expr_of w s) ≡ Some lit → (n : ℕ) → value_at (suc n) w s ≡ Some (plain_of_lit lit)
unfolding value_at
value_at-literal w s lit is n = value_by-literal (value_at n w) w (frame_of_attribute s) (expr_of w s) lit is

-- it has its value from one reference on, with nothing entered
module _ (w : PlainWorld) (g : Guard) (s : Pos) (lit : Lit) (is : literal_of (expr_of w s) ≡ Some lit) where
  literal-height : HasHeight (λ n. value_at n w s) (plain_of_lit lit) 1
  literal-height = record { reached = has; short = hasnt }
    where
      has : (n : ℕ) → 1 ≤ n → value_at n w s ≡ Some (plain_of_lit lit)
      has zero le = absurd (omega arith)
      has (suc n) le = value_at-literal w s lit is n

      hasnt : (n : ℕ) → n < 1 → value_at n w s ≡ None
      hasnt zero less = value_at-none w s
      hasnt (suc n) less = absurd (omega arith)

  pub literal-reached : (left : ℕ) → 0 < left → IsReady w g (λ n. value_at n w s) → IsReached w (λ n. value_at n w s) left g g (plain_of_lit lit) 1
  literal-reached left some ready = record { height = literal-height; within = omega arith; kept = ready.kept; pending = λ q. refl }

-- ---- circles

-- what needs itself with fewer references has no value
pub descends : {A : Type 0} (f : ℕ → Option A) → ((n : ℕ) → IsSome (f n) → (m : ℕ) × (m < n) × IsSome (f m)) → (bound n : ℕ) → n < bound → f n ≡ None
descends f needs zero n less = absurd (omega arith)
descends f needs (suc bound) n less = by (Some-or-None (f n)) (λ m lower. descends f needs bound m lower)
  where
    by : (f n ≡ None) ⊎ ((v : _) × (f n ≡ Some v)) → ((m : ℕ) → m < bound → f m ≡ None) → f n ≡ None
    by (inl e) below = e
    by (inr (v, e)) below =
        let (m, lower, some) = needs n (ap is_some e) in
        let none = below m (omega arith) in
        absurd (cc (ap is_some none))

pub circle : (w : PlainWorld) (g : Guard) (s : Pos) → sight_of g s ≡ pending → IsReady w g (λ n. value_at n w s) → (n : ℕ) → value_at n w s ≡ None
circle w g s waits ready n = descends (λ m. value_at m w s) (λ m some. ready.wait s waits m some) (suc n) n (omega arith)

-- ---- an attribute that is entered

Sight-pending-done : (v : Plain) (h : ℕ) → pending ≡ done v h → ⊥
Sight-pending-done v h e = cc

-- an attribute that has a value with some references is not without any
below : (w : PlainWorld) (s : Pos) (t : Tree) → expr_of w s ≡ Some t → (n : ℕ) → IsSome (value_at n w s)
    → (m : ℕ) × (n ≡ suc m) × IsSome (value_with m w (frame_of_attribute s) t)
below w s t there zero some = absurd (cc (ap is_some (value_at-none w s)))
below w s t there (suc m) some = (m, refl, subst (λ o. IsSome o) (value_at-more w s t there m) some)

module _ (w : PlainWorld) (g g1 : Guard) (s : Pos) (t : Tree) (there : expr_of w s ≡ Some t)
    (entered : (q : Pos) → sight_of g1 q ≡ cond (same_pos s q) pending (sight_of g q)) where
  entered-here : sight_of g1 s ≡ pending
  entered-here = entered s ∙ ap (λ b. cond b pending (sight_of g s)) (same_pos-itself s)

  -- its expression can be evaluated
  pub ready_inside : IsReady w g (λ n. value_at n w s) → IsReady w g1 (λ n. value_with n w (frame_of_attribute s) t)
  ready_inside ready = record {
    kept = λ q v h is. keeps q v h (same_pos-cases s q) is;
    wait = λ q waits n some. waited q (same_pos-cases s q) waits n some;
  }
    where
      keeps : (q : Pos) (v : Plain) (h : ℕ) → ((same_pos s q ≡ true) × (s ≡ q)) ⊎ ((same_pos s q ≡ false) × (s ≢ q)) → sight_of g1 q ≡ done v h
          → HasHeight (λ n. value_at n w q) v h
      keeps q v h (inl same) is = absurd (Sight-pending-done v h (sym (entered q ∙ ap (λ b. cond b pending (sight_of g q)) same.0) ∙ is))
      keeps q v h (inr other) is = ready.kept q v h (sym (entered q ∙ ap (λ b. cond b pending (sight_of g q)) other.0) ∙ is)

      waited : (q : Pos) → ((same_pos s q ≡ true) × (s ≡ q)) ⊎ ((same_pos s q ≡ false) × (s ≢ q)) → sight_of g1 q ≡ pending → (n : ℕ) → IsSome (value_at n w q)
          → (m : ℕ) × (m < n) × IsSome (value_with m w (frame_of_attribute s) t)
      waited q (inl same) waits n some =
          let (m, next, more) = below w s t there n (subst (λ p. IsSome (value_at n w p)) (sym same.1) some) in
          (m, omega arith, more)
      waited q (inr other) waits n some =
          let (m, less, more) = ready.wait q (sym (entered q ∙ ap (λ b. cond b pending (sight_of g q)) other.0) ∙ waits) n some in
          let (k, next, inside) = below w s t there m more in
          (k, omega arith, inside)

  -- and has no value without the reference to it
  pub fails_inside : (left : ℕ) → left ≢ 0 → value_with (left - 1) w (frame_of_attribute s) t ≡ None → value_at left w s ≡ None
  fails_inside zero some none = absurd (some refl)
  fails_inside (suc left) some none = value_at-more w s t there left ∙ ap (λ n. value_with n w (frame_of_attribute s) t) (sym (sub-one (suc left))) ∙ none

  module _ (g2 g3 : Guard) (left : ℕ) (v : Plain) (h : ℕ) where
    -- it is still pending once its expression has a value
    pub still_pending : IsReached w (λ n. value_with n w (frame_of_attribute s) t) (left - 1) g1 g2 v h → sight_of g2 s ≡ pending
    still_pending reached = is_pending-pending (sight_of g2 s) (reached.pending s ∙ ap is_pending entered-here)

    -- and then it has its value with one reference more
    pub kept_inside : left ≢ 0 → sight_of g s ≡ unseen → ((q : Pos) → sight_of g3 q ≡ cond (same_pos s q) (done v (h + 1)) (sight_of g2 q))
        → IsReached w (λ n. value_with n w (frame_of_attribute s) t) (left - 1) g1 g2 v h → IsReached w (λ n. value_at n w s) left g g3 v (h + 1)
    kept_inside some fresh finished reached = record {
      height = height;
      within = omega (arith, reached.within);
      kept = λ q u k is. keeps q u k (same_pos-cases s q) is;
      pending = λ q. same_pending q (same_pos-cases s q);
    }
      where
        height : HasHeight (λ n. value_at n w s) v (h + 1)
        height = record { reached = has; short = hasnt }
          where
            has : (n : ℕ) → h + 1 ≤ n → value_at n w s ≡ Some v
            has zero le = absurd (omega arith)
            has (suc n) le = value_at-more w s t there n ∙ reached.height.reached n (omega arith)

            hasnt : (n : ℕ) → n < h + 1 → value_at n w s ≡ None
            hasnt zero less = value_at-none w s
            hasnt (suc n) less = value_at-more w s t there n ∙ reached.height.short n (omega arith)

        keeps : (q : Pos) (u : Plain) (k : ℕ) → ((same_pos s q ≡ true) × (s ≡ q)) ⊎ ((same_pos s q ≡ false) × (s ≢ q)) → sight_of g3 q ≡ done u k
            → HasHeight (λ n. value_at n w q) u k
        keeps q u k (inl same) is =
            let equal : done v (h + 1) ≡ done u k = sym (finished q ∙ ap (λ b. cond b (done v (h + 1)) (sight_of g2 q)) same.0) ∙ is in
            let values : v ≡ u = cc in
            let heights : h + 1 ≡ k = cc in
            subst (λ x. HasHeight (λ n. value_at n w q) x k) values
            (subst (λ x. HasHeight (λ n. value_at n w q) v x) heights (subst (λ p. HasHeight (λ n. value_at n w p) v (h + 1)) same.1 height))
        keeps q u k (inr other) is = reached.kept q u k (sym (finished q ∙ ap (λ b. cond b (done v (h + 1)) (sight_of g2 q)) other.0) ∙ is)

        same_pending : (q : Pos) → ((same_pos s q ≡ true) × (s ≡ q)) ⊎ ((same_pos s q ≡ false) × (s ≢ q))
            → is_pending (sight_of g3 q) ≡ is_pending (sight_of g q)
        same_pending q (inl same) =
            ap is_pending (finished q ∙ ap (λ b. cond b (done v (h + 1)) (sight_of g2 q)) same.0)
            ∙ sym (ap is_pending (ap (sight_of g) (sym same.1) ∙ fresh))
        same_pending q (inr other) =
            ap is_pending (finished q ∙ ap (λ b. cond b (done v (h + 1)) (sight_of g2 q)) other.0)
            ∙ reached.pending q
            ∙ ap is_pending (entered q ∙ ap (λ b. cond b pending (sight_of g q)) other.0)

-- ---- an attribute that is kept

module _ (w : PlainWorld) (g : Guard) (s : Pos) (left : ℕ) (v : Plain) (h : ℕ) (ready : IsReady w g (λ n. value_at n w s)) (is : sight_of g s ≡ done v h) where
  pub kept-reached : h ≤ left → IsReached w (λ n. value_at n w s) left g g v h
  kept-reached within = record { height = ready.kept s v h is; within = within; kept = ready.kept; pending = λ q. refl }

  pub kept-short : left < h → value_at left w s ≡ None
  kept-short less = (ready.kept s v h is).short left less
