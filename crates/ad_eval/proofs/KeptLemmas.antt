-- How an evaluation goes from part to part: what was reached, and what is left to evaluate.
use Rattle.std.proofs.Common.{◌≡◌, ◌≤◌, ◌<◌, ℕ, zero, suc, true, refl, Option, None, Some, IsSome, Ok, Err, List, option_map, max, ap, sym, ◌∙◌, subst, arith}
use Rattle.std.proofs.Common.{◌⊎◌, inl, inr}
use Rattle.std.specs.Option.{is_some, option_and_then}
use Rattle.pool_text.specs.declared.language.Pos.{Pos}
use Rattle.cycle_guard.specs.declared.guard.Guard.{Guard}
use Rattle.cycle_guard.specs.Sights.{Sight, unseen, pending, done}
use Rattle.cycle_guard.specs.Shown.{sight_of}
use Rattle.eval_scope.specs.World.{PlainWorld}
use Rattle.ad_value.specs.Plain.{Plain, plain, plains}
use Rattle.ad_eval.specs.declared.outcome.Outcome.{Outcome}
use Rattle.ad_eval.specs.declared.outcome.Several.{Several}
use Rattle.ad_eval.specs.declared.stop.Stop.{Stop}
use Rattle.ad_eval.specs.Kept.{Answers, AnswersAll, Counts, HasHeight, IsReached, IsReady, Ready, is_pending}

-- ---- options

pub Some-or-None : {A : Type 0} (o : Option A) → (o ≡ None) ⊎ ((v : A) × (o ≡ Some v))
Some-or-None None = inl refl
Some-or-None (Some v) = inr (v, refl)

IsSome-then : {A B : Type 0} (k : A → Option B) (o : Option A) → IsSome (option_and_then k o) → (v : A) × (o ≡ Some v) × IsSome (k v)
IsSome-then k None h = absurd (cc)
IsSome-then k (Some v) h = (v, refl, h)

is_some-map : {A B : Type 0} (r : B → A) (o : Option B) → IsSome (option_map r o) → IsSome o
is_some-map r None h = absurd (cc)
is_some-map r (Some v) h = refl

pub is_pending-pending : (s : Sight) → is_pending s ≡ true → s ≡ pending
is_pending-pending unseen e = cc
is_pending-pending pending e = refl
is_pending-pending (done v h) e = cc

-- ---- heights

cases_le : (h n : ℕ) → (h ≤ n) ⊎ (n < h)
cases_le zero n = inl (omega arith)
cases_le (suc h) zero = inr (omega arith)
cases_le (suc h) (suc n) = by (cases_le h n)
  where
    by : (h ≤ n) ⊎ (n < h) → (suc h ≤ suc n) ⊎ (suc n < suc h)
    by (inl e) = inl (omega arith)
    by (inr e) = inr (omega arith)

-- a value of f is the one that it has
pub HasHeight-value : {A : Type 0} (f : ℕ → Option A) (v : A) (h : ℕ) → HasHeight f v h → (n : ℕ) (u : A) → f n ≡ Some u → (h ≤ n) × (u ≡ v)
HasHeight-value f v h t n u e = by (cases_le h n)
  where
    by : (h ≤ n) ⊎ (n < h) → (h ≤ n) × (u ≡ v)
    by (inl le) = (le, cc (t.reached n le))
    by (inr lt) = absurd (cc (t.short n lt))

-- ---- f is evaluated in part, and rest is what is left

-- from h references on f is the rest, and below f has no value
pub record IsPartly {A : Type 0} (w : PlainWorld) (f : ℕ → Option A) (left : ℕ) (old now : Guard) (rest : ℕ → Option A) (h : ℕ) : Type 0 where
  pub continues : (n : ℕ) → h ≤ n → f n ≡ rest n
  pub short : (n : ℕ) → n < h → f n ≡ None
  pub within : h ≤ left
  pub ready : IsReady w now rest
  pub pending : (s : Pos) → is_pending (sight_of now s) ≡ is_pending (sight_of old s)

module _ (w : PlainWorld) where
  -- nothing is evaluated yet
  pub starts : {A : Type 0} (f : ℕ → Option A) (left : ℕ) (g : Guard) → IsReady w g f → IsPartly w f left g g f 0
  starts f left g ready = record {
    continues = λ n le. refl;
    short = λ n lt. absurd (omega arith);
    within = omega arith;
    ready = ready;
    pending = λ s. refl;
  }

  -- the pending attributes wait for the first part too
  pub first_ready : {A B : Type 0} (k : ℕ → B → Option A) (a : ℕ → Option B) (g : Guard) → IsReady w g (λ n. option_and_then (k n) (a n)) → IsReady w g a
  first_ready k a g ready = record {
    kept = ready.kept;
    wait = λ s p n some.
        let (m, less, there) = ready.wait s p n some in
        let (v, at, more) = IsSome-then (k m) (a m) there in
        (m, less, ap is_some at);
  }

  -- the same of a function of a part
  pub mapped_ready : {A B : Type 0} (r : B → A) (a : ℕ → Option B) (g : Guard) → IsReady w g (λ n. option_map r (a n)) → IsReady w g a
  mapped_ready r a g ready = record {
    kept = ready.kept;
    wait = λ s p n some.
        let (m, less, there) = ready.wait s p n some in
        (m, less, is_some-map r (a m) there);
  }

  -- what holds between guards one after another
  pub pending-then : (a b c : Guard) → ((s : Pos) → is_pending (sight_of b s) ≡ is_pending (sight_of a s))
      → ((s : Pos) → is_pending (sight_of c s) ≡ is_pending (sight_of b s)) → (s : Pos) → is_pending (sight_of c s) ≡ is_pending (sight_of a s)
  pending-then a b c first second s = second s ∙ first s

  was_pending : (old new : Guard) (s : Pos) → is_pending (sight_of new s) ≡ is_pending (sight_of old s) → sight_of new s ≡ pending → sight_of old s ≡ pending
  was_pending old new s same p = is_pending-pending (sight_of old s) (sym same ∙ ap is_pending p)

  -- one part more is evaluated
  pub goes_on : {A B : Type 0} (f : ℕ → Option A) (left : ℕ) (g0 g g1 : Guard) (k : ℕ → B → Option A) (a : ℕ → Option B) (h : ℕ) (v : B) (ha : ℕ)
      → IsPartly w f left g0 g (λ n. option_and_then (k n) (a n)) h → IsReached w a left g g1 v ha → IsPartly w f left g0 g1 (λ n. k n v) (max h ha)
  goes_on f left g0 g g1 k a h v ha p t = record {
    continues = λ n le.
        p.continues n (omega (arith, le)) ∙ ap (option_and_then (k n)) (t.height.reached n (omega (arith, le)));
    short = λ n lt. below n (cases_le h n) lt;
    within = omega (arith, p.within, t.within);
    ready = record {
      kept = t.kept;
      wait = λ s waits n some.
          let (m, less, there) = p.ready.wait s (was_pending g g1 s (t.pending s) waits) n some in
          let (u, at, more) = IsSome-then (k m) (a m) there in
          let same = (HasHeight-value a v ha t.height m u at).1 in
          (m, less, subst (λ x. IsSome (k m x)) same more);
    };
    pending = pending-then g0 g g1 p.pending t.pending;
  }
    where
      below : (n : ℕ) → (h ≤ n) ⊎ (n < h) → n < max h ha → f n ≡ None
      below n (inl le) lt = p.continues n le ∙ ap (option_and_then (k n)) (t.height.short n (omega arith))
      below n (inr less) lt = p.short n less

  -- the part that is left is reached
  pub ends : {A : Type 0} (f : ℕ → Option A) (left : ℕ) (g0 g g1 : Guard) (rest : ℕ → Option A) (h : ℕ) (v : A) (hr : ℕ) → IsPartly w f left g0 g rest h
      → IsReached w rest left g g1 v hr → IsReached w f left g0 g1 v (max h hr)
  ends f left g0 g g1 rest h v hr p t = record {
    height = record {
      reached = λ n le. p.continues n (omega (arith, le)) ∙ t.height.reached n (omega (arith, le));
      short = λ n lt. below n (cases_le h n) lt;
    };
    within = omega (arith, p.within, t.within);
    kept = t.kept;
    pending = pending-then g0 g g1 p.pending t.pending;
  }
    where
      below : (n : ℕ) → (h ≤ n) ⊎ (n < h) → n < max h hr → f n ≡ None
      below n (inl le) lt = p.continues n le ∙ t.height.short n (omega arith)
      below n (inr less) lt = p.short n less

  -- what is left is a value
  pub ends_with : {A : Type 0} (f : ℕ → Option A) (left : ℕ) (g0 g : Guard) (rest : ℕ → Option A) (h : ℕ) (v : A) → IsPartly w f left g0 g rest h
      → ((n : ℕ) → rest n ≡ Some v) → IsReached w f left g0 g v h
  ends_with f left g0 g rest h v p always = record {
    height = record { reached = λ n le. p.continues n le ∙ always n; short = p.short };
    within = p.within;
    kept = p.ready.kept;
    pending = p.pending;
  }

  -- what is left is a function of a part that is reached
  pub ends_mapped : {A B : Type 0} (f : ℕ → Option A) (left : ℕ) (g0 g g1 : Guard) (r : B → A) (a : ℕ → Option B) (h : ℕ) (v : B) (ha : ℕ)
      → IsPartly w f left g0 g (λ n. option_map r (a n)) h → IsReached w a left g g1 v ha → IsReached w f left g0 g1 (r v) (max h ha)
  ends_mapped f left g0 g g1 r a h v ha p t = ends f left g0 g g1 (λ n. option_map r (a n)) h (r v) ha p (record {
    height = record { reached = λ n le. ap (option_map r) (t.height.reached n le); short = λ n lt. ap (option_map r) (t.height.short n lt) };
    within = t.within;
    kept = t.kept;
    pending = t.pending;
  })

  -- what is left has no value with the references that are left
  pub fails : {A : Type 0} (f : ℕ → Option A) (left : ℕ) (g0 g : Guard) (rest : ℕ → Option A) (h : ℕ) → IsPartly w f left g0 g rest h → rest left ≡ None
      → f left ≡ None
  fails f left g0 g rest h p none = p.continues left p.within ∙ none

  -- the rest in another form
  pub rewritten : {A : Type 0} (f : ℕ → Option A) (left : ℕ) (g0 g : Guard) (rest other : ℕ → Option A) (h : ℕ) → ((n : ℕ) → rest n ≡ other n)
      → IsPartly w f left g0 g rest h → IsPartly w f left g0 g other h
  rewritten f left g0 g rest other h same p = record {
    continues = λ n le. p.continues n le ∙ same n;
    short = p.short;
    within = p.within;
    ready = record {
      kept = p.ready.kept;
      wait = λ s waits n some.
          let (m, less, there) = p.ready.wait s waits n some in
          (m, less, subst (λ o. IsSome o) (same m) there);
    };
    pending = p.pending;
  }
  -- the whole is reached at once

-- ---- the same under other names

module _ (w : PlainWorld) where
  pub reached_as : {A : Type 0} (f : ℕ → Option A) (left : ℕ) (g0 g1 : Guard) (v u : A) (h k : ℕ) → u ≡ v → k ≡ h → IsReached w f left g0 g1 v h
      → IsReached w f left g0 g1 u k
  reached_as f left g0 g1 v u h k values heights t =
      subst (λ x. IsReached w f left g0 g1 x k) (sym values) (subst (λ x. IsReached w f left g0 g1 v x) (sym heights) t)

  pub reached_of : {A : Type 0} (f e : ℕ → Option A) (left : ℕ) (g0 g1 : Guard) (v : A) (h : ℕ) → ((n : ℕ) → f n ≡ e n) → IsReached w e left g0 g1 v h
      → IsReached w f left g0 g1 v h
  reached_of f e left g0 g1 v h same t = record {
    height = record { reached = λ n le. same n ∙ t.height.reached n le; short = λ n lt. same n ∙ t.height.short n lt };
    within = t.within;
    kept = t.kept;
    pending = t.pending;
  }

  pub ready_of : {A : Type 0} (f e : ℕ → Option A) (g : Guard) → ((n : ℕ) → f n ≡ e n) → IsReady w g f → IsReady w g e
  ready_of f e g same ready = record {
    kept = ready.kept;
    wait = λ s waits n some.
        let (m, less, there) = ready.wait s waits n some in
        (m, less, subst (λ o. IsSome o) (same m) there);
  }

-- ---- contracts and what they say

pub ready_is : {A : Type 0} (w : PlainWorld) (g : Guard) (f : ℕ → Option A) → Ready w g f → IsReady w g f
unfolding Ready
ready_is w g f h = h

pub is_ready : {A : Type 0} (w : PlainWorld) (g : Guard) (f : ℕ → Option A) → IsReady w g f → Ready w g f
unfolding Ready
is_ready w g f h = h

-- the same function of the references under another name
pub ready_as : {A : Type 0} (w : PlainWorld) (f e : ℕ → Option A) (g : Guard) → ((n : ℕ) → f n ≡ e n) → Ready w g f → Ready w g e
ready_as w f e g same ready = is_ready w g e (ready_of w f e g same (ready_is w g f ready))

pub answer_none : (w : PlainWorld) (f : ℕ → Option Plain) (left : ℕ) (old new : Guard) → Answers w f left old new (Err Stop.References) → f left ≡ None
unfolding Answers
answer_none w f left old new h = h

pub answer_some : (w : PlainWorld) (f : ℕ → Option Plain) (left : ℕ) (old new : Guard) (o : Outcome) → Answers w f left old new (Ok o)
    → IsReached w f left old new (plain o.value) o.height
unfolding Answers
answer_some w f left old new o h = h

pub answers_some : (w : PlainWorld) (f : ℕ → Option Plain) (left : ℕ) (old new : Guard) (o : Outcome) → IsReached w f left old new (plain o.value) o.height
    → Answers w f left old new (Ok o)
unfolding Answers
answers_some w f left old new o h = h

-- a stop, which says nothing where memory is wanting
pub stops_by : (w : PlainWorld) (f : ℕ → Option Plain) (left : ℕ) (old new : Guard) (stop : Stop) → (stop ≡ Stop.References → f left ≡ None)
    → Answers w f left old new (Err stop)
unfolding Answers
stops_by w f left old new Stop.References h = h refl
stops_by w f left old new Stop.OutOfMemory h = tt

pub answer_all_none : (w : PlainWorld) (f : ℕ → Option (List Plain)) (left : ℕ) (old new : Guard) → AnswersAll w f left old new (Err Stop.References)
    → f left ≡ None
unfolding AnswersAll
answer_all_none w f left old new h = h

pub answer_all_some : (w : PlainWorld) (f : ℕ → Option (List Plain)) (left : ℕ) (old new : Guard) (o : Several) → AnswersAll w f left old new (Ok o)
    → IsReached w f left old new (plains o.values) o.height
unfolding AnswersAll
answer_all_some w f left old new o h = h

pub answers_all_some : (w : PlainWorld) (f : ℕ → Option (List Plain)) (left : ℕ) (old new : Guard) (o : Several)
    → IsReached w f left old new (plains o.values) o.height → AnswersAll w f left old new (Ok o)
unfolding AnswersAll
answers_all_some w f left old new o h = h

-- a stop, which says nothing where memory is wanting
pub stops_all_by : (w : PlainWorld) (f : ℕ → Option (List Plain)) (left : ℕ) (old new : Guard) (stop : Stop) → (stop ≡ Stop.References → f left ≡ None)
    → AnswersAll w f left old new (Err stop)
unfolding AnswersAll
stops_all_by w f left old new Stop.References h = h refl
stops_all_by w f left old new Stop.OutOfMemory h = tt

pub counts_same : (w : PlainWorld) (n : ℕ) (g : Guard) → Counts w n n g g
unfolding Counts
counts_same w n g = omega arith

pub counts_then : (w : PlainWorld) (a b c : ℕ) (g h k : Guard) → Counts w a b g h → Counts w b c h k → Counts w a c g k
unfolding Counts
counts_then w a b c g h k first second = omega arith
