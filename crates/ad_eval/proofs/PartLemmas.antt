-- Evaluations part by part, in the words of the contracts.
use Rattle.std.proofs.Common.{◌≡◌, ℕ, refl, List, Option, Some, Result, Ok, Err, option_map, max, ap, sym, ◌∙◌, subst, arith}
use Rattle.std.specs.Prelude.{IsErr, IsErrAnd}
use Rattle.std.specs.Option.{option_and_then}
use Rattle.ad_value.specs.Plain.{Plain, plain, plains}
use Rattle.cycle_guard.specs.declared.guard.Guard.{Guard}
use Rattle.eval_scope.specs.World.{PlainWorld}
use Rattle.ad_eval.specs.declared.outcome.Outcome.{Outcome}
use Rattle.ad_eval.specs.declared.outcome.Several.{Several}
use Rattle.ad_eval.specs.declared.stop.Stop.{Stop}
use Rattle.ad_eval.specs.Answered.{IsApplied, IsAtLeast}
use Rattle.ad_eval.specs.Kept.{Answers, AnswersAll, Ready}
use Rattle.ad_eval.proofs.KeptLemmas.{IsPartly, answer_all_none, answer_all_some, answer_none, answer_some, answers_all_some, answers_some, ends, ends_mapped}
use Rattle.ad_eval.proofs.KeptLemmas.{ends_with, fails, first_ready, goes_on, is_ready, mapped_ready, reached_as, reached_of, ready_is, rewritten, starts}
use Rattle.ad_eval.proofs.KeptLemmas.{stops_all_by, stops_by}

module _ (w : PlainWorld) (left : ℕ) where
  -- the same function of the references under another name
  pub answers_of : (f e : ℕ → Option Plain) (g g1 : Guard) (r : Result Outcome Stop) → ((n : ℕ) → f n ≡ e n) → Answers w e left g g1 r → Answers w f left g g1 r
  answers_of f e g g1 (Ok o) same h = answers_some w f left g g1 o (reached_of w f e left g g1 (plain o.value) o.height same (answer_some w e left g g1 o h))
  answers_of f e g g1 (Err stop) same h =
      stops_by w f left g g1 stop (λ is. same left ∙ answer_none w e left g g1 (subst (λ z. Answers w e left g g1 (Err z)) is h))

  -- what a step that needs no references answers
  pub stops_wanting : (f : ℕ → Option Plain) (g0 g1 : Guard) (stop : Stop) → stop ≡ Stop.OutOfMemory → Answers w f left g0 g1 (Err stop)
  stops_wanting f g0 g1 stop wanting = stops_by w f left g0 g1 stop (λ is. absurd (cc))

  -- a stop that a `?` hands on
  pub hands_on : (f : ℕ → Option Plain) (g0 g1 : Guard) (r : Result Outcome Stop) (stop : Stop) → IsErr r → IsErrAnd r (λ e. e ≡ stop)
      → Answers w f left g0 g1 (Err stop) → Answers w f left g0 g1 r
  hands_on f g0 g1 (Ok o) stop wrong same h = absurd (cc)
  hands_on f g0 g1 (Err other) stop right same h = subst (λ z. Answers w f left g0 g1 (Err z)) (sym same) h

  pub hands_on_all : (f : ℕ → Option (List Plain)) (g0 g1 : Guard) (r : Result Several Stop) (stop : Stop) → IsErr r → IsErrAnd r (λ e. e ≡ stop)
      → AnswersAll w f left g0 g1 (Err stop) → AnswersAll w f left g0 g1 r
  hands_on_all f g0 g1 (Ok o) stop wrong same h = absurd (cc)
  hands_on_all f g0 g1 (Err other) stop right same h = subst (λ z. AnswersAll w f left g0 g1 (Err z)) (sym same) h

  -- nothing is evaluated yet
  pub begins : {A : Type 0} (f rest : ℕ → Option A) (g : Guard) → Ready w g f → ((n : ℕ) → f n ≡ rest n) → IsPartly w f left g g rest 0
  begins f rest g ready same = rewritten w f left g g f rest 0 same (starts w f left g (ready_is w g f ready))

  -- ---- a part can be evaluated
  pub part_ready : {A B : Type 0} (f : ℕ → Option A) (g0 g : Guard) (k : ℕ → B → Option A) (a : ℕ → Option B) (h : ℕ)
      → IsPartly w f left g0 g (λ n. option_and_then (k n) (a n)) h → Ready w g a
  part_ready f g0 g k a h p = is_ready w g a (first_ready w k a g p.ready)

  pub mapped_part_ready : {A B : Type 0} (f : ℕ → Option A) (g0 g : Guard) (r : B → A) (a : ℕ → Option B) (h : ℕ)
      → IsPartly w f left g0 g (λ n. option_map r (a n)) h → Ready w g a
  mapped_part_ready f g0 g r a h p = is_ready w g a (mapped_ready w r a g p.ready)

  pub rest_ready : {A : Type 0} (f : ℕ → Option A) (g0 g : Guard) (rest : ℕ → Option A) (h : ℕ) → IsPartly w f left g0 g rest h → Ready w g rest
  rest_ready f g0 g rest h p = is_ready w g rest p.ready

  -- ---- a part has no value
  pub part_fails : (f : ℕ → Option Plain) (g0 g g1 g2 : Guard) (k : ℕ → Plain → Option Plain) (a : ℕ → Option Plain) (h : ℕ) (stop : Stop)
      → IsPartly w f left g0 g (λ n. option_and_then (k n) (a n)) h → Answers w a left g g1 (Err stop) → Answers w f left g0 g2 (Err stop)
  part_fails f g0 g g1 g2 k a h stop p stopped =
      stops_by w f left g0 g2 stop (λ is. fails w f left g0 g (λ n. option_and_then (k n) (a n)) h p
      (ap (option_and_then (k left)) (answer_none w a left g g1 (subst (λ z. Answers w a left g g1 (Err z)) is stopped))))

  pub mapped_part_fails : (f : ℕ → Option Plain) (g0 g g1 g2 : Guard) (r : Plain → Plain) (a : ℕ → Option Plain) (h : ℕ) (stop : Stop)
      → IsPartly w f left g0 g (λ n. option_map r (a n)) h → Answers w a left g g1 (Err stop) → Answers w f left g0 g2 (Err stop)
  mapped_part_fails f g0 g g1 g2 r a h stop p stopped =
      stops_by w f left g0 g2 stop (λ is. fails w f left g0 g (λ n. option_map r (a n)) h p
      (ap (option_map r) (answer_none w a left g g1 (subst (λ z. Answers w a left g g1 (Err z)) is stopped))))

  pub rest_fails : (f : ℕ → Option Plain) (g0 g g1 g2 : Guard) (rest : ℕ → Option Plain) (h : ℕ) (stop : Stop) → IsPartly w f left g0 g rest h
      → Answers w rest left g g1 (Err stop) → Answers w f left g0 g2 (Err stop)
  rest_fails f g0 g g1 g2 rest h stop p stopped =
      stops_by w f left g0 g2 stop (λ is. fails w f left g0 g rest h p
      (answer_none w rest left g g1 (subst (λ z. Answers w rest left g g1 (Err z)) is stopped)))

  pub all_part_fails : (f : ℕ → Option Plain) (g0 g g1 g2 : Guard) (r : List Plain → Plain) (a : ℕ → Option (List Plain)) (h : ℕ) (stop : Stop)
      → IsPartly w f left g0 g (λ n. option_map r (a n)) h → AnswersAll w a left g g1 (Err stop) → Answers w f left g0 g2 (Err stop)
  all_part_fails f g0 g g1 g2 r a h stop p stopped =
      stops_by w f left g0 g2 stop (λ is. fails w f left g0 g (λ n. option_map r (a n)) h p
      (ap (option_map r) (answer_all_none w a left g g1 (subst (λ z. AnswersAll w a left g g1 (Err z)) is stopped))))

  pub part_fails_all : (f : ℕ → Option (List Plain)) (g0 g g1 g2 : Guard) (k : ℕ → Plain → Option (List Plain)) (a : ℕ → Option Plain) (h : ℕ) (stop : Stop)
      → IsPartly w f left g0 g (λ n. option_and_then (k n) (a n)) h → Answers w a left g g1 (Err stop) → AnswersAll w f left g0 g2 (Err stop)
  part_fails_all f g0 g g1 g2 k a h stop p stopped =
      stops_all_by w f left g0 g2 stop (λ is. fails w f left g0 g (λ n. option_and_then (k n) (a n)) h p
      (ap (option_and_then (k left)) (answer_none w a left g g1 (subst (λ z. Answers w a left g g1 (Err z)) is stopped))))

  -- ---- a part has a value
  pub part_done : {A : Type 0} (f : ℕ → Option A) (g0 g g1 : Guard) (k : ℕ → Plain → Option A) (a : ℕ → Option Plain) (h : ℕ) (o : Outcome)
      → IsPartly w f left g0 g (λ n. option_and_then (k n) (a n)) h → Answers w a left g g1 (Ok o)
      → IsPartly w f left g0 g1 (λ n. k n (plain o.value)) (max h o.height)
  part_done f g0 g g1 k a h o p some = goes_on w f left g0 g g1 k a h (plain o.value) o.height p (answer_some w a left g g1 o some)

  -- ---- the whole has a value
  pub finishes : (f : ℕ → Option Plain) (g0 g : Guard) (rest : ℕ → Option Plain) (h : ℕ) (u : Outcome) → IsPartly w f left g0 g rest h
      → ((n : ℕ) → rest n ≡ Some (plain u.value)) → u.height ≡ h → Answers w f left g0 g (Ok u)
  finishes f g0 g rest h u p always heights =
      answers_some w f left g0 g u (reached_as w f left g0 g (plain u.value) (plain u.value) h u.height refl heights
      (ends_with w f left g0 g rest h (plain u.value) p always))

  pub finishes_mapped : (f : ℕ → Option Plain) (g0 g g1 : Guard) (r : Plain → Plain) (a : ℕ → Option Plain) (h : ℕ) (o u : Outcome)
      → IsPartly w f left g0 g (λ n. option_map r (a n)) h → Answers w a left g g1 (Ok o) → plain u.value ≡ r (plain o.value) → u.height ≡ max h o.height
      → Answers w f left g0 g1 (Ok u)
  finishes_mapped f g0 g g1 r a h o u p some values heights =
      answers_some w f left g0 g1 u (reached_as w f left g0 g1 (r (plain o.value)) (plain u.value) (max h o.height) u.height values heights
      (ends_mapped w f left g0 g g1 r a h (plain o.value) o.height p (answer_some w a left g g1 o some)))

  pub finishes_all : (f : ℕ → Option Plain) (g0 g g1 : Guard) (r : List Plain → Plain) (a : ℕ → Option (List Plain)) (h : ℕ) (o : Several) (u : Outcome)
      → IsPartly w f left g0 g (λ n. option_map r (a n)) h → AnswersAll w a left g g1 (Ok o) → plain u.value ≡ r (plains o.values) → u.height ≡ max h o.height
      → Answers w f left g0 g1 (Ok u)
  finishes_all f g0 g g1 r a h o u p some values heights =
      answers_some w f left g0 g1 u (reached_as w f left g0 g1 (r (plains o.values)) (plain u.value) (max h o.height) u.height values heights
      (ends_mapped w f left g0 g g1 r a h (plains o.values) o.height p (answer_all_some w a left g g1 o some)))

  pub finishes_rest : (f : ℕ → Option Plain) (g0 g g1 : Guard) (rest : ℕ → Option Plain) (h : ℕ) (o u : Outcome) → IsPartly w f left g0 g rest h
      → Answers w rest left g g1 (Ok o) → plain u.value ≡ plain o.value → u.height ≡ max h o.height → Answers w f left g0 g1 (Ok u)
  finishes_rest f g0 g g1 rest h o u p some values heights =
      answers_some w f left g0 g1 u (reached_as w f left g0 g1 (plain o.value) (plain u.value) (max h o.height) u.height values heights
      (ends w f left g0 g g1 rest h (plain o.value) o.height p (answer_some w rest left g g1 o some)))

  pub finishes_list : (f : ℕ → Option (List Plain)) (g0 g : Guard) (rest : ℕ → Option (List Plain)) (h : ℕ) (u : Several) → IsPartly w f left g0 g rest h
      → ((n : ℕ) → rest n ≡ Some (plains u.values)) → u.height ≡ h → AnswersAll w f left g0 g (Ok u)
  finishes_list f g0 g rest h u p always heights =
      answers_all_some w f left g0 g u (reached_as w f left g0 g (plains u.values) (plains u.values) h u.height refl heights
      (ends_with w f left g0 g rest h (plains u.values) p always))

  -- the rest is answered, with at least the references of what was evaluated before it
  pub rest_ends : (f : ℕ → Option Plain) (g0 g g1 : Guard) (rest : ℕ → Option Plain) (h least : ℕ) (r u : Result Outcome Stop) → least ≡ h
      → IsPartly w f left g0 g rest h → Answers w rest left g g1 r → IsAtLeast least r u → Answers w f left g0 g1 u
  rest_ends f g0 g g1 rest h least (Ok o) (Ok u) same p some (value, height) =
      finishes_rest f g0 g g1 rest h o u p some value (height ∙ ap (λ n. max n o.height) same)
  rest_ends f g0 g g1 rest h least (Ok o) (Err stop) same p some wrong = absurd wrong
  rest_ends f g0 g g1 rest h least (Err stop) (Ok u) same p stopped wrong = absurd wrong
  rest_ends f g0 g g1 rest h least (Err stop) (Err other) same p stopped is =
      subst (λ z. Answers w f left g0 g1 (Err z)) (sym is) (rest_fails f g0 g g1 g1 rest h stop p stopped)

  -- what is left is a value
  pub finishes_with : (f : ℕ → Option Plain) (g0 g : Guard) (rest : ℕ → Option Plain) (h : ℕ) (v : Plain) (r : Result Outcome Stop)
      → IsPartly w f left g0 g rest h → ((n : ℕ) → rest n ≡ Some v) → IsApplied v h r → Answers w f left g0 g r
  finishes_with f g0 g rest h v (Ok u) p always (value, height) = finishes f g0 g rest h u p (λ n. always n ∙ ap Some (sym value)) height
  finishes_with f g0 g rest h v (Err stop) p always wanting = stops_wanting f g0 g stop wanting

  -- the whole is a value at once
  pub finishes_at_once : (f : ℕ → Option Plain) (g : Guard) (v : Plain) (r : Result Outcome Stop) → Ready w g f → ((n : ℕ) → f n ≡ Some v) → IsApplied v 0 r
      → Answers w f left g g r
  finishes_at_once f g v r ready always is = finishes_with f g g f 0 v r (begins f f g ready (λ n. refl)) always is

  -- a function of the values of a list
  pub finishes_applied : (f : ℕ → Option Plain) (g0 g g1 : Guard) (q : List Plain → Plain) (a : ℕ → Option (List Plain)) (h : ℕ) (o : Several)
      (r : Result Outcome Stop) → IsPartly w f left g0 g (λ n. option_map q (a n)) h → AnswersAll w a left g g1 (Ok o)
      → IsApplied (q (plains o.values)) o.height r → h ≡ 0 → Answers w f left g0 g1 r
  finishes_applied f g0 g g1 q a h o (Ok u) p some (value, height) none = finishes_all f g0 g g1 q a h o u p some value (omega (arith, height, none))
  finishes_applied f g0 g g1 q a h o (Err stop) p some wanting none = stops_wanting f g0 g1 stop wanting
