-- Values that are kept in the course of an evaluation, each with the least number of references that it needs.
use Rattle.std.specs.Prelude.{ℕ, zero, suc, List, [], ◌∷◌, ◌++◌, length, count_by, ◌≡◌, ◌≤◌, ◌<◌, ◌+◌, Bool, true, false, Option, None, Some, IsSome, Result}
use Rattle.std.specs.Prelude.{Ok, Err}
use Rattle.pool_text.specs.declared.language.Pos.{Pos}
use Rattle.ad_value.specs.Plain.{Plain}
use Rattle.cycle_guard.specs.declared.guard.Guard.{Guard}
use Rattle.cycle_guard.specs.Sights.{Sight, unseen, pending, done}
use Rattle.cycle_guard.specs.Shown.{sight_of}
use Rattle.ad_tree.specs.Frames.{Frame}
use Rattle.eval_scope.specs.World.{PlainWorld, ads}
use Rattle.ad_value.specs.Plain.{plain, plains}
use Rattle.ad_eval.specs.declared.outcome.Outcome.{Outcome}
use Rattle.ad_eval.specs.declared.outcome.Several.{Several}
use Rattle.ad_eval.specs.declared.stop.Stop.{Stop}
use Rattle.ad_eval.specs.Value.{value_at}

-- f gives v from h references on, and nothing below
pub record HasHeight {A : Type 0} (f : ℕ → Option A) (v : A) (h : ℕ) : Type 0 where
  pub reached : (n : ℕ) → h ≤ n → f n ≡ Some v
  pub short : (n : ℕ) → n < h → f n ≡ None

-- the kept values are right
abbrev pub AreKept : PlainWorld → Guard → Type 0
AreKept w g = (s : Pos) (v : Plain) (h : ℕ) → sight_of g s ≡ done v h → HasHeight (λ n. value_at n w s) v h

-- whether an attribute was entered and has no value yet
abbrev pub is_pending : Sight → Bool
is_pending pending = true
is_pending other = false

-- the pending attributes wait for f: wherever such an attribute has a value, f has one with fewer references
abbrev pub Wait : {A : Type 0} → PlainWorld → Guard → (ℕ → Option A) → Type 0
Wait w g f = (s : Pos) → sight_of g s ≡ pending → (n : ℕ) → IsSome (value_at n w s) → (m : ℕ) × (m < n) × IsSome (f m)

-- f can be evaluated over the guard
pub record IsReady {A : Type 0} (w : PlainWorld) (g : Guard) (f : ℕ → Option A) : Type 0 where
  pub kept : AreKept w g
  pub wait : Wait w g f

-- the same, where only its laws are of interest
unfoldable pub Ready : {A : Type 0} → PlainWorld → Guard → (ℕ → Option A) → Type 0
Ready w g f = IsReady w g f

-- f was evaluated to v, which needs h of the references that were left
pub record IsReached {A : Type 0} (w : PlainWorld) (f : ℕ → Option A) (left : ℕ) (old new : Guard) (v : A) (h : ℕ) : Type 0 where
  pub height : HasHeight f v h
  pub within : h ≤ left
  pub kept : AreKept w new
  pub pending : (s : Pos) → is_pending (sight_of new s) ≡ is_pending (sight_of old s)

-- what is answered for f: a value, or that the references that were left don't suffice; nothing where memory is wanting
unfoldable pub Answers : PlainWorld → (ℕ → Option Plain) → ℕ → Guard → Guard → Result Outcome Stop → Type 0
Answers w f left old new (Ok o) = IsReached w f left old new (plain o.value) o.height
Answers w f left old new (Err Stop.References) = f left ≡ None
Answers w f left old new (Err Stop.OutOfMemory) = Unit {0}

-- the same for several values
unfoldable pub AnswersAll : PlainWorld → (ℕ → Option (List Plain)) → ℕ → Guard → Guard → Result Several Stop → Type 0
AnswersAll w f left old new (Ok o) = IsReached w f left old new (plains o.values) o.height
AnswersAll w f left old new (Err Stop.References) = f left ≡ None
AnswersAll w f left old new (Err Stop.OutOfMemory) = Unit {0}

-- ---- how many attributes weren't entered yet

-- the first n attributes of a frame, of frames from f on, and of ads from k on
abbrev pub first_attributes : ℕ → ℕ → ℕ → List Pos
first_attributes k f zero = []
first_attributes k f (suc n) = record { ad = k; frame = f; attr = n } ∷ first_attributes k f n

abbrev pub attributes_of_frames : ℕ → ℕ → List Frame → List Pos
attributes_of_frames k f [] = []
attributes_of_frames k f (g ∷ gs) = first_attributes k f (length g.attributes) ++ attributes_of_frames k (suc f) gs

abbrev pub attributes_of_ads : ℕ → List (List Frame) → List Pos
attributes_of_ads k [] = []
attributes_of_ads k (fs ∷ rest) = attributes_of_frames k 0 fs ++ attributes_of_ads (suc k) rest

-- nothing is known of an attribute
abbrev pub is_unseen : Sight → Bool
is_unseen unseen = true
is_unseen other = false

-- how many attributes of a world are unseen
unfoldable pub unseen_count : PlainWorld → Guard → ℕ
unseen_count w g = count_by (λ s. is_unseen (sight_of g s)) (attributes_of_ads 0 (ads w))

-- no more attributes were entered than are no longer unseen
unfoldable pub Counts : PlainWorld → ℕ → ℕ → Guard → Guard → Type 0
Counts w before after old new = after + unseen_count w new ≤ before + unseen_count w old
