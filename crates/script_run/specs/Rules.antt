-- The rules by which a machine answers the items of an input.
use Rattle.std.specs.Prelude.{◌≡◌, ℕ, ◌+◌, ◌≤◌, Bool, true, false, List, [], ◌∷◌, ◌++◌, length}
use Rattle.script_run.specs.Effects.{Beside}

-- what items bytes give, as the whole input or not; what the machine is behind an item, the text of its answer, and how many
-- refusals that is; what it does beside its answers to items; and what it may have done where it found no memory for one
pub record Rules (State Item : Type 0) : Type 1 where
  pub given : Bool → List ℕ → List Item
  pub next : State → Item → State
  pub text : State → Item → List ℕ
  pub refusals : State → Item → ℕ
  pub Does : State → List Item → Beside → Beside → Type 0
  pub Tries : State → Item → Beside → Beside → Type 0

-- the machine behind items
abbrev pub after : {State Item : Type 0} → Rules State Item → State → List Item → State
after rules s [] = s
after rules s (item ∷ items) = after rules (rules.next s item) items

-- the text of the answers to items
abbrev pub text_of : {State Item : Type 0} → Rules State Item → State → List Item → List ℕ
text_of rules s [] = []
text_of rules s (item ∷ items) = rules.text s item ++ text_of rules (rules.next s item) items

-- how many of the answers are refusals
abbrev pub refusals_of : {State Item : Type 0} → Rules State Item → State → List Item → ℕ
refusals_of rules s [] = 0
refusals_of rules s (item ∷ items) = rules.refusals s item + refusals_of rules (rules.next s item) items

-- the first of the items was tried, where there is one
abbrev pub Tried : {State Item : Type 0} → Rules State Item → State → List Item → Beside → Beside → Type 0
Tried rules s [] k m = m ≡ k
Tried rules s (item ∷ items) k m = rules.Tries s item k m

-- what runs rest on: bytes give no more items than they are, and first those that fewer of them give; an answer is one refusal at
-- most; what is done for items one after the other is done for all of them; and a try may do nothing
pub record IsLawful {State Item : Type 0} (rules : Rules State Item) : Type 0 where
  pub few : (over : Bool) (bytes : List ℕ) → length (rules.given over bytes) ≤ length bytes
  pub more : (bytes others : List ℕ) → (behind : List Item) × (rules.given false (bytes ++ others) ≡ rules.given false bytes ++ behind)
  pub whole : (bytes others : List ℕ) → (behind : List Item) × (rules.given true (bytes ++ others) ≡ rules.given false bytes ++ behind)
  pub one : (s : State) (item : Item) → rules.refusals s item ≤ 1
  pub none : (s : State) (k : Beside) → rules.Does s [] k k
  pub append : (s : State) (a b : List Item) (k m n : Beside) → rules.Does s a k m → rules.Does (after rules s a) b m n → rules.Does s (a ++ b) k n
  pub idle : (s : State) (item : Item) (k : Beside) → rules.Tries s item k k
