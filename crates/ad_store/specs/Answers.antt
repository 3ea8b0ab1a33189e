-- What the answers of a store say.
use Rattle.std.specs.Prelude.{◌≡◌, ℕ, Bool, true, false, List, [], ◌∷◌, ◌++◌, Option, None, Some}
use Rattle.ad_store.specs.declared.answers.Put.{Put}
use Rattle.ad_store.specs.declared.answers.PutFault.{PutFault}

-- the answer is that an ad was added
abbrev pub is_added : Put → Bool
is_added (Put.Added slot) = true
is_added (Put.Replaced slot) = false

-- the slot that the answer names
abbrev pub slot_put : Put → ℕ
slot_put (Put.Added slot) = slot
slot_put (Put.Replaced slot) = slot

-- the slots behind an answer: a new ad's slot goes last, and an ad that takes another's place takes its slot
abbrev pub slots_put : Put → List ℕ → List ℕ
slots_put (Put.Added slot) slots = slots ++ slot ∷ []
slots_put (Put.Replaced slot) slots = slots

-- the fault is what there is no room for; memory is asked for only where there is room
abbrev pub IsCause : PutFault → Option PutFault → Type 0
IsCause PutFault.OutOfMemory lacking = lacking ≡ None
IsCause fault lacking = lacking ≡ Some fault
