-- Why a priority was not set.
use Rattle.std.specs.Prelude.{◌≡◌, Bool, false, true}
use Rattle.claim_table.specs.declared.answers.PriorityFault.{PriorityFault}

-- there is no place exactly where it is said so; memory is asked for only where there is one
abbrev pub IsCause : PriorityFault → Bool → Type 0
IsCause PriorityFault.Full lacks = lacks ≡ true
IsCause PriorityFault.OutOfMemory lacks = lacks ≡ false
