-- The box that a fault of `add` hands back.
use Rattle.std.specs.Prelude.{Bool, true, false}
use Rattle.std.specs.Global.{Global}
use Rattle.std.specs.declared.dyn_box.DynBox.{DynBox}
use Rattle.notice_desk.specs.declared.desk.AddFault.{AddFault}
use Rattle.notice_desk.specs.declared.desk.AddFault.TheVariants.{InUse, OutOfMemory}

-- the box that is handed back
abbrev pub box_of : {X : Type 0} {F : X → Type 0} → AddFault X F → DynBox X Global F
box_of (InUse mailbox) = mailbox
box_of (OutOfMemory mailbox) = mailbox

-- whether the name was there
abbrev pub is_in_use : {X : Type 0} {F : X → Type 0} → AddFault X F → Bool
is_in_use (InUse mailbox) = true
is_in_use (OutOfMemory mailbox) = false
