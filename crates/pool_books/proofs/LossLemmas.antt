-- The jobs that lose their resources, by slots and by names, and what is told of them.
use Rattle.std.proofs.Common.{Result, Ok, Err, OnOk}

-- ---- a search from the front

-- what holds where a call is Ok
pub on_ok : {T E : Type 0} (r : Result T E) (P Q : Type 0) → (P → Q) → OnOk r P → OnOk r Q
on_ok (Ok x) P Q more p = more p
on_ok (Err e) P Q more p = tt
