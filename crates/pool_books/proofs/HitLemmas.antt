-- Hits with the slots of their ads, and the rows of the ads.
use Rattle.std.proofs.Common.{Result, Ok, Err, IfOk}

-- ---- the rows

pub if_ok : {T E : Type 0} (r : Result T E) (P Q : T → Type 0) → ((x : T) → P x → Q x) → IfOk r P → IfOk r Q
if_ok (Ok x) P Q more holds = more x holds
if_ok (Err e) P Q more holds = tt
