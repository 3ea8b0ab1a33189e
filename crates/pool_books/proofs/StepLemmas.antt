-- What a parse answers, as a step of the pool.
use Rattle.std.proofs.Common.{◌≡◌, Bool, true, false, not, refl}

-- ---- ads

pub not_true : (b : Bool) → true ≡ not b → b ≡ false
not_true true is = absurd (cc)
not_true false is = refl

pub not_false : (b : Bool) → false ≡ not b → b ≡ true
not_false true is = refl
not_false false is = absurd (cc)
