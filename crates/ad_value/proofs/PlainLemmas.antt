-- A list value and its elements.
use Rattle.std.proofs.Common.{◌≡◌, List, [], ◌∷◌, refl, ap}
use Rattle.ad_value.specs.Plain.{Plain, Plains, no_plains, plain_then, elements, plains_of}

pub elements-plains_of : (ps : List Plain) → elements (plains_of ps) ≡ ps
elements-plains_of [] = refl
elements-plains_of (p ∷ ps) = ap (λ (l : List Plain). p ∷ l) (elements-plains_of ps)

pub plains_of-elements : (ps : Plains) → plains_of (elements ps) ≡ ps
plains_of-elements no_plains = refl
plains_of-elements (plain_then p ps) = ap (plain_then p) (plains_of-elements ps)
