-- A tree that is too high stays part of a tree that is, whatever is carried out.
use Rattle.std.proofs.Common.{ℕ, ◌<◌, ◌≤◌, ◌⊎◌, List, [], ◌∷◌, inl, inr, arith}
use Rattle.ad_tree.specs.Inline.{Inline, shape, inner, height}
use Rattle.ad_tree.specs.Tree.{all, any, unary, select, subscript, choice}
use Rattle.ad_builder.specs.Carried.{AreLow}
use Rattle.ad_builder.specs.Machine.{top, below, step, with_element, with_definition}
use Rattle.ad_builder.specs.Shapes.{over_one, over_two, over_three, joined}
use Rattle.ad_builder.specs.Sizes.{tallest_built, IsHigh}
use Rattle.ad_builder.specs.declared.instruction.Infix.{Infix}
use Rattle.ad_builder.specs.declared.instruction.Infix.TheVariants as infixes
use Rattle.ad_builder.specs.declared.instruction.Instruction.{Instruction}
use Rattle.ad_builder.specs.declared.instruction.Instruction.TheVariants as instructions
use Rattle.ad_builder.proofs.MeasureLemmas.{highest-last, highest_def-last}

-- ---- heights of what trees become

joined-left : (op : Infix) (x y : Inline) → height x ≤ height (joined op x y)
joined-left infixes.And (shape all xs) y = omega (arith, highest-last xs y)
joined-left infixes.And (shape label xs) y = omega arith
joined-left infixes.And (inner ds) y = omega arith
joined-left infixes.Or (shape any xs) y = omega (arith, highest-last xs y)
joined-left infixes.Or (shape label xs) y = omega arith
joined-left infixes.Or (inner ds) y = omega arith
joined-left (infixes.Binary op) x y = omega arith

joined-right : (op : Infix) (x y : Inline) → height y ≤ height (joined op x y)
joined-right infixes.And (shape all xs) y = omega (arith, highest-last xs y)
joined-right infixes.And (shape label xs) y = omega arith
joined-right infixes.And (inner ds) y = omega arith
joined-right infixes.Or (shape any xs) y = omega (arith, highest-last xs y)
joined-right infixes.Or (shape label xs) y = omega arith
joined-right infixes.Or (inner ds) y = omega arith
joined-right (infixes.Binary op) x y = omega arith

element-left : (x y : Inline) → height x ≤ height (with_element x y)
element-left (shape label xs) y = omega (arith, highest-last xs y)
element-left (inner ds) y = omega arith

element-right : (x y : Inline) → height y ≤ height (with_element x y)
element-right (shape label xs) y = omega (arith, highest-last xs y)
element-right (inner ds) y = omega arith

definition-left : (x : Inline) (text : List ℕ) (y : Inline) → height x ≤ height (with_definition x text y)
definition-left (shape label xs) text y = omega arith
definition-left (inner ds) text y = omega (arith, highest_def-last ds text y)

definition-right : (x : Inline) (text : List ℕ) (y : Inline) → height y ≤ height (with_definition x text y)
definition-right (shape label xs) text y = omega arith
definition-right (inner ds) text y = omega (arith, highest_def-last ds text y)

-- ---- stacks

parts : (st : List Inline) → IsHigh st → (tallest_built < height (top st)) ⊎ IsHigh (below st)
parts [] h = absurd h
parts (x ∷ st) h = h

one : (x : Inline) (st : List Inline) → height (top st) ≤ height x → IsHigh st → IsHigh (x ∷ below st)
one x st up h = elim (parts st h) [ inl tall ↦ inl (omega (arith, tall, up)) | inr low ↦ inr low ]

two : (x : Inline) (st : List Inline) → height (top st) ≤ height x → height (top (below st)) ≤ height x → IsHigh st → IsHigh (x ∷ below (below st))
two x st up down h = elim (parts st h) [ inl tall ↦ inl (omega (arith, tall, up)) | inr low ↦ one x (below st) down low ]

three : (x : Inline) (st : List Inline) → height (top st) ≤ height x → height (top (below st)) ≤ height x → height (top (below (below st))) ≤ height x
    → IsHigh st → IsHigh (x ∷ below (below (below st)))
three x st up down far h = elim (parts st h) [ inl tall ↦ inl (omega (arith, tall, up)) | inr low ↦ two x (below st) down far low ]

pub step-high : (i : Instruction) (st : List Inline) → IsHigh st → IsHigh (step i st)
step-high (instructions.Literal lit) st h = inr h
step-high (instructions.Name scope text) st h = inr h
step-high (instructions.Unary op) st h = one (over_one (unary op) (top st)) st (omega arith) h
step-high (instructions.Infix op) st h =
    two (joined op (top (below st)) (top st)) st (joined-right op (top (below st)) (top st)) (joined-left op (top (below st)) (top st)) h
step-high instructions.Choice st h = three (over_three choice (top (below (below st))) (top (below st)) (top st)) st (omega arith) (omega arith) (omega arith) h
step-high (instructions.Select text) st h = one (over_one (select text) (top st)) st (omega arith) h
step-high instructions.Subscript st h = two (over_two subscript (top (below st)) (top st)) st (omega arith) (omega arith) h
step-high (instructions.List room) st h = inr h
step-high (instructions.Call text room) st h = inr h
step-high instructions.Element st h =
    two (with_element (top (below st)) (top st)) st (element-right (top (below st)) (top st)) (element-left (top (below st)) (top st)) h
step-high instructions.Ad st h = inr h
step-high (instructions.Define text) st h =
    two (with_definition (top (below st)) text (top st)) st (definition-right (top (below st)) text (top st)) (definition-left (top (below st)) text (top st)) h
step-high instructions.Close st h = h

-- a last tree that is too high is one of the stack
pub top-high : (st : List Inline) → tallest_built < height (top st) → IsHigh st
top-high [] tall = absurd (omega (arith, tall))
top-high (x ∷ st) tall = inl tall

-- ---- stacks without a tree that is too high

below-low : (st : List Inline) → AreLow st → AreLow (below st)
below-low [] h = tt
below-low (x ∷ st) h = h.1

-- what an instruction leaves has none, where its last tree isn't too high
pub step-low : (i : Instruction) (st : List Inline) → AreLow st → height (top (step i st)) ≤ tallest_built → AreLow (step i st)
step-low (instructions.Literal lit) st h low = (low, h)
step-low (instructions.Name scope text) st h low = (low, h)
step-low (instructions.Unary op) st h low = (low, below-low st h)
step-low (instructions.Infix op) st h low = (low, below-low (below st) (below-low st h))
step-low instructions.Choice st h low = (low, below-low (below (below st)) (below-low (below st) (below-low st h)))
step-low (instructions.Select text) st h low = (low, below-low st h)
step-low instructions.Subscript st h low = (low, below-low (below st) (below-low st h))
step-low (instructions.List room) st h low = (low, h)
step-low (instructions.Call text room) st h low = (low, h)
step-low instructions.Element st h low = (low, below-low (below st) (below-low st h))
step-low instructions.Ad st h low = (low, h)
step-low (instructions.Define text) st h low = (low, below-low (below st) (below-low st h))
step-low instructions.Close st h low = h

pub low-not-high : (st : List Inline) → AreLow st → IsHigh st → ⊥
low-not-high [] h high = high
low-not-high (x ∷ st) h (inl tall) = omega (arith, h.0, tall)
low-not-high (x ∷ st) h (inr high) = low-not-high st h.1 high
