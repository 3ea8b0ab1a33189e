-- A machine with a stack of spelled trees, which instructions build: what stands on the stack is the list of its trees, the
-- last one first. Below the lowest tree stands `undefined`, as often as it is asked for.
use Rattle.std.specs.Prelude.{ℕ, zero, suc, List, [], ◌∷◌}
use Rattle.pool_text.specs.declared.language.Lit.TheVariants.{Undefined}
use Rattle.ad_tree.specs.Inline.{Inline, Inlines, Defs, shape, inner, end, next, no_defs, def}
use Rattle.ad_tree.specs.Tree.{literal, name, unary, choice, select, subscript, call, list}
use Rattle.ad_builder.specs.declared.instruction.Instruction.{Instruction}
use Rattle.ad_builder.specs.declared.instruction.Instruction.TheVariants as instructions
use Rattle.ad_builder.specs.Shapes.{leaf, over_one, over_two, over_three, followed_by, joined}

abbrev pub top : List Inline → Inline
top [] = leaf (literal Undefined)
top (x ∷ st) = x

abbrev pub below : List Inline → List Inline
below [] = []
below (x ∷ st) = st

-- definitions with one more behind them
abbrev pub defined_last : Defs → List ℕ → Inline → Defs
defined_last no_defs text y = def text y no_defs
defined_last (def other x ds) text y = def other x (defined_last ds text y)

-- a call or a list with one more tree behind its others, and an ad literal with one more definition; a tree that takes no
-- element, or no definition, makes a list with it, so that none is lost
abbrev pub with_element : Inline → Inline → Inline
with_element (shape label xs) y = shape label (followed_by xs y)
with_element (inner ds) y = over_two list (inner ds) y

abbrev pub with_definition : Inline → List ℕ → Inline → Inline
with_definition (shape label xs) text y = over_two list (shape label xs) y
with_definition (inner ds) text y = inner (defined_last ds text y)

-- what an instruction makes of the stack
abbrev pub step : Instruction → List Inline → List Inline
step (instructions.Literal lit) st = leaf (literal lit) ∷ st
step (instructions.Name scope text) st = leaf (name scope text) ∷ st
step (instructions.Unary op) st = over_one (unary op) (top st) ∷ below st
step (instructions.Infix op) st = joined op (top (below st)) (top st) ∷ below (below st)
step instructions.Choice st = over_three choice (top (below (below st))) (top (below st)) (top st) ∷ below (below (below st))
step (instructions.Select text) st = over_one (select text) (top st) ∷ below st
step instructions.Subscript st = over_two subscript (top (below st)) (top st) ∷ below (below st)
step (instructions.List room) st = shape list end ∷ st
step (instructions.Call text room) st = shape (call text) end ∷ st
step instructions.Element st = with_element (top (below st)) (top st) ∷ below (below st)
step instructions.Ad st = inner no_defs ∷ st
step (instructions.Define text) st = with_definition (top (below st)) text (top st) ∷ below (below st)
step instructions.Close st = st

-- what instructions make of it, one after another
abbrev pub run : List Instruction → List Inline → List Inline
run [] st = st
run (i ∷ is) st = run is (step i st)

-- the stack of a machine that has carried these out, which began with nothing
abbrev pub stack : List Instruction → List Inline
stack is = run is []

-- so many conditionals, of which the last stands within the others
abbrev pub chosen : ℕ → List Inline → List Inline
chosen zero st = st
chosen (suc n) st = chosen n (step instructions.Choice st)

-- a call, a list or an ad literal with what was read behind it
abbrev pub with_elements : Inline → Inlines → Inline
with_elements x end = x
with_elements x (next y ys) = with_elements (with_element x y) ys

abbrev pub with_definitions : Inline → Defs → Inline
with_definitions x no_defs = x
with_definitions x (def text y ds) = with_definitions (with_definition x text y) ds
