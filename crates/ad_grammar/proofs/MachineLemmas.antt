-- What a rule leaves on a stack.
use Rattle.std.proofs.Common.{refl, ◌≡◌, ℕ, zero, suc, ◌+◌, List, ◌∷◌, None, Some, ap, sym, ◌∙◌, add-one}
use Rattle.ad_tree.specs.Inline.{Inline, Inlines, Defs, shape, inner, end, next, no_defs, def}
use Rattle.ad_tree.specs.Tree.{Label, choice}
use Rattle.ad_builder.specs.Machine.{top, below, chosen, defined_last, with_element, with_elements, with_definition, with_definitions}
use Rattle.ad_grammar.specs.Rules.{Reading, and_then}
use Rattle.ad_builder.specs.Shapes.{over_three, followed_by}
use Rattle.ad_grammar.specs.Steps.{extended, completed}

-- ---- conditionals ----

-- a reading with which the conditionals are made that are still pending
abbrev pub choices : ℕ → List Inline → Reading Inline → Reading Inline
choices n st r = and_then r (λ x rest. Some (top (chosen n (x ∷ st)), rest))

pub choices-nil : (st : List Inline) (r : Reading Inline) → r ≡ choices 0 st r
choices-nil st None = refl
choices-nil st (Some read) = refl

-- what stands on the stack is all that is looked at
pub chosen-top : (n : ℕ) (st : List Inline) → top (chosen n (top st ∷ below st)) ≡ top (chosen n st)
chosen-top zero st = refl
chosen-top (suc n) st = refl

pub chosen-below : (n : ℕ) (st : List Inline) → below (chosen n (top st ∷ below st)) ≡ below (chosen n st)
chosen-below zero st = refl
chosen-below (suc n) st = refl

-- one conditional more is pending, of which the condition and the first choice were put on the stack
module _ (n : ℕ) (before first second : List Inline) (on : below first ≡ before) (on_that : below second ≡ first) where
  pub chosen-next : (x : Inline) → chosen n (over_three choice (top first) (top second) x ∷ before) ≡ chosen (n + 1) (x ∷ second)
  chosen-next x =
      ap (λ st. chosen n (over_three choice (top first) (top second) x ∷ st)) (sym on)
      ∙ ap (λ st. chosen n (over_three choice (top st) (top second) x ∷ below st)) (sym on_that)
      ∙ ap (λ k. chosen k (x ∷ second)) (sym (add-one n))

  pub choices-next : (r : Reading Inline)
      → choices n before (and_then r (λ x rest. Some (over_three choice (top first) (top second) x, rest))) ≡ choices (n + 1) second r
  choices-next None = refl
  choices-next (Some read) = ap (λ st. Some (top st, read.1)) (chosen-next read.0)

-- ---- lists and calls ----

abbrev glued : Inlines → Inlines → Inlines
glued end ys = ys
glued (next x xs) ys = next x (glued xs ys)

glued-followed : (xs : Inlines) (y : Inline) (ys : Inlines) → glued xs (next y ys) ≡ glued (followed_by xs y) ys
glued-followed end y ys = refl
glued-followed (next x xs) y ys = ap (next x) (glued-followed xs y ys)

with_elements-glued : (label : Label) (xs ys : Inlines) → with_elements (shape label xs) ys ≡ shape label (glued xs ys)
with_elements-glued label xs end = ap (shape label) (by xs)
  where
    by : (zs : Inlines) → zs ≡ glued zs end
    by end = refl
    by (next z zs) = ap (next z) (by zs)
with_elements-glued label xs (next y ys) = with_elements-glued label (followed_by xs y) ys ∙ ap (shape label) (sym (glued-followed xs y ys))

pub extended-new : (label : Label) (r : Reading Inlines) → and_then r (λ xs rest. Some (shape label xs, rest)) ≡ extended (shape label end) r
extended-new label None = refl
extended-new label (Some read) = ap (λ x. Some (x, read.1)) (sym (with_elements-glued label end read.0))

pub extended-next : (x y : Inline) (r : Reading Inlines) → extended x (and_then r (λ ys rest. Some (next y ys, rest))) ≡ extended (with_element x y) r
extended-next x y None = refl
extended-next x y (Some read) = refl

-- ---- ad literals ----

abbrev joined_defs : Defs → Defs → Defs
joined_defs no_defs es = es
joined_defs (def text x ds) es = def text x (joined_defs ds es)

joined_defs-last : (ds : Defs) (text : List ℕ) (y : Inline) (es : Defs) → joined_defs ds (def text y es) ≡ joined_defs (defined_last ds text y) es
joined_defs-last no_defs text y es = refl
joined_defs-last (def other x ds) text y es = ap (def other x) (joined_defs-last ds text y es)

with_definitions-joined : (ds es : Defs) → with_definitions (inner ds) es ≡ inner (joined_defs ds es)
with_definitions-joined ds no_defs = ap inner (by ds)
  where
    by : (fs : Defs) → fs ≡ joined_defs fs no_defs
    by no_defs = refl
    by (def text x fs) = ap (def text x) (by fs)
with_definitions-joined ds (def text y es) = with_definitions-joined (defined_last ds text y) es ∙ ap inner (sym (joined_defs-last ds text y es))

pub completed-new : (r : Reading Defs) → and_then r (λ ds rest. Some (inner ds, rest)) ≡ completed (inner no_defs) r
completed-new None = refl
completed-new (Some read) = ap (λ x. Some (x, read.1)) (sym (with_definitions-joined no_defs read.0))

pub completed-next : (x y : Inline) (text : List ℕ) (r : Reading Defs)
    → completed x (and_then r (λ ds rest. Some (def text y ds, rest))) ≡ completed (with_definition x text y) r
completed-next x y text None = refl
completed-next x y text (Some read) = refl
