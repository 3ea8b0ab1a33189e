-- What the numbers of parts tell of a whole.
use Rattle.std.proofs.Common.{◌≡◌, ℕ, ◌+◌, min, max, List, [], ◌∷◌, refl, sym, ◌∙◌, arith}
use Rattle.ad_tree.specs.Inline.{Inline, Inlines, shape, inner, end, next, Defs, no_defs, def, height, highest, highest_def}
use Rattle.ad_tree.specs.Tree.{Label, all, any, list}
use Rattle.ad_builder.specs.Machine.{top, below, defined_last, with_element, with_definition}
use Rattle.ad_builder.specs.Shapes.{over_two, followed_by, joined}
use Rattle.ad_builder.specs.declared.instruction.Infix.TheVariants as infixes
use Rattle.ad_builder.specs.declared.measure.Kind.TheVariants.{All, Any, Ad}
use Rattle.ad_builder.specs.declared.measure.Measure.{Measure}
use Rattle.ad_builder.specs.Counts.{tallest_measured}
use Rattle.ad_builder.specs.Measures.{IsMeasure, AreMeasures, kind_at, kind_of}

-- ---- one tree and one definition more

pub highest-last : (xs : Inlines) (y : Inline) → highest (followed_by xs y) ≡ max (highest xs) (height y)
highest-last end y = omega arith
highest-last (next x xs) y = omega (arith, highest-last xs y)

pub highest_def-last : (ds : Defs) (text : List ℕ) (y : Inline) → highest_def (defined_last ds text y) ≡ max (highest_def ds) (height y)
highest_def-last no_defs text y = omega arith
highest_def-last (def other x ds) text y = omega (arith, highest_def-last ds text y)

-- ---- the numbers of a whole

pub longer : (m n r : Measure) (label : Label) (xs : Inlines) (y : Inline) → IsMeasure m (shape label xs) → IsMeasure n y
    → r.height ≡ max m.height (min (n.height + 1) tallest_measured) → r.kind ≡ m.kind → IsMeasure r (shape label (followed_by xs y))
longer m n r label xs y a b h k = record { height = omega (arith, highest-last xs y, h, a.height, b.height); kind = k ∙ a.kind }

pub no-ad : (label : Label) → kind_at label ≡ Ad → ⊥
no-ad all e = absurd cc
no-ad any e = absurd cc
no-ad label e = absurd cc

pub and-measured : {r : Measure} (x y : Inline) → ((xs : Inlines) → x ≡ shape all xs → IsMeasure r (shape all (followed_by xs y)))
    → ((kind_of x ≡ All → ⊥) → IsMeasure r (over_two all x y)) → IsMeasure r (joined infixes.And x y)
and-measured (shape all xs) y on new = on xs refl
and-measured (shape label xs) y on new = new (λ e. absurd cc)
and-measured (inner ds) y on new = new (λ e. absurd cc)

pub or-measured : {r : Measure} (x y : Inline) → ((xs : Inlines) → x ≡ shape any xs → IsMeasure r (shape any (followed_by xs y)))
    → ((kind_of x ≡ Any → ⊥) → IsMeasure r (over_two any x y)) → IsMeasure r (joined infixes.Or x y)
or-measured (shape any xs) y on new = on xs refl
or-measured (shape label xs) y on new = new (λ e. absurd cc)
or-measured (inner ds) y on new = new (λ e. absurd cc)

pub element-measured : (m n r : Measure) (x y : Inline) → IsMeasure m x → IsMeasure n y → (m.kind ≡ Ad → ⊥)
    → r.height ≡ max m.height (min (n.height + 1) tallest_measured) → r.kind ≡ m.kind → IsMeasure r (with_element x y)
element-measured m n r (shape label xs) y a b other h k = longer m n r label xs y a b h k
element-measured m n r (inner ds) y a b other h k = absurd (other a.kind)

-- an ad literal makes a list with an element
pub element-refused : (m r : Measure) (x y : Inline) → IsMeasure m x → m.kind ≡ Ad → IsMeasure r (over_two list x y) → IsMeasure r (with_element x y)
element-refused m r (shape label xs) y a same is = absurd (no-ad label (sym a.kind ∙ same))
element-refused m r (inner ds) y a same is = is

pub definition-measured : (m n r : Measure) (text : List ℕ) (x y : Inline) → IsMeasure m x → IsMeasure n y → m.kind ≡ Ad
    → r.height ≡ max m.height (min (n.height + 1) tallest_measured) → r.kind ≡ m.kind → IsMeasure r (with_definition x text y)
definition-measured m n r text (shape label xs) y a b same h k = absurd (no-ad label (sym a.kind ∙ same))
definition-measured m n r text (inner ds) y a b same h k =
    record { height = omega (arith, highest_def-last ds text y, h, a.height, b.height); kind = k ∙ a.kind }

-- and any other tree makes one with a definition
pub definition-refused : (m r : Measure) (text : List ℕ) (x y : Inline) → IsMeasure m x → (m.kind ≡ Ad → ⊥) → IsMeasure r (over_two list x y)
    → IsMeasure r (with_definition x text y)
definition-refused m r text (shape label xs) y a other is = is
definition-refused m r text (inner ds) y a other is = absurd (other a.kind)

-- ---- the numbers of a stack

-- those of the last tree, and of the trees below it
pub taken : (m : Measure) (ms : List Measure) (st : List Inline) → AreMeasures (m ∷ ms) st → IsMeasure m (top st) × AreMeasures ms (below st)
taken m ms [] h = absurd h
taken m ms (x ∷ st) h = h
