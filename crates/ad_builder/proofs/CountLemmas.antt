-- How many ad literals and definitions the trees of a stack have after each instruction.
use Rattle.std.proofs.Common.{◌≡◌, ℕ, suc, ◌+◌, min, List, [], ◌∷◌, refl, arith}
use Rattle.ad_tree.specs.Inline.{Inline, Inlines, shape, inner, end, next, Defs, no_defs, def, count, count_all, count_defs, definitions, definitions_all}
use Rattle.ad_tree.specs.Inline.{definitions_in}
use Rattle.ad_tree.specs.Tree.{Label, all, any, choice, list}
use Rattle.ad_builder.specs.Counts.{counting_limit, count_of, definitions_of, AreCounted}
use Rattle.ad_builder.specs.Machine.{top, below, defined_last, with_element, with_definition}
use Rattle.ad_builder.specs.Shapes.{leaf, over_one, over_two, over_three, followed_by, joined}
use Rattle.ad_builder.specs.declared.instruction.Infix.{Infix}
use Rattle.ad_builder.specs.declared.instruction.Infix.TheVariants as infixes
use Rattle.ad_builder.specs.declared.measure.Kind.TheVariants.{Ad}
use Rattle.ad_builder.specs.Measures.{kind_of}
use Rattle.ad_builder.proofs.MeasureLemmas.{no-ad}

-- ---- one tree and one definition more

count_all-last : (xs : Inlines) (y : Inline) → count_all (followed_by xs y) ≡ count_all xs + count y
count_all-last end y = omega arith
count_all-last (next x xs) y = omega (arith, count_all-last xs y)

definitions_all-last : (xs : Inlines) (y : Inline) → definitions_all (followed_by xs y) ≡ definitions_all xs + definitions y
definitions_all-last end y = omega arith
definitions_all-last (next x xs) y = omega (arith, definitions_all-last xs y)

count_defs-last : (ds : Defs) (text : List ℕ) (y : Inline) → count_defs (defined_last ds text y) ≡ count_defs ds + count y
count_defs-last no_defs text y = omega arith
count_defs-last (def other x ds) text y = omega (arith, count_defs-last ds text y)

definitions_in-last : (ds : Defs) (text : List ℕ) (y : Inline) → definitions_in (defined_last ds text y) ≡ suc (definitions_in ds + definitions y)
definitions_in-last no_defs text y = omega arith
definitions_in-last (def other x ds) text y = omega (arith, definitions_in-last ds text y)

joined-count : (op : Infix) (x y : Inline) → count (joined op x y) ≡ count x + count y
joined-count infixes.And (shape all xs) y = count_all-last xs y
joined-count infixes.And (shape label xs) y = omega arith
joined-count infixes.And (inner ds) y = omega arith
joined-count infixes.Or (shape any xs) y = count_all-last xs y
joined-count infixes.Or (shape label xs) y = omega arith
joined-count infixes.Or (inner ds) y = omega arith
joined-count (infixes.Binary op) x y = omega arith

joined-definitions : (op : Infix) (x y : Inline) → definitions (joined op x y) ≡ definitions x + definitions y
joined-definitions infixes.And (shape all xs) y = definitions_all-last xs y
joined-definitions infixes.And (shape label xs) y = omega arith
joined-definitions infixes.And (inner ds) y = omega arith
joined-definitions infixes.Or (shape any xs) y = definitions_all-last xs y
joined-definitions infixes.Or (shape label xs) y = omega arith
joined-definitions infixes.Or (inner ds) y = omega arith
joined-definitions (infixes.Binary op) x y = omega arith

element-count : (x y : Inline) → count (with_element x y) ≡ count x + count y
element-count (shape label xs) y = count_all-last xs y
element-count (inner ds) y = omega arith

element-definitions : (x y : Inline) → definitions (with_element x y) ≡ definitions x + definitions y
element-definitions (shape label xs) y = definitions_all-last xs y
element-definitions (inner ds) y = omega arith

-- ---- stacks

count-parts : (st : List Inline) → count_of st ≡ count (top st) + count_of (below st)
count-parts [] = refl
count-parts (x ∷ st) = refl

definitions-parts : (st : List Inline) → definitions_of st ≡ definitions (top st) + definitions_of (below st)
definitions-parts [] = refl
definitions-parts (x ∷ st) = refl

module _ (frames defs : ℕ) (st : List Inline) (h : AreCounted frames defs st) where
  pub leaf-counted : (label : Label) → AreCounted frames defs (leaf label ∷ st)
  leaf-counted label = record { frames = omega (arith, h.frames); definitions = omega (arith, h.definitions) }

  pub one-counted : (label : Label) → AreCounted frames defs (over_one label (top st) ∷ below st)
  one-counted label = record {
    frames = omega (arith, h.frames, count-parts st);
    definitions = omega (arith, h.definitions, definitions-parts st);
  }

  -- a tree with as many as two has in their place
  two : (x : Inline) → count x ≡ count (top (below st)) + count (top st) → definitions x ≡ definitions (top (below st)) + definitions (top st)
      → AreCounted frames defs (x ∷ below (below st))
  two x counts defines = record {
    frames = omega (arith, h.frames, counts, count-parts st, count-parts (below st));
    definitions = omega (arith, h.definitions, defines, definitions-parts st, definitions-parts (below st));
  }

  pub two-counted : (label : Label) → AreCounted frames defs (over_two label (top (below st)) (top st) ∷ below (below st))
  two-counted label = two (over_two label (top (below st)) (top st)) (omega arith) (omega arith)

  pub joined-counted : (op : Infix) → AreCounted frames defs (joined op (top (below st)) (top st) ∷ below (below st))
  joined-counted op = two (joined op (top (below st)) (top st)) (joined-count op (top (below st)) (top st)) (joined-definitions op (top (below st)) (top st))

  pub element-counted : AreCounted frames defs (with_element (top (below st)) (top st) ∷ below (below st))
  element-counted = two (with_element (top (below st)) (top st)) (element-count (top (below st)) (top st)) (element-definitions (top (below st)) (top st))

  pub three-counted : AreCounted frames defs (over_three choice (top (below (below st))) (top (below st)) (top st) ∷ below (below (below st)))
  three-counted = record {
    frames = omega (arith, h.frames, count-parts st, count-parts (below st), count-parts (below (below st)));
    definitions = omega (arith, h.definitions, definitions-parts st, definitions-parts (below st), definitions-parts (below (below st)));
  }

  pub open-counted : (more : ℕ) → more ≡ min (frames + 1) counting_limit → AreCounted more defs (inner no_defs ∷ st)
  open-counted more is = record { frames = omega (arith, h.frames, is); definitions = omega (arith, h.definitions) }

-- a definition more in an ad literal
define-counted : (frames defs more : ℕ) (x : Inline) (ds : Defs) (text : List ℕ) (st : List Inline) → more ≡ min (defs + 1) counting_limit
    → AreCounted frames defs (x ∷ inner ds ∷ st) → AreCounted frames more (inner (defined_last ds text x) ∷ st)
define-counted frames defs more x ds text st is h = record {
  frames = omega (arith, h.frames, count_defs-last ds text x);
  definitions = omega (arith, h.definitions, is, definitions_in-last ds text x);
}

module _ (frames defs : ℕ) (x : Inline) (text : List ℕ) where
  -- a definition in the tree below the last, which is an ad literal
  pub defined-counted : (more : ℕ) (st : List Inline) → kind_of (top st) ≡ Ad → more ≡ min (defs + 1) counting_limit → AreCounted frames defs (x ∷ st)
      → AreCounted frames more (with_definition (top st) text x ∷ below st)
  defined-counted more [] is_ad is h = absurd cc
  defined-counted more (shape label xs ∷ st) is_ad is h = absurd (no-ad label is_ad)
  defined-counted more (inner ds ∷ st) is_ad is h = define-counted frames defs more x ds text st is h

  -- and where it isn't one
  pub listed-counted : (st : List Inline) → (kind_of (top st) ≡ Ad → ⊥) → AreCounted frames defs (x ∷ st)
      → AreCounted frames defs (with_definition (top st) text x ∷ below st)
  listed-counted [] other h = two-counted frames defs (x ∷ []) h list
  listed-counted (shape label xs ∷ st) other h = two-counted frames defs (x ∷ shape label xs ∷ st) h list
  listed-counted (inner ds ∷ st) other h = absurd (other refl)
