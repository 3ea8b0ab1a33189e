-- How a builder changes with each instruction.
use Rattle.std.proofs.Common.{◌≡◌, ℕ, ◌+◌, min, Bool, true, false, ◌&&◌, List, [], ◌∷◌}
use Rattle.std.proofs.Common.{◌++◌, length, map, slice_get, slice_set, Some, Result, Ok, Err, IfOk, OnOk, refl}
use Rattle.std.proofs.Common.{sym, subst, ap, ◌∙◌}
use Rattle.pool_text.specs.declared.language.Lit.TheVariants.{Undefined}
use Rattle.ad_tree.specs.Draft.{draft_frames}
use Rattle.ad_tree.specs.Frames.{Frame, IsAd, attributes_at, empty_frame, defined}
use Rattle.ad_tree.specs.Inline.{Inline, inner, no_defs, frames, number, spelled, spelled_tree, ad_of, phrase_of, phrase_tree}
use Rattle.ad_tree.specs.Steady.{MovesNone}
use Rattle.ad_tree.specs.Tree.{Label, Tree, node, frame, none, one, two, three, literal, all, any, choice, pack, tree}
use Rattle.ad_tree.specs.declared.tree.Expr.{Expr}
use Rattle.ad_tree.proofs.InlineLemmas.{pack-push}
use Rattle.ad_tree.proofs.NameLemmas.{both_left, both_right}
use Rattle.ad_builder.specs.Builds.{slot, measure_of, HasPut, HasGiven, HasAdded, HasTaken, HasCounted, Holds}
use Rattle.ad_builder.specs.Counts.{counting_limit, AreCounted}
use Rattle.ad_builder.specs.JoinedTrees.{joined_tree, TakesElement}
use Rattle.ad_builder.specs.Laid.{Slot, value, open_ad, Laid}
use Rattle.ad_builder.specs.Machine.{top, below, with_element, with_definition}
use Rattle.ad_builder.specs.Measures.{IsMeasure, AreMeasures, kind_at}
use Rattle.ad_builder.specs.Shapes.{leaf, over_one, over_two, over_three, joined}
use Rattle.ad_builder.specs.Steady.{AreSteady}
use Rattle.ad_builder.specs.declared.builder.Builder.{Builder}
use Rattle.ad_builder.specs.declared.operand.Operand.{Operand}
use Rattle.ad_builder.specs.declared.operand.Operand.TheVariants as operands
use Rattle.ad_builder.specs.declared.instruction.Infix.{Infix}
use Rattle.ad_builder.specs.declared.instruction.Infix.TheVariants as infixes
use Rattle.ad_builder.specs.declared.measure.Kind.TheVariants as kinds
use Rattle.ad_builder.specs.declared.measure.Measure.{Measure}
use Rattle.ad_builder.proofs.CountLemmas.{leaf-counted, one-counted, two-counted, joined-counted, element-counted, three-counted, open-counted}
use Rattle.ad_builder.proofs.LaidLemmas.{last_tree-last, leaf-laid, one-laid, two-laid, three-laid, joined-laid, element-laid, open-laid, define-laid}
use Rattle.ad_builder.proofs.LaidLemmas.{close-laid, ad-finished, phrase-finished, phrase_tree-finished}
use Rattle.ad_builder.proofs.MeasureLemmas.{taken}
use Rattle.ad_builder.proofs.StackLemmas.{first-changed}
use Rattle.ad_builder.proofs.SteadyLemmas.{IsWhole, leaf-steady, empty-steady, one-steady, two-steady, joined-steady, element-steady, three-steady}
use Rattle.ad_builder.proofs.SteadyLemmas.{definition-steady, ad-steady, phrase-steady}

-- what an Ok tells, told on
pub on_ok : {A E : Type 0} (r : Result A E) {P Q : Type 0} → (P → Q) → OnOk r P → OnOk r Q
on_ok (Ok a) f h = f h
on_ok (Err e) f h = h

pub if_ok : {A E : Type 0} (r : Result A E) {P Q : A → Type 0} → ((a : A) → P a → Q a) → IfOk r P → IfOk r Q
if_ok (Ok a) f h = f a h
if_ok (Err e) f h = h

pub if_ok_both : {A E : Type 0} (r : Result A E) {P Q R : A → Type 0} → ((a : A) → P a → Q a → R a) → IfOk r P → IfOk r Q → IfOk r R
if_ok_both (Ok a) f h k = f a h k
if_ok_both (Err e) f h k = h

-- ---- one operand more or less

module _ (is_ad : Bool) (st : List Inline) where
  put-laid : {s : Slot} {m : Measure} {before after : Builder} → HasPut s m before after
      → Laid is_ad (s ∷ map slot before.operands) before.parent st (draft_frames before.draft)
      → Laid is_ad (map slot after.operands) after.parent st (draft_frames after.draft)
  put-laid {s} {m} {before} {after} put h =
      subst (λ ss. Laid is_ad ss after.parent st (draft_frames after.draft)) (sym put.operands)
      (subst (λ p. Laid is_ad (s ∷ map slot before.operands) p st (draft_frames after.draft)) (sym put.parent)
      (subst (λ fs. Laid is_ad (s ∷ map slot before.operands) before.parent st fs) (sym put.drafted) h))

  taken-laid : (above : List Slot) {s : Slot} {m : Measure} {before after : Builder} → HasPut s m before after
      → Laid is_ad (above ++ map slot after.operands) after.parent st (draft_frames after.draft)
      → Laid is_ad (above ++ s ∷ map slot before.operands) before.parent st (draft_frames before.draft)
  taken-laid above {s} {m} {before} {after} put h =
      subst (λ ss. Laid is_ad (above ++ ss) before.parent st (draft_frames before.draft)) put.operands
      (subst (λ p. Laid is_ad (above ++ map slot after.operands) p st (draft_frames before.draft)) put.parent
      (subst (λ fs. Laid is_ad (above ++ map slot after.operands) after.parent st fs) put.drafted h))

put-measured : {s : Slot} {m : Measure} {before after : Builder} (x : Inline) (st : List Inline) → HasPut s m before after → IsMeasure m x
    → AreMeasures (map measure_of before.operands) st → AreMeasures (map measure_of after.operands) (x ∷ st)
put-measured x st put is h = subst (λ ms. AreMeasures ms (x ∷ st)) (sym put.measures) (is, h)

-- an operand that is put can be taken
pub put-given : {t : Tree} {m : Measure} {before after : Builder} → HasPut (value t) m after before → HasGiven t m before after
put-given {t} {m} {before} {after} put = record {
  measured = λ st h. taken m (map measure_of after.operands) st (subst (λ ms. AreMeasures ms st) put.measures h);
  frames = sym put.frames;
  definitions = sym put.definitions;
  given = λ built. put;
}

recounted : {f g d e : ℕ} {st : List Inline} → f ≡ g → d ≡ e → AreCounted g e st → AreCounted f d st
recounted {f} {g} {d} {e} {st} frames defs h = subst (λ n. AreCounted n d st) (sym frames) (subst (λ n. AreCounted g n st) (sym defs) h)

-- the measure of any leaf
abbrev pub IsLeaf : Measure → Type 0
IsLeaf m = (label : Label) → kind_at label ≡ kinds.Node → IsMeasure m (leaf label)

-- `undefined` stands below the lowest tree
pub none-measured : {os rest : List Operand} {m : Measure} (st : List Inline) → os ≡ [] → rest ≡ [] → IsLeaf m → AreMeasures (map measure_of os) st
    → IsMeasure m (top st) × AreMeasures (map measure_of rest) (below st)
none-measured {os} {rest} {m} st empty no_rest is_leaf h =
    by st (subst (λ l. AreMeasures (map measure_of l) st) empty h)
  where
    by : (xs : List Inline) → AreMeasures [] xs → IsMeasure m (top xs) × AreMeasures (map measure_of rest) (below xs)
    by [] nothing = (is_leaf (literal Undefined) refl, subst (λ l. AreMeasures (map measure_of l) []) (sym no_rest) tt)
    by (x ∷ xs) nothing = absurd nothing

top-counted : (f d : ℕ) (st : List Inline) → AreCounted f d st → AreCounted f d (top st ∷ below st)
top-counted f d [] h = leaf-counted f d [] h (literal Undefined)
top-counted f d (x ∷ st) h = h

-- ---- each instruction

module _ (is_ad : Bool) (st : List Inline) where
  pub leaf-carried : (label : Label) {u : Tree} {m : Measure} {old new : Builder} → u ≡ node label none → IsMeasure m (leaf label) → HasPut (value u) m old new
      → Holds is_ad old st → Holds is_ad new (leaf label ∷ st)
  leaf-carried label {u} {m} {old} is measured put h =
      let now : List Inline = leaf label ∷ st in
      record {
        laid = λ built. put-laid is_ad now put
            (subst (λ v. Laid is_ad (value v ∷ map slot old.operands) old.parent now (draft_frames old.draft)) (sym is)
            (leaf-laid is_ad old.parent (draft_frames old.draft) label (map slot old.operands) st (h.laid (sym put.built ∙ built))));
        measured = put-measured (leaf label) st put measured h.measured;
        counted = recounted put.frames put.definitions (leaf-counted old.frames old.definitions st h.counted label);
        steady = λ built is_steady. (leaf-steady label, h.steady (sym put.built ∙ built) (sym put.steady ∙ is_steady));
      }

  pub one-carried : (label : Label) {t u : Tree} {m r : Measure} {old between new : Builder} → HasGiven t m old between → u ≡ node label (one t)
      → ((x : Inline) → IsMeasure m x → IsMeasure r (over_one label x)) → HasPut (value u) r between new
      → Holds is_ad old st → Holds is_ad new (over_one label (top st) ∷ below st)
  one-carried label {t} {u} {m} {r} {old} {between} first is measured put h =
      let now : List Inline = over_one label (top st) ∷ below st in
      let part = first.measured st h.measured in
      record {
        laid = λ built.
            let last = first.given (sym put.built ∙ built) in
            put-laid is_ad now put
            (subst (λ v. Laid is_ad (value v ∷ map slot between.operands) between.parent now (draft_frames between.draft)) (sym is)
            (one-laid is_ad between.parent (draft_frames between.draft) label (map slot between.operands) t st
            (taken-laid is_ad st [] last (h.laid (last.built ∙ sym put.built ∙ built)))));
        measured = put-measured (over_one label (top st)) (below st) put (measured (top st) part.0) part.1;
        counted = recounted (put.frames ∙ first.frames) (put.definitions ∙ first.definitions) (one-counted old.frames old.definitions st h.counted label);
        steady = λ built is_steady.
            let last = first.given (sym put.built ∙ built) in
            one-steady st (h.steady (last.built ∙ sym put.built ∙ built) (last.steady ∙ sym put.steady ∙ is_steady)) label;
      }

  -- a tree that is made of the last two
  module _ (x : Inline) {t u w : Tree} {m n r : Measure} {old then between new : Builder} (second : HasGiven u n old then)
      (first : HasGiven t m then between)
      (put : HasPut (value w) r between new) (h : Holds is_ad old st) where
    two-put : (Laid is_ad (value u ∷ value t ∷ map slot between.operands) between.parent st (draft_frames between.draft)
        → Laid is_ad (value w ∷ map slot between.operands) between.parent (x ∷ below (below st)) (draft_frames between.draft))
        → (IsMeasure m (top (below st)) → IsMeasure n (top st) → IsMeasure r x) → AreCounted old.frames old.definitions (x ∷ below (below st))
        → (AreSteady st → AreSteady (x ∷ below (below st))) → Holds is_ad new (x ∷ below (below st))
    two-put laid measured counted steady =
        let right = second.measured st h.measured in
        let left = first.measured (below st) right.1 in
        record {
          laid = λ built.
              let lower = first.given (sym put.built ∙ built) in
              let last = second.given (lower.built ∙ sym put.built ∙ built) in
              put-laid is_ad (x ∷ below (below st)) put
              (laid (taken-laid is_ad st (value u ∷ []) lower (taken-laid is_ad st [] last (h.laid (last.built ∙ lower.built ∙ sym put.built ∙ built)))));
          measured = put-measured x (below (below st)) put (measured left.0 right.0) left.1;
          counted = recounted (put.frames ∙ first.frames ∙ second.frames) (put.definitions ∙ first.definitions ∙ second.definitions) counted;
          steady = λ built is_steady.
              let lower = first.given (sym put.built ∙ built) in
              let last = second.given (lower.built ∙ sym put.built ∙ built) in
              steady (h.steady (last.built ∙ lower.built ∙ sym put.built ∙ built) (last.steady ∙ lower.steady ∙ sym put.steady ∙ is_steady));
        }

  pub two-carried : (label : Label) {t u v : Tree} {m n r : Measure} {old then between new : Builder} → HasGiven u n old then
      → HasGiven t m then between
      → v ≡ node label (two t u) → ((x y : Inline) → IsMeasure m x → IsMeasure n y → IsMeasure r (over_two label x y)) → HasPut (value v) r between new
      → Holds is_ad old st → Holds is_ad new (over_two label (top (below st)) (top st) ∷ below (below st))
  two-carried label {t} {u} {v} {m} {n} {r} {old} {then} {between} second first is measured put h =
      let x : Inline = over_two label (top (below st)) (top st) in
      two-put x second first put h
      (λ parts. subst (λ w. Laid is_ad (value w ∷ map slot between.operands) between.parent (x ∷ below (below st)) (draft_frames between.draft)) (sym is)
      (two-laid is_ad between.parent (draft_frames between.draft) label (map slot between.operands) t u st parts))
      (measured (top (below st)) (top st)) (two-counted old.frames old.definitions st h.counted label)
      (λ steady. two-steady st steady label)

  pub infix-carried : (op : Infix) {t u v : Tree} {m n r : Measure} {old then between new : Builder} → HasGiven u n old then
      → HasGiven t m then between
      → v ≡ joined_tree op t u → ((x y : Inline) → IsMeasure m x → IsMeasure n y → IsMeasure r (joined op x y)) → HasPut (value v) r between new
      → Holds is_ad old st → Holds is_ad new (joined op (top (below st)) (top st) ∷ below (below st))
  infix-carried op {t} {u} {v} {m} {n} {r} {old} {then} {between} second first is measured put h =
      let x : Inline = joined op (top (below st)) (top st) in
      two-put x second first put h
      (λ parts. subst (λ w. Laid is_ad (value w ∷ map slot between.operands) between.parent (x ∷ below (below st)) (draft_frames between.draft)) (sym is)
      (joined-laid is_ad between.parent (draft_frames between.draft) op (map slot between.operands) t u st parts))
      (measured (top (below st)) (top st)) (joined-counted old.frames old.definitions st h.counted op)
      (λ steady. joined-steady st steady op)

  -- the tree below the last is changed in its place
  pub element-changed : {u : Tree} {n : Measure} {old then new : Builder} → HasGiven u n old then → HasTaken u n then new
      → Holds is_ad old st → Holds is_ad new (with_element (top (below st)) (top st) ∷ below (below st))
  element-changed {u} {n} {old} {then} {new} second taken h =
      let now : List Inline = with_element (top (below st)) (top st) ∷ below (below st) in
      let right = second.measured st h.measured in
      record {
        laid = λ built.
            let last = second.given (taken.built built) in
            let added = taken.added built in
            subst (λ ss. Laid is_ad ss new.parent now (draft_frames new.draft)) (sym added.stands)
            (subst (λ p. Laid is_ad (value added.v ∷ added.ss) p now (draft_frames new.draft)) (sym taken.parent)
            (subst (λ fs. Laid is_ad (value added.v ∷ added.ss) then.parent now fs) (sym taken.drafted)
            (element-laid is_ad then.parent (draft_frames then.draft) added.ss added.t u added.v st added.takes
            (subst (λ ss. Laid is_ad (value u ∷ ss) then.parent st (draft_frames then.draft)) added.stood
            (taken-laid is_ad st [] last (h.laid (last.built ∙ taken.built built)))))));
        measured = taken.measured (top st) (below st) right.1 right.0;
        counted =
            recounted (taken.frames ∙ second.frames) (taken.definitions ∙ second.definitions) (element-counted old.frames old.definitions st h.counted);
        steady = λ built is_steady.
            let last = second.given (taken.built built) in
            element-steady st (h.steady (last.built ∙ taken.built built) (last.steady ∙ sym taken.steady ∙ is_steady));
      }

  pub three-carried : {t u v w : Tree} {k m n r : Measure} {old then later between new : Builder} → HasGiven v n old then → HasGiven u m then later
      → HasGiven t k later between
      → w ≡ node choice (three t u v) → ((x y z : Inline) → IsMeasure k x → IsMeasure m y → IsMeasure n z → IsMeasure r (over_three choice x y z))
      → HasPut (value w) r between new
      → Holds is_ad old st → Holds is_ad new (over_three choice (top (below (below st))) (top (below st)) (top st) ∷ below (below (below st)))
  three-carried {t} {u} {v} {w} {k} {m} {n} {r} {old} {then} {later} {between} third second first is measured put h =
      let x : Inline = over_three choice (top (below (below st))) (top (below st)) (top st) in
      let now : List Inline = x ∷ below (below (below st)) in
      let right = third.measured st h.measured in
      let middle = second.measured (below st) right.1 in
      let left = first.measured (below (below st)) middle.1 in
      record {
        laid = λ built.
            let lowest = first.given (sym put.built ∙ built) in
            let lower = second.given (lowest.built ∙ sym put.built ∙ built) in
            let last = third.given (lower.built ∙ lowest.built ∙ sym put.built ∙ built) in
            put-laid is_ad now put
            (subst (λ x. Laid is_ad (value x ∷ map slot between.operands) between.parent now (draft_frames between.draft)) (sym is)
            (three-laid is_ad between.parent (draft_frames between.draft) choice (map slot between.operands) t u v st
            (taken-laid is_ad st (value v ∷ value u ∷ []) lowest (taken-laid is_ad st (value v ∷ []) lower
            (taken-laid is_ad st [] last (h.laid (last.built ∙ lower.built ∙ lowest.built ∙ sym put.built ∙ built)))))));
        measured = put-measured x (below (below (below st))) put (measured (top (below (below st))) (top (below st)) (top st) left.0 middle.0 right.0) left.1;
        counted =
            recounted (put.frames ∙ first.frames ∙ second.frames ∙ third.frames)
            (put.definitions ∙ first.definitions ∙ second.definitions ∙ third.definitions)
            (three-counted old.frames old.definitions st h.counted);
        steady = λ built is_steady.
            let lowest = first.given (sym put.built ∙ built) in
            let lower = second.given (lowest.built ∙ sym put.built ∙ built) in
            let last = third.given (lower.built ∙ lowest.built ∙ sym put.built ∙ built) in
            three-steady st (h.steady (last.built ∙ lower.built ∙ lowest.built ∙ sym put.built ∙ built)
            (last.steady ∙ lower.steady ∙ lowest.steady ∙ sym put.steady ∙ is_steady));
      }

  pub open-carried : (old : Builder) {new : Builder} (m : Measure) (n : ℕ) → n ≡ length (draft_frames old.draft)
      → draft_frames new.draft ≡ draft_frames old.draft ++ empty_frame old.parent ∷ []
      → new.operands ≡ operands.Open m n old.parent ∷ old.operands → new.parent ≡ n → IsMeasure m (inner no_defs)
      → new.frames ≡ min (old.frames + 1) counting_limit → new.definitions ≡ old.definitions
      → new.is_steady ≡ old.is_steady → new.is_built ≡ old.is_built → Holds is_ad old st → Holds is_ad new (inner no_defs ∷ st)
  open-carried old {new} m n at drafted more here measured frames defs same whole h =
      let now : List Inline = inner no_defs ∷ st in
      record {
        laid = λ built. subst (λ os. Laid is_ad (map slot os) new.parent now (draft_frames new.draft)) (sym more)
            (subst (λ p. Laid is_ad (open_ad n old.parent ∷ map slot old.operands) p now (draft_frames new.draft)) (sym here)
            (open-laid is_ad old.parent (draft_frames old.draft) (map slot old.operands) n st at drafted (h.laid (sym whole ∙ built))));
        measured = subst (λ os. AreMeasures (map measure_of os) now) (sym more) (measured, h.measured);
        counted = recounted refl defs (open-counted old.frames old.definitions st h.counted new.frames frames);
        steady = λ built is_steady. (empty-steady, h.steady (sym whole ∙ built) (sym same ∙ is_steady));
      }

  -- a definition is counted and measured
  module _ (old between counted new : Builder) {t : Tree} {m : Measure} (name : List ℕ) (first : HasGiven t m old between)
      (count : HasCounted between counted)
      (measured : (text : List ℕ) (y : Inline) (ys : List Inline) → AreMeasures (map measure_of counted.operands) ys → IsMeasure m y
      → AreMeasures (map measure_of new.operands) (with_definition (top ys) text y ∷ below ys))
      (frames : new.frames ≡ counted.frames) (defs : new.definitions ≡ counted.definitions) (h : Holds is_ad old st) where
    abbrev now : List Inline
    now = with_definition (top (below st)) name (top st) ∷ below (below st)

    now-measured : AreMeasures (map measure_of new.operands) now
    now-measured =
        let right = first.measured st h.measured in
        measured name (top st) (below st) (subst (λ os. AreMeasures (map measure_of os) (below st)) (sym count.operands) right.1) right.0

    now-counted : AreCounted new.frames new.definitions now
    now-counted =
        recounted (frames ∙ count.frames ∙ first.frames) defs
        (count.counted old.frames (top st) name (below st) (first.measured st h.measured).1
        (recounted refl first.definitions (top-counted old.frames old.definitions st h.counted)))

    pub define-measured : new.is_built ≡ false → Holds is_ad new (with_definition (top (below st)) name (top st) ∷ below (below st))
    define-measured lost = record {
      laid = λ built. absurd cc;
      measured = now-measured;
      counted = now-counted;
      steady = λ built is_steady. absurd cc;
    }

    module _ (whole : new.is_built ≡ counted.is_built) (n outer : ℕ) (rest : List Operand) {l : Measure}
        (pop : counted.operands ≡ operands.Open l n outer ∷ rest) where
      was-built : new.is_built ≡ true → between.is_built ≡ true
      was-built built = sym (whole ∙ count.built) ∙ built

      before : new.is_built ≡ true → Laid is_ad (value t ∷ open_ad n outer ∷ map slot rest) counted.parent st (draft_frames counted.draft)
      before built =
          let last = first.given (was-built built) in
          subst (λ os. Laid is_ad (value t ∷ map slot os) counted.parent st (draft_frames counted.draft)) (sym count.operands ∙ pop)
          (subst (λ p. Laid is_ad (value t ∷ map slot between.operands) p st (draft_frames counted.draft)) (sym count.parent)
          (subst (λ fs. Laid is_ad (value t ∷ map slot between.operands) between.parent st fs) (sym count.drafted)
          (taken-laid is_ad st [] last (h.laid (last.built ∙ was-built built)))))

      pub define-carried : {r : Measure} → new.operands ≡ operands.Open r n outer ∷ rest
          → draft_frames new.draft ≡ defined (draft_frames counted.draft) counted.parent name t → new.parent ≡ counted.parent
          → (moves_none : Bool) → new.is_steady ≡ (counted.is_steady && moves_none)
          → (moves_none ≡ true → MovesNone name t (attributes_at (draft_frames counted.draft) counted.parent))
          → Holds is_ad new (with_definition (top (below st)) name (top st) ∷ below (below st))
      define-carried more is here moves_none both moves = record {
        laid = λ built. subst (λ os. Laid is_ad (map slot os) new.parent now (draft_frames new.draft)) (sym more)
            (subst (λ p. Laid is_ad (open_ad n outer ∷ map slot rest) p now (draft_frames new.draft)) (sym here)
            (define-laid is_ad counted.parent (draft_frames counted.draft) (map slot rest) n outer t name st is (before built)));
        measured = now-measured;
        counted = now-counted;
        steady = λ built is_steady.
            let last = first.given (was-built built) in
            let was : (counted.is_steady && moves_none) ≡ true = sym both ∙ is_steady in
            definition-steady is_ad counted.parent (draft_frames counted.draft) (map slot rest) n outer t name (moves (both_right _ _ was)) st (before built)
            (h.steady (last.built ∙ was-built built) (last.steady ∙ sym count.steady ∙ both_left _ _ was));
      }

  pub close-carried : (old : Builder) (n outer : ℕ) (os : List Operand) {m : Measure} {t : Tree} {between new : Builder}
      → old.operands ≡ operands.Open m n outer ∷ os → HasPut (value t) m between new
      → between.operands ≡ os → between.parent ≡ outer → draft_frames between.draft ≡ draft_frames old.draft → between.frames ≡ old.frames
      → between.definitions ≡ old.definitions → t ≡ frame n
      → between.is_steady ≡ old.is_steady → between.is_built ≡ old.is_built → Holds is_ad old st → Holds is_ad new st
  close-carried old n outer os {m} {t} {between} {new} pop put same_operands at same frames defs is steady whole h =
      let all : operands.Open m n outer ∷ between.operands ≡ old.operands = ap (λ l. operands.Open m n outer ∷ l) same_operands ∙ sym pop in
      record {
        laid = λ built. put-laid is_ad st put
            (subst (λ u. Laid is_ad (value u ∷ map slot between.operands) between.parent st (draft_frames between.draft)) (sym is)
            (subst (λ p. Laid is_ad (value (frame n) ∷ map slot between.operands) p st (draft_frames between.draft)) (sym at)
            (subst (λ fs. Laid is_ad (value (frame n) ∷ map slot between.operands) outer st fs) (sym same)
            (close-laid is_ad old.parent (draft_frames old.draft) (map slot between.operands) n outer st
            (subst (λ l. Laid is_ad (map slot l) old.parent st (draft_frames old.draft)) (sym all) (h.laid (sym (put.built ∙ whole) ∙ built)))))));
        measured = subst (λ ms. AreMeasures ms st) (sym put.measures) (subst (λ l. AreMeasures (map measure_of l) st) (sym all) h.measured);
        counted = recounted (put.frames ∙ frames) (put.definitions ∙ defs) h.counted;
        steady = λ built is_steady. h.steady (sym (put.built ∙ whole) ∙ built) (sym (put.steady ∙ steady) ∙ is_steady);
      }

  -- the operands are the same as before
  pub kept : (old : Builder) {new : Builder} → new.operands ≡ old.operands → new.parent ≡ old.parent
      → draft_frames new.draft ≡ draft_frames old.draft → new.frames ≡ old.frames → new.definitions ≡ old.definitions
      → new.is_steady ≡ old.is_steady → new.is_built ≡ old.is_built → Holds is_ad old st → Holds is_ad new st
  kept old {new} same here drafted frames defs steady whole h = record {
    laid = λ built. subst (λ os. Laid is_ad (map slot os) new.parent st (draft_frames new.draft)) (sym same)
        (subst (λ p. Laid is_ad (map slot old.operands) p st (draft_frames new.draft)) (sym here)
        (subst (λ fs. Laid is_ad (map slot old.operands) old.parent st fs) (sym drafted) (h.laid (sym whole ∙ built))));
    measured = subst (λ os. AreMeasures (map measure_of os) st) (sym same) h.measured;
    counted = recounted frames defs h.counted;
    steady = λ built is_steady. h.steady (sym whole ∙ built) (sym steady ∙ is_steady);
  }

-- a leaf that was added at once
pub leaf-added : (is_ad : Bool) (st : List Inline) (label : Label) (m : Measure) (e : Expr) {old new : Builder} → tree e ≡ node label none
    → IsMeasure m (leaf label)
    → HasTaken (tree e) m old new → Holds is_ad old st → Holds is_ad new (with_element (top st) (leaf label) ∷ below st)
leaf-added is_ad st label m e {old} is measured taken h =
    let put : HasPut (value (tree e)) m old (record old { operands = operands.Value m e ∷ old.operands }) = record {
      operands = refl;
      measures = refl;
      parent = refl;
      drafted = refl;
      frames = refl;
      definitions = refl;
      steady = refl;
      built = refl;
    } in
    element-changed is_ad (leaf label ∷ st) (put-given put) taken (leaf-carried is_ad st label is measured put h)

-- ---- the last tree is taken, or changed in its place

module _ {old new : Builder} {t : Tree} (m : Measure) (frames : new.frames ≡ old.frames) (defs : new.definitions ≡ old.definitions)
    (lost : new.is_built ≡ false) where
  only-measured : ((st : List Inline) → AreMeasures (map measure_of old.operands) st
      → IsMeasure m (top st) × AreMeasures (map measure_of new.operands) (below st)) → HasGiven t m old new
  only-measured measured = record { measured = measured; frames = frames; definitions = defs; given = λ built. absurd cc }

  pub open-given : (n outer : ℕ) → old.operands ≡ operands.Open m n outer ∷ new.operands → HasGiven t m old new
  open-given n outer pop =
      only-measured (λ st h. taken m (map measure_of new.operands) st (subst (λ os. AreMeasures (map measure_of os) st) pop h))

  pub none-given : IsLeaf m → old.operands ≡ [] → new.operands ≡ [] → HasGiven t m old new
  none-given is_leaf before after = only-measured (λ st h. none-measured st before after is_leaf h)

module _ (os : List Operand) {first : Operand} (last : Operand) (stood : slice_get os 0 ≡ Some first) where
  pub changed-measured : (x : Inline) (st : List Inline) → (IsMeasure (measure_of first) (top st) → IsMeasure (measure_of last) x)
      → AreMeasures (map measure_of os) st → AreMeasures (map measure_of (slice_set os 0 last)) (x ∷ below st)
  changed-measured x st measured h =
      let parts = first-changed os last stood in
      let part = taken (measure_of first) (map measure_of parts.0) st (subst (λ l. AreMeasures (map measure_of l) st) parts.1 h) in
      subst (λ l. AreMeasures (map measure_of l) (x ∷ below st)) (sym parts.2) (measured part.0, part.1)

  pub changed-added : {t u v : Tree} → slot first ≡ value t → slot last ≡ value v → TakesElement t u v → HasAdded u os (slice_set os 0 last)
  changed-added {t} {u} {v} was is takes =
      let parts = first-changed os last stood in
      record {
        t = t;
        v = v;
        ss = map slot parts.0;
        stood = ap (map slot) parts.1 ∙ ap (λ s. s ∷ map slot parts.0) was;
        stands = ap (map slot) parts.2 ∙ ap (λ s. s ∷ map slot parts.0) is;
        takes = takes;
      }

-- an operand where there was none
pub put-below : {os new : List Operand} {m : Measure} (o : Operand) (x : Inline) (st : List Inline) → os ≡ [] → new ≡ o ∷ os → IsLeaf m
    → (IsMeasure m (top st) → IsMeasure (measure_of o) x) → AreMeasures (map measure_of os) st → AreMeasures (map measure_of new) (x ∷ below st)
put-below {os} o x st empty put is_leaf measured h =
    let parts = none-measured st empty empty is_leaf h in
    subst (λ l. AreMeasures (map measure_of l) (x ∷ below st)) (sym put) (measured parts.0, parts.1)

-- ---- chains

pub all-longer : (ts vs : List Tree) {t : Tree} (u : Tree) → vs ≡ ts ++ u ∷ [] → t ≡ node all (pack ts) → node all (pack vs) ≡ joined_tree infixes.And t u
all-longer ts vs u more is =
    ap (λ us. node all (pack us)) more ∙ ap (node all) (pack-push ts u ∙ sym (last_tree-last (pack ts) u)) ∙ ap (λ w. joined_tree infixes.And w u) (sym is)

pub any-longer : (ts vs : List Tree) {t : Tree} (u : Tree) → vs ≡ ts ++ u ∷ [] → t ≡ node any (pack ts) → node any (pack vs) ≡ joined_tree infixes.Or t u
any-longer ts vs u more is =
    ap (λ us. node any (pack us)) more ∙ ap (node any) (pack-push ts u ∙ sym (last_tree-last (pack ts) u)) ∙ ap (λ w. joined_tree infixes.Or w u) (sym is)

pub element-taken : (label : Label) (ts vs : List Tree) {t w : Tree} (u : Tree) → vs ≡ ts ++ u ∷ [] → t ≡ node label (pack ts) → w ≡ node label (pack vs)
    → TakesElement t u w
element-taken label ts vs {t} {w} u more is made =
    subst (λ v. TakesElement v u w) (sym is) (made ∙ ap (λ us. node label (pack us)) more ∙ ap (node label) (pack-push ts u ∙ sym (last_tree-last (pack ts) u)))

-- ---- the end

pub ad-held : (b : Builder) (m : Measure) (n outer : ℕ) (st : List Inline) {result : List Frame} → b.operands ≡ operands.Open m n outer ∷ [] → Holds true b st
    → b.is_built ≡ true → result ≡ frames 0 0 (spelled (draft_frames b.draft)) → result ≡ ad_of (top st)
ad-held b m n outer st only h built is =
    ad-finished n outer b.parent (draft_frames b.draft) st (subst (λ os. Laid true (map slot os) b.parent st (draft_frames b.draft)) only (h.laid built)) is

-- a builder that is steady has the frames of its ad already
pub ad-made : (b : Builder) (m : Measure) (n outer : ℕ) (st : List Inline) → b.operands ≡ operands.Open m n outer ∷ [] → Holds true b st
    → b.is_built ≡ true → b.is_steady ≡ true → (draft_frames b.draft ≡ ad_of (top st)) × IsAd (draft_frames b.draft)
ad-made b m n outer st only h built is_steady =
    ad-steady n outer b.parent (draft_frames b.draft) st (subst (λ os. Laid true (map slot os) b.parent st (draft_frames b.draft)) only (h.laid built))
    (h.steady built is_steady)

module _ {t : Tree} (b : Builder) (st : List Inline) (only : map slot b.operands ≡ value t ∷ []) (h : Holds false b st) (built : b.is_built ≡ true) where
  alone : Laid false (value t ∷ []) b.parent st (draft_frames b.draft)
  alone = subst (λ ss. Laid false ss b.parent st (draft_frames b.draft)) only (h.laid built)

  pub phrase-held : {result : List Frame} → result ≡ empty_frame 0 ∷ frames 0 1 (spelled_tree (draft_frames b.draft) t) → result ≡ phrase_of (top st)
  phrase-held is = phrase-finished t b.parent (draft_frames b.draft) st alone is

  pub phrase_tree-held : {result : Tree} → result ≡ number 1 (spelled_tree (draft_frames b.draft) t) → result ≡ phrase_tree (top st)
  phrase_tree-held is = phrase_tree-finished t b.parent (draft_frames b.draft) st alone is

  pub phrase-made : b.is_steady ≡ true → IsWhole (top st) (draft_frames b.draft) t
  phrase-made is_steady = phrase-steady t b.parent (draft_frames b.draft) st alone (h.steady built is_steady)

-- ---- the last tree

pub last-measured : (os : List Operand) (o : Operand) (st : List Inline) → slice_get os 0 ≡ Some o → AreMeasures (map measure_of os) st
    → IsMeasure (measure_of o) (top st)
last-measured [] o st e h = absurd cc
last-measured (first ∷ os) o st e h =
    let same : first ≡ o = cc in
    subst (λ p. IsMeasure (measure_of p) (top st)) same (taken (measure_of first) (map measure_of os) st h).0
