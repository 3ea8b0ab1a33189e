-- Looking through candidates one after another.
use Rattle.std.proofs.Common.{◌≡◌, ◌≤◌, ◌<◌, ℕ, zero, suc, zero-le, min, refl, Bool, List, [], ◌∷◌, ◌++◌, length, map, take, drop, slice_get, position}
use Rattle.std.proofs.Common.{option_map, Option, Some, None, IsSome, unwrap_or, Bor, true, false, cond, codes, ap, sym, ◌∙◌, subst, arith}
use Rattle.std.specs.Option.{option_or}
use Rattle.std.proofs.lemmas.List.{drop_all, length-map}
use Rattle.std.proofs.lemmas.List.Quantifiers.{position-Some}
use Rattle.pool_text.specs.declared.language.AdPlace.{AdPlace}
use Rattle.pool_text.specs.declared.language.Pos.{Pos}
use Rattle.ad_tree.specs.declared.ad.Ad.{Ad}
use Rattle.ad_tree.specs.declared.request.Port.{Port}
use Rattle.ad_tree.specs.Ad.{ad_frames}
use Rattle.ad_tree.specs.Enclosing.{upward}
use Rattle.ad_tree.specs.Names.{same_name}
use Rattle.ad_tree.specs.Special.{attribute_named}
use Rattle.ad_tree.specs.Frames.{Frame, attributes_at, names_in, parent_of}
use Rattle.eval_scope.specs.declared.found.Found.{Found}
use Rattle.eval_scope.specs.declared.world.World.{World}
use Rattle.eval_scope.specs.Look.{Candidate, in_frame, label_of, IsThere, attribute_in, enclosing, enclosing_any, first_found, found_at, found_attribute}
use Rattle.eval_scope.specs.Look.{labels_from, or_else, requirement_at}
use Rattle.eval_scope.specs.Shown.{world_of}
use Rattle.eval_scope.specs.World.{PlainWorld, expr_of, frames_of_ad}

-- ---- one list of candidates behind another

or_else-both : (a b c : Found) → or_else a (or_else b c) ≡ or_else (or_else a b) c
or_else-both Found.Nothing b c = refl
or_else-both (Found.Place p) b c = refl
or_else-both (Found.Attr s) b c = refl

pub first_found-append : (w : PlainWorld) (name : List ℕ) (cs ds : List Candidate)
    → first_found w name (cs ++ ds) ≡ or_else (first_found w name cs) (first_found w name ds)
first_found-append w name [] ds = refl
first_found-append w name (c ∷ cs) ds =
    ap (or_else (found_at w name c)) (first_found-append w name cs ds)
    ∙ or_else-both (found_at w name c) (first_found w name cs) (first_found w name ds)

-- ---- upwards

-- parents are lower
abbrev pub AreLower : List Frame → Type 0
AreLower fs = (f parent : ℕ) → parent_of fs f ≡ Some parent → parent < f

AreLower-empty : AreLower []
AreLower-empty zero parent h = absurd (cc)
AreLower-empty (suc f) parent h = absurd (cc)

AreLower-ads : (ads : List (Bor Ad)) (k : ℕ) → AreLower (unwrap_or (slice_get (map (λ ad. ad_frames ad.now) ads) k) [])
AreLower-ads [] k = AreLower-empty
AreLower-ads (ad ∷ ads) zero = ad.now.is_ad.lower
AreLower-ads (ad ∷ ads) (suc k) = AreLower-ads ads k

-- in every ad of a world
pub AreLower-world : (w : World) (k : ℕ) → AreLower (frames_of_ad (world_of w) k)
AreLower-world w zero = w.request.now.is_ad.lower
AreLower-world w (suc k) = AreLower-ads (take w.docked w.resources) k

upward-none : (n : ℕ) (fs : List Frame) → upward n fs None ≡ []
upward-none zero fs = refl
upward-none (suc n) fs = refl

-- what follows a frame, where it is the same from its parent on
upward-parent : (fs : List Frame) (n m : ℕ) (o : Option ℕ) → ((p : ℕ) → o ≡ Some p → upward n fs (Some p) ≡ upward m fs (Some p))
    → upward n fs o ≡ upward m fs o
upward-parent fs n m None same = upward-none n fs ∙ sym (upward-none m fs)
upward-parent fs n m (Some p) same = same p refl

-- a bound above the frame's number makes no difference
upward-enough : (fs : List Frame) → AreLower fs → (n m f : ℕ) → f < n → f < m → upward n fs (Some f) ≡ upward m fs (Some f)
upward-enough fs lower zero m f a b = absurd (omega arith)
upward-enough fs lower (suc n) zero f a b = absurd (omega arith)
upward-enough fs lower (suc n) (suc m) f a b =
    ap (λ (l : List ℕ). f ∷ l) (upward-parent fs n m (parent_of fs f) (λ p at. let below : p < f =
    lower f p at in upward-enough fs lower n m p (omega arith) (omega arith)))

-- the candidates from a frame on that may be missing
abbrev pub from_frame : PlainWorld → ℕ → Option ℕ → List Candidate
from_frame w ad f = enclosing_any w (option_map (λ g. record { ad = ad; frame = g }) f)

-- a frame, and then from its parent on
pub enclosing-next : (w : PlainWorld) (ad f : ℕ) → AreLower (frames_of_ad w ad)
    → enclosing w (record { ad = ad; frame = f }) ≡ in_frame (record { ad = ad; frame = f }) ∷ from_frame w ad (parent_of (frames_of_ad w ad) f)
enclosing-next w ad f lower = ap (λ (l : List Candidate). in_frame (record { ad = ad; frame = f }) ∷ l) (by (parent_of (frames_of_ad w ad) f) refl)
  where
    by : (o : Option ℕ) → parent_of (frames_of_ad w ad) f ≡ o
        → map (λ g. in_frame (record { ad = ad; frame = g })) (upward f (frames_of_ad w ad) (parent_of (frames_of_ad w ad) f))
        ≡ from_frame w ad (parent_of (frames_of_ad w ad) f)
    by None at =
        ap (λ o. map (λ g. in_frame (record { ad = ad; frame = g })) (upward f (frames_of_ad w ad) o)) at
        ∙ ap (map (λ g. in_frame (record { ad = ad; frame = g }))) (upward-none f (frames_of_ad w ad))
        ∙ ap (from_frame w ad) (sym at)
    by (Some p) at =
        let below : p < f = lower f p at in
        ap (λ o. map (λ g. in_frame (record { ad = ad; frame = g })) (upward f (frames_of_ad w ad) o)) at
        ∙ ap (map (λ g. in_frame (record { ad = ad; frame = g }))) (upward-enough (frames_of_ad w ad) lower f (suc p) p below (omega arith))
        ∙ ap (from_frame w ad) (sym at)

-- a frame without the name is passed over
pub passed-over : (w : PlainWorld) (name : List ℕ) (ad f : ℕ) → AreLower (frames_of_ad w ad) → attribute_in w (record { ad = ad; frame = f }) name ≡ None
    → first_found w name (enclosing w (record { ad = ad; frame = f })) ≡ first_found w name (from_frame w ad (parent_of (frames_of_ad w ad) f))
passed-over w name ad f lower missing =
    ap (first_found w name) (enclosing-next w ad f lower)
    ∙ ap (λ (o : Option Pos). or_else (found_attribute o) (first_found w name (from_frame w ad (parent_of (frames_of_ad w ad) f)))) missing

-- ---- labels

pub labels_from-next : (j : ℕ) (ports : List Port) (docked : List (List Frame)) (k : ℕ) (p : Port) → slice_get ports k ≡ Some p → k < length docked
    → labels_from j (drop k ports) (drop k docked) ≡ label_of j p.label ∷ labels_from (suc j) (drop (suc k) ports) (drop (suc k) docked)
labels_from-next j [] docked k p at within = absurd (cc)
labels_from-next j (q ∷ ports) [] k p at within = absurd (omega arith)
labels_from-next j (q ∷ ports) (ad ∷ docked) zero p at within =
    let same : q ≡ p = cc in ap (λ (r : Port). label_of j r.label ∷ labels_from (suc j) ports docked) same
labels_from-next j (q ∷ ports) (ad ∷ docked) (suc k) p at within = labels_from-next j ports docked k p at (omega arith)

labels_from-unlabelled : (j : ℕ) (ports : List Port) → labels_from j ports [] ≡ []
labels_from-unlabelled j [] = refl
labels_from-unlabelled j (p ∷ ports) = refl

pub labels_from-end : (j : ℕ) (ports : List Port) (docked : List (List Frame)) (k : ℕ) → min (length ports) (length docked) ≤ k
    → labels_from j (drop k ports) (drop k docked) ≡ []
labels_from-end j [] docked k past = ap (λ (l : List Port). labels_from j l (drop k docked)) (drop_all k [] zero-le)
labels_from-end j (p ∷ ports) [] k past = ap (labels_from j (drop k (p ∷ ports))) (drop_all k [] zero-le) ∙ labels_from-unlabelled j (drop k (p ∷ ports))
labels_from-end j (p ∷ ports) (ad ∷ docked) zero past = absurd (omega arith)
labels_from-end j (p ∷ ports) (ad ∷ docked) (suc k) past = labels_from-end j ports docked k (omega arith)

option_map-Some : {A B : Type 0} (f : A → B) (o : Option A) (y : B) → option_map f o ≡ Some y → (x : A) × (o ≡ Some x) × (f x ≡ y)
option_map-Some f None y e = absurd (cc)
option_map-Some f (Some x) y e = (x, refl, cc)

module _ (w : PlainWorld) (name : List ℕ) (j k : ℕ) (ports : List Port) (docked : List (List Frame)) (within : k < length docked) where
  -- a port with the label
  pub label-found : option_map (λ p. same_name name p.label) (slice_get ports k) ≡ Some true
      → first_found w name (labels_from j (drop k ports) (drop k docked)) ≡ Found.Place (record { ad = j; frame = 0 })
  label-found tested =
      let (p, at, same) = option_map-Some (λ p. same_name name p.label) (slice_get ports k) true tested in
      ap (first_found w name) (labels_from-next j ports docked k p at within)
      ∙ ap (λ b. or_else (cond b (Found.Place (record { ad = j; frame = 0 })) Found.Nothing)
      (first_found w name (labels_from (suc j) (drop (suc k) ports) (drop (suc k) docked)))) same

  -- a port with another label
  pub label-passed : option_map (λ p. same_name name p.label) (slice_get ports k) ≡ Some false
      → first_found w name (labels_from j (drop k ports) (drop k docked)) ≡ first_found w name (labels_from (suc j) (drop (suc k) ports) (drop (suc k) docked))
  label-passed tested =
      let (p, at, same) = option_map-Some (λ p. same_name name p.label) (slice_get ports k) false tested in
      ap (first_found w name) (labels_from-next j ports docked k p at within)
      ∙ ap (λ b. or_else (cond b (Found.Place (record { ad = j; frame = 0 })) Found.Nothing)
      (first_found w name (labels_from (suc j) (drop (suc k) ports) (drop (suc k) docked)))) same

-- ---- the three parts in turn

module _ (w : PlainWorld) (name : List ℕ) (own labelled beyond : List Candidate) where
  own-first : first_found w name (own ++ (labelled ++ beyond))
      ≡ or_else (first_found w name own) (or_else (first_found w name labelled) (first_found w name beyond))
  own-first = first_found-append w name own (labelled ++ beyond) ∙ ap (or_else (first_found w name own)) (first_found-append w name labelled beyond)

  or_else-own : (a b : Found) → (a ≡ Found.Nothing → ⊥) → or_else a b ≡ a
  or_else-own Found.Nothing b h = absurd (h refl)
  or_else-own (Found.Place p) b h = refl
  or_else-own (Found.Attr s) b h = refl

  pub in_own : (first_found w name own ≡ Found.Nothing → ⊥) → first_found w name (own ++ (labelled ++ beyond)) ≡ first_found w name own
  in_own some = own-first ∙ or_else-own (first_found w name own) (or_else (first_found w name labelled) (first_found w name beyond)) some

  pub in_labels : first_found w name own ≡ Found.Nothing → (first_found w name labelled ≡ Found.Nothing → ⊥)
      → first_found w name (own ++ (labelled ++ beyond)) ≡ first_found w name labelled
  in_labels none some =
      own-first
      ∙ ap (λ f. or_else f (or_else (first_found w name labelled) (first_found w name beyond))) none
      ∙ or_else-own (first_found w name labelled) (first_found w name beyond) some

  pub in_beyond : first_found w name own ≡ Found.Nothing → first_found w name labelled ≡ Found.Nothing
      → first_found w name (own ++ (labelled ++ beyond)) ≡ first_found w name beyond
  in_beyond none unlabelled =
      own-first
      ∙ ap (λ f. or_else f (or_else (first_found w name labelled) (first_found w name beyond))) none
      ∙ ap (λ f. or_else f (first_found w name beyond)) unlabelled

-- ---- what is found is there

IsSome-within : {A B : Type 0} (f : A → B) (xs : List A) (k : ℕ) → k < length xs → IsSome (option_map f (slice_get xs k))
IsSome-within f [] k within = absurd (omega arith)
IsSome-within f (x ∷ xs) zero within = refl
IsSome-within f (x ∷ xs) (suc k) within = IsSome-within f xs k (omega arith)

pub attribute_in-there : (w : PlainWorld) (p : AdPlace) (name : List ℕ) (s : Pos) → attribute_in w p name ≡ Some s → IsSome (expr_of w s)
attribute_in-there w p name s found = by (position (same_name name) (names_in (frames_of_ad w p.ad) p.frame)) refl
  where
    by : (o : Option ℕ) → position (same_name name) (names_in (frames_of_ad w p.ad) p.frame) ≡ o → IsSome (expr_of w s)
    by None e = absurd (cc (ap (option_map {U = Pos} (λ k. record { ad = p.ad; frame = p.frame; attr = k })) e))
    by (Some k) e =
        let attributes = attributes_at (frames_of_ad w p.ad) p.frame in
        let place : Pos = record { ad = p.ad; frame = p.frame; attr = k } in
        let same : place ≡ s = cc (ap (option_map {U = Pos} (λ k. record { ad = p.ad; frame = p.frame; attr = k })) e) in
        let first = position-Some (same_name name) (names_in (frames_of_ad w p.ad) p.frame) k [] e in
        let within : k < length attributes = omega (arith, first.0, length-map attributes (λ a. a.0)) in
        subst (λ t. IsSome (expr_of w t)) same (IsSome-within (λ a. a.1) attributes k within)

pub requirement_at-there : (w : PlainWorld) (p : AdPlace) (s : Pos) → requirement_at w p ≡ Some s → IsSome (expr_of w s)
requirement_at-there w p s found = by (attribute_named fs p.frame (codes "Requirements")) refl
  where
    fs : List Frame
    fs = frames_of_ad w p.ad

    other : Option ℕ
    other = attribute_named fs p.frame (codes "Constraint")

    place : ℕ → Pos
    place k = record { ad = p.ad; frame = p.frame; attr = k }

    by : (o : Option ℕ) → attribute_named fs p.frame (codes "Requirements") ≡ o → IsSome (expr_of w s)
    by None e = attribute_in-there w p (codes "Constraint") s (sym (ap (λ o. option_map place (option_or o other)) e) ∙ found)
    by (Some k) e =
        attribute_in-there w p (codes "Requirements") s
        (ap (option_map place) e ∙ sym (ap (λ o. option_map place (option_or o other)) e) ∙ found)

IsThere-or_else : (w : PlainWorld) (a b : Found) → IsThere w a → IsThere w b → IsThere w (or_else a b)
IsThere-or_else w Found.Nothing b h k = k
IsThere-or_else w (Found.Place p) b h k = h
IsThere-or_else w (Found.Attr s) b h k = h

IsThere-attribute : (w : PlainWorld) (p : AdPlace) (name : List ℕ) (o : Option Pos) → attribute_in w p name ≡ o → IsThere w (found_attribute o)
IsThere-attribute w p name None e = tt
IsThere-attribute w p name (Some s) e = attribute_in-there w p name s e

IsThere-label : (w : PlainWorld) (p : AdPlace) (b : Bool) → IsThere w (cond b (Found.Place p) Found.Nothing)
IsThere-label w p true = tt
IsThere-label w p false = tt

pub IsThere-at : (w : PlainWorld) (name : List ℕ) (c : Candidate) → IsThere w (found_at w name c)
IsThere-at w name (in_frame p) = IsThere-attribute w p name (attribute_in w p name) refl
IsThere-at w name (label_of k label) = IsThere-label w (record { ad = k; frame = 0 }) (same_name name label)

pub IsThere-first : (w : PlainWorld) (name : List ℕ) (cs : List Candidate) → IsThere w (first_found w name cs)
IsThere-first w name [] = tt
IsThere-first w name (c ∷ cs) = IsThere-or_else w (found_at w name c) (first_found w name cs) (IsThere-at w name c) (IsThere-first w name cs)
