-- Lists of names that grow, item by item.
use Rattle.std.proofs.Common.{◌≡◌, ◌≤◌, ◌<◌, ℕ, zero, suc, ◌+◌, Bool, true, false, cond, List, [], ◌∷◌, ◌++◌, length, map, drop}
use Rattle.std.proofs.Common.{Option, None, Some, option_map, slice_get, refl, sym, ◌∙◌, ap, arith, append_assoc, append-nil}
use Rattle.std.proofs.lemmas.Option.{slice_get_past}
use Rattle.ad_tree.specs.Frames.{Frame, attributes_at, attributes_in}
use Rattle.ad_tree.specs.Inline.{defs_of, inside}
use Rattle.ad_tree.specs.Names.{has_name}
use Rattle.ad_tree.specs.Tree.{Tree, size}
use Rattle.ad_tree.proofs.Measures.{attributes_size, attributes_size-at, weight, weight-at}
use Rattle.significant_attrs.specs.Marking.{first_attributes}
use Rattle.significant_attrs.specs.Names.{needed_in_defs}

drop-here : {A : Type 0} (xs : List A) (i : ℕ) (x : A) → slice_get xs i ≡ Some x → drop i xs ≡ x ∷ drop (suc i) xs
drop-here [] i x e = absurd (cc)
drop-here (y ∷ xs) zero x e = let same : y ≡ x = cc in ap (λ z. z ∷ xs) same
drop-here (y ∷ xs) (suc i) x e = drop-here xs i x e

pub drop-next : {A : Type 0} (xs : List A) (i : ℕ) (x : A) → slice_get xs i ≡ Some x → drop i xs ≡ x ∷ drop (i + 1) xs
drop-next xs i x e =
    let n : i + 1 ≡ suc i = omega arith in
    drop-here xs i x e ∙ ap (λ m. x ∷ drop m xs) (sym n)

-- the names of one item more, where those of a list are its items' one after another
module _ {A : Type 0} (flat : List A → List (List ℕ)) (names : A → List (List ℕ))
    (next : (x : A) (xs : List A) → flat (x ∷ xs) ≡ names x ++ flat xs) where
  pub added : (xs : List A) (i : ℕ) (x : A) (before after whole : List (List ℕ)) → slice_get xs i ≡ Some x → after ≡ before ++ names x
      → before ++ flat (drop i xs) ≡ whole
      → after ++ flat (drop (i + 1) xs) ≡ whole
  added xs i x before after whole at grown so_far =
      let e : i + 1 ≡ suc i = omega arith in
      ap (λ n. after ++ flat (drop n xs)) e
      ∙ ap (λ l. l ++ flat (drop (suc i) xs)) grown
      ∙ append_assoc before (names x) (flat (drop (suc i) xs))
      ∙ ap (λ l. before ++ l) (sym (ap flat (drop-here xs i x at) ∙ next x (drop (suc i) xs)))
      ∙ so_far

-- the same of attributes, whose expressions are looked at
pub found : (attributes : List (List ℕ × Tree)) (k : ℕ) (t : Tree) → option_map (λ a. a.1) (slice_get attributes k) ≡ Some t
    → (a : List ℕ × Tree) × (slice_get attributes k ≡ Some a) × (a.1 ≡ t)
found attributes k t e = by (slice_get attributes k) refl e
  where
    by : (o : Option (List ℕ × Tree)) → slice_get attributes k ≡ o → option_map (λ a. a.1) o ≡ Some t
        → (a : List ℕ × Tree) × (slice_get attributes k ≡ Some a) × (a.1 ≡ t)
    by None at h = absurd (cc)
    by (Some a) at h = let same : a.1 ≡ t = cc (h) in (a, at, same)

module _ (flat : List (List ℕ × Tree) → List (List ℕ)) (names : Tree → List (List ℕ))
    (next : (a : List ℕ × Tree) (rest : List (List ℕ × Tree)) → flat (a ∷ rest) ≡ names a.1 ++ flat rest) where
  pub attribute-added : (attributes : List (List ℕ × Tree)) (k : ℕ) (t : Tree) (before after whole : List (List ℕ))
      → option_map (λ a. a.1) (slice_get attributes k) ≡ Some t
      → after ≡ before ++ names t → before ++ flat (drop k attributes) ≡ whole → after ++ flat (drop (k + 1) attributes) ≡ whole
  attribute-added attributes k t before after whole e grown so_far =
      let (a, at, same) = found attributes k t e in
      added flat (λ (b : List ℕ × Tree). names b.1) next attributes k a before after whole at (grown ∙ ap (λ u. before ++ names u) (sym same)) so_far

-- the same of frames
pub frame-there : (fs : List Frame) (f : ℕ) → f < length fs → (g : Frame) × (slice_get fs f ≡ Some g)
frame-there [] f low = absurd (omega (arith, low))
frame-there (g ∷ fs) zero low = (g, refl)
frame-there (g ∷ fs) (suc f) low = frame-there fs f (omega (arith, low))

module _ (flat : List Frame → List (List ℕ)) (names : List (List ℕ × Tree) → List (List ℕ))
    (next : (g : Frame) (rest : List Frame) → flat (g ∷ rest) ≡ names g.attributes ++ flat rest) where
  pub frame-added : (fs : List Frame) (f : ℕ) (before after whole : List (List ℕ)) → f < length fs → after ≡ before ++ names (attributes_at fs f)
      → before ++ flat (drop f fs) ≡ whole → after ++ flat (drop (f + 1) fs) ≡ whole
  frame-added fs f before after whole low grown so_far =
      let (g, at) = frame-there fs f low in
      added flat (λ (h : Frame). names h.attributes) next fs f g before after whole at (grown ∙ ap (λ o. before ++ names (attributes_in o)) at) so_far

-- ---- the names of the root that are among the first
pub first-added : (first : List (List ℕ)) (attributes : List (List ℕ × Tree)) (k : ℕ) (n : List ℕ) (b : Bool) (names names2 whole : List (List ℕ))
    → option_map (λ a. a.0) (slice_get attributes k) ≡ Some n → has_name n first ≡ b → names2 ≡ cond b (names ++ n ∷ []) names
    → names ++ first_attributes first (drop k attributes) ≡ whole → names2 ++ first_attributes first (drop (k + 1) attributes) ≡ whole
first-added first attributes k n b names names2 whole is test grown so_far = by (slice_get attributes k) refl is
  where
    turn : (a : List ℕ × Tree) → a.0 ≡ n → (c : Bool) → has_name a.0 first ≡ c → names2 ≡ cond c (names ++ n ∷ []) names
        → names2 ++ first_attributes first (drop (k + 1) attributes)
        ≡ names ++ cond c (a.0 ∷ first_attributes first (drop (k + 1) attributes)) (first_attributes first (drop (k + 1) attributes))
    turn a same true t g =
        ap (λ l. l ++ first_attributes first (drop (k + 1) attributes)) g
        ∙ append_assoc names (n ∷ []) (first_attributes first (drop (k + 1) attributes))
        ∙ ap (λ m. names ++ (m ∷ first_attributes first (drop (k + 1) attributes))) (sym same)
    turn a same false t g = ap (λ l. l ++ first_attributes first (drop (k + 1) attributes)) g

    by : (o : Option (List ℕ × Tree)) → slice_get attributes k ≡ o → option_map (λ a. a.0) o ≡ Some n
        → names2 ++ first_attributes first (drop (k + 1) attributes) ≡ whole
    by None at h = absurd (cc (h))
    by (Some a) at h =
        let same : a.0 ≡ n = cc (h) in
        turn a same (has_name a.0 first) refl (grown ∙ ap (λ c. cond c (names ++ n ∷ []) names) (sym test ∙ ap (λ m. has_name m first) (sym same)))
        ∙ ap (λ l. names ++ first_attributes first l) (sym (drop-next attributes k a at))
        ∙ so_far

-- ---- ad literals

pub no_turns : (fs : List Frame) (turns f : ℕ) (names : List (List ℕ)) → turns ≡ 0 → names ≡ names ++ needed_in_defs (inside fs turns f)
no_turns fs zero f names none = sym (append-nil names)
no_turns fs (suc n) f names none = absurd (omega (arith, none))

pub no_frame : (fs : List Frame) (turns f : ℕ) (names : List (List ℕ)) → length fs ≤ f → names ≡ names ++ needed_in_defs (inside fs turns f)
no_frame fs zero f names past = sym (append-nil names)
no_frame fs (suc n) f names past =
    sym (append-nil names) ∙ ap (λ (o : Option Frame). names ++ needed_in_defs (defs_of (inside fs n) (attributes_in o))) (sym (slice_get_past fs f past))

pub attributes-weight : (fs : List Frame) (f : ℕ) → attributes_size (attributes_at fs f) ≤ weight fs
attributes-weight fs f = by (slice_get fs f) refl
  where
    by : (o : Option Frame) → slice_get fs f ≡ o → attributes_size (attributes_in o) ≤ weight fs
    by None at = omega arith
    by (Some g) at = weight-at fs f g at

pub value-size : (attributes : List (List ℕ × Tree)) (k : ℕ) (t : Tree) → option_map (λ a. a.1) (slice_get attributes k) ≡ Some t
    → size t ≤ attributes_size attributes
value-size attributes k t e =
    let (a, at, same) = found attributes k t e in
    omega (arith, attributes_size-at attributes k a at, ap size same)

-- what a list gives at a place, mapped
pub get-map : {A B : Type 0} (f : A → B) (xs : List A) (i : ℕ) → slice_get (map f xs) i ≡ option_map f (slice_get xs i)
get-map f [] i = refl
get-map f (x ∷ xs) zero = refl
get-map f (x ∷ xs) (suc i) = get-map f xs i
