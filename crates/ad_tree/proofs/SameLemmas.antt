-- Two lists and two nodes, compared part by part.
use Rattle.std.proofs.Common.{◌≡◌, ◌+◌, ℕ, zero, suc, Bool, List, [], ◌∷◌, ◌++◌, slice_get, take, Option, None, Some, refl, ap, sym, ◌∙◌, add-one}
use Rattle.std.specs.Prelude.{◌↔◌, IsTrue, option_map}
use Rattle.ad_tree.specs.Tree.{Label, Tree, node, pack}

-- ---- lists

take-at : {A : Type 0} (xs : List A) (k : ℕ) (x : A) → slice_get xs k ≡ Some x → take (suc k) xs ≡ take k xs ++ x ∷ []
take-at [] k x e = absurd (cc)
take-at (y ∷ []) zero x e = let same : y ≡ x = cc in ap (λ z. z ∷ []) same
take-at (y ∷ z ∷ ys) zero x e = let same : y ≡ x = cc in ap (λ z. z ∷ []) same
take-at (y ∷ ys) (suc k) x e = ap (λ l. y ∷ l) (take-at ys k x e)

-- two lists that are the same up to a place and there are the same up to the next
pub same-more : {A : Type 0} (xs ys : List A) (k : ℕ) (x y : A) → take k xs ≡ take k ys → slice_get xs k ≡ Some x → slice_get ys k ≡ Some y → x ≡ y
    → take (k + 1) xs ≡ take (k + 1) ys
same-more xs ys k x y so_far here there same =
    rw (add-one k) (take-at xs k x here ∙ ap (λ l. l ++ x ∷ []) so_far ∙ ap (λ z. take k ys ++ z ∷ []) same ∙ sym (take-at ys k y there))

-- an attribute by its two parts
pub attribute-at : (attributes : List (List ℕ × Tree)) (k : ℕ) (name : List ℕ) (t : Tree) → option_map (λ a. a.0) (slice_get attributes k) ≡ Some name
    → option_map (λ a. a.1) (slice_get attributes k) ≡ Some t → slice_get attributes k ≡ Some (name, t)
attribute-at attributes k name t named is = by (slice_get attributes k) named is
  where
    by : (o : Option (List ℕ × Tree)) → option_map (λ a. a.0) o ≡ Some name → option_map (λ a. a.1) o ≡ Some t → o ≡ Some (name, t)
    by None named is = absurd (cc)
    by (Some (n, u)) named is =
        let names : n ≡ name = cc in
        let trees : u ≡ t = cc in
        ap (λ (m : List ℕ). Some (m, u)) names ∙ ap (λ (v : Tree). Some (name, v)) trees

abbrev pub attribute : List ℕ → Tree → List ℕ × Tree
attribute name t = (name, t)

pub same-attribute : (name other : List ℕ) (t u : Tree) → name ≡ other → t ≡ u → attribute name t ≡ attribute other u
same-attribute name other t u names trees = ap (λ (m : List ℕ). attribute m t) names ∙ ap (attribute other) trees

-- ---- trees

-- lists whose packed trees are the same are the same
pack-same : (ts us : List Tree) → pack ts ≡ pack us → ts ≡ us
pack-same [] [] same = refl
pack-same [] (u ∷ us) same = absurd (cc)
pack-same (t ∷ ts) [] same = absurd (cc)
pack-same (t ∷ ts) (u ∷ us) same =
    let first : t ≡ u = cc in
    let rest : pack ts ≡ pack us = cc in
    let rests = pack-same ts us rest in
    cc

-- nodes with one label are the same exactly where the lists below them are
pub same-nodes : (label : Label) (ts us : List Tree) (answer : Bool) → IsTrue answer ↔ (ts ≡ us) → IsTrue answer ↔ (node label (pack ts) ≡ node label (pack us))
same-nodes label ts us answer same =
    (λ yes. ap (λ (l : List Tree). node label (pack l)) (same.0 yes), λ nodes. same.1 (pack-same ts us (cc)))
