-- Nodes part by part.
use Rattle.std.proofs.Common.{◌≡◌, true, false, List, [], ◌∷◌, ◌++◌, Option, Some, None, option_map, if◌then◌else◌, refl, ap, sym, append_assoc, append-nil}
use Rattle.std.specs.Option.{option_and_then}
use Rattle.ad_value.specs.Plain.{Plain}
use Rattle.ad_value.specs.Logic.{and_is_decided, and_value, or_is_decided, or_value}
use Rattle.ad_value.specs.Demands.{all_demanded, conjunction, disjunction}

-- ---- chains

module _ (left : Plain) (r : Option Plain) (rs : List (Option Plain)) where
  pub conjunction-next : and_is_decided left ≡ false → conjunction left (r ∷ rs) ≡ option_and_then (λ p. conjunction (and_value left p) rs) r
  conjunction-next open_yet = ap (λ b. if b then Some left else option_and_then (λ p. conjunction (and_value left p) rs) r) open_yet

  pub disjunction-next : or_is_decided left ≡ false → disjunction left (r ∷ rs) ≡ option_and_then (λ p. disjunction (or_value left p) rs) r
  disjunction-next open_yet = ap (λ b. if b then Some left else option_and_then (λ p. disjunction (or_value left p) rs) r) open_yet

pub conjunction-decided : (left : Plain) (rs : List (Option Plain)) → and_is_decided left ≡ true → conjunction left rs ≡ Some left
conjunction-decided left [] decided = refl
conjunction-decided left (r ∷ rs) decided = ap (λ b. if b then Some left else option_and_then (λ p. conjunction (and_value left p) rs) r) decided

pub disjunction-decided : (left : Plain) (rs : List (Option Plain)) → or_is_decided left ≡ true → disjunction left rs ≡ Some left
disjunction-decided left [] decided = refl
disjunction-decided left (r ∷ rs) decided = ap (λ b. if b then Some left else option_and_then (λ p. disjunction (or_value left p) rs) r) decided

-- ---- all in turn

-- values, and then those of the rest
abbrev pub values_and : List Plain → Option (List Plain) → Option (List Plain)
values_and vs rest = option_map (λ ps. vs ++ ps) rest

module _ (vs : List Plain) where
  both : (p : Plain) (o : Option (List Plain)) → values_and vs (option_map (λ ps. p ∷ ps) o) ≡ values_and (vs ++ p ∷ []) o
  both p None = refl
  both p (Some ps) = ap Some (sym (append_assoc vs (p ∷ []) ps))

  pub all_demanded-next : (r : Option Plain) (rs : List (Option Plain))
      → values_and vs (all_demanded (r ∷ rs)) ≡ option_and_then (λ p. values_and (vs ++ p ∷ []) (all_demanded rs)) r
  all_demanded-next None rs = refl
  all_demanded-next (Some p) rs = both p (all_demanded rs)

  pub all_demanded-end : values_and vs (all_demanded []) ≡ Some vs
  all_demanded-end = ap Some (append-nil vs)

pub all_demanded-start : (o : Option (List Plain)) → o ≡ values_and [] o
all_demanded-start None = refl
all_demanded-start (Some ps) = refl

-- ---- a list literal

-- two functions of what is in an option, where they are alike
pub mapped_alike : {A B : Type 0} (f g : A → B) → ((x : A) → f x ≡ g x) → (o : Option A) → option_map f o ≡ option_map g o
mapped_alike f g alike None = refl
mapped_alike f g alike (Some x) = ap Some (alike x)

module _ (value : List Plain → Plain) where
  then_mapped : (p : Plain) (o : Option (List Plain)) → option_map value (option_map (λ ps. p ∷ ps) o) ≡ option_map (λ ps. value (p ∷ ps)) o
  then_mapped p None = refl
  then_mapped p (Some ps) = refl

  pub listed-next : (r : Option Plain) (rs : List (Option Plain))
      → option_map value (all_demanded (r ∷ rs)) ≡ option_and_then (λ p. option_map (λ ps. value (p ∷ ps)) (all_demanded rs)) r
  listed-next None rs = refl
  listed-next (Some p) rs = then_mapped p (all_demanded rs)
