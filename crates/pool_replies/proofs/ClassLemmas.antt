-- Lists of names with one member more.
use Rattle.std.proofs.Common.{◌≡◌, ◌∙◌, ap, ℕ, zero, suc, ◌<◌, ◌≤◌, List, [], ◌∷◌, ◌++◌, get_or, length, slice_set, refl}
use Rattle.std.proofs.Common.{arith}
use Rattle.pool_replies.specs.Classes.{with_member}

-- a list that is there grows in its place
pub member-within : (lists : List (List (List ℕ))) (i : ℕ) (name : List ℕ) (old new : List (List ℕ)) → i < length lists → old ≡ get_or lists i old
    → new ≡ old ++ name ∷ []
    → slice_set lists i new ≡ with_member i name lists
member-within [] i name old new within is grown = absurd (omega (arith, within))
member-within (l ∷ lists) zero name old new within is grown =
    ap (λ names. names ∷ lists) (grown ∙ ap (λ (names : List (List ℕ)). names ++ name ∷ []) is)
member-within (l ∷ lists) (suc i) name old new within is grown =
    ap (λ rest. l ∷ rest) (member-within lists i name old new (omega (arith, within)) is grown)

-- and else a new one stands behind the others
pub member-behind : (lists : List (List (List ℕ))) (i : ℕ) (name : List ℕ) → length lists ≤ i
    → lists ++ (name ∷ []) ∷ [] ≡ with_member i name lists
member-behind [] i name past = refl
member-behind (l ∷ lists) zero name past = absurd (omega (arith, past))
member-behind (l ∷ lists) (suc i) name past = ap (λ rest. l ∷ rest) (member-behind lists i name (omega (arith, past)))
