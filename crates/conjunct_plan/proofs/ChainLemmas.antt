-- The conjuncts of a chain, element by element: how many they are, and which stands where.
use Rattle.std.proofs.Common.{◌≡◌, ◌∙◌, ap, sym, ℕ, zero, suc, ◌+◌, ◌<◌, List, [], ◌∷◌, ◌++◌, append_assoc, drop, length, length-append, Some, slice_get, refl}
use Rattle.std.proofs.Common.{arith}
use Rattle.ad_tree.specs.Tree.{Tree, pack}
use Rattle.ad_tree.proofs.TreeLemmas.{pack-drop}
use Rattle.conjunct_plan.specs.Tests.{conjuncts, conjuncts_of_all}

-- those from an element on
abbrev pub left : List Tree → ℕ → List Tree
left ts i = conjuncts_of_all (pack (drop i ts))

-- are those of the element, and those behind it
pub left-here : (ts : List Tree) (i : ℕ) (t : Tree) → slice_get ts i ≡ Some t → left ts i ≡ conjuncts t ++ left ts (i + 1)
left-here ts i t is = ap conjuncts_of_all (pack-drop ts i t is)

pub count-here : (ts : List Tree) (i : ℕ) (t : Tree) → slice_get ts i ≡ Some t → length (left ts i) ≡ length (conjuncts t) + length (left ts (i + 1))
count-here ts i t is = ap length (left-here ts i t is) ∙ length-append (conjuncts t) (left ts (i + 1))

-- gathered behind others
pub gathered-here : (ts : List Tree) (i : ℕ) (t : Tree) → slice_get ts i ≡ Some t → (old new : List Tree) → new ≡ old ++ conjuncts t
    → new ++ left ts (i + 1) ≡ old ++ left ts i
gathered-here ts i t is old new added =
    ap (λ found. found ++ left ts (i + 1)) added ∙ append_assoc old (conjuncts t) (left ts (i + 1)) ∙ ap (λ rest. old ++ rest) (sym (left-here ts i t is))

-- ---- one of two lists, one behind the other

pub at-first : (xs ys : List Tree) (k : ℕ) → k < length xs → slice_get (xs ++ ys) k ≡ slice_get xs k
at-first [] ys k within = absurd (omega (arith, within))
at-first (x ∷ xs) ys zero within = refl
at-first (x ∷ xs) ys (suc k) within = at-first xs ys k (omega (arith, within))

pub at-second : (xs ys : List Tree) (k n : ℕ) → k ≡ length xs + n → slice_get (xs ++ ys) k ≡ slice_get ys n
at-second [] ys k n is = ap (slice_get ys) (omega (arith, is))
at-second (x ∷ xs) ys zero n is = absurd (omega (arith, is))
at-second (x ∷ xs) ys (suc k) n is = at-second xs ys k n (omega (arith, is))
