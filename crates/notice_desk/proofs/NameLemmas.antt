-- Names that are absent, at a place, and apart.
use Rattle.std.proofs.Common.{◌≡◌, ◌≢◌, ℕ, zero, suc, ◌+◌, ◌≤◌, true, false, List, ◌∷◌, length, take, slice_get, Some, All}
use Rattle.std.proofs.Common.{bytes_eq, sym, ◌∙◌, subst, arith}
use Rattle.std.proofs.lemmas.Bool.{false_from_ne_true}
use Rattle.std.proofs.lemmas.List.{take_all}
use Rattle.std.proofs.lemmas.List.Elements.{All-more}
use Rattle.std.proofs.lemmas.Option.{get_or_from_slice_get, slice_get_within}
use Rattle.std.proofs.lemmas.Slice.Eq.{bytes_eq-Decides}
use Rattle.notice_desk.specs.Names.{AreDistinct, IsAbsent}

pub same_name : (a b : List ℕ) → a ≡ b → bytes_eq a b ≡ true
same_name a b e = (bytes_eq-Decides a b).1 e

pub other_name : (a b : List ℕ) → a ≢ b → bytes_eq a b ≡ false
other_name a b ne = false_from_ne_true (bytes_eq a b) (λ e. ne ((bytes_eq-Decides a b).0 e))

-- the names behind the first one are others
pub distinct_head : (name : List ℕ) (names : List (List ℕ)) → AreDistinct (name ∷ names) → All (λ other. name ≢ other) names
distinct_head name names apart = λ k d within. apart zero (suc k) d (omega arith) (omega arith)

pub distinct_tail : (name : List ℕ) (names : List (List ℕ)) → AreDistinct (name ∷ names) → AreDistinct names
distinct_tail name names apart = λ i j d before within. apart (suc i) (suc j) d (omega arith) (omega arith)

-- so the first name is absent behind it
pub absent_behind : (name : List ℕ) (names : List (List ℕ)) → AreDistinct (name ∷ names) → IsAbsent name names
absent_behind name names apart = λ k d within e. distinct_head name names apart k d within (sym e)

-- a name at a place behind the first one is another
pub apart_at : (name : List ℕ) (names : List (List ℕ)) (i : ℕ) (there : List ℕ) → AreDistinct (name ∷ names) → slice_get names i ≡ Some there
    → name ≢ there
apart_at name names i there apart is =
    λ e. distinct_head name names apart i there (slice_get_within names i there is) (e ∙ sym (get_or_from_slice_get names i there there is))

-- ---- a search from the front

pub absent_more : (name : List ℕ) (names : List (List ℕ)) (i : ℕ) (there : List ℕ) → slice_get names i ≡ Some there → there ≢ name
    → IsAbsent name (take i names) → IsAbsent name (take (i + 1) names)
absent_more name names i there is other absent =
    All-more (λ n. n ≢ name) names i there (slice_get_within names i there is) absent
    (λ e. other (sym (get_or_from_slice_get names i there there is) ∙ e))

pub absent_whole : (name : List ℕ) (names : List (List ℕ)) (i : ℕ) → length names ≤ i → IsAbsent name (take i names) → IsAbsent name names
absent_whole name names i all absent = let P : List (List ℕ) → Type 0 = λ ns. IsAbsent name ns in subst P (take_all i names all) absent
