-- Lists that are looked through from the front.
use Rattle.std.proofs.Common.{◌≡◌, ℕ, suc, ◌+◌, ◌-◌, ◌<◌, ◌≤◌, Bool, true, false, ◌||◌, ◌&&◌, List, [], ◌∷◌, length, take, drop, slice_get, slice_range, Some}
use Rattle.std.proofs.Common.{sym, ◌∙◌, ap, add-one, arith}
use Rattle.std.specs.List.{list_all, list_any}
use Rattle.std.proofs.Math.ListN.{drop_of_length-le}
use Rattle.std.proofs.Math.Seq.{drop-cons}
use Rattle.std.proofs.lemmas.Option.{slice_get_within, get_or_from_slice_get}

-- what is left at a place begins with the element there
pub drop_at : {X : Type 0} (xs : List X) (i : ℕ) (x : X) → slice_get xs i ≡ Some x → drop i xs ≡ x ∷ drop (i + 1) xs
drop_at xs i x here =
    let within = slice_get_within xs i x here in
    rw add-one (drop-cons xs i x within ∙ ap (λ y. y ∷ drop (suc i) xs) (get_or_from_slice_get xs i x x here))

-- an element that doesn't pass tells nothing of those that are left
pub any_more : {X : Type 0} (test : X → Bool) (xs : List X) (i : ℕ) (x : X) (b : Bool) → slice_get xs i ≡ Some x → test x ≡ false
    → list_any test (drop i xs) ≡ b → list_any test (drop (i + 1) xs) ≡ b
any_more test xs i x b here fails left = sym (ap (λ t. t || list_any test (drop (i + 1) xs)) fails) ∙ sym (ap (list_any test) (drop_at xs i x here)) ∙ left

pub any_found : {X : Type 0} (test : X → Bool) (xs : List X) (i : ℕ) (x : X) (b : Bool) → slice_get xs i ≡ Some x → test x ≡ true
    → list_any test (drop i xs) ≡ b → true ≡ b
any_found test xs i x b here passes left = sym (ap (λ t. t || list_any test (drop (i + 1) xs)) passes) ∙ sym (ap (list_any test) (drop_at xs i x here)) ∙ left

-- an element that passes tells nothing of those that are left
pub all_more : {X : Type 0} (test : X → Bool) (xs : List X) (i : ℕ) (x : X) (b : Bool) → slice_get xs i ≡ Some x → test x ≡ true → list_all test (drop i xs) ≡ b
    → list_all test (drop (i + 1) xs) ≡ b
all_more test xs i x b here passes left = sym (ap (λ t. t && list_all test (drop (i + 1) xs)) passes) ∙ sym (ap (list_all test) (drop_at xs i x here)) ∙ left

pub all_failed : {X : Type 0} (test : X → Bool) (xs : List X) (i : ℕ) (x : X) (b : Bool) → slice_get xs i ≡ Some x → test x ≡ false
    → list_all test (drop i xs) ≡ b → false ≡ b
all_failed test xs i x b here fails left = sym (ap (λ t. t && list_all test (drop (i + 1) xs)) fails) ∙ sym (ap (list_all test) (drop_at xs i x here)) ∙ left

-- what is left of a part at a place begins with the element there
pub range_at : {X : Type 0} (xs : List X) (i end : ℕ) (x : X) → i < end → slice_get xs i ≡ Some x → slice_range xs i end ≡ x ∷ slice_range xs (i + 1) end
range_at xs i end x inside here =
    let more : end - i ≡ suc (end - (i + 1)) = omega arith in
    ap (λ n. take n (drop i xs)) more ∙ ap (take (suc (end - (i + 1)))) (drop_at xs i x here)

pub any_more_within : {X : Type 0} (test : X → Bool) (xs : List X) (i end : ℕ) (x : X) (b : Bool) → i < end → slice_get xs i ≡ Some x → test x ≡ false
    → list_any test (slice_range xs i end) ≡ b → list_any test (slice_range xs (i + 1) end) ≡ b
any_more_within test xs i end x b inside here fails left =
    sym (ap (λ t. t || list_any test (slice_range xs (i + 1) end)) fails) ∙ sym (ap (list_any test) (range_at xs i end x inside here)) ∙ left

pub any_found_within : {X : Type 0} (test : X → Bool) (xs : List X) (i end : ℕ) (x : X) (b : Bool) → i < end → slice_get xs i ≡ Some x → test x ≡ true
    → list_any test (slice_range xs i end) ≡ b → true ≡ b
any_found_within test xs i end x b inside here passes left =
    sym (ap (λ t. t || list_any test (slice_range xs (i + 1) end)) passes) ∙ sym (ap (list_any test) (range_at xs i end x inside here)) ∙ left

-- nothing is left at the end
pub at_end : {X A : Type 0} (f : List X → A) (xs : List X) (i n : ℕ) → n ≡ length xs → n ≤ i → f (drop i xs) ≡ f []
at_end f xs i n count past = ap f (drop_of_length-le xs (omega arith))
