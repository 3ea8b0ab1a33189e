-- Bytes that are folded a vector at a time.
use Rattle.std.proofs.Common.{◌≡◌, ℕ, ◌+◌, ◌*◌, ◌%◌, ◌^◌, zero, suc, replicate, Bool, true, false, not, cond, eqb, List, [], ◌∷◌, map, length, take, drop, ◌++◌}
use Rattle.std.proofs.Common.{Fits, w8, refl, sym, ap, ap₂, ◌∙◌, arith}
use Rattle.std.proofs.lemmas.Bool.{agree_below, agree_below_at}
use Rattle.std.proofs.lemmas.Bool.Decides.{nat_tests}
use Rattle.std.proofs.lemmas.Simd.{mask_l-mod, length-zip2, tops_compared}
use Rattle.std.proofs.lemmas.List.{map-append, take-append-drop}
use Rattle.std.specs.Char.{to_ascii_lowercase}
use Rattle.std.specs.Cmp.Lexicographic.{slice_cmp}
use Rattle.std.specs.Cmp.{nat_cmp_is}
use Rattle.std.specs.Ordering.{nat_cmp, ordering_then}
use Rattle.std.specs.declared.cmp.Ordering.TheVariants.{Equal}
use Rattle.pool_text.specs.Folding.{folded, text_order}
use lib.Lanes.{zip2, mask_l, sel_l, top, Each1}

-- an operation of each lane with one number, and then another with a second
pub in_turn : (h k : ℕ → ℕ → ℕ) (y z n : ℕ) (v : List ℕ) → length v ≡ n → zip2 h (zip2 k v (replicate n y)) (replicate n z) ≡ map (λ x. h (k x y) z) v
in_turn h k y z n [] e = refl
in_turn h k y z zero (x ∷ xs) e = absurd (omega arith)
in_turn h k y z (suc n) (x ∷ xs) e = ap (λ r. h (k x y) z ∷ r) (in_turn h k y z n xs (omega arith))

same_number : (a b : ℕ) → eqb a b ≡ true → a ≡ b
same_number a b is = grind (arith, nat_tests)

-- lanes of g where the mask of f has its top bit, and the lanes themselves elsewhere
pub chosen : (f g p : ℕ → ℕ) → agree_below (λ x. eqb (cond (top 7 (f x)) (g x) x) (p x)) (λ _. true) 256 ≡ true → (v : List ℕ) → Each1 (Fits w8) v
    → sel_l (map (top 7) (map f v)) (map g v) v ≡ map p v
chosen f g p all [] fits = refl
chosen f g p all (x ∷ xs) fits =
    ap₂ (λ a b. a ∷ b) (same_number _ _ (agree_below_at (λ y. eqb (cond (top 7 (f y)) (g y) y) (p y)) (λ _. true) 256 x all fits.0.fits))
    (chosen f g p all xs fits.1)

-- ---- lanes that are equal

differing : ℕ → ℕ → Bool
differing a b = not (eqb a b)

-- vectors of which no lane differs
equal_lanes : (n : ℕ) (xs ys : List ℕ) → length xs ≡ n → length ys ≡ n → mask_l (zip2 differing xs ys) ≡ 0 → xs ≡ ys
unfolding differing
equal_lanes n [] [] long long_too none = refl
equal_lanes n [] (y ∷ ys) long long_too none = absurd (omega arith)
equal_lanes n (x ∷ xs) [] long long_too none = absurd (omega arith)
equal_lanes n (x ∷ xs) (y ∷ ys) long long_too none = by_test (eqb x y) refl none (λ rest. equal_lanes (length xs) xs ys refl (omega arith) rest)
  where
    by_test : (t : Bool) → eqb x y ≡ t → cond (not t) 1 0 + 2 * mask_l (zip2 differing xs ys) ≡ 0 → (mask_l (zip2 differing xs ys) ≡ 0 → xs ≡ ys)
        → x ∷ xs ≡ y ∷ ys
    by_test true e none_left later = ap₂ (λ a b. a ∷ b) (same_number x y e) (later (omega arith))
    by_test false e none_left later = absurd (omega arith)

pub alike : (xs ys : List ℕ) → length xs ≡ 16 → length ys ≡ 16 → mask_l (map (top 7) (zip2 (λ a b. cond (not (eqb a b)) 255 0) xs ys)) % 2 ^ 64 ≡ 0 → xs ≡ ys
unfolding differing
alike xs ys long long_too none =
    let compared = ap mask_l (tops_compared w8 differing xs ys) in
    let few = mask_l-mod (zip2 differing xs ys) 64 (omega (arith, length-zip2 differing xs ys)) in
    equal_lanes 16 xs ys long long_too (sym few ∙ ap (λ m. m % 2 ^ 64) (sym compared) ∙ none)

-- ---- the order of texts that begin alike

own_order : (x : ℕ) → nat_cmp x x ≡ Equal
own_order x = sym (nat_cmp_is x x Equal refl)

behind_same : (first xs ys : List ℕ) → slice_cmp nat_cmp (first ++ xs) (first ++ ys) ≡ slice_cmp nat_cmp xs ys
behind_same [] xs ys = refl
behind_same (x ∷ first) xs ys = ap (λ o. ordering_then o (slice_cmp nat_cmp (first ++ xs) (first ++ ys))) (own_order x) ∙ behind_same first xs ys

halves : (n : ℕ) (bytes : List ℕ) → folded (take n bytes) ++ folded (drop n bytes) ≡ folded bytes
halves n bytes = sym (map-append to_ascii_lowercase (take n bytes) (drop n bytes)) ∙ ap folded (take-append-drop n bytes)

-- texts that begin alike compare as what is behind
pub order_behind : (n : ℕ) (a b : List ℕ) → folded (take n a) ≡ folded (take n b) → text_order (drop n a) (drop n b) ≡ text_order a b
order_behind n a b same =
    sym (behind_same (folded (take n a)) (folded (drop n a)) (folded (drop n b)))
    ∙ ap₂ (slice_cmp nat_cmp) (halves n a) (ap (λ first. first ++ folded (drop n b)) same ∙ halves n b)
