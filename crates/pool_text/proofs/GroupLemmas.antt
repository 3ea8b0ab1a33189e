-- Bytes that are compared in groups.
use Rattle.std.proofs.Common.{◌≡◌, ℕ, ◌+◌, ◌<◌, ◌≤◌, List, [], ◌∷◌, ◌++◌, length, take, drop, suc, zero, get_or, Fits, w8, w32, w64, refl, sym, ap, ap₂, ◌∙◌}
use Rattle.std.proofs.Common.{arith}
use Rattle.std.proofs.Math.Seq.{take-add}
use Rattle.std.proofs.lemmas.List.{take-take, take_all}
use Rattle.std.proofs.lemmas.Nat.{le_bytes_4, le_bytes_8}
use Rattle.std.proofs.lemmas.Simd.{chunk-fits, length-chunk}
use Rattle.std.specs.Int.{from_le_bytes}
use lib.Lanes.{Each1, chunk}

each_below : (xs : List ℕ) → Each1 (Fits w8) xs → (i : ℕ) → get_or xs i 0 < 256
each_below [] fits i = omega arith
each_below (x ∷ xs) fits zero = fits.0.fits
each_below (x ∷ xs) fits (suc i) = each_below xs fits.1 i

-- groups of one number are the same
pub same_eight : (a b : List ℕ) (s : ℕ) → s + 8 ≤ length a → s + 8 ≤ length b → ((k : ℕ) → Fits w8 (get_or a k 0)) → ((k : ℕ) → Fits w8 (get_or b k 0))
    → from_le_bytes w64 (take 8 (drop s a)) ≡ from_le_bytes w64 (take 8 (drop s b)) → take 8 (drop s a) ≡ take 8 (drop s b)
same_eight a b s in_a in_b fits_a fits_b same =
    sym (le_bytes_8 (chunk s 8 a) _ (length-chunk s 8 a in_a) (each_below (chunk s 8 a) (chunk-fits w8 s 8 a fits_a)) refl)
    ∙ le_bytes_8 (chunk s 8 b) _ (length-chunk s 8 b in_b) (each_below (chunk s 8 b) (chunk-fits w8 s 8 b fits_b)) same

pub same_four : (a b : List ℕ) (s : ℕ) → s + 4 ≤ length a → s + 4 ≤ length b → ((k : ℕ) → Fits w8 (get_or a k 0)) → ((k : ℕ) → Fits w8 (get_or b k 0))
    → from_le_bytes w32 (take 4 (drop s a)) ≡ from_le_bytes w32 (take 4 (drop s b)) → take 4 (drop s a) ≡ take 4 (drop s b)
same_four a b s in_a in_b fits_a fits_b same =
    sym (le_bytes_4 (chunk s 4 a) _ (length-chunk s 4 a in_a) (each_below (chunk s 4 a) (chunk-fits w8 s 4 a fits_a)) refl)
    ∙ le_bytes_4 (chunk s 4 b) _ (length-chunk s 4 b in_b) (each_below (chunk s 4 b) (chunk-fits w8 s 4 b fits_b)) same

-- one more group
pub same_further : (a b : List ℕ) (s g : ℕ) → take s a ≡ take s b → take g (drop s a) ≡ take g (drop s b) → take (s + g) a ≡ take (s + g) b
same_further a b s g front group = take-add s g a ∙ ap₂ (λ x y. x ++ y) front group ∙ sym (take-add s g b)

-- a front and a last group that meet, or overlap, cover the bytes
pub same_covered : (a b : List ℕ) (k s g : ℕ) → s ≤ k → length a ≤ s + g → length b ≤ s + g → take k a ≡ take k b → take g (drop s a) ≡ take g (drop s b)
    → a ≡ b
same_covered a b k s g meet in_a in_b front group =
    let front_is : take s a ≡ take s b = sym (take-take s k a meet) ∙ ap (λ l. take s l) front ∙ take-take s k b meet in
    sym (take_all (s + g) a in_a) ∙ same_further a b s g front_is group ∙ take_all (s + g) b in_b
