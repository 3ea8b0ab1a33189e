-- A run of bytes that pass q, seen a vector at a time by the mask of those that don't.
use Rattle.std.proofs.Common.{◌≡◌, ℕ, ◌+◌, ◌*◌, ◌%◌, ◌^◌, ◌<◌, ◌≤◌, Bool, true, false, not, cond, eqb, List, [], ◌∷◌, map, length, drop, replicate, Fits, w8}
use Rattle.std.proofs.Common.{refl, sym, ap, ap₂, ◌∙◌, arith}
use Rattle.std.proofs.lemmas.Bool.{agree_below, agree_below_at, eq-eqb, ne_eqb}
use Rattle.std.proofs.lemmas.List.{length-map}
use Rattle.std.proofs.lemmas.List.Folds.{prefix_len-append}
use Rattle.std.proofs.lemmas.List.Sums.{prefix_len-le-length}
use Rattle.std.proofs.lemmas.Simd.{chunk-drop, length-chunk, leading_from_mask_l, trailing_mask_l, mask_l-mod}
use Rattle.std.specs.List.{prefix_len}
use lib.Lanes.{chunk, zip2, mask_l, top, Each1}
use lib.Count.{count_trailing_zeros}

-- ---- masks

zip2_map : (h : ℕ → ℕ → ℕ) (f g : ℕ → ℕ) (xs : List ℕ) → zip2 h (map f xs) (map g xs) ≡ map (λ x. h (f x) (g x)) xs
zip2_map h f g [] = refl
zip2_map h f g (x ∷ xs) = ap (λ r. h (f x) (g x) ∷ r) (zip2_map h f g xs)

-- an operation on two vectors that were made lane by lane from v
pub joined : (h : ℕ → ℕ → ℕ) (f g : ℕ → ℕ) (v : List ℕ) {a b : List ℕ} → a ≡ map f v → b ≡ map g v → zip2 h a b ≡ map (λ x. h (f x) (g x)) v
joined h f g v p q = ap₂ (zip2 h) p q ∙ zip2_map h f g v

pub splat_is : (v : List ℕ) (n y : ℕ) → length v ≡ n → replicate n y ≡ map (λ _. y) v
splat_is [] n y e = ap (λ k. replicate k y) (sym e)
splat_is (x ∷ xs) n y e = ap (λ k. replicate k y) (sym e) ∙ ap (λ r. y ∷ r) (splat_is xs (length xs) y refl)

each_byte : (f : ℕ → ℕ) (p : ℕ → Bool) → agree_below (λ x. top 7 (f x)) p 256 ≡ true → (v : List ℕ) → Each1 (Fits w8) v → map (top 7) (map f v) ≡ map p v
each_byte f p all [] fits = refl
each_byte f p all (x ∷ xs) fits = ap₂ (λ a b. a ∷ b) (agree_below_at (λ y. top 7 (f y)) p 256 x all fits.0.fits) (each_byte f p all xs fits.1)

-- lanes whose top bit agrees with p at each byte give its mask
pub masked : (f : ℕ → ℕ) (p : ℕ → Bool) (v z : List ℕ) → length v ≡ 16 → Each1 (Fits w8) v → z ≡ map f v → agree_below (λ x. top 7 (f x)) p 256 ≡ true
    → mask_l (map (top 7) z) % 2 ^ 64 ≡ mask_l (map p v)
masked f p v z long fits is all =
    ap (λ l. mask_l l % 2 ^ 64) (ap (map (top 7)) is ∙ each_byte f p all v fits) ∙ mask_l-mod (map p v) 64 (omega (arith, length-map v p))

-- ---- runs

none_stops : (b : Bool) (n l m : ℕ) → n ≤ l → cond b (1 + n) 0 ≡ 1 + l → (n ≡ l → m ≡ 0) → cond (not b) 1 0 + 2 * m ≡ 0
none_stops true n l m le e ih = let z = ih (omega arith) in omega arith
none_stops false n l m le e ih = absurd (omega arith)

not_not : (b : Bool) → b ≡ not (not b)
not_not true = refl
not_not false = refl

module _ (q : ℕ → Bool) where
  abbrev stop : ℕ → Bool
  stop x = not (q x)

  same_run : (xs : List ℕ) → prefix_len q xs ≡ prefix_len (λ x. not (stop x)) xs
  same_run [] = refl
  same_run (x ∷ xs) = ap₂ (λ b n. cond b (1 + n) 0) (not_not (q x)) (same_run xs)

  all_pass : (xs : List ℕ) → prefix_len q xs ≡ length xs → mask_l (map stop xs) ≡ 0
  all_pass [] e = refl
  all_pass (x ∷ xs) e = none_stops (q x) _ (length xs) _ (prefix_len-le-length q xs) (omega arith) (all_pass xs)

  split : (d : List ℕ) (i : ℕ)
      → prefix_len q (drop i d) ≡ cond (eqb (prefix_len q (chunk i 16 d)) (length (chunk i 16 d))) (length (chunk i 16 d)
      + prefix_len q (drop (i + 16) d)) (prefix_len q (chunk i 16 d))
  split d i = ap (prefix_len q) (chunk-drop i 16 d) ∙ prefix_len-append q (chunk i 16 d) (drop (i + 16) d)

  -- no stop among the next 16 bytes
  pub run_through : (d : List ℕ) (i : ℕ) → i + 16 ≤ length d → mask_l (map stop (chunk i 16 d)) ≡ 0
      → prefix_len q (drop i d) ≡ 16 + prefix_len q (drop (i + 16) d)
  run_through d i room none =
      let c = chunk i 16 d in
      split d i ∙ ap (λ b. cond b (length c + prefix_len q (drop (i + 16) d)) (prefix_len q c)) (eq-eqb _ _ (same_run c ∙ leading_from_mask_l stop c none))
      ∙ ap (λ k. k + prefix_len q (drop (i + 16) d)) (length-chunk i 16 d room)

  -- the first stop among them
  pub run_until : (d : List ℕ) (i : ℕ) → i + 16 ≤ length d → 0 < mask_l (map stop (chunk i 16 d))
      → prefix_len q (drop i d) ≡ count_trailing_zeros 64 (mask_l (map stop (chunk i 16 d)))
  run_until d i room some =
      let c = chunk i 16 d in
      split d i ∙ ap (λ b. cond b (length c + prefix_len q (drop (i + 16) d)) (prefix_len q c)) (ne_eqb
      _ _ (λ (e : prefix_len q c ≡ length c). omega (arith, all_pass c e)))
      ∙ same_run c ∙ sym (trailing_mask_l stop 64 c (omega (arith, length-chunk i 16 d room)) some)
