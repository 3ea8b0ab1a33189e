-- The last item of a list as the first of the list turned round.
use Rattle.std.proofs.Common.{◌≡◌, ℕ, ◌-◌, ◌<◌, List, [], ◌∷◌, ◌++◌, length, reverse, slice_set, slice_get, slice_index_or, Option, Some, None, IfSome, IsSome}
use Rattle.std.proofs.Common.{MutBor, refl, sym, ap, ◌∙◌, arith}
use Rattle.std.proofs.lemmas.List.{reverse-append, reverse-reverse, length-reverse, get_or-reverse}
use Rattle.std.proofs.Math.Seq.{set-append_seam}

nothing-below : 0 < 0 → ⊥
nothing-below some = omega (arith, some)

module _ {T : Type 0} where
  set-turned : (ys : List T) (n : ℕ) (w : T) → n ≡ length ys → reverse (slice_set (reverse ys) (n - 1) w) ≡ slice_set ys 0 w
  set-turned [] n w is = refl
  set-turned (y ∷ ys) n w is =
      let last : n - 1 ≡ length (reverse ys) = omega (arith, is, length-reverse ys) in
      ap (λ xs. reverse (slice_set xs (n - 1) w)) (reverse-append (y ∷ []) ys)
      ∙ ap (λ k. reverse (slice_set (reverse ys ++ y ∷ []) k w)) last
      ∙ ap reverse (set-append_seam (reverse ys) y [] w)
      ∙ reverse-append (reverse ys) (w ∷ [])
      ∙ ap (λ xs. w ∷ xs) (reverse-reverse ys)

  pub last-set : (xs : List T) (n : ℕ) (w : T) → n ≡ length xs → reverse (slice_set xs (n - 1) w) ≡ slice_set (reverse xs) 0 w
  last-set xs n w is =
      ap (λ ys. reverse (slice_set ys (n - 1) w)) (sym (reverse-reverse xs)) ∙ set-turned (reverse xs) n w (is ∙ sym (length-reverse xs))

  first-is : (ys : List T) (x : T) → 0 < length ys → slice_index_or ys 0 x ≡ x → slice_get ys 0 ≡ Some x
  first-is [] x some is = absurd (nothing-below some)
  first-is (y ∷ ys) x some is = ap Some is

  pub last-first : (xs : List T) (n : ℕ) (last : Option (MutBor T)) → n ≡ length xs → (IsSome last → 0 < n)
      → IfSome last (λ x. x.now ≡ slice_index_or xs (n - 1) x.now) → IfSome last (λ x. slice_get (reverse xs) 0 ≡ Some x.now)
  last-first xs n (Some x) len some is =
      let within : 0 < length xs = omega (arith, some refl, len) in
      let place : length xs - 1 - 0 ≡ n - 1 = omega (arith, len) in
      first-is (reverse xs) x.now (omega (arith, within, length-reverse xs))
      (get_or-reverse xs 0 x.now within ∙ ap (λ k. slice_index_or xs k x.now) place ∙ sym is)
  last-first xs n None len some is = tt

  pub last-none : (xs : List T) (n : ℕ) (last : Option (MutBor T)) → n ≡ length xs → (0 < n → IsSome last) → last ≡ None → reverse xs ≡ []
  last-none [] n last len some none = refl
  last-none (x ∷ xs) n (Some y) len some none = absurd cc
  last-none (x ∷ xs) n None len some none =
      let no : IsSome {T = MutBor T} None = some (omega (arith, len)) in
      absurd cc

  -- a list with its first item, and with another in its place
  pub first-changed : (xs : List T) {x : T} (y : T) → slice_get xs 0 ≡ Some x → (rest : List T) × (xs ≡ x ∷ rest) × (slice_set xs 0 y ≡ y ∷ rest)
  first-changed [] y first = absurd cc
  first-changed (other ∷ rest) {x} y first =
      let same : other ≡ x = cc in
      (rest, ap (λ z. z ∷ rest) same, refl)
