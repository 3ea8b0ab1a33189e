-- Lines, one at a time.
use Rattle.std.proofs.Common.{◌≡◌, ◌≢◌, ℕ, ◌-◌, ◌+◌, ◌≤◌, false, cond, eqb, List, [], ◌∷◌, ◌++◌, length, take, get_or, refl, sym, ◌∙◌, ap, eq-eqb, inl, inr}
use Rattle.std.proofs.Common.{arith}
use Rattle.std.proofs.Math.Seq.{take-length}
use Rattle.std.proofs.lemmas.Bool.{cases_Bool}
use Rattle.std.proofs.lemmas.Bool.Decides.{nat_tests}
use Rattle.std.proofs.lemmas.Grind.{take_at_read}
use Rattle.pool_text.specs.Lines.{without_return}

front_byte : (x y : ℕ) (front : List ℕ) (last : ℕ) → without_return (y ∷ front ++ last ∷ []) ≡ cond (eqb last 13) (y ∷ front) (y ∷ front ++ last ∷ [])
    → without_return (x ∷ y ∷ front ++ last ∷ []) ≡ cond (eqb last 13) (x ∷ y ∷ front) (x ∷ y ∷ front ++ last ∷ [])
front_byte x y front last more =
    elim (cases_Bool (eqb last 13)) [
      | inl is ↦ let front_is = rw is at more in rw is (ap (λ (l : List ℕ). x ∷ l) front_is)
      | inr is ↦ let all_is = rw is at more in rw is (ap (λ (l : List ℕ). x ∷ l) all_is)
    ]

-- only the last byte of a line may be dropped
pub without_return-push : (front : List ℕ) (last : ℕ) → without_return (front ++ last ∷ []) ≡ cond (eqb last 13) front (front ++ last ∷ [])
without_return-push [] last = refl
without_return-push (x ∷ []) last =
    elim (cases_Bool (eqb last 13)) [
      | inl is ↦ rw is refl
      | inr is ↦ rw is refl
    ]
without_return-push (x ∷ y ∷ front) last = front_byte x y front last (without_return-push (y ∷ front) last)

front_and_last : (line : List ℕ) → 1 ≤ length line → take (length line - 1) line ++ get_or line (length line - 1) 0 ∷ [] ≡ line
front_and_last line some =
    let last : length line - 1 + 1 ≡ length line = omega arith in
    sym (take_at_read line (length line - 1) 0 (omega arith)).1 ∙ ap (λ (n : ℕ). take n line) last ∙ take-length line

pub without_return-at_return : (line : List ℕ) → 1 ≤ length line → get_or line (length line - 1) 0 ≡ 13 → take (length line - 1) line ≡ without_return line
without_return-at_return line some is =
    let dropped = without_return-push (take (length line - 1) line) (get_or line (length line - 1) 0) in
    sym (ap (λ (l : List ℕ). without_return l) (sym (front_and_last line some)) ∙ dropped ∙ rw (eq-eqb (get_or line (length line - 1) 0) 13 is) refl)

pub without_return-at_other : (line : List ℕ) → 1 ≤ length line → get_or line (length line - 1) 0 ≢ 13 → line ≡ without_return line
without_return-at_other line some other =
    let kept = without_return-push (take (length line - 1) line) (get_or line (length line - 1) 0) in
    let no : eqb (get_or line (length line - 1) 0) 13 ≡ false = grind (arith, nat_tests) in
    sym (ap (λ (l : List ℕ). without_return l) (sym (front_and_last line some)) ∙ kept ∙ rw no (front_and_last line some))
