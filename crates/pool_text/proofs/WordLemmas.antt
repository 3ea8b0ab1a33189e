-- The word that a text begins with, and what stands behind it.
use Rattle.std.proofs.Common.{◌≡◌, ℕ, ◌-◌, ◌≤◌, List, [], ◌∷◌, ◌++◌, length, take, refl, sym, ◌∙◌, ap, inl, inr, arith, length-append}
use Rattle.std.proofs.Math.Seq.{take-append_seam}
use Rattle.std.proofs.lemmas.Bool.{cases_Bool}
use Rattle.pool_text.specs.Words.{is_blank, past_word, word_of}

-- the word and what follows it are the bytes
pub word_of-past_word : (bytes : List ℕ) → word_of bytes ++ past_word bytes ≡ bytes
word_of-past_word [] = refl
word_of-past_word (byte ∷ bytes) =
    elim (cases_Bool (is_blank byte)) [
      | inl is ↦ rw is refl
      | inr is ↦ rw is (ap (λ (rest : List ℕ). byte ∷ rest) (word_of-past_word bytes))
    ]

pub past_word-le : (bytes : List ℕ) → length (past_word bytes) ≤ length bytes
past_word-le bytes = let whole = ap length (word_of-past_word bytes) in omega (arith, simp length-append at whole)

-- the word is the bytes before those that follow it
pub take-word_of : (bytes : List ℕ) → take (length bytes - length (past_word bytes)) bytes ≡ word_of bytes
take-word_of bytes =
    let front : length bytes - length (past_word bytes) ≡ length (word_of bytes) = omega (arith, simp length-append at (ap length (word_of-past_word bytes))) in
    ap (λ (n : ℕ). take n bytes) front ∙ ap (λ (b : List ℕ). take (length (word_of bytes)) b) (sym (word_of-past_word bytes))
    ∙ take-append_seam (word_of bytes) (past_word bytes)
