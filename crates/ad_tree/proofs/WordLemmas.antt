-- The words that a name feeds a hasher, as they are read off it.
use Rattle.std.proofs.Common.{refl, arith, ◌≡◌, ◌≤◌, ◌<◌, ℕ, ◌+◌, ◌-◌, ◌*◌, ◌^◌, List, []}
use Rattle.std.proofs.Common.{◌∷◌, length, take, drop, get_or, cond, nat_lt, ap, sym, ◌∙◌, inl, inr, map}
use Rattle.std.specs.Char.{to_ascii_lowercase}
use Rattle.std.specs.Int.{w16, w32, w64, from_be_bytes}
use Rattle.std.proofs.lemmas.Bool.{cases_lt, le-ltb}
use Rattle.std.proofs.lemmas.List.{take_all}
use Rattle.pool_text.specs.Digests.{letter}
use Rattle.pool_text.specs.Folding.{folded}
use Rattle.pool_text.proofs.FoldingLemmas.{small_or}
use Rattle.ad_tree.specs.Words.{last_word, words}

-- a letter and the small one are the same with the bit in which they differ
large : (x : ℕ) → 256 ≤ x → to_ascii_lowercase x ≡ x
large x h =
    ap (λ t. cond t x (cond (nat_lt x 91) (x + 32) x)) (le-ltb x 65 (omega (arith, h)))
    ∙ ap (λ t. cond t (x + 32) x) (le-ltb x 91 (omega (arith, h)))

letter-small : (x : ℕ) → letter x ≡ letter (to_ascii_lowercase x)
letter-small x = elim (cases_lt x 256) [
  | inl small ↦ small_or x small
  | inr other ↦ ap letter (sym (large x other))
]

-- so names that are equal have the same letters
pub letters-folded : (bytes : List ℕ) → map letter bytes ≡ map letter (folded bytes)
letters-folded [] = refl
letters-folded (b ∷ bytes) = rw (letter-small b, letters-folded bytes) refl

-- four to seven letters are read by halves
pub halves : (bytes : List ℕ) → 4 ≤ length bytes → length bytes < 8
    → from_be_bytes w32 (map letter (take 4 bytes)) * 2 ^ 32
    + from_be_bytes w32 (map letter (take 4 (take (length bytes - (length bytes - 4)) (drop (length bytes - 4) bytes)))) ≡ last_word (map letter bytes)
unfolding last_word
halves [] some few = absurd (omega (arith, some))
halves (a ∷ []) some few = absurd (omega (arith, some))
halves (a ∷ b ∷ []) some few = absurd (omega (arith, some))
halves (a ∷ b ∷ c ∷ []) some few = absurd (omega (arith, some))
halves (a ∷ b ∷ c ∷ d ∷ []) some few = refl
halves (a ∷ b ∷ c ∷ d ∷ e ∷ []) some few = refl
halves (a ∷ b ∷ c ∷ d ∷ e ∷ f ∷ []) some few = refl
halves (a ∷ b ∷ c ∷ d ∷ e ∷ f ∷ g ∷ []) some few = refl
halves (a ∷ b ∷ c ∷ d ∷ e ∷ f ∷ g ∷ h ∷ bytes) some few = absurd (omega (arith, few))

-- and fewer one by one
pub none : (bytes : List ℕ) → length bytes < 1 → 0 ≡ last_word (map letter bytes)
unfolding last_word
none [] few = refl
none (a ∷ bytes) few = absurd (omega (arith, few))

pub one : (bytes : List ℕ) → 1 ≤ length bytes → length bytes < 2 → letter (get_or bytes 0 0) ≡ last_word (map letter bytes)
unfolding last_word
one [] some few = absurd (omega (arith, some))
one (a ∷ []) some few = refl
one (a ∷ b ∷ bytes) some few = absurd (omega (arith, few))

pub two : (bytes : List ℕ) → 2 ≤ length bytes → length bytes < 3
    → from_be_bytes w16 (letter (get_or bytes 0 0) ∷ letter (get_or bytes 1 0) ∷ []) ≡ last_word (map letter bytes)
unfolding last_word
two [] some few = absurd (omega (arith, some))
two (a ∷ []) some few = absurd (omega (arith, some))
two (a ∷ b ∷ []) some few = refl
two (a ∷ b ∷ c ∷ bytes) some few = absurd (omega (arith, few))

pub three : (bytes : List ℕ) → 3 ≤ length bytes → length bytes < 4
    → from_be_bytes w32 (0 ∷ letter (get_or bytes 0 0) ∷ letter (get_or bytes 1 0) ∷ letter (get_or bytes 2 0) ∷ []) ≡ last_word (map letter bytes)
unfolding last_word
three [] some few = absurd (omega (arith, some))
three (a ∷ []) some few = absurd (omega (arith, some))
three (a ∷ b ∷ []) some few = absurd (omega (arith, some))
three (a ∷ b ∷ c ∷ []) some few = refl
three (a ∷ b ∷ c ∷ d ∷ bytes) some few = absurd (omega (arith, few))

-- eight letters are one word
pub words-more : (bytes : List ℕ) → 8 ≤ length bytes
    → from_be_bytes w64 (map letter (take 8 bytes)) ∷ words (map letter (take (length bytes - 8) (drop 8 bytes))) ≡ words (map letter bytes)
unfolding words
words-more [] few = absurd (omega (arith, few))
words-more (a ∷ []) few = absurd (omega (arith, few))
words-more (a ∷ b ∷ []) few = absurd (omega (arith, few))
words-more (a ∷ b ∷ c ∷ []) few = absurd (omega (arith, few))
words-more (a ∷ b ∷ c ∷ d ∷ []) few = absurd (omega (arith, few))
words-more (a ∷ b ∷ c ∷ d ∷ e ∷ []) few = absurd (omega (arith, few))
words-more (a ∷ b ∷ c ∷ d ∷ e ∷ f ∷ []) few = absurd (omega (arith, few))
words-more (a ∷ b ∷ c ∷ d ∷ e ∷ f ∷ g ∷ []) few = absurd (omega (arith, few))
words-more (a ∷ b ∷ c ∷ d ∷ e ∷ f ∷ g ∷ h ∷ bytes) few =
    let all : take (length (a ∷ b ∷ c ∷ d ∷ e ∷ f ∷ g ∷ h ∷ bytes) - 8) bytes ≡ bytes = take_all _ bytes (omega arith) in
    ap (λ (ls : List ℕ). from_be_bytes w64 (map letter (a ∷ b ∷ c ∷ d ∷ e ∷ f ∷ g ∷ h ∷ [])) ∷ words (map letter ls)) all

pub words-last : (bytes : List ℕ) → length bytes < 8 → last_word (map letter bytes) ∷ [] ≡ words (map letter bytes)
unfolding words
words-last [] few = refl
words-last (a ∷ []) few = refl
words-last (a ∷ b ∷ []) few = refl
words-last (a ∷ b ∷ c ∷ []) few = refl
words-last (a ∷ b ∷ c ∷ d ∷ []) few = refl
words-last (a ∷ b ∷ c ∷ d ∷ e ∷ []) few = refl
words-last (a ∷ b ∷ c ∷ d ∷ e ∷ f ∷ []) few = refl
words-last (a ∷ b ∷ c ∷ d ∷ e ∷ f ∷ g ∷ []) few = refl
words-last (a ∷ b ∷ c ∷ d ∷ e ∷ f ∷ g ∷ h ∷ bytes) few = absurd (omega (arith, few))
