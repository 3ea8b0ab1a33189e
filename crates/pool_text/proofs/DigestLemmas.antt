-- Digests of names, word by word.
use Rattle.std.proofs.Common.{refl, arith, ◌≡◌, ◌≤◌, ◌<◌, ℕ, ◌+◌, ◌-◌, ◌*◌, ◌%◌, ◌^◌}
use Rattle.std.proofs.Common.{List, [], ◌∷◌, length, take, drop, get_or, cond, nat_lt, ap, sym, ◌∙◌}
use Rattle.std.proofs.Common.{inl, inr, map, mod-lt, subst}
use Rattle.std.specs.Char.{to_ascii_lowercase}
use Rattle.std.specs.Int.{w32, w64, from_be_bytes}
use Rattle.std.proofs.lemmas.Bool.{cases_lt, le-ltb}
use Rattle.std.proofs.lemmas.List.{take_all}
use Rattle.pool_text.specs.Folding.{folded}
use Rattle.pool_text.proofs.FoldingLemmas.{small_or}
use Rattle.pool_text.specs.Digests.{letter, word_from, stirred, digest_from}

-- a letter and the small one are the same with the bit in which they differ
large : (x : ℕ) → 256 ≤ x → to_ascii_lowercase x ≡ x
large x h =
    ap (λ t. cond t x (cond (nat_lt x 91) (x + 32) x)) (le-ltb x 65 (omega (arith, h)))
    ∙ ap (λ t. cond t (x + 32) x) (le-ltb x 91 (omega (arith, h)))

letter-small : (x : ℕ) → letter x ≡ letter (to_ascii_lowercase x)
letter-small x = elim (cases_lt x 256) [
  | inl small ↦ small_or x small
  | inr other ↦ ap letter (sym (large x other))
]

-- one letter more of a word
pub word-more : (w : ℕ) (bytes : List ℕ) → 1 ≤ length bytes
    → word_from (((w * 256) % (2 ^ 64) + letter (get_or bytes 0 0)) % (2 ^ 64)) (folded (take (length bytes - 1) (drop 1 bytes))) ≡ word_from w (folded bytes)
word-more w [] h = absurd (omega (arith, h))
word-more w (b ∷ bytes) h =
    let all : take (length (b ∷ bytes) - 1) bytes ≡ bytes = take_all _ bytes (omega arith) in
    rw (all, letter-small b) refl

-- four letters more, of a word that none stand before
joined : (p q r s : ℕ) → from_be_bytes w32 (p ∷ q ∷ r ∷ s ∷ []) < 2 ^ 32
    → from_be_bytes w32 (p ∷ q ∷ r ∷ s ∷ [])
    ≡ (((((((0 * 256) % (2 ^ 64) + p) % (2 ^ 64) * 256) % (2 ^ 64) + q) % (2 ^ 64) * 256) % (2 ^ 64) + r) % (2 ^ 64) * 256 % (2 ^ 64) + s) % (2 ^ 64)
joined p q r s fits = omega arith

pub word-half : (bytes : List ℕ) → 4 ≤ length bytes → from_be_bytes w32 (map letter (take 4 bytes)) < 2 ^ 32
    → word_from (from_be_bytes w32 (map letter (take 4 bytes))) (folded (take (length bytes - 4) (drop 4 bytes))) ≡ word_from 0 (folded bytes)
word-half [] few fits = absurd (omega (arith, few))
word-half (a ∷ []) few fits = absurd (omega (arith, few))
word-half (a ∷ b ∷ []) few fits = absurd (omega (arith, few))
word-half (a ∷ b ∷ c ∷ []) few fits = absurd (omega (arith, few))
word-half (a ∷ b ∷ c ∷ d ∷ bytes) few fits =
    let all : take (length (a ∷ b ∷ c ∷ d ∷ bytes) - 4) bytes ≡ bytes = take_all _ bytes (omega arith) in
    let small : map letter (a ∷ b ∷ c ∷ d ∷ []) ≡ map letter (folded (a ∷ b ∷ c ∷ d ∷ [])) =
    rw (letter-small a, letter-small b, letter-small c, letter-small d) refl in
    let fits_small = subst (λ (ls : List ℕ). from_be_bytes w32 ls < 2 ^ 32) small fits in
    ap (λ (bs : List ℕ). word_from (from_be_bytes w32 (map letter (a ∷ b ∷ c ∷ d ∷ []))) (folded bs)) all
    ∙ ap (λ (ls : List ℕ). word_from (from_be_bytes w32 ls) (folded bytes)) small
    ∙ ap (λ (w : ℕ). word_from w (folded bytes))
    (joined (letter (to_ascii_lowercase a)) (letter (to_ascii_lowercase b)) (letter (to_ascii_lowercase c)) (letter (to_ascii_lowercase d)) fits_small)

-- one word more of a digest
pub digest-more : (h : ℕ) (bytes : List ℕ) → 8 ≤ length bytes
    → digest_from (stirred h (from_be_bytes w64 (map letter (take 8 bytes)))) (folded (take (length bytes - 8) (drop 8 bytes)))
    ≡ digest_from h (folded bytes)
unfolding digest_from
digest-more h [] few = absurd (omega (arith, few))
digest-more h (a ∷ []) few = absurd (omega (arith, few))
digest-more h (a ∷ b ∷ []) few = absurd (omega (arith, few))
digest-more h (a ∷ b ∷ c ∷ []) few = absurd (omega (arith, few))
digest-more h (a ∷ b ∷ c ∷ d ∷ []) few = absurd (omega (arith, few))
digest-more h (a ∷ b ∷ c ∷ d ∷ e ∷ []) few = absurd (omega (arith, few))
digest-more h (a ∷ b ∷ c ∷ d ∷ e ∷ f ∷ []) few = absurd (omega (arith, few))
digest-more h (a ∷ b ∷ c ∷ d ∷ e ∷ f ∷ g ∷ []) few = absurd (omega (arith, few))
digest-more h (a ∷ b ∷ c ∷ d ∷ e ∷ f ∷ g ∷ i ∷ bytes) few =
    let all : take (length (a ∷ b ∷ c ∷ d ∷ e ∷ f ∷ g ∷ i ∷ bytes) - 8) bytes ≡ bytes = take_all _ bytes (omega arith) in
    rw (all, letter-small a, letter-small b, letter-small c, letter-small d, letter-small e, letter-small f, letter-small g, letter-small i) refl

-- the last word of a digest
pub digest-end : (h : ℕ) (bytes : List ℕ) → length bytes < 8 → stirred h (word_from 0 (folded bytes)) ≡ digest_from h (folded bytes)
unfolding digest_from
digest-end h [] few = refl
digest-end h (a ∷ []) few = refl
digest-end h (a ∷ b ∷ []) few = refl
digest-end h (a ∷ b ∷ c ∷ []) few = refl
digest-end h (a ∷ b ∷ c ∷ d ∷ []) few = refl
digest-end h (a ∷ b ∷ c ∷ d ∷ e ∷ []) few = refl
digest-end h (a ∷ b ∷ c ∷ d ∷ e ∷ f ∷ []) few = refl
digest-end h (a ∷ b ∷ c ∷ d ∷ e ∷ f ∷ g ∷ []) few = refl
digest-end h (a ∷ b ∷ c ∷ d ∷ e ∷ f ∷ g ∷ i ∷ bytes) few = absurd (omega (arith, few))

-- a digest is a number of 64 bits
stirred-small : (h w : ℕ) → stirred h w < 2 ^ 64
stirred-small h w = mod-lt _ (omega arith)

pub digest_from-small : (bytes : List ℕ) (h : ℕ) → digest_from h bytes < 2 ^ 64
unfolding digest_from
digest_from-small [] h = stirred-small h _
digest_from-small (a ∷ []) h = stirred-small h _
digest_from-small (a ∷ b ∷ []) h = stirred-small h _
digest_from-small (a ∷ b ∷ c ∷ []) h = stirred-small h _
digest_from-small (a ∷ b ∷ c ∷ d ∷ []) h = stirred-small h _
digest_from-small (a ∷ b ∷ c ∷ d ∷ e ∷ []) h = stirred-small h _
digest_from-small (a ∷ b ∷ c ∷ d ∷ e ∷ f ∷ []) h = stirred-small h _
digest_from-small (a ∷ b ∷ c ∷ d ∷ e ∷ f ∷ g ∷ []) h = stirred-small h _
digest_from-small (a ∷ b ∷ c ∷ d ∷ e ∷ f ∷ g ∷ i ∷ bytes) h = digest_from-small bytes _
