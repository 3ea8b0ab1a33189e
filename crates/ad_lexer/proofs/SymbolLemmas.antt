-- The symbol at the front of a text.
use Rattle.std.proofs.Common.{◌≡◌, ◌⊎◌, ℕ, ◌<◌, ◌≤◌, Bool, true, false, cond, eqb, ltb, leb, not, ◌&&◌, ◌||◌, List, [], ◌∷◌, ◌++◌, length, take, slice_index}
use Rattle.std.proofs.Common.{refl, sym, subst, inl, inr, arith}
use Rattle.std.proofs.lemmas.Bool.{and_parts, true≢false}
use Rattle.std.proofs.lemmas.Bool.Decides.{nat_tests}
use Rattle.std.proofs.lemmas.Slice.Eq.{bytes_eq-Decides}
use Rattle.std.specs.Char.{is_ascii_digit}
use Rattle.std.specs.List.{list_all}
use Rattle.std.specs.Str.{bytes_eq}
use Rattle.ad_lexer.specs.Blanks.{is_space}
use Rattle.ad_lexer.specs.Symbols.{symbols, is_symbol}
use Rattle.ad_lexer.specs.Words.{begins_word}
use Rattle.ad_lexer.specs.Reading.{symbol_len}
use Rattle.ad_lexer.proofs.Runs.{any_all}

-- what is so of each row of the table is so of each symbol
pub symbol_passes : (q : List ℕ → Bool) (bytes : List ℕ) → list_all q symbols ≡ true → is_symbol bytes ≡ true → q bytes ≡ true
symbol_passes q bytes each is =
    let row = any_all (bytes_eq bytes) q symbols is each in
    subst (λ (b : List ℕ). q b ≡ true) (sym ((bytes_eq-Decides bytes row.0).0 row.1)) row.2

-- the first byte of a symbol is a symbol
pub symbol_first : (byte : ℕ) (bytes : List ℕ) → is_symbol (byte ∷ bytes) ≡ true → is_symbol (byte ∷ []) ≡ true
symbol_first byte bytes is = symbol_passes (λ b. is_symbol (take 1 b)) (byte ∷ bytes) refl is

pub symbol_short : (bytes : List ℕ) → is_symbol bytes ≡ true → (0 < length bytes) × (length bytes ≤ 3)
symbol_short bytes is =
    let both = and_parts (ltb 0 (length bytes)) (leb (length bytes) 3) (symbol_passes (λ b. ltb 0 (length b) && leb (length b) 3) bytes refl is) in
    (grind (arith, nat_tests), grind (arith, nat_tests))

-- no byte of a symbol is 0
pub symbol_some : (bytes : List ℕ) → is_symbol bytes ≡ true → list_all (λ b. not (eqb b 0)) bytes ≡ true
symbol_some bytes is = symbol_passes (λ b. list_all (λ c. not (eqb c 0)) b) bytes refl is

no_nul_in : (before after : List ℕ) → list_all (λ b. not (eqb b 0)) (before ++ 0 ∷ after) ≡ true → ⊥
no_nul_in [] after each = true≢false (sym each)
no_nul_in (b ∷ before) after each = no_nul_in before after (and_parts (not (eqb b 0)) _ each).1

-- byte 0 stands in no symbol
no_nul : {A : Type 0} (before after : List ℕ) → is_symbol (before ++ 0 ∷ after) ≡ true → A
no_nul before after is = absurd (no_nul_in before after (symbol_some (before ++ 0 ∷ after) is))

-- a symbol begins with no white space, letter, digit, `_` or quote
abbrev pub is_other : ℕ → Bool
is_other byte = not (is_space byte || begins_word byte || is_ascii_digit byte || eqb byte 39 || eqb byte 34)

pub symbol_other : (bytes : List ℕ) → is_symbol bytes ≡ true → is_other (slice_index bytes 0) ≡ true
symbol_other bytes is = symbol_passes (λ b. is_other (slice_index b 0)) bytes refl is

one_at_least : (p q r : Bool) → r ≡ true → 1 ≤ cond p 3 (cond q 2 (cond r 1 0))
one_at_least p q r is = grind (arith, nat_tests)

two_at_least : (p q r : Bool) → q ≡ true → 2 ≤ cond p 3 (cond q 2 (cond r 1 0))
two_at_least p q r is = grind (arith, nat_tests)

three_at_least : (p q r : Bool) → p ≡ true → 3 ≤ cond p 3 (cond q 2 (cond r 1 0))
three_at_least p q r is = grind (arith, nat_tests)

-- a symbol is no longer than the longest that stands there
pub symbol_reaches : (bytes after : List ℕ) → is_symbol bytes ≡ true
    → length bytes ≤ symbol_len (slice_index (bytes ++ after) 0) (slice_index (bytes ++ after) 1) (slice_index (bytes ++ after) 2)
unfolding symbol_len
symbol_reaches [] after is = absurd (true≢false (sym is))
symbol_reaches (a ∷ []) after is = one_at_least _ _ _ is
symbol_reaches (a ∷ b ∷ []) after is = two_at_least _ _ _ is
symbol_reaches (a ∷ b ∷ c ∷ []) after is = three_at_least _ _ _ is
symbol_reaches (a ∷ b ∷ c ∷ d ∷ more) after is = let short = symbol_short (a ∷ b ∷ c ∷ d ∷ more) is in absurd (omega arith)

-- the lengths that the longest symbol can have, with the symbol
lengths : (p q r : Bool) (n : ℕ) → cond p 3 (cond q 2 (cond r 1 0)) ≡ n → 0 < n → ((n ≡ 3) × (p ≡ true)) ⊎ (((n ≡ 2) × (q ≡ true)) ⊎ ((n ≡ 1) × (r ≡ true)))
lengths true q r n is some = inl (sym is, refl)
lengths false true r n is some = inr (inl (sym is, refl))
lengths false false true n is some = inr (inr (sym is, refl))
lengths false false false n is some = absurd (omega arith)

-- the longest symbol that stands there is one
pub symbol_found : (text : List ℕ) (n : ℕ) → 0 < length text → symbol_len (slice_index text 0) (slice_index text 1) (slice_index text 2) ≡ n → 0 < n
    → (is_symbol (take n text) ≡ true) × (n ≤ length text)
unfolding symbol_len
symbol_found [] n some is found = absurd (omega arith)
symbol_found (a ∷ []) n some is found =
    elim (lengths _ _ _ n is found) [
      | inl three ↦ no_nul (a ∷ []) (0 ∷ []) three.1
      | inr (inl two) ↦ no_nul (a ∷ []) [] two.1
      | inr (inr one) ↦ rw one.0 (one.1, omega arith)
    ]
symbol_found (a ∷ b ∷ []) n some is found =
    elim (lengths _ _ _ n is found) [
      | inl three ↦ no_nul (a ∷ b ∷ []) [] three.1
      | inr (inl two) ↦ rw two.0 (two.1, omega arith)
      | inr (inr one) ↦ rw one.0 (one.1, omega arith)
    ]
symbol_found (a ∷ b ∷ c ∷ more) n some is found =
    elim (lengths _ _ _ n is found) [
      | inl three ↦ rw three.0 (three.1, omega arith)
      | inr (inl two) ↦ rw two.0 (two.1, omega arith)
      | inr (inr one) ↦ rw one.0 (one.1, omega arith)
    ]
