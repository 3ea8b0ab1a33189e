-- Bytes that stand between quotes as they are.
use Rattle.std.proofs.Common.{◌≡◌, ℕ, suc, ◌-◌, ◌≤◌, length, slice_index, append_assoc, take_all, true, false, eqb, ltb, ◌||◌, List, []}
use Rattle.std.proofs.Common.{◌∷◌, ◌++◌, map, take, drop, refl, sym, ◌∙◌, ap, inl, inr, arith}
use Rattle.std.proofs.lemmas.Bool.{cases_Bool, or_parts, not-true}
use Rattle.std.proofs.lemmas.Bool.Decides.{nat_tests}
use Rattle.std.specs.List.{prefix_len}
use Rattle.ad_lexer.specs.Quoted.{plain, spelling, spellings}
use Rattle.ad_printer.specs.Quotes.{letter_for}
use Rattle.ad_printer.specs.Writing.{stands_plain}

letter_plain : (quote byte : ℕ) → stands_plain quote byte ≡ true → letter_for quote byte ≡ plain byte
unfolding letter_for
letter_plain quote byte is =
    let parts = or_parts (eqb byte quote || eqb byte 92 || ltb byte 32) (eqb byte 127) (not-true _ is) in
    let more = or_parts (eqb byte quote || eqb byte 92) (ltb byte 32) parts.0 in
    let back : eqb byte 8 ≡ false = grind (arith, nat_tests) in
    let tab : eqb byte 9 ≡ false = grind (arith, nat_tests) in
    let feed : eqb byte 10 ≡ false = grind (arith, nat_tests) in
    let form : eqb byte 12 ≡ false = grind (arith, nat_tests) in
    let ret : eqb byte 13 ≡ false = grind (arith, nat_tests) in
    rw (more.0, back, tab, feed, form, ret, more.1, parts.1) refl

-- the letters of a text: those of the bytes at its front that stand as they are are these bytes
pub plain_front : (quote : ℕ) (bytes : List ℕ)
    → spellings (map (letter_for quote) bytes) ≡ take (prefix_len (stands_plain quote) bytes) bytes ++ spellings (map (letter_for quote)
    (drop (prefix_len (stands_plain quote) bytes) bytes))
plain_front quote [] = refl
plain_front quote (byte ∷ bytes) =
    elim (cases_Bool (stands_plain quote byte)) [
      | inl is ↦
          let n : ℕ = prefix_len (stands_plain quote) bytes in
          let one_more : prefix_len (stands_plain quote) (byte ∷ bytes) ≡ suc n = rw is (omega arith) in
          ap (λ letter. spelling letter ++ spellings (map (letter_for quote) bytes)) (letter_plain quote byte is)
          ∙ ap (λ (l : List ℕ). byte ∷ l) (plain_front quote bytes)
          ∙ ap (λ (k : ℕ). take k (byte ∷ bytes) ++ spellings (map (letter_for quote) (drop k (byte ∷ bytes)))) (sym one_more)
      | inr isnt ↦ rw isnt refl
    ]

-- one turn: the bytes at the front as they are
pub front_turn : (quote n : ℕ) (rest front back out middle start : List ℕ) → front ≡ take n rest → back ≡ drop n rest
    → n ≡ prefix_len (stands_plain quote) rest → middle ≡ out ++ front
    → out ++ spellings (map (letter_for quote) rest) ≡ start → middle ++ spellings (map (letter_for quote) back) ≡ start
front_turn quote n rest front back out middle start front_is back_is n_is is left =
    let letters : List ℕ → List ℕ = λ bytes. spellings (map (letter_for quote) bytes) in
    ap (λ (t : List ℕ). t ++ letters back) (is ∙ ap (λ (t : List ℕ). out ++ t) front_is)
    ∙ ap (λ (t : List ℕ). (out ++ take n rest) ++ letters t) back_is
    ∙ append_assoc out (take n rest) (letters (drop n rest))
    ∙ ap (λ (k : ℕ). out ++ (take k rest ++ letters (drop k rest))) n_is
    ∙ ap (λ (t : List ℕ). out ++ t) (sym (plain_front quote rest)) ∙ left

-- and the letter of the byte behind them
pub letter_turn : (quote : ℕ) (back middle new start : List ℕ) → 1 ≤ length back → new ≡ middle ++ spelling (letter_for quote (slice_index back 0))
    → middle ++ spellings (map (letter_for quote) back) ≡ start
    → new ++ spellings (map (letter_for quote) (take (length back - 1) (drop 1 back))) ≡ start
letter_turn quote [] middle new start some is left = absurd (omega arith)
letter_turn quote (byte ∷ bytes) middle new start some is left =
    let all : take (length (byte ∷ bytes) - 1) bytes ≡ bytes = take_all (length (byte ∷ bytes) - 1) bytes (omega arith) in
    ap (λ (t : List ℕ). new ++ spellings (map (letter_for quote) t)) all
    ∙ ap (λ (t : List ℕ). t ++ spellings (map (letter_for quote) bytes)) is
    ∙ append_assoc middle (spelling (letter_for quote byte)) (spellings (map (letter_for quote) bytes)) ∙ left
