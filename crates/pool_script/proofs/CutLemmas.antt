-- Lines at a line feed, of bytes with no line feed before it.
use Rattle.std.proofs.Common.{◌≡◌, ℕ, zero, suc, ◌-◌, ◌+◌, ◌≤◌, ◌<◌, Bool, true, false, eqb, List, [], ◌∷◌, ◌++◌, length, take, drop, get_or, refl, sym, ◌∙◌}
use Rattle.std.proofs.Common.{ap, None, Some, inl, inr, arith, add-one, append_assoc, drop-cons}
use Rattle.std.proofs.Math.Seq.{take-length}
use Rattle.std.proofs.lemmas.Bool.{cases_Bool, eqb-true}
use Rattle.std.proofs.lemmas.List.{length-drop, take-append-drop, take_all}
use Rattle.std.proofs.lemmas.Grind.{take_at_read}
use Rattle.memchr.specs.Find.{IsFirstByte, is_byte}
use Rattle.pool_text.specs.Lines.{ended, last_line, onto, rest_behind, rest_of, whole, with_feeds}
use Rattle.pool_text.proofs.LineLemmas.{ended-append, ended_onto, rest_onto, with_feeds-ended}
use Rattle.pool_script.specs.Commands.{lines_of}
use Rattle.pool_script.specs.Cuts.{CutsAtFeed}

onto_none : (x : ℕ) (lines : List (List ℕ)) → onto x lines ≡ [] → lines ≡ []
onto_none x [] none = refl
onto_none x (line ∷ lines) none = cc

-- the first byte is no line feed, and neither is any other
pub none_step : (x : ℕ) (bytes : List ℕ) → ended (x ∷ bytes) ≡ [] → (eqb x 10 ≡ false) × (ended bytes ≡ [])
none_step x bytes none =
    elim (cases_Bool (eqb x 10)) [
      | inl is ↦ let some : [] ∷ ended bytes ≡ [] = rw is at none in cc
      | inr is ↦ (is, onto_none x (ended bytes) (sym (ended_onto x bytes is) ∙ none))
    ]

pub none_more : (x : ℕ) (bytes : List ℕ) → eqb x 10 ≡ false → ended bytes ≡ [] → ended (x ∷ bytes) ≡ []
none_more x bytes is none = ended_onto x bytes is ∙ ap (λ (lines : List (List ℕ)). onto x lines) none

pub ended_none-append : (a b : List ℕ) → ended a ≡ [] → ended b ≡ [] → ended (a ++ b) ≡ []
ended_none-append [] b of_a of_b = of_b
ended_none-append (x ∷ a) b of_a of_b = let first = none_step x a of_a in none_more x (a ++ b) first.0 (ended_none-append a b first.1 of_b)

nil_front : (a b : List (List ℕ)) → a ++ b ≡ [] → a ≡ []
nil_front [] b none = refl
nil_front (x ∷ a) b none = cc

pub ended_none-front : (a b : List ℕ) → ended (a ++ b) ≡ [] → ended a ≡ []
ended_none-front a b none = nil_front (ended a) (ended (rest_of a ++ b)) (sym (ended-append a b) ∙ none)

pub ended_none-take : (n : ℕ) (a : List ℕ) → ended a ≡ [] → ended (take n a) ≡ []
ended_none-take n a none = ended_none-front (take n a) (drop n a) (ap (λ (l : List ℕ). ended l) (take-append-drop n a) ∙ none)

pub rest_of-none : (a : List ℕ) → ended a ≡ [] → rest_of a ≡ a
rest_of-none a none = ap (λ (lines : List (List ℕ)). with_feeds lines ++ rest_of a) (sym none) ∙ with_feeds-ended a

pub whole_none : (line : List ℕ) → ended line ≡ [] → 0 < length line → whole line ≡ line ∷ []
whole_none [] none some = absurd (omega arith)
whole_none (x ∷ line) none some = rw (none, rest_of-none (x ∷ line) none) refl

pub ended_feed : (line more : List ℕ) → ended line ≡ [] → ended (line ++ 10 ∷ more) ≡ line ∷ ended more
ended_feed [] more none = refl
ended_feed (x ∷ line) more none =
    let first = none_step x line none in
    ended_onto x (line ++ 10 ∷ more) first.0 ∙ ap (λ (lines : List (List ℕ)). onto x lines) (ended_feed line more first.1)

pub rest_feed : (line more : List ℕ) → ended line ≡ [] → rest_of (line ++ 10 ∷ more) ≡ rest_of more
rest_feed [] more none = refl
rest_feed (x ∷ line) more none =
    let first = none_step x line none in
    rest_onto x (line ++ 10 ∷ more) first.0 ∙ ap (λ (lines : List (List ℕ)). rest_behind lines x (rest_of (line ++ 10 ∷ more))) (ended_feed line more first.1)
    ∙ rest_feed line more first.1

-- a line that has ended is the first of the lines
pub lines_feed : (over : Bool) (line more : List ℕ) → ended line ≡ [] → lines_of over (line ++ 10 ∷ more) ≡ line ∷ lines_of over more
lines_feed false line more none = ended_feed line more none
lines_feed true line more none =
    ap (λ (lines : List (List ℕ)). lines ++ last_line (rest_of (line ++ 10 ∷ more))) (ended_feed line more none)
    ∙ ap (λ (rest : List ℕ). (line ∷ ended more) ++ last_line rest) (rest_feed line more none)

-- lines of which none holds a line feed
abbrev pub AreLines : List (List ℕ) → Type 0
AreLines [] = Unit {0}
AreLines (line ∷ lines) = (ended line ≡ []) × AreLines lines

lines_onto : (x : ℕ) (lines : List (List ℕ)) → eqb x 10 ≡ false → AreLines lines → AreLines (onto x lines)
lines_onto x [] is are = tt
lines_onto x (line ∷ lines) is are = (none_more x line is are.0, are.1)

pub are_lines : (bytes : List ℕ) → AreLines (ended bytes)
are_lines [] = tt
are_lines (x ∷ bytes) =
    elim (cases_Bool (eqb x 10)) [
      | inl is ↦ rw is (refl, are_lines bytes)
      | inr is ↦ rw is (lines_onto x (ended bytes) is (are_lines bytes))
    ]

-- lines that have ended are the first of the lines
pub lines_feeds : (over : Bool) (lines : List (List ℕ)) (more : List ℕ) → AreLines lines
    → lines_of over (with_feeds lines ++ more) ≡ lines ++ lines_of over more
lines_feeds over [] more are = refl
lines_feeds over (line ∷ lines) more are =
    ap (λ (bytes : List ℕ). lines_of over bytes) (append_assoc (line ++ 10 ∷ []) (with_feeds lines) more
    ∙ append_assoc line (10 ∷ []) (with_feeds lines ++ more)) ∙ lines_feed over line (with_feeds lines ++ more) are.0
    ∙ ap (λ (rest : List (List ℕ)). line ∷ rest) (lines_feeds over lines more are.1)

no_feed_at : (bytes : List ℕ) (k : ℕ) → ¬ (eqb (get_or bytes k 0) 10 ≡ true) → eqb (get_or bytes k 0) 10 ≡ false
no_feed_at bytes k other =
    elim (cases_Bool (eqb (get_or bytes k 0) 10)) [
      | inl is ↦ absurd (other is)
      | inr is ↦ is
    ]

-- bytes before the first line feed end no line
pub ended_none-before : (bytes : List ℕ) (n : ℕ) → n ≤ length bytes → ((k : ℕ) → k < n → eqb (get_or bytes k 0) 10 ≡ false) → ended (take n bytes) ≡ []
ended_none-before bytes zero fits before = refl
ended_none-before [] (suc n) fits before = refl
ended_none-before (x ∷ bytes) (suc n) fits before =
    none_more x (take n bytes) (before 0 (omega arith)) (ended_none-before bytes n (omega arith) (λ k below. before (suc k) (omega arith)))

-- bytes without a line feed end no line
pub ended_none-nowhere : (bytes : List ℕ) → IsFirstByte (is_byte 10) bytes None → ended bytes ≡ []
ended_none-nowhere bytes nowhere =
    ap (λ (l : List ℕ). ended l) (sym (take-length bytes))
    ∙ ended_none-before bytes (length bytes) (omega arith) (λ k below. no_feed_at bytes k (nowhere k (omega arith) below))

-- bytes with a line feed are cut at the first one
pub cuts_at_first : (bytes : List ℕ) (n : ℕ) → IsFirstByte (is_byte 10) bytes (Some n)
    → CutsAtFeed bytes (take n bytes) (take (n + 1) bytes) (drop (n + 1) bytes)
cuts_at_first bytes n first =
    let below : n < length bytes = first.0.high in
    let feed : get_or bytes n 0 ≡ 10 = eqb-true (get_or bytes n 0) 10 first.1 in
    record {
      one_line = ended_none-before bytes n (omega arith) (λ k before. no_feed_at bytes k (first.0.before k (omega arith) before));
      feed = (take_at_read bytes n 0 below).1 ∙ ap (λ (x : ℕ). take n bytes ++ x ∷ []) feed;
      parts =
          ap (λ (x : ℕ). take n bytes ++ x ∷ drop (n + 1) bytes) (sym feed) ∙ ap (λ (m : ℕ). take n bytes ++ get_or bytes n 0 ∷ drop m bytes) (add-one n)
          ∙ ap (λ (rest : List ℕ). take n bytes ++ rest) (sym (drop-cons bytes n 0 below)) ∙ take-append-drop n bytes;
    }

rest_is : (bytes : List ℕ) (n : ℕ) → take (length bytes - n) (drop n bytes) ≡ drop n bytes
rest_is bytes n = take_all (length bytes - n) (drop n bytes) (omega (arith, length-drop n bytes))

pub cuts_at_place : (bytes : List ℕ) (n : ℕ) → IsFirstByte (is_byte 10) bytes (Some n)
    → CutsAtFeed bytes (take n bytes) (take (n + 1) bytes) (take (length bytes - (n + 1)) (drop (n + 1) bytes))
cuts_at_place bytes n first = rw (rest_is bytes (n + 1)) (cuts_at_first bytes n first)
