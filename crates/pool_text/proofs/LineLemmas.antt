-- Lines of pieces that are put together.
use Rattle.std.proofs.Common.{◌≡◌, ◌≢◌, All, ℕ, true, false, eqb, List, [], ◌∷◌, ◌++◌, refl, sym, ◌∙◌, ap, inl, inr, arith}
use Rattle.std.proofs.lemmas.Bool.{cases_Bool}
use Rattle.std.proofs.lemmas.List.Elements.{All-cons, All-head, All-nil, All-tail}
use Rattle.std.proofs.lemmas.Bool.Decides.{nat_tests}
use Rattle.pool_text.specs.Lines.{ended, onto, rest_behind, rest_of, with_feeds}

ended_at : (x : ℕ) (xs : List ℕ) → eqb x 10 ≡ true → ended (x ∷ xs) ≡ [] ∷ ended xs
ended_at x xs is = rw is refl

pub ended_onto : (x : ℕ) (xs : List ℕ) → eqb x 10 ≡ false → ended (x ∷ xs) ≡ onto x (ended xs)
ended_onto x xs is = rw is refl

rest_at : (x : ℕ) (xs : List ℕ) → eqb x 10 ≡ true → rest_of (x ∷ xs) ≡ rest_of xs
rest_at x xs is = rw is refl

pub rest_onto : (x : ℕ) (xs : List ℕ) → eqb x 10 ≡ false → rest_of (x ∷ xs) ≡ rest_behind (ended xs) x (rest_of xs)
rest_onto x xs is = rw is refl

ended_step : (x : ℕ) (e : List (List ℕ)) (r c : List ℕ) → eqb x 10 ≡ false → onto x (e ++ ended (r ++ c)) ≡ onto x e ++ ended (rest_behind e x r ++ c)
ended_step x [] r c is = sym (ended_onto x (r ++ c) is)
ended_step x (l ∷ ls) r c is = refl

-- the lines of two pieces are those of the first, and then those of its rest with the second behind it
pub ended-append : (b c : List ℕ) → ended (b ++ c) ≡ ended b ++ ended (rest_of b ++ c)
ended-append [] c = refl
ended-append (x ∷ b) c =
    let more = ended-append b c in
    elim (cases_Bool (eqb x 10)) [
      | inl is ↦ ended_at x (b ++ c) is ∙ ap (λ (ls : List (List ℕ)). [] ∷ ls) more ∙ rw (ended_at x b is, rest_at x b is) refl
      | inr is ↦ ended_onto x (b ++ c) is ∙ ap (λ (ls : List (List ℕ)). onto x ls) more ∙ ended_step x (ended b) (rest_of b) c is
          ∙ rw (ended_onto x b is, rest_onto x b is) refl
    ]

rest_step : (x : ℕ) (e : List (List ℕ)) (r c : List ℕ) → eqb x 10 ≡ false
    → rest_behind (e ++ ended (r ++ c)) x (rest_of (r ++ c)) ≡ rest_of (rest_behind e x r ++ c)
rest_step x [] r c is = sym (rest_onto x (r ++ c) is)
rest_step x (l ∷ ls) r c is = refl

-- the rest of two pieces is that of the first one's rest with the second behind it
pub rest_of-append : (b c : List ℕ) → rest_of (b ++ c) ≡ rest_of (rest_of b ++ c)
rest_of-append [] c = refl
rest_of-append (x ∷ b) c =
    let more = rest_of-append b c in
    elim (cases_Bool (eqb x 10)) [
      | inl is ↦ rest_at x (b ++ c) is ∙ more ∙ rw (rest_at x b is) refl
      | inr is ↦ rest_onto x (b ++ c) is ∙ ap (λ (ls : List (List ℕ)). rest_behind ls x (rest_of (b ++ c))) (ended-append b c)
          ∙ ap (λ (r : List ℕ). rest_behind (ended b ++ ended (rest_of b ++ c)) x r) more ∙ rest_step x (ended b) (rest_of b) c is ∙ rw (rest_onto x b is) refl
    ]

join_step : (x : ℕ) (e : List (List ℕ)) (r : List ℕ) → with_feeds (onto x e) ++ rest_behind e x r ≡ x ∷ (with_feeds e ++ r)
join_step x [] r = refl
join_step x (l ∷ ls) r = refl

-- the lines that have ended, each with its line feed, and the rest are the bytes again
pub with_feeds-ended : (b : List ℕ) → with_feeds (ended b) ++ rest_of b ≡ b
with_feeds-ended [] = refl
with_feeds-ended (x ∷ b) =
    let more = with_feeds-ended b in
    elim (cases_Bool (eqb x 10)) [
      | inl is ↦ let ten : x ≡ 10 =
          grind (arith, nat_tests) in rw (ended_at x b is, rest_at x b is) (ap (λ (l : List ℕ). 10 ∷ l) more ∙ ap (λ (y : ℕ). y ∷ b) (sym ten))
      | inr is ↦ rw (ended_onto x b is, rest_onto x b is) (join_step x (ended b) (rest_of b) ∙ ap (λ (l : List ℕ). x ∷ l) more)
    ]

-- bytes of which none is a line feed
abbrev HoldsNoFeed : List ℕ → Type 0
HoldsNoFeed bytes = All (λ byte. byte ≢ 10) bytes

no_feed_more : (x : ℕ) (bytes : List ℕ) → x ≢ 10 → HoldsNoFeed bytes → HoldsNoFeed (x ∷ bytes)
no_feed_more x bytes other none = All-cons (λ byte. byte ≢ 10) x bytes other none

no_feed_onto : (x : ℕ) (lines : List (List ℕ)) → x ≢ 10 → All HoldsNoFeed lines → All HoldsNoFeed (onto x lines)
no_feed_onto x [] other none = none
no_feed_onto x (line ∷ lines) other none =
    All-cons HoldsNoFeed (x ∷ line) lines (no_feed_more x line other (All-head HoldsNoFeed line lines none)) (All-tail HoldsNoFeed line lines none)

no_feed_behind : (x : ℕ) (lines : List (List ℕ)) (rest : List ℕ) → x ≢ 10 → HoldsNoFeed rest → HoldsNoFeed (rest_behind lines x rest)
no_feed_behind x [] rest other none = no_feed_more x rest other none
no_feed_behind x (line ∷ lines) rest other none = none

-- no line that has ended holds a line feed
pub ended-no_feed : (bytes : List ℕ) → All HoldsNoFeed (ended bytes)
ended-no_feed [] = All-nil HoldsNoFeed
ended-no_feed (x ∷ bytes) =
    elim (cases_Bool (eqb x 10)) [
      | inl is ↦ rw is (All-cons HoldsNoFeed [] (ended bytes) (All-nil (λ byte. byte ≢ 10)) (ended-no_feed bytes))
      | inr is ↦ let other : x ≢ 10 = grind (arith, nat_tests) in rw is (no_feed_onto x (ended bytes) other (ended-no_feed bytes))
    ]

-- and neither does the rest
pub rest_of-no_feed : (bytes : List ℕ) → HoldsNoFeed (rest_of bytes)
rest_of-no_feed [] = All-nil (λ byte. byte ≢ 10)
rest_of-no_feed (x ∷ bytes) =
    elim (cases_Bool (eqb x 10)) [
      | inl is ↦ rw is (rest_of-no_feed bytes)
      | inr is ↦ let other : x ≢ 10 = grind (arith, nat_tests) in rw is (no_feed_behind x (ended bytes) (rest_of bytes) other (rest_of-no_feed bytes))
    ]
