-- Steps of the loop that counts open constructs.
use Rattle.std.proofs.Common.{refl, arith, ◌≡◌, ℕ, zero, suc, ◌+◌, ◌<◌, ◌≤◌, ◌||◌, true, false, nat_lt, List, [], ◌∷◌, ap, ◌∙◌, Some}
use Rattle.std.proofs.lemmas.Bool.Decides.{nat_tests}
use Rattle.ad_lexer.specs.declared.mark.Mark.{Mark}
use Rattle.ad_lexer.specs.declared.mark.Mark.TheVariants.{OpenParen, CloseParen, OpenBracket, CloseBracket, OpenBrace, CloseBrace, Comma, Semicolon, Dot}
use Rattle.ad_lexer.specs.declared.mark.Mark.TheVariants.{Assign, Question, Colon, And, Or, Not, Complement, Binary}
use Rattle.ad_lexer.specs.Lexeme.{Lexeme}
use Rattle.ad_lexer.specs.Marks as lexer
use Rattle.ad_lexer.specs.Marks.{mark_of_lexeme, marks_of, openings_in}
use Rattle.ad_grammar.specs.HeldMarks.{mark_in}
use Rattle.ad_grammar.specs.Nesting.{nests_deeper, nests_too_deep, opening, closing}
use Rattle.ad_grammar.specs.Words.{Word, plain, quoted, constant, mark, word, words}
use Rattle.ad_grammar.proofs.WordLemmas.{kind-mark}

-- what is open is all that counts
lower : (opened closed : ℕ) (ws : List Word) → nests_deeper (suc opened) (suc closed) ws ≡ nests_deeper opened closed ws
lower opened closed [] = refl
lower opened closed (w ∷ ws) =
    let same : nat_lt (suc closed + closing w + 130) (suc opened + opening w) ≡ nat_lt (closed + closing w + 130) (opened + opening w) =
    grind (arith, nat_tests) in
    let opens : suc opened + opening w ≡ suc (opened + opening w) = omega arith in
    let closes : suc closed + closing w ≡ suc (closed + closing w) = omega arith in
    ap (λ b. b || nests_deeper (suc opened + opening w) (suc closed + closing w) ws) same
    ∙ ap (λ n. nat_lt (closed + closing w + 130) (opened + opening w) || nests_deeper n (suc closed + closing w) ws) opens
    ∙ ap (λ n. nat_lt (closed + closing w + 130) (opened + opening w) || nests_deeper (suc (opened + opening w)) n ws) closes
    ∙ ap (λ b. nat_lt (closed + closing w + 130) (opened + opening w) || b) (lower (opened + opening w) (closed + closing w) ws)

pub level : (n : ℕ) (ws : List Word) → nests_deeper n n ws ≡ nests_deeper 0 0 ws
level zero ws = refl
level (suc n) ws = lower n n ws ∙ level n ws

module _ (opened closed : ℕ) (w : Word) (ws : List Word) (opens closes : ℕ) (o : opening w ≡ opens) (c : closing w ≡ closes) where
  next : nests_deeper opened closed (w ∷ ws) ≡ (nat_lt (closed + closes + 130) (opened + opens) || nests_deeper (opened + opens) (closed + closes) ws)
  next =
      ap (λ n. nat_lt (closed + closing w + 130) (opened + n) || nests_deeper (opened + n) (closed + closing w) ws) o
      ∙ ap (λ n. nat_lt (closed + n + 130) (opened + opens) || nests_deeper (opened + opens) (closed + n) ws) c

  -- a mark that doesn't bring too many open
  shallow-next : opened + opens ≤ closed + closes + 130 → nests_deeper opened closed (w ∷ ws) ≡ nests_deeper (opened + opens) (closed + closes) ws
  shallow-next few =
      let fits : nat_lt (closed + closes + 130) (opened + opens) ≡ false = grind (arith, nat_tests) in
      next ∙ ap (λ b. b || nests_deeper (opened + opens) (closed + closes) ws) fits

  -- the same with one construct more, and with as many as before
  pub opened-next : (room : ℕ) → opened ≡ 130 → opened + opens ≡ suc opened → closed + closes ≡ suc room
      → nests_deeper opened closed (w ∷ ws) ≡ nests_deeper opened room ws
  opened-next room at one enough =
      shallow-next (omega (arith, at, one, enough))
      ∙ ap (λ n. nests_deeper n (closed + closes) ws) one
      ∙ ap (λ n. nests_deeper (suc opened) n ws) enough
      ∙ lower opened room ws

  pub passed-next : (room : ℕ) → opened ≡ 130 → opened + opens ≡ opened → closed + closes ≡ room
      → nests_deeper opened closed (w ∷ ws) ≡ nests_deeper opened room ws
  passed-next room at none same =
      shallow-next (omega (arith, at, none))
      ∙ ap (λ n. nests_deeper n (closed + closes) ws) none
      ∙ ap (λ n. nests_deeper opened n ws) same

  -- and one that does
  pub deep-next : closed + closes + 130 < opened + opens → nests_deeper opened closed (w ∷ ws) ≡ true
  deep-next many =
      let exceeds : nat_lt (closed + closes + 130) (opened + opens) ≡ true = grind (arith, nat_tests) in
      next ∙ ap (λ b. b || nests_deeper (opened + opens) (closed + closes) ws) exceeds

-- a mark opens as much as its word
opens-alike : (m : Mark) → opening (mark m) ≡ lexer.opening (Some m)
opens-alike OpenParen = refl
opens-alike CloseParen = refl
opens-alike OpenBracket = refl
opens-alike CloseBracket = refl
opens-alike OpenBrace = refl
opens-alike CloseBrace = refl
opens-alike Comma = refl
opens-alike Semicolon = refl
opens-alike Dot = refl
opens-alike Assign = refl
opens-alike Question = refl
opens-alike Colon = refl
opens-alike And = refl
opens-alike Or = refl
opens-alike Not = refl
opens-alike Complement = refl
opens-alike (Binary op) = refl

word-opens : (w : Word) → opening w ≡ lexer.opening (mark_in w)
word-opens (plain text) = refl
word-opens (quoted text) = refl
word-opens (constant lit) = refl
word-opens (mark m) = opens-alike m

-- words of which no more open in all can't nest deeper
few-by : (opened closed : ℕ) (ts : List Lexeme) → opened + openings_in (marks_of ts) ≤ 130 → nests_deeper opened closed (words ts) ≡ false
few-by opened closed [] few = refl
few-by opened closed (t ∷ ts) few =
    let same : opening (word t) ≡ lexer.opening (mark_of_lexeme t) = word-opens (word t) ∙ ap lexer.opening (kind-mark t.kind t.text) in
    let rest = few-by (opened + opening (word t)) (closed + closing (word t)) ts (omega (arith, few, same)) in
    let fits : nat_lt (closed + closing (word t) + 130) (opened + opening (word t)) ≡ false = grind (arith, nat_tests) in
    ap (λ b. b || nests_deeper (opened + opening (word t)) (closed + closing (word t)) (words ts)) fits ∙ rest

pub few-openings : (ts : List Lexeme) → openings_in (marks_of ts) ≤ 130 → nests_too_deep (words ts) ≡ false
few-openings ts few = few-by 0 0 ts (omega (arith, few))
