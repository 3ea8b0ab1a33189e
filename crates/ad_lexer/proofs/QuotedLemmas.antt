-- The string or quoted name at the front of a text.
use Rattle.std.proofs.Common.{◌≡◌, ℕ, zero, suc, ◌+◌, ◌-◌, ◌<◌, ◌≤◌, true, false, List, []}
use Rattle.std.proofs.Common.{◌∷◌, length, drop, refl, sym, ◌∙◌, ap, arith, ◌⊎◌, eqb, ◌++◌}
use Rattle.std.proofs.Common.{slice_index, subst, inl, inr, length-append, append_assoc}
use Rattle.std.proofs.lemmas.Bool.Decides.{nat_tests}
use Rattle.ad_lexer.proofs.Runs.{run_step, run_stop}
use Rattle.std.proofs.lemmas.Bool.{cases_Bool, or_parts, not-true, true≢false, eq-eqb}
use Rattle.std.proofs.lemmas.List.{drop_at}
use Rattle.ad_lexer.specs.declared.quoted.Front.{Front}
use Rattle.ad_lexer.specs.declared.token.TokenKind.{TokenKind}
use Rattle.ad_lexer.specs.declared.next.Step.{Step}
use Rattle.ad_lexer.specs.Faults.{ReadsTo, HasNul, IsOpenString, HasBadEscape}
use Rattle.ad_lexer.specs.Quoted.{Letter, plain, escape, octal, spelling, spellings, meaning, is_plain, IsLetter, AreLetters, IsQuoted}
use Rattle.std.specs.List.{prefix_len}
use Rattle.ad_lexer.specs.declared.bytes.Class.TheVariants as class
use Rattle.ad_lexer.specs.declared.fault.LexKind.TheVariants as kinds
use Rattle.ad_lexer.specs.declared.next.Step.TheVariants as steps
use Rattle.ad_lexer.specs.declared.quoted.Front.TheVariants as fronts
use Rattle.ad_lexer.specs.Reading as reading
use Rattle.ad_lexer.proofs.Fronts.{TokenAt, Stands}
use Rattle.ad_lexer.proofs.LetterLemmas.{is_quote, quote_differs, plain_met, letter_met, spelling_some, LetterAt, IsLineEnd, FrontReads, front_reads}

-- skipping bytes is going on behind them
quoted-skip : (kind : TokenKind) (quote at skip : ℕ) (text : List ℕ) → skip ≤ length text
    → reading.quoted kind quote at skip text ≡ reading.quoted kind quote (at + skip) 0 (drop skip text)
quoted-skip kind quote at zero text fits = let e : at ≡ at + 0 = omega arith in ap (λ (n : ℕ). reading.quoted kind quote n 0 text) e
quoted-skip kind quote at (suc skip) [] fits = refl
quoted-skip kind quote at (suc skip) (byte ∷ bytes) fits =
    let e : at + 1 + skip ≡ at + suc skip = omega arith in
    quoted-skip kind quote (at + 1) skip bytes (omega arith) ∙ ap (λ (n : ℕ). reading.quoted kind quote n 0 (drop skip bytes)) e

-- behind a letter the rest of the string goes on
pub quoted_turn : (kind : TokenKind) (quote at len meant : ℕ) (text : List ℕ) → reading.front quote text ≡ fronts.Letter len meant → 0 < len → len ≤ length text
    → reading.quoted kind quote at 0 text ≡ reading.quoted kind quote (at + len) 0 (drop len text)
quoted_turn kind quote at zero meant text is some fits = absurd (omega arith)
quoted_turn kind quote at (suc len) meant [] is some fits = absurd (omega arith)
quoted_turn kind quote at (suc len) meant (byte ∷ bytes) is some fits =
    let e : at + 1 + len ≡ at + suc len = omega arith in
    let less : suc len - 1 ≡ len = omega arith in
    ap (λ f. reading.quoted_by kind at f (λ n. reading.quoted kind quote (at + 1) (n - 1) bytes)) is
    ∙ ap (λ (n : ℕ). reading.quoted kind quote (at + 1) n bytes) less
    ∙ quoted-skip kind quote (at + 1) len bytes (omega arith)
    ∙ ap (λ (n : ℕ). reading.quoted kind quote n 0 (drop len bytes)) e

-- bytes that stand for themselves are gone over at once
pub plain_in : (quote byte : ℕ) → is_quote quote ≡ true → reading.is_in class.Plain byte ≡ true → is_plain quote byte ≡ true
plain_in quote byte is stands = grind (arith, nat_tests)

pub plain_run : (kind : TokenKind) (quote at : ℕ) (text : List ℕ) → is_quote quote ≡ true
    → reading.quoted kind quote (at + prefix_len (reading.is_in class.Plain) text) 0 (drop (prefix_len (reading.is_in class.Plain) text) text)
    ≡ reading.quoted kind quote at 0 text
plain_run kind quote at [] is = let e : at + 0 ≡ at = omega arith in ap (λ (n : ℕ). reading.quoted kind quote n 0 []) e
plain_run kind quote at (byte ∷ bytes) is =
    let p = reading.is_in class.Plain in
    elim (cases_Bool (p byte)) [
      | inl stands ↦
          let e : at + suc (prefix_len p bytes) ≡ at + 1 + prefix_len p bytes = omega arith in
          let turn = quoted_turn kind quote at 1 byte (byte ∷ bytes) (plain_met quote byte bytes (plain_in quote byte is stands)) (omega arith) (omega arith) in
          rw (run_step p byte bytes stands) (ap (λ (n : ℕ). reading.quoted kind quote n 0 (drop (prefix_len p bytes) bytes)) e
          ∙ plain_run kind quote (at + 1) bytes is ∙ sym turn)
      | inr other ↦ let e : at + 0 ≡ at = omega arith in rw (run_stop p byte bytes other) (ap (λ (n : ℕ). reading.quoted kind quote n 0 (byte ∷ bytes)) e)
    ]

-- the rest of a string goes by what stands at its front
pub quoted_here : (kind : TokenKind) (quote at : ℕ) (text : List ℕ)
    → reading.quoted kind quote at 0 text ≡ reading.quoted_by kind at (reading.front quote text) (λ n. reading.quoted kind quote (at + 1) (n - 1) (drop 1 text))
unfolding reading.front
quoted_here kind quote at [] = refl
quoted_here kind quote at (byte ∷ bytes) = refl

-- the same where that is known
pub quoted_stop : (kind : TokenKind) (quote at : ℕ) (text : List ℕ) (f : Front) → f ≡ reading.front quote text
    → reading.quoted_by kind at f (λ n. reading.quoted kind quote (at + 1) (n - 1) (drop 1 text)) ≡ reading.quoted kind quote at 0 text
quoted_stop kind quote at text f is =
    ap (λ g. reading.quoted_by kind at g (λ n. reading.quoted kind quote (at + 1) (n - 1) (drop 1 text))) is ∙ sym (quoted_here kind quote at text)

-- behind a run of such bytes the rest of the string goes on
pub run_over : (kind : TokenKind) (quote at n : ℕ) (text rest : List ℕ) → is_quote quote ≡ true → n ≡ prefix_len (reading.is_in class.Plain) text
    → rest ≡ drop n text → reading.quoted kind quote (at + n) 0 rest ≡ reading.quoted kind quote at 0 text
run_over kind quote at n text rest is long behind = rw (behind, long) (plain_run kind quote at text is)

-- and it goes by what stands there
pub stop_behind : (kind : TokenKind) (quote at n : ℕ) (text rest : List ℕ) (f : Front) (whole : Step) → f ≡ reading.front quote rest → is_quote quote ≡ true
    → n ≡ prefix_len (reading.is_in class.Plain) text → rest ≡ drop n text → reading.quoted kind quote at 0 text ≡ whole
    → reading.quoted_by kind (at + n) f (λ k. reading.quoted kind quote (at + n + 1) (k - 1) (drop 1 rest)) ≡ whole
stop_behind kind quote at n text rest f whole reads is long behind known =
    quoted_stop kind quote (at + n) rest f reads ∙ run_over kind quote at n text rest is long behind ∙ known

-- letters are gone over
pub quoted_over : (kind : TokenKind) (quote at : ℕ) (letters : List Letter) (rest : List ℕ) → is_quote quote ≡ true → AreLetters quote letters rest
    → reading.quoted kind quote at 0 (spellings letters ++ rest) ≡ reading.quoted kind quote (at + length (spellings letters)) 0 rest
quoted_over kind quote at [] rest is are = let e : at ≡ at + 0 = omega arith in ap (λ (n : ℕ). reading.quoted kind quote n 0 rest) e
quoted_over kind quote at (letter ∷ letters) rest is are =
    let first : List ℕ = spelling letter in
    let more : List ℕ = spellings letters ++ rest in
    let len : ℕ = length first in
    let joined : (first ++ spellings letters) ++ rest ≡ first ++ more = append_assoc first (spellings letters) rest in
    let met : reading.front quote (first ++ more) ≡ fronts.Letter len (meaning letter) = letter_met quote letter more is are.0 in
    let fits : len ≤ length (first ++ more) = omega (arith, length-append first more) in
    let e : at + len + length (spellings letters) ≡ at + length (first ++ spellings letters) = omega (arith, length-append first (spellings letters)) in
    ap (λ (l : List ℕ). reading.quoted kind quote at 0 l) joined
    ∙ quoted_turn kind quote at len (meaning letter) (first ++ more) met (spelling_some letter) fits
    ∙ ap (λ (l : List ℕ). reading.quoted kind quote (at + len) 0 l) (drop_at first more len refl)
    ∙ quoted_over kind quote (at + len) letters rest is are.1
    ∙ ap (λ (n : ℕ). reading.quoted kind quote n 0 rest) e

-- ---- each rest of a string is letters, and then something else

abbrev IsStop : Front → Type 0
IsStop (fronts.Letter n meant) = ⊥
IsStop other = Unit {0}

pub record Parts (quote : ℕ) (text : List ℕ) : Type 0 where
  pub letters : List Letter
  pub rest : List ℕ
  pub text_is : text ≡ spellings letters ++ rest
  pub are_letters : AreLetters quote letters rest
  pub stops : IsStop (reading.front quote rest)

stopped : (quote : ℕ) (text : List ℕ) (front : Front) → reading.front quote text ≡ front → IsStop front → Parts quote text
stopped quote text front is stop = record { letters = []; rest = text; text_is = refl; are_letters = tt; stops = subst IsStop (sym is) stop }

with_letter : (quote : ℕ) (text : List ℕ) (n : ℕ) (here : LetterAt quote text n) → Parts quote here.after → Parts quote text
with_letter quote text n here more = record {
  letters = here.letter ∷ more.letters;
  rest = more.rest;
  text_is =
      here.text_is ∙ ap (λ (l : List ℕ). spelling here.letter ++ l) more.text_is ∙ sym (append_assoc (spelling here.letter) (spellings more.letters) more.rest);
  are_letters = (subst (λ (l : List ℕ). IsLetter quote here.letter l) more.text_is here.is_letter, more.are_letters);
  stops = more.stops;
}

shorter : (quote : ℕ) (text : List ℕ) (n bound : ℕ) (here : LetterAt quote text n) → length text ≤ suc bound → length here.after ≤ bound
shorter quote text n bound here fits =
    let some = spelling_some here.letter in
    omega (arith, ap (λ (l : List ℕ). length l) here.text_is, length-append (spelling here.letter) here.after)

parts_by : (quote bound : ℕ) (text : List ℕ) (front : Front) → reading.front quote text ≡ front → FrontReads quote text front → length text ≤ suc bound
    → ((t : List ℕ) → length t ≤ bound → Parts quote t) → Parts quote text
parts_by quote bound text (fronts.Letter n meant) is reads fits again =
    with_letter quote text n reads (again reads.after (shorter quote text n bound reads fits))
parts_by quote bound text fronts.Close is reads fits again = stopped quote text fronts.Close is tt
parts_by quote bound text fronts.LineEnd is reads fits again = stopped quote text fronts.LineEnd is tt
parts_by quote bound text fronts.Nul is reads fits again = stopped quote text fronts.Nul is tt
parts_by quote bound text fronts.Backslash is reads fits again = stopped quote text fronts.Backslash is tt

front_nil : (quote : ℕ) → reading.front quote [] ≡ fronts.LineEnd
unfolding reading.front
front_nil quote = refl

pub parts : (quote bound : ℕ) (text : List ℕ) → length text ≤ bound → Parts quote text
parts quote zero [] fits = stopped quote [] fronts.LineEnd (front_nil quote) tt
parts quote zero (byte ∷ bytes) fits = absurd (omega arith)
parts quote (suc bound) text fits = parts_by quote bound text (reading.front quote text) refl (front_reads quote text) fits (λ t less. parts quote bound t less)

-- ---- what is read stands there

-- the first byte of letters and of what follows hangs on the first byte alone that follows
same_first : (letters : List Letter) (byte : ℕ) (more other : List ℕ)
    → slice_index (spellings letters ++ byte ∷ more) 0 ≡ slice_index (spellings letters ++ byte ∷ other) 0
same_first [] byte more other = refl
same_first (plain b ∷ letters) byte more other = refl
same_first (escape b m ∷ letters) byte more other = refl
same_first (octal ds ∷ letters) byte more other = refl

same_letter : (quote : ℕ) (letter : Letter) (after other : List ℕ) → slice_index after 0 ≡ slice_index other 0 → IsLetter quote letter after
    → IsLetter quote letter other
same_letter quote (plain b) after other same is = is
same_letter quote (escape b m) after other same is = is
same_letter quote (octal ds) after other same is =
    record { some = is.some; most = is.most; octal = is.octal; whole = rw same at is.whole; above = is.above; below = is.below }

-- letters are so whatever stands behind the byte that follows
pub same_letters : (quote : ℕ) (letters : List Letter) (byte : ℕ) (more other : List ℕ) → AreLetters quote letters (byte ∷ more)
    → AreLetters quote letters (byte ∷ other)
same_letters quote [] byte more other are = tt
same_letters quote (letter ∷ letters) byte more other are =
    (same_letter quote letter _ _ (same_first letters byte more other) are.0, same_letters quote letters byte more other are.1)

-- a quoted text of some length stands at the front of a text
pub record QuotedAt (quote : ℕ) (text : List ℕ) (n : ℕ) : Type 0 where
  pub letters : List Letter
  pub after : List ℕ
  pub text_is : text ≡ quote ∷ (spellings letters ++ quote ∷ after)
  pub are_letters : AreLetters quote letters (quote ∷ [])
  pub length_is : 2 + length (spellings letters) ≡ n

reads_to : (quote : ℕ) (text : List ℕ) (parts : Parts quote text) (rest : List ℕ) → is_quote quote ≡ true → parts.rest ≡ rest
    → ReadsTo quote (quote ∷ text) rest (1 + length (spellings parts.letters))
reads_to quote text p rest is same = record {
  is_quote = is;
  letters = p.letters;
  text_is = ap (λ (l : List ℕ). quote ∷ l) (p.text_is ∙ ap (λ (l : List ℕ). spellings p.letters ++ l) same);
  are_letters = subst (λ (l : List ℕ). AreLetters quote p.letters l) same p.are_letters;
  place_is = refl;
}

no_letter : (quote : ℕ) (rest : List ℕ) → is_quote quote ≡ true → IsStop (reading.front quote rest) → (letter : Letter) (after : List ℕ)
    → rest ≡ spelling letter ++ after → ¬ IsLetter quote letter after
no_letter quote rest is stop letter after begins is_letter =
    subst IsStop (ap (λ (l : List ℕ). reading.front quote l) begins ∙ letter_met quote letter after is is_letter) stop

read_by : (kind : TokenKind) (quote : ℕ) (text : List ℕ) (p : Parts quote text) (front : Front) (more : ℕ → Step) → is_quote quote ≡ true
    → FrontReads quote p.rest front → IsStop front → (front ≡ fronts.Backslash → IsStop (reading.front quote p.rest))
    → ((n : ℕ) → QuotedAt quote (quote ∷ text) n → TokenAt kind (quote ∷ text) n)
    → Stands (quote ∷ text) (reading.quoted_by kind (1 + length (spellings p.letters)) front more)
read_by kind quote text p (fronts.Letter n meant) more is reads stop back token = absurd stop
read_by kind quote text p fronts.Close more is reads stop back token =
    let to = reads_to quote text p (quote ∷ reads.0) is reads.1 in
    token _ (record {
      letters =
          to.letters;
      after =
          reads.0;
      text_is = to.text_is;
      are_letters = same_letters quote to.letters quote reads.0 [] to.are_letters;
      length_is = omega (arith, to.place_is);
    })
read_by kind quote text p fronts.LineEnd more is reads stop back token =
    ((quote, p.rest, 1 + length (spellings p.letters), reads_to quote text p p.rest is refl, reads), refl)
read_by kind quote text p fronts.Nul more is reads stop back token = inr (inl (quote, reads.0, reads_to quote text p (0 ∷ reads.0) is reads.1))
read_by kind quote text p fronts.Backslash more is reads stop back token = (
  quote,
  reads.0,
  reads.1,
  reads_to quote text p (92 ∷ reads.0 ∷ reads.1) is reads.2,
  λ letter after begins. no_letter quote p.rest is (back refl) letter after (reads.2 ∙ begins),
)

-- what is read stands there, where a quoted text that is closed is a token
pub quoted_stands : (kind : TokenKind) (quote : ℕ) (text : List ℕ) → is_quote quote ≡ true
    → ((n : ℕ) → QuotedAt quote (quote ∷ text) n → TokenAt kind (quote ∷ text) n) → Stands (quote ∷ text) (reading.quoted kind quote 1 0 text)
quoted_stands kind quote text is token =
    let p = parts quote (length text) text (omega arith) in
    let over = quoted_over kind quote 1 p.letters p.rest is p.are_letters in
    let here = quoted_here kind quote (1 + length (spellings p.letters)) p.rest in
    let same : reading.quoted kind quote 1 0 text ≡ _ = ap (λ (l : List ℕ). reading.quoted kind quote 1 0 l) p.text_is ∙ over ∙ here in
    subst (λ s. Stands (quote ∷ text) s) (sym same) (read_by kind quote text p (reading.front quote p.rest) _ is (front_reads quote p.rest) p.stops
    (λ e. p.stops) token)

-- ---- what stands there is read

pub front_close : (quote : ℕ) (more : List ℕ) → reading.front quote (quote ∷ more) ≡ fronts.Close
unfolding reading.front
front_close quote more = rw (eq-eqb quote quote refl) refl

front_feed : (quote : ℕ) (more : List ℕ) → is_quote quote ≡ true → reading.front quote (10 ∷ more) ≡ fronts.LineEnd
unfolding reading.front
front_feed quote more is = rw (quote_differs quote 10 is (λ e. omega arith) (λ e. omega arith)) refl

front_nul : (quote : ℕ) (more : List ℕ) → is_quote quote ≡ true → reading.front quote (0 ∷ more) ≡ fronts.Nul
unfolding reading.front
front_nul quote more is = rw (quote_differs quote 0 is (λ e. omega arith) (λ e. omega arith)) refl

front_last : (quote : ℕ) → is_quote quote ≡ true → reading.front quote (92 ∷ []) ≡ fronts.LineEnd
unfolding reading.front reading.escape
front_last quote is = rw (quote_differs quote 92 is (λ e. omega arith) (λ e. omega arith)) refl

front_end : (quote : ℕ) (rest : List ℕ) → is_quote quote ≡ true → IsLineEnd rest → reading.front quote rest ≡ fronts.LineEnd
front_end quote rest is end =
    elim end [
      | inl nil ↦ ap (λ (l : List ℕ). reading.front quote l) nil ∙ front_nil quote
      | inr (inl last) ↦ ap (λ (l : List ℕ). reading.front quote l) last ∙ front_last quote is
      | inr (inr feed) ↦ ap (λ (l : List ℕ). reading.front quote l) feed.1 ∙ front_feed quote feed.0 is
    ]

bad_by : (quote byte : ℕ) (more : List ℕ) (front : Front) → is_quote quote ≡ true → FrontReads quote (92 ∷ byte ∷ more) front
    → ((letter : Letter) (after : List ℕ) → 92 ∷ byte ∷ more ≡ spelling letter ++ after → ¬ IsLetter quote letter after) → front ≡ fronts.Backslash
bad_by quote byte more (fronts.Letter n meant) is reads none = absurd (none reads.letter reads.after reads.text_is reads.is_letter)
bad_by quote byte more fronts.Close is reads none =
    let e : 92 ≡ quote = ap (λ (l : List ℕ). slice_index l 0) reads.1 in
    absurd (true≢false (sym (eq-eqb 92 quote e) ∙ quote_differs quote 92 is (λ f. omega arith) (λ f. omega arith)))
bad_by quote byte more fronts.LineEnd is reads none =
    elim reads [
      | inl nil ↦ absurd (cc)
      | inr (inl last) ↦ absurd (cc)
      | inr (inr feed) ↦ absurd (true≢false (ap (λ (l : List ℕ). eqb (slice_index l 0) 92) feed.1))
    ]
bad_by quote byte more fronts.Nul is reads none = absurd (true≢false (ap (λ (l : List ℕ). eqb (slice_index l 0) 92) reads.1))
bad_by quote byte more fronts.Backslash is reads none = refl

front_bad : (quote byte : ℕ) (more : List ℕ) → is_quote quote ≡ true
    → ((letter : Letter) (after : List ℕ) → 92 ∷ byte ∷ more ≡ spelling letter ++ after → ¬ IsLetter quote letter after)
    → reading.front quote (92 ∷ byte ∷ more) ≡ fronts.Backslash
front_bad quote byte more is none = bad_by quote byte more (reading.front quote (92 ∷ byte ∷ more)) is (front_reads quote (92 ∷ byte ∷ more)) none

-- behind letters the rest of the string goes by what stands there
stop_met : (kind : TokenKind) (quote : ℕ) (text rest : List ℕ) (place : ℕ) (front : Front) (to : ReadsTo quote text rest place)
    → reading.front quote rest ≡ front
    → reading.quoted kind quote 1 0 (drop 1 text) ≡ reading.quoted_by kind place front (λ n. reading.quoted kind quote (place + 1) (n - 1) (drop 1 rest))
stop_met kind quote text rest place front to is =
    ap (λ (l : List ℕ). reading.quoted kind quote 1 0 (drop 1 l)) to.text_is
    ∙ quoted_over kind quote 1 to.letters rest to.is_quote to.are_letters
    ∙ ap (λ (n : ℕ). reading.quoted kind quote n 0 rest) (sym to.place_is)
    ∙ quoted_here kind quote place rest
    ∙ ap (λ f. reading.quoted_by kind place f (λ n. reading.quoted kind quote (place + 1) (n - 1) (drop 1 rest))) is

pub nul_met : (kind : TokenKind) (text : List ℕ) (place : ℕ) (has : HasNul text place)
    → reading.quoted kind has.0 1 0 (drop 1 text) ≡ steps.Fault kinds.Character place
nul_met kind text place has = stop_met kind has.0 text (0 ∷ has.1) place fronts.Nul has.2 (front_nul has.0 has.1 has.2.is_quote)

pub end_met : (kind : TokenKind) (text : List ℕ) (has : IsOpenString text) → reading.quoted kind has.0 1 0 (drop 1 text) ≡ steps.Fault kinds.StringEnd 0
end_met kind text has = stop_met kind has.0 text has.1 has.2 fronts.LineEnd has.3 (front_end has.0 has.1 has.3.is_quote has.4)

pub escape_met : (kind : TokenKind) (text : List ℕ) (place : ℕ) (has : HasBadEscape text place)
    → reading.quoted kind has.0 1 0 (drop 1 text) ≡ steps.Fault kinds.Escape place
escape_met kind text place has = stop_met kind has.0 text (92 ∷ has.1 ∷ has.2) place fronts.Backslash has.3 (front_bad has.0 has.1 has.2 has.3.is_quote has.4)

-- a quoted text is read whole, whatever follows
closed_to : (quote : ℕ) (bytes after : List ℕ) (letters : List Letter) → is_quote quote ≡ true → bytes ≡ quote ∷ (spellings letters ++ quote ∷ [])
    → AreLetters quote letters (quote ∷ []) → ReadsTo quote (bytes ++ after) (quote ∷ after) (1 + length (spellings letters))
closed_to quote bytes after letters is bytes_is are = record {
  is_quote = is;
  letters = letters;
  text_is = ap (λ (l : List ℕ). l ++ after) bytes_is ∙ ap (λ (l : List ℕ). quote ∷ l) (append_assoc (spellings letters) (quote ∷ []) after);
  are_letters = same_letters quote letters quote [] after are;
  place_is = refl;
}

pub quoted_met : (kind : TokenKind) (quote : ℕ) (bytes text after : List ℕ) → is_quote quote ≡ true → IsQuoted quote bytes text
    → reading.quoted kind quote 1 0 (drop 1 (bytes ++ after)) ≡ steps.Token kind (length bytes)
quoted_met kind quote bytes text after is quoted =
    let letters = quoted.0 in
    let place : ℕ = 1 + length (spellings letters) in
    let len : place + 1 ≡ length bytes = omega (arith, ap (λ (l : List ℕ). length l) quoted.1, length-append (spellings letters) (quote ∷ [])) in
    stop_met kind quote (bytes ++ after) (quote ∷ after) place fronts.Close (closed_to quote bytes after letters is quoted.1 quoted.2) (front_close quote after)
    ∙ ap (λ (n : ℕ). steps.Token kind n) len

-- the first byte of letters isn't the quote
pub letter_first : (quote : ℕ) (letter : Letter) (more after : List ℕ) → is_quote quote ≡ true → IsLetter quote letter after
    → eqb (slice_index (spelling letter ++ more) 0) quote ≡ false
letter_first quote (plain b) more after is letter = (or_parts (eqb b quote) (eqb b 92) (or_parts _ (eqb b 10) (or_parts _ (eqb b 0) (not-true _ letter)).0).0).0
letter_first quote (escape b m) more after is letter = quote_differs quote 92 is (λ e. omega arith) (λ e. omega arith)
letter_first quote (octal ds) more after is letter = quote_differs quote 92 is (λ e. omega arith) (λ e. omega arith)

pub letters_first : (quote : ℕ) (letters : List Letter) (rest : List ℕ) → is_quote quote ≡ true → AreLetters quote letters rest
    → (0 < length letters) ⊎ (eqb (slice_index rest 0) quote ≡ false) → eqb (slice_index (spellings letters ++ rest) 0) quote ≡ false
letters_first quote [] rest is are other = elim other [ inl some ↦ absurd (omega arith) | inr differs ↦ differs ]
letters_first quote (letter ∷ letters) rest is are other =
    ap (λ (l : List ℕ). eqb (slice_index l 0) quote) (append_assoc (spelling letter) (spellings letters) rest)
    ∙ letter_first quote letter (spellings letters ++ rest) _ is are.0
