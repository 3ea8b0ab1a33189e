-- The lines that pieces give.
use Rattle.std.proofs.Common.{◌≡◌, ℕ, ◌<◌, Bool, true, false, List, [], ◌∷◌, ◌++◌, length, map, refl, sym, ◌∙◌, ap, inl, inr, append_assoc}
use Rattle.std.proofs.lemmas.Bool.{cases_Bool}
use Rattle.std.proofs.lemmas.List.{append-nil}
use Rattle.pool_text.specs.Lines.{ended}
use Rattle.pool_text.specs.Words.{is_long}
use Rattle.pool_script.specs.Cuts.{CutsAtFeed}
use Rattle.pool_script.specs.GivenLines.{given_line, given_lines, whole_lines}
use Rattle.pool_script.specs.Reading.{IsBegun, kept}
use Rattle.pool_script.specs.Standing.{Held}
use Rattle.pool_script.specs.declared.lines.Line.{Line}
use Rattle.pool_script.specs.declared.lines.Line.TheVariants as line
use Rattle.pool_script.proofs.CutLemmas.{ended_none-append, lines_feed, whole_none}
use Rattle.pool_script.proofs.LongLemmas.{ended_kept, kept-length, kept_line, kept_long, kept_short}
use Rattle.pool_script.proofs.StandingLemmas.{Promises}

given_line-long : (bytes : List ℕ) → is_long bytes ≡ true → given_line bytes ≡ line.TooLong
given_line-long bytes long = rw long refl

-- what is kept of a line gives the line
given_line-kept : (bytes : List ℕ) → given_line (kept bytes) ≡ given_line bytes
given_line-kept bytes =
    elim (cases_Bool (is_long bytes)) [
      | inl is ↦ given_line-long (kept bytes) (kept_long bytes is) ∙ sym (given_line-long bytes is)
      | inr is ↦ ap given_line (kept_short bytes is)
    ]

alike : (bytes bytes2 : List ℕ) (lines : List (List ℕ)) → is_long bytes ≡ true → is_long bytes2 ≡ true
    → map given_line (bytes ∷ lines) ≡ map given_line (bytes2 ∷ lines)
alike bytes bytes2 lines long long2 = ap (λ (l : Line). l ∷ map given_line lines) (given_line-long bytes long ∙ sym (given_line-long bytes2 long2))

-- and whatever follows it
given_lines-kept : (over : Bool) (bytes more : List ℕ) → ended bytes ≡ [] → given_lines over (kept bytes ++ more) ≡ given_lines over (bytes ++ more)
given_lines-kept over bytes more none = kept_line (λ (lines : List (List ℕ)). map given_line lines) alike over bytes more none

given_lines-feed : (over : Bool) (bytes more : List ℕ) → ended bytes ≡ [] → given_lines over (bytes ++ 10 ∷ more) ≡ given_line bytes ∷ given_lines over more
given_lines-feed over bytes more none = ap (λ (lines : List (List ℕ)). map given_line lines) (lines_feed over bytes more none)

-- what was read of a piece gave what it gives behind what was kept, and the others are left
abbrev pub Leaves : Held Line → List ℕ → Held Line → List ℕ → Type 0
Leaves old piece now left =
    (over : Bool) (more : List ℕ) → now.waiting ++ given_lines over (now.rest ++ (left ++ more)) ≡ old.waiting ++ given_lines over (old.rest ++ (piece ++ more))

-- bytes that are added to a line
pub begun_with : (rest bytes : List ℕ) → IsBegun rest → ended bytes ≡ [] → IsBegun (kept (rest ++ bytes))
begun_with rest bytes begun none =
    record { one_line = ended_kept (rest ++ bytes) (ended_none-append rest bytes begun.one_line none); short = kept-length (rest ++ bytes) }

at_feed : (rest left bytes with_feed behind more : List ℕ) → CutsAtFeed left bytes with_feed behind
    → rest ++ (left ++ more) ≡ (rest ++ bytes) ++ 10 ∷ (behind ++ more)
at_feed rest left bytes with_feed behind more cuts =
    ap (λ (l : List ℕ). rest ++ (l ++ more)) (sym cuts.parts) ∙ ap (λ (l : List ℕ). rest ++ l) (append_assoc bytes (10 ∷ behind) more)
    ∙ sym (append_assoc rest bytes (10 ∷ (behind ++ more)))

-- a line ends
pub Leaves-line : (old now new : Held Line) (piece left bytes with_feed behind : List ℕ) → IsBegun now.rest → CutsAtFeed left bytes with_feed behind
    → new.waiting ≡ now.waiting ++ given_line (kept (now.rest ++ bytes)) ∷ [] → new.rest ≡ [] → Leaves old piece now left → Leaves old piece new behind
Leaves-line old now new piece left bytes with_feed behind begun cuts waiting rest leaves = λ over more.
    let line : List ℕ = now.rest ++ bytes in
    let step : given_lines over (now.rest ++ (left ++ more)) ≡ given_line line ∷ given_lines over (behind ++ more) =
    ap (λ (l : List ℕ). given_lines over l) (at_feed now.rest left bytes with_feed behind more cuts)
    ∙ given_lines-feed over line (behind ++ more) (ended_none-append now.rest bytes begun.one_line cuts.one_line) in
    ap (λ (l : List ℕ). new.waiting ++ given_lines over (l ++ (behind ++ more))) rest
    ∙ ap (λ (w : List Line). w ++ given_lines over (behind ++ more)) (waiting ∙ ap (λ (l : Line). now.waiting ++ l ∷ []) (given_line-kept line))
    ∙ append_assoc now.waiting (given_line line ∷ []) (given_lines over (behind ++ more))
    ∙ ap (λ (l : List Line). now.waiting ++ l) (sym step)
    ∙ leaves over more

-- the piece ends within a line
pub Leaves-end : (old now new : Held Line) (piece left : List ℕ) → IsBegun now.rest → ended left ≡ [] → new.waiting ≡ now.waiting
    → new.rest ≡ kept (now.rest ++ left) → Leaves old piece now left → Promises given_lines old piece new
Leaves-end old now new piece left begun none waiting rest leaves = λ over more.
    ap (λ (l : List ℕ). new.waiting ++ given_lines over (l ++ more)) rest
    ∙ ap (λ (w : List Line). w ++ given_lines over (kept (now.rest ++ left) ++ more)) waiting
    ∙ ap (λ (l : List Line). now.waiting ++ l) (given_lines-kept over (now.rest ++ left) more (ended_none-append now.rest left begun.one_line none))
    ∙ ap (λ (l : List ℕ). now.waiting ++ given_lines over l) (append_assoc now.rest left more)
    ∙ leaves over more

-- no line has ended in what is kept
pub none_given : (rest : List ℕ) → IsBegun rest → given_lines false rest ≡ []
none_given rest begun = ap (λ (lines : List (List ℕ)). map given_line lines) begun.one_line

-- the input ends within a line, or behind a line feed
pub last_given : (rest : List ℕ) → IsBegun rest → 0 < length rest → given_line rest ∷ [] ≡ whole_lines rest
last_given rest begun some = sym (ap (λ (lines : List (List ℕ)). map given_line lines) (whole_none rest begun.one_line some))

pub none_last : (waiting : List Line) (rest : List ℕ) → rest ≡ [] → waiting ≡ waiting ++ whole_lines rest
none_last waiting rest none = sym (ap (λ (l : List ℕ). waiting ++ whole_lines l) none ∙ append-nil waiting)
