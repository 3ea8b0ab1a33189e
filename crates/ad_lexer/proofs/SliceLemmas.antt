-- The tokens of a text are parts of it, in order, each spelled by its kind.
use Rattle.std.proofs.Common.{◌≡◌, ℕ, ◌+◌, ◌-◌, ◌≤◌, List, [], ◌∷◌, ◌++◌, length, take, drop, slice_get, zero, suc, Some, refl, sym, ◌∙◌, ap, subst, arith}
use Rattle.std.proofs.Common.{length-append, append_assoc}
use Rattle.std.proofs.lemmas.List.{take_at, drop_at, take-append-drop}
use Rattle.std.specs.List.{slice_range}
use Rattle.ad_lexer.specs.declared.token.Span.{Span}
use Rattle.ad_lexer.specs.Lexeme.{Lexeme}
use Rattle.ad_lexer.specs.Slices.{AreTokensOf}
use Rattle.ad_lexer.specs.Spans.{lexeme_of, lexemes_of}
use Rattle.ad_lexer.specs.Tokens.{Item, blank, token, Divides, lexemes, Tokens}

-- tokens behind a place are behind each place before it
earlier : (text : List ℕ) (at later : ℕ) (list : List Lexeme) → at ≤ later → AreTokensOf text later list → AreTokensOf text at list
earlier text at later [] le are = tt
earlier text at later (lexeme ∷ list) le are =
    let first = are.0 in
    (record { behind = omega (arith, first.behind); end_is = first.end_is; bytes_are = first.bytes_are; spelled = first.spelled }, are.1)

-- the part of a text between two others
middle : (front bytes after : List ℕ) (at : ℕ) → length front ≡ at → slice_range (front ++ (bytes ++ after)) at (at + length bytes) ≡ bytes
middle front bytes after at is =
    let len : at + length bytes - at ≡ length bytes = omega arith in
    ap (λ (l : List ℕ). take (at + length bytes - at) l) (drop_at front (bytes ++ after) at is) ∙ take_at bytes after (at + length bytes - at) (sym len)

divides_slices : (front : List ℕ) (at : ℕ) (items : List Item) (rest after : List ℕ) → length front ≡ at → Divides rest items after
    → AreTokensOf (front ++ rest) at (lexemes at items)
divides_slices front at [] rest after is divides = tt
divides_slices front at (blank bytes ∷ items) rest after is divides =
    let len : length (front ++ bytes) ≡ at + length bytes = omega (arith, length-append front bytes) in
    let more = divides_slices (front ++ bytes) (at + length bytes) items divides.0 after len divides.3 in
    let joined : (front ++ bytes) ++ divides.0 ≡ front ++ rest = append_assoc front bytes divides.0 ∙ ap (λ (l : List ℕ). front ++ l) (sym divides.1) in
    earlier (front ++ rest) at (at + length bytes) (lexemes (at + length bytes) items) (omega arith)
    (subst (λ (t : List ℕ). AreTokensOf t (at + length bytes) (lexemes (at + length bytes) items)) joined more)
divides_slices front at (token kind bytes ∷ items) rest after is divides =
    let len : length (front ++ bytes) ≡ at + length bytes = omega (arith, length-append front bytes) in
    let more = divides_slices (front ++ bytes) (at + length bytes) items divides.0 after len divides.3 in
    let joined : (front ++ bytes) ++ divides.0 ≡ front ++ rest = append_assoc front bytes divides.0 ∙ ap (λ (l : List ℕ). front ++ l) (sym divides.1) in
    let here : bytes ≡ slice_range (front ++ rest) at (at + length bytes) =
    sym (middle front bytes divides.0 at is) ∙ ap (λ (l : List ℕ). slice_range (front ++ l) at (at + length bytes)) (sym divides.1) in (
      record { behind = omega arith; end_is = refl; bytes_are = here; spelled = divides.2.spelled },
      subst (λ (t : List ℕ). AreTokensOf t (at + length bytes) (lexemes (at + length bytes) items)) joined more,
    )

pub tokens_slices : (text : List ℕ) (list : List Lexeme) → Tokens text list → AreTokensOf text 0 list
tokens_slices text list tokens = subst (λ l. AreTokensOf text 0 l) (sym tokens.1.2) (divides_slices [] 0 tokens.1.0 text [] refl tokens.1.1)

-- the bytes of a token stand in the source where it begins
pub stands_in_source : (source : List ℕ) (spans : List Span) (i : ℕ) (t : Lexeme) → slice_get (lexemes_of source spans) i ≡ Some t
    → (more : List ℕ) × (t.text ++ more ≡ drop t.start source)
stands_in_source source [] i t e = absurd (cc)
stands_in_source source (span ∷ spans) zero t e =
    let same : lexeme_of source span ≡ t = cc in
    subst (λ (l : Lexeme). (more : List ℕ) × (l.text ++ more ≡ drop l.start source)) same
    (drop (span.end - span.start) (drop span.start source), take-append-drop (span.end - span.start) (drop span.start source))
stands_in_source source (span ∷ spans) (suc i) t e = stands_in_source source spans i t e
