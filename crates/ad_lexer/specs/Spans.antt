-- Tokens as the list of them is kept: where they stand in their source.
use Rattle.std.specs.Prelude.{◌≡◌, ℕ, Bool, ◌&&◌, nat_le, List, map, slice_range}
use Rattle.std.specs.List.{list_all}
use Rattle.ad_lexer.specs.declared.token.Span.{Span}
use Rattle.ad_lexer.specs.Lexeme.{Lexeme}
use Rattle.ad_lexer.specs.Marks.{marks_of, openings_in}

-- the token at a span of a source
abbrev pub lexeme_of : List ℕ → Span → Lexeme
lexeme_of source span =
    record { kind = span.kind; start = span.start; end = span.end; text = slice_range source span.start span.end }

-- the tokens at spans of a source
abbrev pub lexemes_of : List ℕ → List Span → List Lexeme
lexemes_of source spans = map (lexeme_of source) spans

-- a span lies within so many bytes
abbrev pub is_within : ℕ → Span → Bool
is_within len span = nat_le span.start span.end && nat_le span.end len

-- each of the spans does
abbrev pub are_within : ℕ → List Span → Bool
are_within len spans = list_all (is_within len) spans

-- each span holds the mark of its token
abbrev pub AreMarked : List ℕ → List Span → Type 0
AreMarked source spans = map (λ span. span.mark) spans ≡ marks_of (lexemes_of source spans)

-- how many constructs the tokens at spans open in all
abbrev pub openings_of : List Span → ℕ
openings_of spans = openings_in (map (λ span. span.mark) spans)
