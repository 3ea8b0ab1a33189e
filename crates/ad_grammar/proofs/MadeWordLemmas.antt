-- The words of a text's tokens keep what is said of words.
use Rattle.std.proofs.Common.{ℕ, ◌+◌, ◌^◌, Bool, true, false, if◌then◌else◌, List, [], ◌∷◌, length, Option, None, Some, sym, subst}
use Rattle.std.proofs.lemmas.Bool.{and_parts, ltb-true}
use Rattle.std.specs.Str.{bytes_eq}
use Rattle.pool_text.specs.Folding.{folded}
use Rattle.ad_lexer.specs.Lexeme.{Lexeme}
use Rattle.ad_lexer.specs.Marks.{marks, meaning_of}
use Rattle.ad_lexer.specs.Numbers.{value}
use Rattle.ad_lexer.specs.Spelling.{Spells}
use Rattle.ad_lexer.specs.Texts.{MeansText, MeanTexts}
use Rattle.ad_lexer.specs.Tokens.{Item, blank, token, Divides, lexemes, Tokens}
use Rattle.ad_lexer.specs.declared.token.TokenKind.{TokenKind}
use Rattle.ad_lexer.specs.declared.token.TokenKind.TheVariants as kinds
use Rattle.ad_lexer.proofs.FractionLemmas.{decimal_small}
use Rattle.ad_lexer.proofs.TextLemmas.{tokens_mean}
use Rattle.ad_lexer.specs.declared.mark.Mark.{Mark}
use Rattle.ad_grammar.specs.Made.{IsMadeWord, AreMade}
use Rattle.ad_grammar.specs.Words.{Word, reserved_words, or_undefined, mark_word, word_of_kind, words}

-- reserved words and symbols
abbrev RowsMade : List (List ℕ × Word) → Type 0
RowsMade [] = Unit {0}
RowsMade (row ∷ rows) = IsMadeWord row.1 × RowsMade rows

meaning-made : (rows : List (List ℕ × Word)) (bytes : List ℕ) → RowsMade rows → IsMadeWord (or_undefined (meaning_of rows bytes))
meaning-made [] bytes m = tt
meaning-made (row ∷ rows) bytes m = by (bytes_eq bytes row.0) (meaning-made rows bytes m.1)
  where
    by : (b : Bool) → IsMadeWord (or_undefined (meaning_of rows bytes)) → IsMadeWord (or_undefined (if b then Some row.1 else meaning_of rows bytes))
    by true rest = m.0
    by false rest = rest

mark-made : (found : Option Mark) → IsMadeWord (mark_word found)
mark-made None = tt
mark-made (Some m) = tt

-- a token's word
word-made : (kind : TokenKind) (bytes : List ℕ) → Spells kind bytes → MeansText kind bytes → IsMadeWord (word_of_kind kind bytes)
word-made kinds.Plain bytes is means = is
word-made kinds.Reserved bytes is means = meaning-made reserved_words (folded bytes) (tt, (tt, (tt, (tt, (tt, (tt, tt))))))
word-made kinds.Quoted bytes is means = means
word-made kinds.Str bytes is means = means
word-made kinds.Int bytes is means = ltb-true (value bytes) (2 ^ 63) (and_parts _ _ is).1
word-made kinds.Dec bytes is means = decimal_small bytes is
word-made kinds.Symbol bytes is means = mark-made (meaning_of marks bytes)

items-made : (text : List ℕ) (items : List Item) (at : ℕ) → Divides text items [] → MeanTexts (lexemes at items) → AreMade (words (lexemes at items))
items-made text [] at d means = tt
items-made text (blank bytes ∷ items) at d means = items-made d.0 items (at + length bytes) d.3 means
items-made text (token kind bytes ∷ items) at d means = (word-made kind bytes d.2.spelled means.0, items-made d.0 items (at + length bytes) d.3 means.1)

pub words-made : (text : List ℕ) (tokens : List Lexeme) → Tokens text tokens → AreMade (words tokens)
words-made text tokens is =
    let means : MeanTexts (lexemes 0 is.1.0) = subst MeanTexts is.1.2 (tokens_mean text tokens is) in
    subst (λ l. AreMade (words l)) (sym is.1.2) (items-made text is.1.0 0 is.1.1 means)
