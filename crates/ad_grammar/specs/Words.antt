-- The words of the grammar: what a token means to the parser.
use Rattle.std.specs.Prelude.{ℕ, true, false, pos, List, [], ◌∷◌, map, codes, Option, None, Some}
use Rattle.pool_text.specs.Folding.{folded}
use Rattle.pool_text.specs.declared.language.BinOp.TheVariants.{Same, NotSame}
use Rattle.pool_text.specs.declared.language.Lit.{Lit}
use Rattle.pool_text.specs.declared.language.Lit.TheVariants.{Undefined, Error, Boolean, Integer, Decimal, Str}
use Rattle.ad_tree.specs.declared.tree.Scope.{Scope}
use Rattle.ad_tree.specs.declared.tree.Scope.TheVariants.{My, Target}
use Rattle.ad_lexer.specs.Content.{content}
use Rattle.ad_lexer.specs.Lexeme.{Lexeme}
use Rattle.ad_lexer.specs.Marks.{marks, meaning_of}
use Rattle.ad_lexer.specs.Numbers.{millionths, value}
use Rattle.ad_lexer.specs.declared.token.TokenKind.{TokenKind}
use Rattle.ad_lexer.specs.declared.token.TokenKind.TheVariants as kinds
use Rattle.ad_lexer.specs.declared.mark.Mark.{Mark}
use Rattle.ad_lexer.specs.declared.mark.Mark.TheVariants.{Binary}

-- a plain name, a name that stood in quotes, a literal, or a symbol
pub data Word : Type 0 where
  plain : List ℕ → Word
  quoted : List ℕ → Word
  constant : Lit → Word
  mark : Mark → Word

-- the reserved words, which are literals or operators
abbrev pub reserved_words : List (List ℕ × Word)
reserved_words =
    (codes "true", constant (Boolean true)) ∷ (codes "false", constant (Boolean false)) ∷ (codes "undefined", constant Undefined)
    ∷ (codes "error", constant Error) ∷ (codes "is", mark (Binary Same)) ∷ (codes "isnt", mark (Binary NotSame)) ∷ []

-- the scopes by the words that name them
abbrev pub scopes : List (List ℕ × Scope)
scopes = (codes "my", My) ∷ (codes "self", My) ∷ (codes "target", Target) ∷ (codes "other", Target) ∷ []

-- the scope that a plain name is in front of a dot, in any case
abbrev pub scope_of : List ℕ → Option Scope
scope_of name = meaning_of scopes (folded name)

-- a word, or the literal undefined for none; each reserved word stands in its table, so it is never for none
abbrev pub or_undefined : Option Word → Word
or_undefined None = constant Undefined
or_undefined (Some word) = word

-- a symbol as a word, or the literal undefined for none; each symbol stands in its table, so it is never for none
abbrev pub mark_word : Option Mark → Word
mark_word None = constant Undefined
mark_word (Some m) = mark m

-- the word of a token of this kind with these bytes
abbrev pub word_of_kind : TokenKind → List ℕ → Word
word_of_kind kinds.Plain bytes = plain bytes
word_of_kind kinds.Reserved bytes = or_undefined (meaning_of reserved_words (folded bytes))
word_of_kind kinds.Quoted bytes = quoted (content bytes)
word_of_kind kinds.Str bytes = constant (Str (content bytes))
word_of_kind kinds.Int bytes = constant (Integer (pos (value bytes)))
word_of_kind kinds.Dec bytes = constant (Decimal (pos (millionths bytes)))
word_of_kind kinds.Symbol bytes = mark_word (meaning_of marks bytes)

-- the word of a token
abbrev pub word : Lexeme → Word
word token = word_of_kind token.kind token.text

-- the words of tokens
abbrev pub words : List Lexeme → List Word
words tokens = map word tokens
