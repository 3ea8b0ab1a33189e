-- What every parsed tree keeps.
use Rattle.std.specs.Prelude.{◌≡◌, ℕ, suc, ◌<◌, ◌≤◌, ◌^◌, pos, negsuc, Bool, true, false, List, [], ◌∷◌, length}
use Rattle.pool_text.specs.declared.language.Lit.{Lit}
use Rattle.pool_text.specs.declared.language.Lit.TheVariants.{Integer, Decimal, Str}
use Rattle.ad_lexer.specs.Spelling.{Spells}
use Rattle.ad_lexer.specs.Texts.{IsText}
use Rattle.ad_lexer.specs.declared.token.TokenKind.TheVariants as kinds
use Rattle.ad_tree.specs.Inline.{Inline, shape, inner, Inlines, end, next, Defs, no_defs, def}
use Rattle.ad_tree.specs.Tree.{Label, literal, name, unary, binary, all, any, choice, select, subscript, call, list}
use Rattle.ad_grammar.specs.Words.{Word, plain, quoted, constant, mark}

-- a name: UTF-8 without byte 0, and not empty
abbrev pub IsNameText : List ℕ → Type 0
IsNameText bytes = IsText bytes × (0 < length bytes)

-- a literal that a text can hold: no number is negative, and a string is UTF-8 without byte 0
abbrev pub IsWritten : Lit → Type 0
IsWritten (Integer (pos n)) = n < 2 ^ 63
IsWritten (Integer (negsuc n)) = ⊥
IsWritten (Decimal (pos n)) = n < 2 ^ 63
IsWritten (Decimal (negsuc n)) = ⊥
IsWritten (Str bytes) = IsText bytes
IsWritten lit = Unit {0}

-- how many trees stand in a row
abbrev pub number_of : Inlines → ℕ
number_of end = 0
number_of (next i is) = suc (number_of is)

-- whether the first of them is a chain of `&&`
abbrev pub begins_with_all : Inlines → Bool
begins_with_all (next (shape all is) rest) = true
begins_with_all is = false

-- whether the first of them is a chain of `||`
abbrev pub begins_with_any : Inlines → Bool
begins_with_any (next (shape any is) rest) = true
begins_with_any is = false

-- a node has as many trees below it as its kind asks for, and holds names and literals of a text; a chain has at least
-- two elements, of which the first is no chain of its kind, and the name of a call is a plain one
abbrev pub IsNode : Label → Inlines → Type 0
IsNode (literal lit) is = IsWritten lit × (number_of is ≡ 0)
IsNode (name scope text) is = IsNameText text × (number_of is ≡ 0)
IsNode (unary op) is = number_of is ≡ 1
IsNode (binary op) is = number_of is ≡ 2
IsNode all is = (2 ≤ number_of is) × (begins_with_all is ≡ false)
IsNode any is = (2 ≤ number_of is) × (begins_with_any is ≡ false)
IsNode choice is = number_of is ≡ 3
IsNode (select text) is = IsNameText text × (number_of is ≡ 1)
IsNode subscript is = number_of is ≡ 2
IsNode (call text) is = Spells kinds.Plain text
IsNode list is = Unit {0}

-- the same of each node of a tree, and of the names of its definitions
abbrev mutual
  pub IsMade : Inline → Type 0
  IsMade (shape label is) = IsNode label is × AllMade is
  IsMade (inner ds) = DefsMade ds

  pub AllMade : Inlines → Type 0
  AllMade end = Unit {0}
  AllMade (next i is) = IsMade i × AllMade is

  pub DefsMade : Defs → Type 0
  DefsMade no_defs = Unit {0}
  DefsMade (def text i ds) = IsNameText text × IsMade i × DefsMade ds

-- a word that a text can hold: a plain name spelled as one, a quoted one that is a name's text, a literal of a text, or a symbol
abbrev pub IsMadeWord : Word → Type 0
IsMadeWord (plain text) = Spells kinds.Plain text
IsMadeWord (quoted text) = IsNameText text
IsMadeWord (constant lit) = IsWritten lit
IsMadeWord (mark m) = Unit {0}

-- a text can hold each of these words
abbrev pub AreMade : List Word → Type 0
AreMade [] = Unit {0}
AreMade (w ∷ ws) = IsMadeWord w × AreMade ws
