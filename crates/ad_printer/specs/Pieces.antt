-- The pieces of a printed text: the lexer's items, which are white space and tokens.
use Rattle.std.specs.Prelude.{ℕ, Bool, true, false, not, ◌&&◌, is_some, List, [], ◌∷◌, ◌++◌, codes, if◌then◌else◌}
use Rattle.std.specs.Fmt.{signed_decimal}
use Rattle.std.specs.List.{flat_map}
use Rattle.pool_text.specs.Number.{decimal_text}
use Rattle.pool_text.specs.declared.language.BinOp.{BinOp}
use Rattle.pool_text.specs.declared.language.BinOp.TheVariants as between
use Rattle.pool_text.specs.declared.language.Lit.{Lit}
use Rattle.pool_text.specs.declared.language.Lit.TheVariants as literals
use Rattle.pool_text.specs.declared.language.UnOp.{UnOp}
use Rattle.pool_text.specs.declared.language.UnOp.TheVariants as before
use Rattle.ad_tree.specs.declared.tree.Scope.{Scope}
use Rattle.ad_tree.specs.declared.tree.Scope.TheVariants as scopes
use Rattle.ad_lexer.specs.Tokens.{Item, blank, token, bytes_of}
use Rattle.ad_lexer.specs.Words.{is_word, is_reserved}
use Rattle.ad_lexer.specs.declared.token.TokenKind.TheVariants as kinds
use Rattle.ad_grammar.specs.Words.{scope_of}
use Rattle.ad_printer.specs.Quotes.{in_quotes}

-- the text of pieces
abbrev pub text_of : List Item → List ℕ
text_of items = flat_map bytes_of items

-- one space
abbrev pub space : Item
space = blank (32 ∷ [])

-- a symbol as a piece
abbrev pub symbol : List ℕ → Item
symbol bytes = token kinds.Symbol bytes

-- a symbol with a space on either side
abbrev pub spaced : List ℕ → List Item
spaced bytes = space ∷ symbol bytes ∷ space ∷ []

-- a symbol with a space behind it
abbrev pub then_space : List ℕ → List Item
then_space bytes = symbol bytes ∷ space ∷ []

-- ---- names and literals

-- a name that needs no quotes: a word that isn't reserved and names no scope
abbrev pub is_plain_name : List ℕ → Bool
is_plain_name text = is_word text && (not (is_reserved text) && not (is_some (scope_of text)))

-- a name, in quotes where it needs them
abbrev pub name_piece : List ℕ → Item
name_piece text = if is_plain_name text then token kinds.Plain text else token kinds.Quoted (in_quotes 39 text)

-- a name in its scope
abbrev pub scoped : Scope → List ℕ → List Item
scoped scopes.Bare text = name_piece text ∷ []
scoped scopes.My text = token kinds.Plain (codes "MY") ∷ symbol (codes ".") ∷ name_piece text ∷ []
scoped scopes.Target text = token kinds.Plain (codes "TARGET") ∷ symbol (codes ".") ∷ name_piece text ∷ []

-- a literal as a piece
abbrev pub literal_piece : Lit → Item
literal_piece literals.Undefined = token kinds.Reserved (codes "undefined")
literal_piece literals.Error = token kinds.Reserved (codes "error")
literal_piece (literals.Boolean true) = token kinds.Reserved (codes "true")
literal_piece (literals.Boolean false) = token kinds.Reserved (codes "false")
literal_piece (literals.Integer n) = token kinds.Int (signed_decimal n)
literal_piece (literals.Decimal n) = token kinds.Dec (decimal_text n)
literal_piece (literals.Str text) = token kinds.Str (in_quotes 34 text)

-- ---- operators

-- the symbol of an operator before its operand
abbrev pub prefix_bytes : UnOp → List ℕ
prefix_bytes before.Plus = codes "+"
prefix_bytes before.Minus = codes "-"
prefix_bytes before.Not = codes "!"
prefix_bytes before.Complement = codes "~"

-- the symbol of an operator between its operands
abbrev pub infix_bytes : BinOp → List ℕ
infix_bytes between.BitOr = codes "|"
infix_bytes between.BitXor = codes "^"
infix_bytes between.BitAnd = codes "&"
infix_bytes between.Equal = codes "=="
infix_bytes between.Unequal = codes "!="
infix_bytes between.Same = codes "=?="
infix_bytes between.NotSame = codes "=!="
infix_bytes between.Less = codes "<"
infix_bytes between.AtMost = codes "<="
infix_bytes between.Greater = codes ">"
infix_bytes between.AtLeast = codes ">="
infix_bytes between.ShiftLeft = codes "<<"
infix_bytes between.ShiftRight = codes ">>"
infix_bytes between.ShiftZero = codes ">>>"
infix_bytes between.Add = codes "+"
infix_bytes between.Sub = codes "-"
infix_bytes between.Mul = codes "*"
infix_bytes between.Div = codes "/"
infix_bytes between.Rem = codes "%"

-- ---- rows

-- pieces behind the first of a row, each behind what divides them
abbrev pub behind : List Item → List (List Item) → List Item
behind divider [] = []
behind divider (p ∷ ps) = divider ++ (p ++ behind divider ps)

-- the pieces of a row, with what divides them between each two
abbrev pub divided : List Item → List (List Item) → List Item
divided divider [] = []
divided divider (p ∷ ps) = p ++ behind divider ps

-- a row between brackets, with a space inside each
abbrev pub enclosed : List ℕ → List ℕ → List Item → List (List Item) → List Item
enclosed left right divider [] = symbol left ∷ space ∷ symbol right ∷ []
enclosed left right divider (p ∷ ps) = symbol left ∷ space ∷ (divided divider (p ∷ ps) ++ space ∷ symbol right ∷ [])
