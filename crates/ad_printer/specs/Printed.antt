-- The printed text of a spelled tree.
use Rattle.std.specs.Prelude.{ℕ, ◌+◌, Bool, true, false, nat_le, List, [], ◌∷◌, ◌++◌, codes}
use Rattle.pool_text.specs.declared.language.Lit.TheVariants.{Integer, Decimal}
use Rattle.ad_lexer.specs.Tokens.{Item, token}
use Rattle.ad_lexer.specs.declared.token.TokenKind.TheVariants as kinds
use Rattle.ad_tree.specs.Inline.{Inline, shape, inner, Inlines, end, next, Defs, no_defs, def}
use Rattle.ad_tree.specs.Tree.{Label, literal, name, unary, binary, all, any, choice, select, subscript, call, list}
use Rattle.ad_grammar.specs.Operators.{precedence}
use Rattle.ad_printer.specs.Pieces.{text_of, symbol, spaced, then_space, name_piece, scoped, literal_piece, prefix_bytes, infix_bytes, divided, enclosed}

-- how loosely a node binds: 0 before a dot and all, 1 an integer or a decimal, 2 an operator before its operand, then the operators
-- between two operands, then `&&`, `||` and last `? :`
abbrev pub label_precedence : Label → ℕ
label_precedence (literal (Integer n)) = 1
label_precedence (literal (Decimal n)) = 1
label_precedence (unary op) = 2
label_precedence (binary op) = 2 + precedence op
label_precedence all = 11
label_precedence any = 12
label_precedence choice = 13
label_precedence label = 0

-- how loosely a tree binds: as its node does, and an ad literal not at all
abbrev pub loose : Inline → ℕ
loose (shape label is) = label_precedence label
loose (inner ds) = 0

-- how loosely the first tree below a node may bind without parentheses
abbrev pub first_bound : Label → ℕ
first_bound (unary op) = 2
first_bound (binary op) = 2 + precedence op
first_bound all = 11
first_bound any = 12
first_bound choice = 12
first_bound (select text) = 0
first_bound subscript = 1
first_bound label = 13

-- how loosely the other trees below a node may bind without parentheses
abbrev pub other_bound : Label → ℕ
other_bound (binary op) = 1 + precedence op
other_bound all = 10
other_bound any = 11
other_bound label = 13

-- pieces as they are where they need no parentheses, and else in parentheses
abbrev pub grouped : Bool → List Item → List Item
grouped true items = items
grouped false items = symbol (codes "(") ∷ (items ++ symbol (codes ")") ∷ [])

-- a node's pieces, by those of the trees below it
abbrev pub around : Label → List (List Item) → List Item
around (literal lit) [] = literal_piece lit ∷ []
around (name scope text) [] = scoped scope text
around (unary op) (a ∷ []) = symbol (prefix_bytes op) ∷ a
around (binary op) (a ∷ b ∷ []) = a ++ (spaced (infix_bytes op) ++ b)
around all ps = divided (spaced (codes "&&")) ps
around any ps = divided (spaced (codes "||")) ps
around choice (a ∷ b ∷ c ∷ []) = a ++ (spaced (codes "?") ++ (b ++ (spaced (codes ":") ++ c)))
around (select text) (a ∷ []) = a ++ (symbol (codes ".") ∷ name_piece text ∷ [])
around subscript (a ∷ b ∷ []) = a ++ (symbol (codes "[") ∷ (b ++ symbol (codes "]") ∷ []))
around (call text) ps = token kinds.Plain text ∷ symbol (codes "(") ∷ (divided (then_space (codes ",")) ps ++ symbol (codes ")") ∷ [])
around list ps = enclosed (codes "{") (codes "}") (then_space (codes ",")) ps
around label ps = []

-- the pieces of a tree, of trees below a node, and of definitions
abbrev mutual
  pub pieces : Inline → List Item
  pieces (shape label is) = around label (operands (first_bound label) (other_bound label) is)
  pieces (inner ds) = enclosed (codes "[") (codes "]") (then_space (codes ";")) (definition_pieces ds)

  pub operands : ℕ → ℕ → Inlines → List (List Item)
  operands first other end = []
  operands first other (next x xs) = grouped (nat_le (loose x) first) (pieces x) ∷ operands other other xs

  pub definition_pieces : Defs → List (List Item)
  definition_pieces no_defs = []
  definition_pieces (def text x ds) = (name_piece text ∷ (spaced (codes "=") ++ pieces x)) ∷ definition_pieces ds

-- the printed text of a tree
abbrev pub printed : Inline → List ℕ
printed x = text_of (pieces x)
