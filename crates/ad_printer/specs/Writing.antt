-- What contracts see of a text that grows by pieces.
use Rattle.std.specs.Prelude.{◌≡◌, ℕ, Bool, nat_le, nat_lt, not, ◌||◌, ◌==◌, List, ◌∷◌, ◌++◌, codes}
use Rattle.ad_lexer.specs.Tokens.{Item}
use Rattle.ad_tree.specs.Frames.{Frame}
use Rattle.ad_tree.specs.Inline.{inlined, inlined_all, inside, defs_of}
use Rattle.ad_tree.specs.Tree.{Tree, pack}
use Rattle.ad_printer.specs.Pieces.{text_of, spaced, then_space, name_piece, divided}
use Rattle.ad_printer.specs.Printed.{loose, grouped, pieces, operands, definition_pieces}

-- a text grew by the text of pieces
pub record Adds (before : List ℕ) (items : List Item) (after : List ℕ) : Type 0 where
  pub grown : after ≡ before ++ text_of items

-- the pieces of a plain tree of these frames, with so many levels of frames opened
abbrev pub pieces_in : List Frame → ℕ → Tree → List Item
pieces_in fs turns t = pieces (inlined (inside fs turns) t)

-- the same in parentheses where it binds more loosely than a bound
abbrev pub part_in : List Frame → ℕ → ℕ → Tree → List Item
part_in fs turns bound t = grouped (nat_le (loose (inlined (inside fs turns) t)) bound) (pieces_in fs turns t)

-- a row of plain trees, of which the first may bind more loosely than the others
abbrev pub row_in : List Frame → ℕ → List Item → ℕ → ℕ → List Tree → List Item
row_in fs turns divider first other ts = divided divider (operands first other (inlined_all (inside fs turns) (pack ts)))

-- a definition, and a row of them
abbrev pub definition_in : List Frame → ℕ → List ℕ → Tree → List Item
definition_in fs turns text t = name_piece text ∷ (spaced (codes "=") ++ pieces_in fs turns t)

abbrev pub definitions_in : List Frame → ℕ → List (List ℕ × Tree) → List Item
definitions_in fs turns attributes = divided (then_space (codes ";")) (definition_pieces (defs_of (inside fs turns) attributes))

-- a byte stands between quotes as it is
abbrev pub stands_plain : ℕ → ℕ → Bool
stands_plain quote byte = not (byte == quote || byte == 92 || nat_lt byte 32 || byte == 127)
