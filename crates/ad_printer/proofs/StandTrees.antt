-- The pieces of every tree that a parse can give stand side by side.
use Rattle.std.proofs.Common.{◌≡◌, ℕ, suc, ◌+◌, ◌<◌, ◌≤◌, Bool, true, false, eqb, leb, List, [], ◌∷◌, ◌++◌, codes, slice_index}
use Rattle.std.proofs.Common.{refl, arith, append_assoc, IsUtf8}
use Rattle.std.proofs.lemmas.Bool.{leb-true}
use Rattle.std.proofs.lemmas.Bool.Decides.{nat_tests}
use Rattle.std.specs.Char.{is_ascii}
use Rattle.pool_text.specs.declared.language.UnOp.{UnOp}
use Rattle.pool_text.specs.declared.language.UnOp.TheVariants as before
use Rattle.ad_lexer.specs.Alone.{ends_symbol}
use Rattle.ad_lexer.specs.Spelling.{Spells}
use Rattle.ad_lexer.specs.Symbols.{is_symbol}
use Rattle.ad_lexer.specs.Tokens.{Item, token, bytes_of}
use Rattle.ad_lexer.specs.Words.{is_word_byte}
use Rattle.ad_lexer.specs.declared.token.TokenKind.TheVariants as kinds
use Rattle.ad_lexer.proofs.Runs.{all_weaker}
use Rattle.ad_lexer.proofs.WordLemmas.{word_bytes}
use Rattle.ad_tree.specs.Inline.{Inline, shape, inner, Inlines, end, next, Defs, no_defs, def}
use Rattle.ad_tree.specs.Tree.{Label, literal, name, unary, binary, all, any, choice, select, subscript, call, list}
use Rattle.ad_grammar.specs.Made.{IsNameText, IsNode, IsMade, AllMade, DefsMade}
use Rattle.ad_grammar.specs.Operators.{precedence}
use Rattle.ad_printer.specs.Pieces.{text_of, space, symbol, spaced, then_space, name_piece, prefix_bytes, infix_bytes, behind, divided, enclosed}
use Rattle.ad_printer.specs.Printed.{label_precedence, loose, first_bound, other_bound, grouped, around, pieces, operands, definition_pieces}
use Rattle.ad_printer.proofs.StandLemmas.{Stand, Stand-append, Ahead, ahead-of, ahead-less, ahead-any, Stands, ascii_utf8, put-token, put-space, no_equals}
use Rattle.ad_printer.proofs.StandLemmas.{word_first, name_stands, literal_stands, put-selection, scoped_stands, Divider, spaced-divider, infix-divider}
use Rattle.ad_printer.proofs.StandLemmas.{comma-divider, semicolon-divider, put-divided, begins-append, AllStand, row-stands}

stands-less : (j k : ℕ) (items : List Item) → j ≤ k → Stands j items → Stands k items
stands-less j k items less s = record { stand = λ after a. s.stand after (ahead-less j k after less a); begins = s.begins }

-- ---- brackets

put-close : (bytes : List ℕ) (after : List ℕ) → is_symbol bytes ≡ true → IsUtf8 bytes → ((byte : ℕ) → ends_symbol bytes byte ≡ true)
    → Stand (symbol bytes ∷ []) after
put-close bytes after spells utf8 ends = put-token kinds.Symbol bytes [] after spells utf8 (ends (slice_index after 0)) tt

in_parens : (j k : ℕ) (items : List Item) → Stands j items → Stands k (symbol (codes "(") ∷ (items ++ symbol (codes ")") ∷ []))
in_parens j k items s = record {
  stand = λ after a.
      put-token kinds.Symbol (codes "(") (items ++ symbol (codes ")") ∷ []) after refl (ascii_utf8 (codes "(") refl) refl
      (Stand-append items (symbol (codes ")") ∷ []) after (s.stand (41 ∷ after) (ahead-of 41 after refl refl j)) (put-close (codes ")") after refl
      (ascii_utf8 (codes ")") refl) (λ byte. refl)));
  begins = λ after. refl;
}

part_by : (k : ℕ) (x : Inline) (fits : Bool) → leb (loose x) k ≡ fits → Stands (loose x) (pieces x) → Stands k (grouped fits (pieces x))
part_by k x true is s = stands-less (loose x) k (pieces x) (leb-true (loose x) k is) s
part_by k x false is s = in_parens (loose x) k (pieces x) s

part_stands : (k : ℕ) (x : Inline) → Stands (loose x) (pieces x) → Stands k (grouped (leb (loose x) k) (pieces x))
part_stands k x s = part_by k x (leb (loose x) k) refl s

-- a pair of brackets that stand before any byte
record Brackets (left right : List ℕ) : Type 0 where
  left_symbol : is_symbol left ≡ true
  right_symbol : is_symbol right ≡ true
  left_utf8 : IsUtf8 left
  right_utf8 : IsUtf8 right
  left_ends : ends_symbol left 32 ≡ true
  right_ends : (byte : ℕ) → ends_symbol right byte ≡ true
  begins : (after : List ℕ) → eqb (slice_index (left ++ after) 0) 61 ≡ false

enclosed_stands : (left right : List ℕ) (divider : List Item) (ps : List (List Item)) → Brackets left right → Divider divider → AllStand 13 ps
    → Stands 0 (enclosed left right divider ps)
enclosed_stands left right divider [] b d s = record {
  stand =
      λ after a. put-token kinds.Symbol left (space ∷ symbol right ∷ []) after b.left_symbol b.left_utf8 b.left_ends
      (put-space (symbol right ∷ []) after (put-close right after b.right_symbol b.right_utf8 b.right_ends));
  begins = λ after. rw (append_assoc left (text_of (space ∷ symbol right ∷ [])) after) (b.begins (text_of (space ∷ symbol right ∷ []) ++ after));
}
enclosed_stands left right divider (p ∷ ps) b d s =
    let last : List Item = space ∷ symbol right ∷ [] in
    let row : List Item = divided divider (p ∷ ps) in
    record {
      stand = λ after a.
          let before : List ℕ = text_of last ++ after in
          let ahead : Ahead 13 before = ahead-of 32 (text_of (symbol right ∷ []) ++ after) refl refl 13 in
          put-token kinds.Symbol left (space ∷ (row ++ last)) after b.left_symbol b.left_utf8 b.left_ends
          (put-space (row ++ last) after
          (Stand-append row last after (row-stands divider d 13 13 p ps before s.0 s.1 ahead ahead)
          (put-space (symbol right ∷ []) after (put-close right after b.right_symbol b.right_utf8 b.right_ends))));
      begins = λ after. rw (append_assoc left (text_of (space ∷ (row ++ last))) after) (b.begins (text_of (space ∷ (row ++ last)) ++ after));
    }

braces : Brackets (codes "{") (codes "}")
braces = record {
  left_symbol = refl;
  right_symbol = refl;
  left_utf8 = ascii_utf8 (codes "{") refl;
  right_utf8 = ascii_utf8 (codes "}") refl;
  left_ends = refl;
  right_ends = λ byte. refl;
  begins = λ after. refl;
}

square : Brackets (codes "[") (codes "]")
square = record {
  left_symbol = refl;
  right_symbol = refl;
  left_utf8 = ascii_utf8 (codes "[") refl;
  right_utf8 = ascii_utf8 (codes "]") refl;
  left_ends = refl;
  right_ends = λ byte. refl;
  begins = λ after. refl;
}

-- ---- nodes

abbrev EachStands : Inlines → Type 0
EachStands end = Unit {0}
EachStands (next x xs) = Stands (loose x) (pieces x) × EachStands xs

operands_stand : (k : ℕ) (is : Inlines) → EachStands is → AllStand k (operands k k is)
operands_stand k end each = tt
operands_stand k (next x xs) each = (part_stands k x each.0, operands_stand k xs each.1)

not_ends : (byte : ℕ) → eqb byte 61 ≡ false → ends_symbol (codes "!") byte ≡ true
not_ends byte isnt = grind (arith, nat_tests)

unary_stands : (op : UnOp) (a : List Item) → Stands 2 a → Stands 2 (symbol (prefix_bytes op) ∷ a)
unary_stands before.Plus a s =
    record {
      stand =
          λ after ahead. put-token kinds.Symbol (codes "+") a after refl (ascii_utf8 (codes "+") refl) refl (s.stand after ahead);
      begins = λ after. refl;
    }
unary_stands before.Minus a s =
    record {
      stand =
          λ after ahead. put-token kinds.Symbol (codes "-") a after refl (ascii_utf8 (codes "-") refl) refl (s.stand after ahead);
      begins = λ after. refl;
    }
unary_stands before.Not a s = record {
  stand =
      λ after ahead. put-token kinds.Symbol (codes "!") a after refl (ascii_utf8 (codes "!") refl)
      (not_ends (slice_index (text_of a ++ after) 0) (s.begins after)) (s.stand after ahead);
  begins = λ after. refl;
}
unary_stands before.Complement a s =
    record {
      stand =
          λ after ahead. put-token kinds.Symbol (codes "~") a after refl (ascii_utf8 (codes "~") refl) refl (s.stand after ahead);
      begins = λ after. refl;
    }

divided_stands : (j k : ℕ) (divider a b : List Item) → 0 < j → Divider divider → Stands j a → Stands k b → Stands j (a ++ (divider ++ b))
divided_stands j k divider a b some d x y = record {
  stand = λ after ahead. put-divided j divider a b after d x (y.stand after (ahead-any k j after some ahead));
  begins = λ after. begins-append j a (divider ++ b) after x;
}

chain_stands : (k : ℕ) (divider : List Item) (x : Inline) (xs : Inlines) → Divider divider → Stands (loose x) (pieces x) → EachStands xs
    → Stands (suc k) (divided divider (operands (suc k) k (next x xs)))
chain_stands k divider x xs d first each =
    let p : List Item = grouped (leb (loose x) (suc k)) (pieces x) in
    let s = part_stands (suc k) x first in
    record {
      stand =
          λ after ahead. row-stands divider d (suc k) k p (operands k k xs) after s (operands_stand k xs each) ahead
          (ahead-any k (suc k) after (omega arith) ahead);
      begins = λ after. begins-append (suc k) p (behind divider (operands k k xs)) after s;
    }

choice_stands : (a b c : List Item) → Stands 12 a → Stands 13 b → Stands 13 c
    → Stands 13 (a ++ (spaced (codes "?") ++ (b ++ (spaced (codes ":") ++ c))))
choice_stands a b c x y z =
    let question = spaced-divider (codes "?") refl refl refl in
    let colon = spaced-divider (codes ":") refl refl refl in
    let more = divided_stands 13 13 (spaced (codes ":")) b c (omega arith) colon y z in
    stands-less 12 13 (a ++ (spaced (codes "?") ++ (b ++ (spaced (codes ":") ++ c)))) (omega arith)
    (divided_stands 12 13 (spaced (codes "?")) a (b ++ (spaced (codes ":") ++ c)) (omega arith) question x more)

select_stands : (text : List ℕ) (a : List Item) → IsNameText text → Stands 0 a → Stands 0 (a ++ (symbol (codes ".") ∷ name_piece text ∷ []))
select_stands text a made s =
    let rest : List Item = symbol (codes ".") ∷ name_piece text ∷ [] in
    record {
      stand =
          λ after ahead. Stand-append a rest after (s.stand (text_of rest ++ after) (record { no_word = refl; dot = λ is. refl }))
          (put-selection text after made ahead.no_word);
      begins = λ after. begins-append 0 a rest after s;
    }

subscript_stands : (a b : List Item) → Stands 1 a → Stands 13 b → Stands 0 (a ++ (symbol (codes "[") ∷ (b ++ symbol (codes "]") ∷ [])))
subscript_stands a b x y =
    let close : List Item = symbol (codes "]") ∷ [] in
    let rest : List Item = symbol (codes "[") ∷ (b ++ close) in
    record {
      stand = λ after ahead.
          Stand-append a rest after (x.stand (text_of rest ++ after) (ahead-of 91 (text_of (b ++ close) ++ after) refl refl 1))
          (put-token kinds.Symbol (codes "[") (b ++ close) after refl (ascii_utf8 (codes "[") refl) refl
          (Stand-append b close after (y.stand (93 ∷ after) (ahead-of 93 after refl refl 13)) (put-close (codes "]") after refl (ascii_utf8 (codes "]") refl)
          (λ byte. refl))));
      begins = λ after. begins-append 1 a rest after x;
    }

word_low : (byte : ℕ) → is_word_byte byte ≡ true → is_ascii byte ≡ true
word_low byte is = grind (arith, nat_tests)

row_then : (ps : List (List Item)) (after : List ℕ) → AllStand 13 ps → Stand (divided (then_space (codes ",")) ps ++ symbol (codes ")") ∷ []) after
row_then [] after s = put-close (codes ")") after refl (ascii_utf8 (codes ")") refl) (λ byte. refl)
row_then (p ∷ ps) after s =
    let ahead : Ahead 13 (41 ∷ after) = ahead-of 41 after refl refl 13 in
    Stand-append (p ++ behind (then_space (codes ",")) ps) (symbol (codes ")") ∷ []) after
    (row-stands (then_space (codes ",")) comma-divider 13 13 p ps (41 ∷ after) s.0 s.1 ahead ahead)
    (put-close (codes ")") after refl (ascii_utf8 (codes ")") refl) (λ byte. refl))

call_stands : (text : List ℕ) (ps : List (List Item)) → Spells kinds.Plain text → AllStand 13 ps
    → Stands 0 (token kinds.Plain text ∷ symbol (codes "(") ∷ (divided (then_space (codes ",")) ps ++ symbol (codes ")") ∷ []))
call_stands text ps spells s =
    let rest : List Item = divided (then_space (codes ",")) ps ++ symbol (codes ")") ∷ [] in
    let utf8 : IsUtf8 text = ascii_utf8 text (all_weaker is_word_byte is_ascii word_low text (word_bytes text spells.0)) in
    record {
      stand = λ after ahead.
          put-token kinds.Plain text (symbol (codes "(") ∷ rest) after spells utf8 refl
          (put-token kinds.Symbol (codes "(") rest after refl (ascii_utf8 (codes "(") refl) refl (row_then ps after s));
      begins =
          λ after. rw (append_assoc text (text_of (symbol (codes "(") ∷ rest)) after)
          (no_equals (slice_index (text ++ (text_of (symbol (codes "(") ∷ rest) ++ after)) 0)
          (word_first text (text_of (symbol (codes "(") ∷ rest) ++ after) spells.0));
    }

node_stands : (label : Label) (is : Inlines) → IsNode label is → EachStands is
    → Stands (label_precedence label) (around label (operands (first_bound label) (other_bound label) is))
node_stands (literal lit) end node each = literal_stands lit node.0
node_stands (literal lit) (next x xs) node each = absurd (omega (arith, node.1))
node_stands (name scope text) end node each = scoped_stands scope text node.0
node_stands (name scope text) (next x xs) node each = absurd (omega (arith, node.1))
node_stands (unary op) end node each = absurd (omega (arith, node))
node_stands (unary op) (next x end) node each = unary_stands op (grouped (leb (loose x) 2) (pieces x)) (part_stands 2 x each.0)
node_stands (unary op) (next x (next y ys)) node each = absurd (omega (arith, node))
node_stands (binary op) end node each = absurd (omega (arith, node))
node_stands (binary op) (next x end) node each = absurd (omega (arith, node))
node_stands (binary op) (next x (next y end)) node each =
    let first : ℕ = 2 + precedence op in
    let other : ℕ = 1 + precedence op in
    divided_stands first other (spaced (infix_bytes op)) (grouped (leb (loose x) first) (pieces x)) (grouped (leb (loose y) other) (pieces y)) (omega arith)
    (infix-divider op) (part_stands first x each.0) (part_stands other y each.1.0)
node_stands (binary op) (next x (next y (next z zs))) node each = absurd (omega (arith, node))
node_stands all end node each = absurd (omega (arith, node.0))
node_stands all (next x xs) node each = chain_stands 10 (spaced (codes "&&")) x xs (spaced-divider (codes "&&") refl refl refl) each.0 each.1
node_stands any end node each = absurd (omega (arith, node.0))
node_stands any (next x xs) node each = chain_stands 11 (spaced (codes "||")) x xs (spaced-divider (codes "||") refl refl refl) each.0 each.1
node_stands choice end node each = absurd (omega (arith, node))
node_stands choice (next x end) node each = absurd (omega (arith, node))
node_stands choice (next x (next y end)) node each = absurd (omega (arith, node))
node_stands choice (next x (next y (next z end))) node each =
    choice_stands (grouped (leb (loose x) 12) (pieces x)) (grouped (leb (loose y) 13) (pieces y)) (grouped (leb (loose z) 13) (pieces z))
    (part_stands 12 x each.0) (part_stands 13 y each.1.0) (part_stands 13 z each.1.1.0)
node_stands choice (next x (next y (next z (next u us)))) node each = absurd (omega (arith, node))
node_stands (select text) end node each = absurd (omega (arith, node.1))
node_stands (select text) (next x end) node each = select_stands text (grouped (leb (loose x) 0) (pieces x)) node.0 (part_stands 0 x each.0)
node_stands (select text) (next x (next y ys)) node each = absurd (omega (arith, node.1))
node_stands subscript end node each = absurd (omega (arith, node))
node_stands subscript (next x end) node each = absurd (omega (arith, node))
node_stands subscript (next x (next y end)) node each =
    subscript_stands (grouped (leb (loose x) 1) (pieces x)) (grouped (leb (loose y) 13) (pieces y)) (part_stands 1 x each.0) (part_stands 13 y each.1.0)
node_stands subscript (next x (next y (next z zs))) node each = absurd (omega (arith, node))
node_stands (call text) is node each = call_stands text (operands 13 13 is) node (operands_stand 13 is each)
node_stands list is node each =
    enclosed_stands (codes "{") (codes "}") (then_space (codes ",")) (operands 13 13 is) braces comma-divider (operands_stand 13 is each)

-- ---- definitions

definition_stands : (text : List ℕ) (x : Inline) → IsNameText text → Stands (loose x) (pieces x)
    → Stands 13 (name_piece text ∷ (spaced (codes "=") ++ pieces x))
definition_stands text x made s =
    let name = name_stands text made in
    let rest : List Item = spaced (codes "=") ++ pieces x in
    let assign = spaced-divider (codes "=") refl refl refl in
    record {
      stand =
          λ after ahead. name.put rest after refl (Stand-append (spaced (codes "=")) (pieces x) after (assign.stands (text_of (pieces x) ++ after))
          (s.stand after (ahead-any (loose x) 13 after (omega arith) ahead)));
      begins = λ after. rw (append_assoc (bytes_of (name_piece text)) (text_of rest) after) (name.no_equals (text_of rest ++ after));
    }

-- ---- trees

mutual
  pub tree_stands : (x : Inline) → IsMade x → Stands (loose x) (pieces x)
  tree_stands (shape label is) made = node_stands label is made.0 (trees_stand is made.1)
  tree_stands (inner ds) made =
      enclosed_stands (codes "[") (codes "]") (then_space (codes ";")) (definition_pieces ds) square semicolon-divider (definitions_stand ds made)

  trees_stand : (is : Inlines) → AllMade is → EachStands is
  trees_stand end made = tt
  trees_stand (next x xs) made = (tree_stands x made.0, trees_stand xs made.1)

  definitions_stand : (ds : Defs) → DefsMade ds → AllStand 13 (definition_pieces ds)
  definitions_stand no_defs made = tt
  definitions_stand (def text x ds) made = (definition_stands text x made.0 (tree_stands x made.1), definitions_stand ds made.2)
