-- The words of every tree that a parse can give spell that tree.
use Rattle.std.proofs.Common.{◌≡◌, ℕ, ◌+◌, leb, List, [], ◌∷◌, ◌++◌, codes, refl, sym, ◌∙◌, ap, subst, arith, append-nil}
use Rattle.ad_lexer.specs.Tokens.{Item, token}
use Rattle.ad_lexer.specs.declared.token.TokenKind.TheVariants as kinds
use Rattle.ad_tree.specs.Inline.{Inline, shape, inner, Inlines, end, next, Defs, no_defs, def}
use Rattle.ad_tree.specs.Tree.{Label, literal, name, unary, binary, all, any, choice, select, subscript, call, list}
use Rattle.ad_tree.specs.declared.tree.Scope.{Scope}
use Rattle.ad_tree.specs.declared.tree.Scope.TheVariants as scopes
use Rattle.pool_text.specs.declared.language.Lit.{Lit}
use Rattle.ad_grammar.specs.Grammar as grammar
use Rattle.ad_grammar.specs.Grammar.{IsExpr, IsList, IsSeveral, IsAd, IsDefs}
use Rattle.ad_grammar.specs.Made.{IsNameText, IsWritten, IsNode, IsMade, AllMade, DefsMade}
use Rattle.ad_builder.specs.Shapes.{leaf, over_one, over_two, over_three}
use Rattle.ad_grammar.specs.Operators.{precedence}
use Rattle.ad_grammar.specs.Words.{Word, plain, constant, mark, word_of_kind}
use Rattle.ad_lexer.specs.declared.mark.Mark.TheVariants as marks
use Rattle.ad_printer.specs.Pieces.{space, symbol, spaced, then_space, name_piece, scoped, literal_piece, behind, divided, enclosed}
use Rattle.ad_printer.specs.Printed.{label_precedence, loose, first_bound, other_bound, grouped, around, pieces, operands, definition_pieces}
use Rattle.ad_printer.proofs.WordLemmas.{words_of, words_of-append, name_word, literal_word}
use Rattle.ad_printer.proofs.ReadLemmas.{ReadsAs, from_postfix, from_primary, from_expr, reads-by, no_scope-with, closed-words, part_reads, EachReads}
use Rattle.ad_printer.proofs.ReadLemmas.{unary_reads, spaced-words, binary_reads, all_reads, any_reads}

-- ---- leaves

literal_reads : (lit : Lit) → IsWritten lit → ReadsAs (label_precedence (literal lit)) (words_of (literal_piece lit ∷ [])) (leaf (literal lit))
literal_reads lit made =
    reads-by (label_precedence (literal lit)) (words_of (literal_piece lit ∷ [])) (constant lit ∷ []) (leaf (literal lit))
    (ap (λ ws. ws ++ []) (literal_word lit made))
    (from_primary (label_precedence (literal lit)) (constant lit ∷ []) (leaf (literal lit)) (grammar.constant_operand lit) tt)

scoped_reads : (scope : Scope) (text : List ℕ) → IsNameText text → ReadsAs 0 (words_of (scoped scope text)) (leaf (name scope text))
scoped_reads scopes.Bare text made =
    let n = name_word text made in
    reads-by 0 (words_of (name_piece text ∷ [])) (n.name ∷ []) (leaf (name scopes.Bare text)) (ap (λ ws. ws ++ []) n.is)
    (from_primary 0 (n.name ∷ []) (leaf (name scopes.Bare text)) (grammar.named n.name text n.names) n.alone)
scoped_reads scopes.My text made =
    let n = name_word text made in
    let ws : List Word = plain (codes "MY") ∷ mark marks.Dot ∷ n.name ∷ [] in
    reads-by 0 (words_of (scoped scopes.My text)) ws (leaf (name scopes.My text)) (ap (λ us. plain (codes "MY") ∷ mark marks.Dot ∷ (us ++ [])) n.is)
    (from_primary 0 ws (leaf (name scopes.My text)) (grammar.scoped scopes.My (codes "MY") text n.name refl n.names) tt)
scoped_reads scopes.Target text made =
    let n = name_word text made in
    let ws : List Word = plain (codes "TARGET") ∷ mark marks.Dot ∷ n.name ∷ [] in
    reads-by 0 (words_of (scoped scopes.Target text)) ws (leaf (name scopes.Target text))
    (ap (λ us. plain (codes "TARGET") ∷ mark marks.Dot ∷ (us ++ [])) n.is)
    (from_primary 0 ws (leaf (name scopes.Target text)) (grammar.scoped scopes.Target (codes "TARGET") text n.name refl n.names) tt)

-- ---- rows

several_reads : (w : List Word) (x : Inline) (xs : Inlines) → IsExpr w x → EachReads xs
    → IsSeveral (w ++ words_of (behind (then_space (codes ",")) (operands 13 13 xs))) (next x xs)
several_reads w x end is each = subst (λ ws. IsSeveral ws (next x end)) (sym (append-nil w)) (grammar.last_one w x is)
several_reads w x (next y ys) is each =
    let p : List Item = grouped (leb (loose y) 13) (pieces y) in
    let rest : List Item = behind (then_space (codes ",")) (operands 13 13 ys) in
    grammar.one_more (w ++ mark marks.Comma ∷ words_of (p ++ rest)) w (words_of p ++ words_of rest) x (next y ys)
    (ap (λ ws. w ++ mark marks.Comma ∷ ws) (words_of-append p rest)) is
    (several_reads (words_of p) y ys (part_reads 13 y each.0).whole each.1)

row_reads : (is : Inlines) → EachReads is → IsList (words_of (divided (then_space (codes ",")) (operands 13 13 is))) is
row_reads end each = grammar.nothing
row_reads (next x xs) each =
    let p : List Item = grouped (leb (loose x) 13) (pieces x) in
    let rest : List Item = behind (then_space (codes ",")) (operands 13 13 xs) in
    grammar.something (words_of (p ++ rest)) (next x xs)
    (subst (λ ws. IsSeveral ws (next x xs)) (sym (words_of-append p rest)) (several_reads (words_of p) x xs (part_reads 13 x each.0).whole each.1))

-- the words of a row between brackets
enclosed-words : (left right : List ℕ) (divider : List Item) (ps : List (List Item))
    → words_of (enclosed left right divider ps) ≡ word_of_kind kinds.Symbol left ∷ (words_of (divided divider ps) ++ word_of_kind kinds.Symbol right
    ∷ [])
enclosed-words left right divider [] = refl
enclosed-words left right divider (p ∷ ps) =
    ap (λ ws. word_of_kind kinds.Symbol left ∷ ws) (words_of-append (divided divider (p ∷ ps)) (space ∷ symbol right ∷ []))

-- ---- nodes

choice_reads : (a b c : List Item) (x y z : Inline) → ReadsAs 12 (words_of a) x → ReadsAs 13 (words_of b) y → ReadsAs 13 (words_of c) z
    → ReadsAs 13 (words_of (a ++ (spaced (codes "?") ++ (b ++ (spaced (codes ":") ++ c))))) (over_three choice x y z)
choice_reads a b c x y z r s t =
    let later : List Item = b ++ (spaced (codes ":") ++ c) in
    let ws : List Word = words_of a ++ mark marks.Question ∷ (words_of b ++ mark marks.Colon ∷ words_of c) in
    let same : words_of (a ++ (spaced (codes "?") ++ later)) ≡ ws =
    spaced-words (codes "?") marks.Question a later refl
    ∙ ap (λ us. words_of a ++ mark marks.Question ∷ us) (spaced-words (codes ":") marks.Colon b c refl)
    in
    reads-by 13 (words_of (a ++ (spaced (codes "?") ++ later))) ws (over_three choice x y z) same
    (from_expr ws (over_three choice x y z) (grammar.conditional ws (words_of a) (words_of b) (words_of c) x y z refl
    (r.at_level 10 (omega arith) (omega arith)) s.whole t.whole))

select_reads : (text : List ℕ) (a : List Item) (x : Inline) → IsNameText text → ReadsAs 0 (words_of a) x
    → ReadsAs 0 (words_of (a ++ (symbol (codes ".") ∷ name_piece text ∷ []))) (over_one (select text) x)
select_reads text a x made r =
    let n = name_word text made in
    let rest : List Item = symbol (codes ".") ∷ name_piece text ∷ [] in
    let ws : List Word = words_of a ++ mark marks.Dot ∷ n.name ∷ [] in
    let same : words_of (a ++ rest) ≡ ws = words_of-append a rest ∙ ap (λ us. words_of a ++ mark marks.Dot ∷ (us ++ [])) n.is in
    reads-by 0 (words_of (a ++ rest)) ws (over_one (select text) x) same
    (from_postfix 0 ws (over_one (select text) x) (grammar.selection ws (words_of a) n.name text x refl (r.no_scope (omega arith)) (r.as_postfix (omega arith))
    n.names) (no_scope-with (words_of a) marks.Dot (n.name ∷ [])))

subscript_reads : (a b : List Item) (x y : Inline) → ReadsAs 1 (words_of a) x → ReadsAs 13 (words_of b) y
    → ReadsAs 0 (words_of (a ++ (symbol (codes "[") ∷ (b ++ symbol (codes "]") ∷ [])))) (over_two subscript x y)
subscript_reads a b x y r s =
    let close : List Item = symbol (codes "]") ∷ [] in
    let inside : List Word = words_of b ++ mark marks.CloseBracket ∷ [] in
    let ws : List Word = words_of a ++ mark marks.OpenBracket ∷ inside in
    let same : words_of (a ++ (symbol (codes "[") ∷ (b ++ close))) ≡ ws =
    words_of-append a (symbol (codes "[") ∷ (b ++ close)) ∙ ap (λ us. words_of a ++ mark marks.OpenBracket ∷ us) (words_of-append b close) in
    reads-by 0 (words_of (a ++ (symbol (codes "[") ∷ (b ++ close)))) ws (over_two subscript x y) same
    (from_postfix 0 ws (over_two subscript x y) (grammar.subscripted ws (words_of a) (words_of b) x y refl (r.as_postfix (omega arith)) s.whole)
    (no_scope-with (words_of a) marks.OpenBracket inside))

call_reads : (text : List ℕ) (is : Inlines) → EachReads is
    → ReadsAs 0 (words_of (token kinds.Plain text ∷ symbol (codes "(") ∷ (divided (then_space (codes ",")) (operands 13 13 is) ++ symbol (codes ")")
    ∷ []))) (shape (call text) is)
call_reads text is each =
    let row : List Item = divided (then_space (codes ",")) (operands 13 13 is) in
    let ws : List Word = plain text ∷ mark marks.OpenParen ∷ (words_of row ++ mark marks.CloseParen ∷ []) in
    reads-by 0 (words_of (token kinds.Plain text ∷ symbol (codes "(") ∷ (row ++ symbol (codes ")") ∷ []))) ws (shape (call text) is)
    (ap (λ us. plain text ∷ us) (closed-words (codes "(") (codes ")") row))
    (from_primary 0 ws (shape (call text) is) (grammar.called text (words_of row) ws is refl (row_reads is each)) tt)

list_reads : (is : Inlines) → EachReads is
    → ReadsAs 0 (words_of (enclosed (codes "{") (codes "}") (then_space (codes ",")) (operands 13 13 is))) (shape list is)
list_reads is each =
    let ps : List (List Item) = operands 13 13 is in
    let row : List Word = words_of (divided (then_space (codes ",")) ps) in
    let ws : List Word = mark marks.OpenBrace ∷ (row ++ mark marks.CloseBrace ∷ []) in
    reads-by 0 (words_of (enclosed (codes "{") (codes "}") (then_space (codes ",")) ps)) ws (shape list is)
    (enclosed-words (codes "{") (codes "}") (then_space (codes ",")) ps)
    (from_primary 0 ws (shape list is) (grammar.listed row ws is refl (row_reads is each)) tt)

node_reads : (label : Label) (is : Inlines) → IsNode label is → EachReads is
    → ReadsAs (label_precedence label) (words_of (around label (operands (first_bound label) (other_bound label) is))) (shape label is)
node_reads (literal lit) end node each = literal_reads lit node.0
node_reads (literal lit) (next x xs) node each = absurd (omega (arith, node.1))
node_reads (name scope text) end node each = scoped_reads scope text node.0
node_reads (name scope text) (next x xs) node each = absurd (omega (arith, node.1))
node_reads (unary op) end node each = absurd (omega (arith, node))
node_reads (unary op) (next x end) node each = unary_reads op (grouped (leb (loose x) 2) (pieces x)) x (part_reads 2 x each.0)
node_reads (unary op) (next x (next y ys)) node each = absurd (omega (arith, node))
node_reads (binary op) end node each = absurd (omega (arith, node))
node_reads (binary op) (next x end) node each = absurd (omega (arith, node))
node_reads (binary op) (next x (next y end)) node each =
    let first : ℕ = 2 + precedence op in
    let other : ℕ = 1 + precedence op in
    binary_reads op (grouped (leb (loose x) first) (pieces x)) (grouped (leb (loose y) other) (pieces y)) x y (part_reads first x each.0)
    (part_reads other y each.1.0)
node_reads (binary op) (next x (next y (next z zs))) node each = absurd (omega (arith, node))
node_reads all end node each = absurd (omega (arith, node.0))
node_reads all (next x end) node each = absurd (omega (arith, node.0))
node_reads all (next x (next y ys)) node each = all_reads x y ys node.1 each
node_reads any end node each = absurd (omega (arith, node.0))
node_reads any (next x end) node each = absurd (omega (arith, node.0))
node_reads any (next x (next y ys)) node each = any_reads x y ys node.1 each
node_reads choice end node each = absurd (omega (arith, node))
node_reads choice (next x end) node each = absurd (omega (arith, node))
node_reads choice (next x (next y end)) node each = absurd (omega (arith, node))
node_reads choice (next x (next y (next z end))) node each =
    choice_reads (grouped (leb (loose x) 12) (pieces x)) (grouped (leb (loose y) 13) (pieces y)) (grouped (leb (loose z) 13) (pieces z)) x y z
    (part_reads 12 x each.0) (part_reads 13 y each.1.0) (part_reads 13 z each.1.1.0)
node_reads choice (next x (next y (next z (next u us)))) node each = absurd (omega (arith, node))
node_reads (select text) end node each = absurd (omega (arith, node.1))
node_reads (select text) (next x end) node each = select_reads text (grouped (leb (loose x) 0) (pieces x)) x node.0 (part_reads 0 x each.0)
node_reads (select text) (next x (next y ys)) node each = absurd (omega (arith, node.1))
node_reads subscript end node each = absurd (omega (arith, node))
node_reads subscript (next x end) node each = absurd (omega (arith, node))
node_reads subscript (next x (next y end)) node each =
    subscript_reads (grouped (leb (loose x) 1) (pieces x)) (grouped (leb (loose y) 13) (pieces y)) x y (part_reads 1 x each.0) (part_reads 13 y each.1.0)
node_reads subscript (next x (next y (next z zs))) node each = absurd (omega (arith, node))
node_reads (call text) is node each = call_reads text is each
node_reads list is node each = list_reads is each

-- ---- definitions

abbrev DefsRead : Defs → Type 0
DefsRead no_defs = Unit {0}
DefsRead (def text x ds) = IsNameText text × IsExpr (words_of (pieces x)) x × DefsRead ds

definitions_read : (text : List ℕ) (x : Inline) (ds : Defs) → IsNameText text → IsExpr (words_of (pieces x)) x → DefsRead ds
    → IsDefs (words_of (divided (then_space (codes ";")) (definition_pieces (def text x ds)))) (def text x ds)
definitions_read text x no_defs made is each =
    let n = name_word text made in
    let p : List Item = name_piece text ∷ (spaced (codes "=") ++ pieces x) in
    let same : words_of (p ++ []) ≡ n.name ∷ mark marks.Assign ∷ words_of (pieces x) =
    words_of-append p [] ∙ append-nil (words_of p) ∙ ap (λ ws. ws ++ mark marks.Assign ∷ words_of (pieces x)) n.is
    in
    subst (λ ws. IsDefs ws (def text x no_defs)) (sym same) (grammar.last_def n.name text (words_of (pieces x)) x n.names is)
definitions_read text x (def more y ds) made is each =
    let n = name_word text made in
    let p : List Item = name_piece text ∷ (spaced (codes "=") ++ pieces x) in
    let later : List Item = divided (then_space (codes ";")) (definition_pieces (def more y ds)) in
    let value : List Word = words_of (pieces x) in
    let same : words_of (p ++ (then_space (codes ";") ++ later)) ≡ n.name ∷ mark marks.Assign ∷ (value ++ mark marks.Semicolon ∷ words_of later) =
    words_of-append p (then_space (codes ";") ++ later)
    ∙ ap (λ ws. (ws ++ mark marks.Assign ∷ value) ++ mark marks.Semicolon ∷ words_of later) n.is
    in
    grammar.more_defs n.name text value (words_of later) (words_of (p ++ (then_space (codes ";") ++ later))) x (def more y ds) same n.names is
    (definitions_read more y ds each.0 each.1 each.2)

pub ad_reads : (ds : Defs) → DefsRead ds → IsAd (words_of (enclosed (codes "[") (codes "]") (then_space (codes ";")) (definition_pieces ds))) ds
ad_reads no_defs each = grammar.empty_ad
ad_reads (def text x ds) each =
    let ps : List (List Item) = definition_pieces (def text x ds) in
    let row : List Word = words_of (divided (then_space (codes ";")) ps) in
    grammar.full_ad row (words_of (enclosed (codes "[") (codes "]") (then_space (codes ";")) ps)) (def text x ds)
    (enclosed-words (codes "[") (codes "]") (then_space (codes ";")) ps) (definitions_read text x ds each.0 each.1 each.2)

literal_no_scope : (ds : Defs) → grammar.IsNoScope (words_of (enclosed (codes "[") (codes "]") (then_space (codes ";")) (definition_pieces ds)))
literal_no_scope no_defs = tt
literal_no_scope (def text x ds) = tt

-- ---- trees

mutual
  pub tree_reads : (x : Inline) → IsMade x → ReadsAs (loose x) (words_of (pieces x)) x
  tree_reads (shape label is) made = node_reads label is made.0 (trees_read is made.1)
  tree_reads (inner ds) made =
      let ws : List Word = words_of (enclosed (codes "[") (codes "]") (then_space (codes ";")) (definition_pieces ds)) in
      from_primary 0 ws (inner ds) (grammar.ad_literal ws ds (ad_reads ds (all_read ds made))) (literal_no_scope ds)

  trees_read : (is : Inlines) → AllMade is → EachReads is
  trees_read end made = tt
  trees_read (next x xs) made = (tree_reads x made.0, trees_read xs made.1)

  pub all_read : (ds : Defs) → DefsMade ds → DefsRead ds
  all_read no_defs made = tt
  all_read (def text x ds) made = (made.0, (tree_reads x made.1).whole, all_read ds made.2)
