-- The grammar as a function: what each rule reads at the front of a list of words, and the words behind it. A rule takes
-- the parser of the expressions within it, and a number of turns that always suffices.
use Rattle.std.specs.Prelude.{ℕ, zero, suc, ◌==◌, List, [], ◌∷◌, length, Option, None, Some, if◌then◌else◌}
use Rattle.ad_tree.specs.declared.tree.Scope.{Scope}
use Rattle.ad_tree.specs.declared.tree.Scope.TheVariants.{Bare, My}
use Rattle.pool_text.specs.declared.language.UnOp.{UnOp}
use Rattle.ad_tree.specs.Inline.{Inline, Inlines, Defs, shape, inner, end, next, no_defs, def}
use Rattle.ad_tree.specs.Tree.{literal, name, unary, choice, select, subscript, call, list}
use Rattle.ad_lexer.specs.declared.mark.Mark.TheVariants.{OpenParen, CloseParen, OpenBracket, CloseBracket, OpenBrace, CloseBrace, Comma, Semicolon, Dot}
use Rattle.ad_lexer.specs.declared.mark.Mark.TheVariants.{Assign, Question, Colon}
use Rattle.ad_builder.specs.declared.instruction.Infix.{Infix}
use Rattle.ad_builder.specs.Shapes.{leaf, over_one, over_two, over_three, joined}
use Rattle.ad_grammar.specs.Operators.{infix_of, prefix_of}
use Rattle.ad_grammar.specs.Words.{Word, plain, quoted, constant, mark, scope_of}

-- what a rule reads: a value and the words behind it, or nothing where it doesn't fit
abbrev pub Reading : Type 0 → Type 0
Reading A = Option (A × List Word)

-- a rule: what it reads at the front of a list of words, as a tree
abbrev pub Rule : Type 0
Rule = List Word → Reading Inline

-- a reading and then another
abbrev pub and_then : {A B : Type 0} → Reading A → (A → List Word → Reading B) → Reading B
and_then None f = None
and_then (Some read) f = f read.0 read.1

-- a name
abbrev pub name_at : List Word → Reading (List ℕ)
name_at (plain text ∷ ws) = Some (text, ws)
name_at (quoted text ∷ ws) = Some (text, ws)
name_at ws = None

-- `)` is read behind a value
abbrev pub close_paren : {A : Type 0} → A → List Word → Reading A
close_paren x (mark CloseParen ∷ ws) = Some (x, ws)
close_paren x ws = None

-- `]` is read behind a value
abbrev pub close_bracket : {A : Type 0} → A → List Word → Reading A
close_bracket x (mark CloseBracket ∷ ws) = Some (x, ws)
close_bracket x ws = None

-- `}` is read behind a value
abbrev pub close_brace : {A : Type 0} → A → List Word → Reading A
close_brace x (mark CloseBrace ∷ ws) = Some (x, ws)
close_brace x ws = None

-- what follows an expression of several: a comma and more of them, or nothing more
abbrev pub several_behind : (List Word → Reading Inlines) → Inline → List Word → Reading Inlines
several_behind more x (mark Comma ∷ ws) = and_then (more ws) (λ xs rest. Some (next x xs, rest))
several_behind more x ws = Some (next x end, ws)

-- one expression or more, divided by commas, and at most so many
abbrev pub several : Rule → ℕ → List Word → Reading Inlines
several e zero ws = None
several e (suc n) ws = and_then (e ws) (several_behind (several e n))

-- the arguments of a call behind its `(`, or none, and the `)`
abbrev pub arguments : Rule → List Word → Reading Inlines
arguments e (mark CloseParen ∷ ws) = Some (end, ws)
arguments e ws = and_then (several e (length ws) ws) close_paren

-- the elements of a list behind its `{`, or none, and the `}`
abbrev pub elements : Rule → List Word → Reading Inlines
elements e (mark CloseBrace ∷ ws) = Some (end, ws)
elements e ws = and_then (several e (length ws) ws) close_brace

-- `=` is read, and then what follows it
abbrev pub assigned : {A : Type 0} → (List Word → Reading A) → List Word → Reading A
assigned f (mark Assign ∷ ws) = f ws
assigned f ws = None

-- what follows a definition: `]`, with a semicolon before it or without, or a semicolon and more definitions
abbrev pub definitions_behind : (List Word → Reading Defs) → List ℕ → Inline → List Word → Reading Defs
definitions_behind more text x (mark CloseBracket ∷ ws) = Some (def text x no_defs, ws)
definitions_behind more text x (mark Semicolon ∷ mark CloseBracket ∷ ws) = Some (def text x no_defs, ws)
definitions_behind more text x (mark Semicolon ∷ ws) = and_then (more ws) (λ ds rest. Some (def text x ds, rest))
definitions_behind more text x ws = None

-- one definition or more, and at most so many, with the `]` behind them
abbrev pub definitions_at : Rule → ℕ → List Word → Reading Defs
definitions_at e zero ws = None
definitions_at e (suc n) ws = and_then (name_at ws) (λ text rest. assigned (λ more. and_then (e more) (definitions_behind (definitions_at e n) text)) rest)

-- the definitions of an ad behind its `[`, or none, and the `]`
abbrev pub ad_behind : Rule → List Word → Reading Defs
ad_behind e (mark CloseBracket ∷ ws) = Some (no_defs, ws)
ad_behind e ws = definitions_at e (length ws) ws

-- a name before a dot: where it is a scope, the name behind the dot in that scope, and else the name alone, with the dot unread
abbrev pub named_in : Option Scope → List ℕ → List Word → Reading Inline
named_in None text ws = Some (leaf (name Bare text), mark Dot ∷ ws)
named_in (Some scope) text ws = and_then (name_at ws) (λ attribute rest. Some (leaf (name scope attribute), rest))

-- what begins with a plain name: a name in a scope, a call, or the name alone
abbrev pub plain_at : Rule → List ℕ → List Word → Reading Inline
plain_at e text (mark Dot ∷ ws) = named_in (scope_of text) text ws
plain_at e text (mark OpenParen ∷ ws) = and_then (arguments e ws) (λ xs rest. Some (shape (call text) xs, rest))
plain_at e text ws = Some (leaf (name Bare text), ws)

-- what needs no operator
abbrev pub primary : Rule → Rule
primary e (constant lit ∷ ws) = Some (leaf (literal lit), ws)
primary e (plain text ∷ ws) = plain_at e text ws
primary e (quoted text ∷ ws) = Some (leaf (name Bare text), ws)
primary e (mark Dot ∷ ws) = and_then (name_at ws) (λ text rest. Some (leaf (name My text), rest))
primary e (mark OpenBrace ∷ ws) = and_then (elements e ws) (λ xs rest. Some (shape list xs, rest))
primary e (mark OpenBracket ∷ ws) = and_then (ad_behind e ws) (λ ds rest. Some (inner ds, rest))
primary e (mark OpenParen ∷ ws) = and_then (e ws) close_paren
primary e ws = None

-- selections and subscripts behind an operand
abbrev pub suffixes : Rule → ℕ → Inline → List Word → Reading Inline
suffixes e (suc n) x (mark Dot ∷ ws) = and_then (name_at ws) (λ text. suffixes e n (over_one (select text) x))
suffixes e (suc n) x (mark OpenBracket ∷ ws) = and_then (and_then (e ws) close_bracket) (λ y. suffixes e n (over_two subscript x y))
suffixes e n x ws = Some (x, ws)

-- an operand with the selections and subscripts behind it
abbrev pub postfix : Rule → Rule
postfix e ws = and_then (primary e ws) (λ x rest. suffixes e (length rest) x rest)

-- the operator before an operand that a word is, if it is one
abbrev pub prefix_word : Word → Option UnOp
prefix_word (mark m) = prefix_of m
prefix_word w = None

-- an operator with its operand, or where there is none the other reading
abbrev pub prefixed_or : Option UnOp → Reading Inline → Reading Inline → Reading Inline
prefixed_or (Some op) operand other = and_then operand (λ x rest. Some (over_one (unary op) x, rest))
prefixed_or None operand other = other

-- operators before an operand, or the operand alone
abbrev pub prefixes : Rule → Rule
prefixes e [] = None
prefixes e (w ∷ ws) = prefixed_or (prefix_word w) (prefixes e ws) (postfix e (w ∷ ws))

-- an operator that was found with its precedence, if that is the one asked for
abbrev pub at_precedence : ℕ → Option (ℕ × Infix) → List Word → Reading Infix
at_precedence k None ws = None
at_precedence k (Some found) ws = if found.0 == k then Some (found.1, ws) else None

-- the operator between operands that stands at the front, if it has this precedence
abbrev pub infix_at : ℕ → List Word → Reading Infix
infix_at k (mark m ∷ ws) = at_precedence k (infix_of m) ws
infix_at k ws = None

-- an operand with the operator that was read, its right operand and what follows; alone where no operator was read
abbrev pub operation_or : Rule → (Inline → List Word → Reading Inline) → Inline → List Word → Reading Infix → Reading Inline
operation_or tight more x ws None = Some (x, ws)
operation_or tight more x ws (Some found) = and_then (tight found.1) (λ y. more (joined found.0 x y))

-- operators of one precedence behind an operand, each with its right operand, and at most so many
abbrev pub operations : Rule → ℕ → ℕ → Inline → List Word → Reading Inline
operations tight k zero x ws = Some (x, ws)
operations tight k (suc n) x ws = operation_or tight (operations tight k n) x ws (infix_at k ws)

-- operands and operators that bind at most this loosely
abbrev pub level_at : Rule → ℕ → List Word → Reading Inline
level_at e zero ws = prefixes e ws
level_at e (suc k) ws = and_then (level_at e k ws) (λ x rest. operations (level_at e k) (suc k) (length rest) x rest)

-- `:` is read behind a value
abbrev pub colon : {A : Type 0} → A → List Word → Reading A
colon x (mark Colon ∷ ws) = Some (x, ws)
colon x ws = None

-- what follows a condition: `? one : other`, or nothing
abbrev pub choice_behind : Rule → Rule → Inline → List Word → Reading Inline
choice_behind e more c (mark Question ∷ ws) =
    and_then (and_then (e ws) colon) (λ a behind. and_then (more behind) (λ b rest. Some (over_three choice c a b, rest)))
choice_behind e more c ws = Some (c, ws)

-- a conditional, or what binds tighter; behind its `:` another may stand, and so on, at most so many in all
abbrev pub conditionals : Rule → ℕ → Rule
conditionals e zero ws = None
conditionals e (suc n) ws = and_then (level_at e 10 ws) (choice_behind e (conditionals e n))

-- an expression, with at most so many expressions within one another
abbrev pub expression : ℕ → Rule
expression zero ws = None
expression (suc f) ws = conditionals (expression f) (suc (length ws)) ws

-- all of the words
abbrev pub whole : {A : Type 0} → Reading A → Option A
whole None = None
whole (Some (x, [])) = Some x
whole (Some (x, w ∷ ws)) = None

-- the tree of a list of words that is an expression; none where it is no expression
abbrev pub parsed_expr : List Word → Option Inline
parsed_expr ws = whole (expression (suc (length ws)) ws)

-- the ad literal of a list of words that is an ad
abbrev pub parsed_ad : List Word → Option Inline
parsed_ad (mark OpenBracket ∷ ws) = whole (and_then (ad_behind (expression (suc (length ws))) ws) (λ ds rest. Some (inner ds, rest)))
parsed_ad ws = None
