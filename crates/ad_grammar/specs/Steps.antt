-- What contracts see of the parser's place in its words, and what its rules answer.
use Rattle.std.specs.Prelude.{◌≡◌, ℕ, Bool, true, false, List, [], ◌∷◌, drop, Option, None, Some, option_map, Result, Ok, Err}
use Rattle.pool_text.specs.declared.language.UnOp.{UnOp}
use Rattle.ad_tree.specs.Inline.{Inline, Inlines, Defs, no_defs, def}
use Rattle.ad_tree.specs.Tree.{unary, name, select}
use Rattle.ad_tree.specs.declared.tree.Scope.{Scope}
use Rattle.ad_tree.specs.declared.tree.Scope.TheVariants.{Bare}
use Rattle.ad_lexer.specs.declared.mark.Mark.{Mark}
use Rattle.ad_lexer.specs.declared.mark.Mark.TheVariants.{Dot}
use Rattle.ad_grammar.specs.declared.reader.Reader.{Reader}
use Rattle.ad_grammar.specs.declared.stop.Stop.{Stop}
use Rattle.ad_grammar.specs.declared.stop.Stop.TheVariants as stops
use Rattle.ad_builder.specs.Machine.{top, below, step, with_elements, with_definitions}
use Rattle.ad_builder.specs.declared.instruction.Instruction.{Instruction}
use Rattle.ad_builder.specs.declared.instruction.Instruction.TheVariants as instructions
use Rattle.ad_grammar.specs.Rules.{Reading, Rule, and_then, name_at, prefix_word, arguments, assigned, named_in, definitions_behind}
use Rattle.ad_builder.specs.Shapes.{leaf, over_one}
use Rattle.ad_grammar.specs.Words.{Word, plain, constant, mark, scope_of, words}

-- the words that are left
abbrev pub left : Reader → List Word
left r = drop r.at (words r.tokens)

-- an operator before an operand
abbrev pub prefix_at : List Word → Reading UnOp
prefix_at [] = None
prefix_at (w ∷ ws) = option_map (λ op. (op, ws)) (prefix_word w)

-- a mark was taken, or doesn't stand there
pub record Takes (m : Mark) (old new : List Word) (stood : Bool) : Type 0 where
  pub taken : stood ≡ true → old ≡ mark m ∷ new
  pub kept : stood ≡ false → new ≡ old
  pub other : stood ≡ false → (rest : List Word) → old ≡ mark m ∷ rest → ⊥

-- a reading answers what it reads, and stops where it reads nothing
pub record Gives {A B : Type 0} (seen : A → B) (wanted : Reading B) (answer : Result A Stop) (rest : List Word) : Type 0 where
  pub ok : (a : A) → answer ≡ Ok a → wanted ≡ Some (seen a, rest)
  pub none : answer ≡ Err stops.Grammar → wanted ≡ None

-- a rule puts the tree that it reads on the stack, and stops where it reads nothing
pub record Puts (wanted : Reading Inline) (answer : Result (Unit {0}) Stop) (rest : List Word) (before after : List Inline) : Type 0 where
  pub ok : (done : Unit {0}) → answer ≡ Ok done → wanted ≡ Some (top after, rest)
  pub on : (done : Unit {0}) → answer ≡ Ok done → below after ≡ before
  pub none : answer ≡ Err stops.Grammar → wanted ≡ None

-- a plain name or a literal, as the instruction that puts it on the stack
abbrev pub put_at : List Word → Reading Instruction
put_at (plain text ∷ ws) = Some (instructions.Name Bare text, ws)
put_at (constant lit ∷ ws) = Some (instructions.Literal lit, ws)
put_at ws = None

-- a rule adds the tree that it reads to the list or the call that is the last on the stack, and stops where it reads nothing
pub record Adds (wanted : Reading Inline) (answer : Result (Unit {0}) Stop) (rest : List Word) (before after : List Inline) : Type 0 where
  pub ok : (done : Unit {0}) → answer ≡ Ok done → (x : Inline) × (wanted ≡ Some (x, rest)) × (after ≡ step instructions.Element (x ∷ before))
  pub none : answer ≡ Err stops.Grammar → wanted ≡ None

-- a list, a call or an ad literal with what is read
abbrev pub extended : Inline → Reading Inlines → Reading Inline
extended x r = and_then r (λ ys rest. Some (with_elements x ys, rest))

abbrev pub completed : Inline → Reading Defs → Reading Inline
completed x r = and_then r (λ ds rest. Some (with_definitions x ds, rest))

-- a primary was begun: all of it, or a call of which the arguments are to be read
pub record Begins (wanted : Rule → Reading Inline) (answer : Result Bool Stop) (rest : List Word) (before after : List Inline) : Type 0 where
  pub whole : answer ≡ Ok false → (e : Rule) → wanted e ≡ Some (top after, rest)
  pub call : answer ≡ Ok true → (e : Rule) → wanted e ≡ extended (top after) (arguments e rest)
  pub on : (begun : Bool) → answer ≡ Ok begun → below after ≡ before
  pub none : answer ≡ Err stops.Grammar → (e : Rule) → wanted e ≡ None

-- an attempt answers what it reads, and keeps its place where it reads nothing
pub record Finds {A B : Type 0} (seen : A → B) (wanted : Reading B) (answer : Option A) (old rest : List Word) : Type 0 where
  pub some : (a : A) → answer ≡ Some a → wanted ≡ Some (seen a, rest)
  pub none : answer ≡ None → wanted ≡ None
  pub kept : answer ≡ None → rest ≡ old

-- operators on an operand, the last of them first
abbrev pub applied : List UnOp → Inline → Inline
applied [] x = x
applied (op ∷ ops) x = over_one (unary op) (applied ops x)

abbrev pub wrapped : List UnOp → Reading Inline → Reading Inline
wrapped ops r = and_then r (λ x rest. Some (applied ops x, rest))

-- a plain name or a name in a scope, where no call begins
abbrev pub reference : List ℕ → List Word → Reading Inline
reference text (mark Dot ∷ ws) = named_in (scope_of text) text ws
reference text ws = Some (leaf (name Bare text), ws)

-- a name in a scope and a selection behind the dot, and the name of a definition
abbrev pub attribute_at : Scope → List Word → Reading Inline
attribute_at scope ws = and_then (name_at ws) (λ text rest. Some (leaf (name scope text), rest))

abbrev pub selected : Inline → List Word → Reading Inline
selected x ws = and_then (name_at ws) (λ text rest. Some (over_one (select text) x, rest))

abbrev pub defined_at : List Word → Reading (List ℕ)
defined_at ws = and_then (name_at ws) (λ text rest. assigned (λ more. Some (text, more)) rest)

-- whether definitions go on behind one, or end with their bracket
abbrev pub ContinuesOk : List Word → Bool → List Word → Type 0
ContinuesOk old true new =
    (more : List Word → Reading Defs) (text : List ℕ) (x : Inline)
    → definitions_behind more text x old ≡ and_then (more new) (λ ds rest. Some (def text x ds, rest))
ContinuesOk old false new = (more : List Word → Reading Defs) (text : List ℕ) (x : Inline) → definitions_behind more text x old ≡ Some (def text x no_defs, new)

pub record Continues (old new : List Word) (answer : Result Bool Stop) : Type 0 where
  pub ok : (goes : Bool) → answer ≡ Ok goes → ContinuesOk old goes new
  pub none : answer ≡ Err stops.Grammar → (more : List Word → Reading Defs) (text : List ℕ) (x : Inline) → definitions_behind more text x old ≡ None
