-- What may follow what a rule reads.
use Rattle.std.proofs.Common.{◌≡◌, ℕ, zero, suc, ◌<◌, List, [], ◌∷◌, Option, None, Some, refl, ap, arith}
use Rattle.std.proofs.lemmas.Bool.Decides.{nat_tests}
use Rattle.pool_text.specs.declared.language.UnOp.{UnOp}
use Rattle.ad_tree.specs.Inline.{Inline, Inlines, next, end}
use Rattle.ad_lexer.specs.declared.mark.Mark.{Mark}
use Rattle.ad_lexer.specs.declared.mark.Mark.TheVariants.{OpenParen, OpenBracket, OpenBrace, Comma, Dot, Question, And, Or, Binary}
use Rattle.ad_builder.specs.declared.instruction.Infix.{Infix}
use Rattle.ad_builder.specs.declared.instruction.Infix.TheVariants as infixes
use Rattle.ad_grammar.specs.Grammar.{IsNoScope}
use Rattle.ad_grammar.specs.Operators.{precedence, infix_of}
use Rattle.ad_grammar.specs.Words.{Word, mark}
use Rattle.ad_grammar.specs.Rules.{Reading, Rule, several_behind, suffixes, postfix, prefix_word, prefixed_or, prefixes, at_precedence, infix_at, operation_or}
use Rattle.ad_grammar.specs.Rules.{operations, choice_behind}

-- the lowest level at which such a word goes on: 0 behind an operand, then the precedence of an operator, 11 for a
-- conditional, 12 for one more expression; 13 is none of these
abbrev pub level_of : Mark → ℕ
level_of Dot = 0
level_of OpenBracket = 0
level_of OpenParen = 0
level_of (Binary op) = precedence op
level_of And = 9
level_of Or = 10
level_of Question = 11
level_of Comma = 12
level_of m = 13

abbrev pub level_behind : List Word → ℕ
level_behind (mark m ∷ ws) = level_of m
level_behind ws = 13

-- an operand of these words ends in front of what follows
abbrev pub Ends : List Word → List Word → Type 0
Ends ws (mark OpenParen ∷ rest) = ⊥
Ends ws (mark Dot ∷ rest) = IsNoScope ws
Ends ws rest = Unit {0}

pub ends : (ws rest : List Word) → 0 < level_behind rest → Ends ws rest
ends ws (mark OpenParen ∷ rest) h = absurd (omega arith)
ends ws (mark Dot ∷ rest) h = absurd (omega arith)
ends ws rest h = tt

-- what doesn't go on is left
pub suffixes-stop : (e : Rule) (n : ℕ) (x : Inline) (rest : List Word)
    → 0 < level_behind rest → suffixes e n x rest ≡ Some (x, rest)
suffixes-stop e (suc n) x (mark Dot ∷ rest) h = absurd (omega arith)
suffixes-stop e (suc n) x (mark OpenBracket ∷ rest) h = absurd (omega arith)
suffixes-stop e n x rest h = refl

pub choice-stop : (e more : Rule) (x : Inline) (rest : List Word)
    → 11 < level_behind rest → choice_behind e more x rest ≡ Some (x, rest)
choice-stop e more x (mark Question ∷ rest) h = absurd (omega arith)
choice-stop e more x rest h = refl

pub several-stop : (more : List Word → Reading Inlines) (x : Inline) (rest : List Word)
    → 12 < level_behind rest → several_behind more x rest ≡ Some (next x end, rest)
several-stop more x (mark Comma ∷ rest) h = absurd (omega arith)
several-stop more x rest h = refl

-- operators
at_precedence-none : (k : ℕ) (found : ℕ × Infix) (ws : List Word) → k < found.0 → at_precedence k (Some found) ws ≡ None
at_precedence-none k found ws h = grind (arith, nat_tests)

infix_at-none : (k : ℕ) (rest : List Word) → k < level_behind rest → infix_at k rest ≡ None
infix_at-none k (mark (Binary op) ∷ rest) h = at_precedence-none k (precedence op, infixes.Binary op) rest h
infix_at-none k (mark And ∷ rest) h = at_precedence-none k (9, infixes.And) rest h
infix_at-none k (mark Or ∷ rest) h = at_precedence-none k (10, infixes.Or) rest h
infix_at-none k rest h = refl

pub infix_at-is : (k : ℕ) (m : Mark) (op : Infix) (rest : List Word)
    → infix_of m ≡ Some (k, op) → infix_at k (mark m ∷ rest) ≡ Some (op, rest)
infix_at-is k m op rest e = rw e (grind (arith, nat_tests))

abbrev precedence_in : Option (ℕ × Infix) → ℕ
precedence_in None = 0
precedence_in (Some found) = found.0

pub level_of-infix : (k : ℕ) (m : Mark) (op : Infix) → infix_of m ≡ Some (k, op) → level_of m ≡ k
level_of-infix k (Binary op) other e = ap precedence_in e
level_of-infix k And op e = ap precedence_in e
level_of-infix k Or op e = ap precedence_in e
level_of-infix k m op e = absurd cc

pub operations-stop : (tight : Rule) (k n : ℕ) (x : Inline) (rest : List Word)
    → k < level_behind rest → operations tight k n x rest ≡ Some (x, rest)
operations-stop tight k zero x rest h = refl
operations-stop tight k (suc n) x rest h = ap (operation_or tight (operations tight k n) x rest) (infix_at-none k rest h)

-- no operand begins with an operator
prefix-none : (e : Rule) (w : Word) (ws : List Word) (op : UnOp) → prefix_word w ≡ Some op → postfix e (w ∷ ws) ≡ None
prefix-none e (mark OpenParen) ws op is = absurd cc
prefix-none e (mark OpenBrace) ws op is = absurd cc
prefix-none e (mark OpenBracket) ws op is = absurd cc
prefix-none e (mark Dot) ws op is = absurd cc
prefix-none e (mark m) ws op is = refl
prefix-none e w ws op is = absurd cc

pub prefixes-postfix : (e : Rule) (ws : List Word) (found : Inline × List Word)
    → postfix e ws ≡ Some found → prefixes e ws ≡ Some found
prefixes-postfix e [] found h = absurd cc
prefixes-postfix e (w ∷ ws) found h = by (prefix_word w) refl
  where
    by : (op : Option UnOp) → prefix_word w ≡ op → prefixed_or op (prefixes e ws) (postfix e (w ∷ ws)) ≡ Some found
    by None is = h
    by (Some op) is = let none = prefix-none e w ws op is in absurd cc
