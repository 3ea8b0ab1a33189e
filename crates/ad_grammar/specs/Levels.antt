-- The levels of operators between operands, climbed from the tightest.
use Rattle.std.specs.Prelude.{ℕ, zero, suc, List, length, Option, Some, option_map}
use Rattle.std.specs.Option.{option_and_then}
use Rattle.ad_tree.specs.Inline.{Inline}
use Rattle.ad_grammar.specs.Rules.{Rule, Reading, and_then, operations, level_at}
use Rattle.ad_grammar.specs.Operators.{infix_of}
use Rattle.ad_grammar.specs.HeldMarks.{front_mark}
use Rattle.ad_grammar.specs.Words.{Word}

-- how loosely the operator between operands binds that is the first word
abbrev pub precedence_at : List Word → Option ℕ
precedence_at ws = option_and_then (λ m. option_map (λ found. found.0) (infix_of m)) (front_mark ws)

-- behind an operand that binds as tightly as k, the operators of the next n levels, one level after another
abbrev pub climb : Rule → ℕ → ℕ → Inline → List Word → Reading Inline
climb e k zero x ws = Some (x, ws)
climb e k (suc n) x ws = and_then (operations (level_at e k) (suc k) (length ws) x ws) (climb e (suc k) n)
