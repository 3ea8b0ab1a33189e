-- What the steps of a parse answer.
use Rattle.std.specs.Prelude.{◌≡◌, ℕ, ◌+◌, ◌≤◌, ◌<◌, true, false, List, Result, Ok, Err}
use Rattle.ad_lexer.specs.Tokens.{Fault}
use Rattle.ad_tree.specs.Inline.{Inline, height, count, definitions}
use Rattle.ad_grammar.specs.Nesting.{nests_too_deep}
use Rattle.ad_grammar.specs.Words.{Word}
use Rattle.ad_parser.specs.declared.fault.ParseFault.{ParseFault}
use Rattle.ad_parser.specs.declared.fault.ParseFault.TheVariants as faults
use Rattle.ad_parser.specs.Answers.{HasWords}
use Rattle.ad_parser.specs.Limits.{height_limit, frame_limit, definition_limit}

-- the words of a text that don't nest too deep
abbrev pub IsShallow : List ℕ → List Word → Type 0
IsShallow text ws = HasWords text ws × (nests_too_deep ws ≡ false)

-- a fault that is found before any rule is tried
abbrev pub IsEarlyFault : List ℕ → ParseFault → Type 0
IsEarlyFault text (faults.Lex kind place) = Fault text kind place
IsEarlyFault text faults.Nesting = (ws : List Word) × HasWords text ws × (nests_too_deep ws ≡ true)
IsEarlyFault text faults.OutOfMemory = Unit {0}
IsEarlyFault text fault = ⊥

-- a tree is within the limits, where so many roots are counted beside its frames
abbrev pub IsFit : ℕ → Inline → Type 0
IsFit roots x = (height x ≤ height_limit) × (roots + count x ≤ frame_limit) × (definitions x ≤ definition_limit)

-- it is, or it isn't
abbrev pub IsChecked : ℕ → Inline → Result (Unit {0}) ParseFault → Type 0
IsChecked roots x (Ok done) = IsFit roots x
IsChecked roots x (Err faults.Depth) = height_limit < height x
IsChecked roots x (Err faults.Frames) = (height x ≤ height_limit) × (frame_limit < roots + count x)
IsChecked roots x (Err faults.Attributes) = (height x ≤ height_limit) × (roots + count x ≤ frame_limit) × (definition_limit < definitions x)
IsChecked roots x (Err fault) = ⊥
