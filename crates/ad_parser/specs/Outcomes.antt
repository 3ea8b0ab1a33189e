-- The outcome of a parse: the tree that a text spells within the limits, or its fault. Each text has exactly one.
use Rattle.std.specs.Prelude.{◌≡◌, ◌⊎◌, ℕ, zero, suc, ◌+◌, ◌-◌, nat_lt, List, [], ◌∷◌, take, Option, None, Some, Result, Ok, Err}
use Rattle.std.specs.Prelude.{if◌then◌else◌}
use Rattle.std.specs.Str.{is_utf8}
use Rattle.std.specs.Str.Lossy.{utf8_valid_len}
use Rattle.ad_lexer.specs.Reading.{next}
use Rattle.ad_lexer.specs.declared.fault.LexKind.TheVariants.{Encoding}
use Rattle.ad_lexer.specs.declared.next.Step.{Step}
use Rattle.ad_lexer.specs.declared.next.Step.TheVariants as steps
use Rattle.ad_tree.specs.declared.ad.Ad.{Ad}
use Rattle.ad_tree.specs.declared.phrase.Phrase.{Phrase}
use Rattle.ad_tree.specs.Ad.{ad_frames}
use Rattle.ad_tree.specs.Inline.{Inline, height, definitions, ad_of, phrase_of, phrase_tree}
use Rattle.ad_tree.specs.Tree.{tree}
use Rattle.ad_parser.specs.declared.fault.ParseFault.{ParseFault}
use Rattle.ad_parser.specs.declared.fault.ParseFault.TheVariants as faults
use Rattle.ad_parser.specs.Answers.{Spells, IsWithin, frames_of_ad, frames_of_expr}
use Rattle.ad_parser.specs.Limits.{height_limit, frame_limit, definition_limit}
use Rattle.ad_parser.specs.OneAnswer.{HasFault}
use Rattle.ad_grammar.specs.Grammar.{IsExpr, IsRoot}
use Rattle.ad_grammar.specs.Nesting.{nests_too_deep}
use Rattle.ad_grammar.specs.Rules.{parsed_expr, parsed_ad}
use Rattle.ad_grammar.specs.Words.{Word, word_of_kind}

-- a text has this outcome, by a rule of the grammar and a count of frames
abbrev pub HasOutcome : (List Word → Inline → Type 0) → (Inline → ℕ) → List ℕ → Result Inline ParseFault → Type 0
HasOutcome rule frames text (Ok x) = Spells rule text x × IsWithin frames x
HasOutcome rule frames text (Err fault) = HasFault rule frames text fault

-- a text has this outcome as an expression
abbrev pub HasExprOutcome : List ℕ → Result Inline ParseFault → Type 0
HasExprOutcome text outcome = HasOutcome IsExpr frames_of_expr text outcome

-- a text has this outcome as an ad
abbrev pub HasAdOutcome : List ℕ → Result Inline ParseFault → Type 0
HasAdOutcome text outcome = HasOutcome IsRoot frames_of_ad text outcome

-- an answer fits an outcome: the phrase of its tree, its fault, or want of memory
abbrev pub IsExprAnswer : Result Inline ParseFault → Result Phrase ParseFault → Type 0
IsExprAnswer (Ok x) (Ok phrase) = (ad_frames phrase.ad ≡ phrase_of x) × (tree phrase.expr ≡ phrase_tree x)
IsExprAnswer (Ok x) (Err fault) = fault ≡ faults.OutOfMemory
IsExprAnswer (Err wrong) (Ok phrase) = ⊥
IsExprAnswer (Err wrong) (Err fault) = (fault ≡ wrong) ⊎ (fault ≡ faults.OutOfMemory)

-- the same of an ad
abbrev pub IsAdAnswer : Result Inline ParseFault → Result Ad ParseFault → Type 0
IsAdAnswer (Ok x) (Ok ad) = ad_frames ad ≡ ad_of x
IsAdAnswer (Ok x) (Err fault) = fault ≡ faults.OutOfMemory
IsAdAnswer (Err wrong) (Ok ad) = ⊥
IsAdAnswer (Err wrong) (Err fault) = (fault ≡ wrong) ⊎ (fault ≡ faults.OutOfMemory)

-- ---- the outcome as a function of the text, of which `texts_have_one_outcome` says that it gives the one above

-- a word stands before others, where they have no fault
abbrev pub put_before : Word → Result (List Word) ParseFault → Result (List Word) ParseFault
put_before w (Ok ws) = Ok (w ∷ ws)
put_before w (Err fault) = Err fault

-- the words of the rest of a text, which begins at this place with this step; `more` gives those behind so many of its bytes
abbrev pub words_at : ℕ → List ℕ → Step → (ℕ → Result (List Word) ParseFault) → Result (List Word) ParseFault
words_at at rest steps.End more = Ok []
words_at at rest (steps.Blank len) more = more len
words_at at rest (steps.Token kind len) more = put_before (word_of_kind kind (take len rest)) (more len)
words_at at rest (steps.Fault kind place) more = Err (faults.Lex kind (at + place))

-- the words of the rest of a text, which begins at this place with so many bytes to skip, or the first fault there
abbrev pub words_from : ℕ → ℕ → List ℕ → Result (List Word) ParseFault
words_from at skip [] = Ok []
words_from at (suc skip) (byte ∷ rest) = words_from (at + 1) skip rest
words_from at zero (byte ∷ rest) = words_at at (byte ∷ rest) (next (byte ∷ rest)) (λ len. words_from (at + 1) (len - 1) rest)

-- the words of a text, or its lexical fault: the first byte that isn't UTF-8, and else the first fault of a token
abbrev pub words_of : List ℕ → Result (List Word) ParseFault
words_of text = if is_utf8 text then words_from 0 0 text else Err (faults.Lex Encoding (utf8_valid_len text))

-- a tree, or the first of the limits that it goes beyond
abbrev pub limited : (Inline → ℕ) → Inline → Result Inline ParseFault
limited frames x =
    if nat_lt height_limit (height x) then Err faults.Depth
    else (if nat_lt frame_limit (frames x) then Err faults.Frames
    else (if nat_lt definition_limit (definitions x) then Err faults.Attributes
    else Ok x))

-- the tree that the grammar reads within the limits; where it reads none, that is the fault
abbrev pub read_within : (Inline → ℕ) → Option Inline → Result Inline ParseFault
read_within frames None = Err faults.Grammar
read_within frames (Some x) = limited frames x

-- the tree of words that nest no deeper than they may, by what the grammar reads in words, or the fault that is met first
abbrev pub outcome_by : (List Word → Option Inline) → (Inline → ℕ) → Result (List Word) ParseFault → Result Inline ParseFault
outcome_by parse frames (Err fault) = Err fault
outcome_by parse frames (Ok ws) = if nests_too_deep ws then Err faults.Nesting else read_within frames (parse ws)

-- the outcome of a text as an expression
unfoldable pub expr_outcome : List ℕ → Result Inline ParseFault
expr_outcome text = outcome_by parsed_expr frames_of_expr (words_of text)

-- the outcome of a text as an ad
unfoldable pub ad_outcome : List ℕ → Result Inline ParseFault
ad_outcome text = outcome_by parsed_ad frames_of_ad (words_of text)
