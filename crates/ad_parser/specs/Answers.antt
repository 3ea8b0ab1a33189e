-- What a parse answers.
use Rattle.std.specs.Prelude.{◌≡◌, ℕ, suc, ◌≤◌, ◌<◌, true, false, List, Result, Ok, Err}
use Rattle.ad_lexer.specs.Lexeme.{Lexeme}
use Rattle.ad_lexer.specs.Tokens.{Tokens, Fault}
use Rattle.ad_tree.specs.declared.ad.Ad.{Ad}
use Rattle.ad_tree.specs.declared.phrase.Phrase.{Phrase}
use Rattle.ad_tree.specs.Ad.{ad_frames}
use Rattle.ad_tree.specs.Inline.{Inline, count, height, definitions, ad_of, phrase_of, phrase_tree}
use Rattle.ad_tree.specs.Tree.{tree}
use Rattle.ad_parser.specs.declared.fault.ParseFault.{ParseFault}
use Rattle.ad_parser.specs.declared.fault.ParseFault.TheVariants as faults
use Rattle.ad_grammar.specs.Grammar.{IsExpr, IsRoot}
use Rattle.ad_grammar.specs.Nesting.{nests_too_deep}
use Rattle.ad_parser.specs.Limits.{height_limit, frame_limit, definition_limit}
use Rattle.ad_grammar.specs.Words.{Word, words}

-- a text has these words
pub record HasWords (text : List ℕ) (ws : List Word) : Type 0 where
  pub tokens : List Lexeme
  pub has : Tokens text tokens
  pub are : ws ≡ words tokens

-- a text spells a tree by a rule of the grammar
pub record Spells (rule : List Word → Inline → Type 0) (text : List ℕ) (x : Inline) : Type 0 where
  pub ws : List Word
  pub has : HasWords text ws
  pub shallow : nests_too_deep ws ≡ false
  pub reads : rule ws x

-- how many frames a tree has as an expression: those of its ad literals, and a root, which is empty
abbrev pub frames_of_expr : Inline → ℕ
frames_of_expr x = suc (count x)

-- how many frames a tree has as an ad: those of its ad literals, of which one is the ad itself
abbrev pub frames_of_ad : Inline → ℕ
frames_of_ad x = count x

-- a tree is within the limits
pub record IsWithin (frames : Inline → ℕ) (x : Inline) : Type 0 where
  pub low : height x ≤ height_limit
  pub few_frames : frames x ≤ frame_limit
  pub few_definitions : definitions x ≤ definition_limit

-- the fault of a text, by a rule of the grammar and a count of frames
abbrev pub IsFault : (List Word → Inline → Type 0) → (Inline → ℕ) → List ℕ → ParseFault → Type 0
IsFault rule frames text (faults.Lex kind place) = Fault text kind place
IsFault rule frames text faults.Nesting = (ws : List Word) × HasWords text ws × (nests_too_deep ws ≡ true)
IsFault rule frames text faults.Grammar = (ws : List Word) × HasWords text ws × (nests_too_deep ws ≡ false) × ((x : Inline) → rule ws x → ⊥)
IsFault rule frames text faults.Depth = (x : Inline) × Spells rule text x × (height_limit < height x)
IsFault rule frames text faults.Frames = (x : Inline) × Spells rule text x × (height x ≤ height_limit) × (frame_limit < frames x)
IsFault rule frames text faults.Attributes =
    (x : Inline) × Spells rule text x × (height x ≤ height_limit) × (frames x ≤ frame_limit) × (definition_limit < definitions x)
IsFault rule frames text faults.OutOfMemory = Unit {0}

-- what the parse of an ad answers: the ad of the tree that the text spells, where it is within the limits, or the fault
abbrev pub AnswersAd : List ℕ → Result Ad ParseFault → Type 0
AnswersAd text (Ok ad) = (x : Inline) × Spells IsRoot text x × IsWithin frames_of_ad x × (ad_frames ad ≡ ad_of x)
AnswersAd text (Err fault) = IsFault IsRoot frames_of_ad text fault

-- what the parse of an expression answers
abbrev pub AnswersExpr : List ℕ → Result Phrase ParseFault → Type 0
AnswersExpr text (Ok phrase) =
    (x : Inline) × Spells IsExpr text x × IsWithin frames_of_expr x × (ad_frames phrase.ad ≡ phrase_of x) × (tree phrase.expr ≡ phrase_tree x)
AnswersExpr text (Err fault) = IsFault IsExpr frames_of_expr text fault
