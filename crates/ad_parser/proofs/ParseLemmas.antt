-- From what the rules read to what a parse answers.
use Rattle.std.proofs.Common.{◌≡◌, ℕ, ◌+◌, List, [], ◌∷◌, None, Some, Result, Ok, Err, IsErr, IsErrAnd, refl, sym, subst, arith}
use Rattle.ad_lexer.specs.Lexeme.{Lexeme}
use Rattle.ad_lexer.specs.Slices.{AreTokensOf}
use Rattle.ad_tree.specs.Inline.{Inline, count}
use Rattle.ad_grammar.specs.Grammar.{IsExpr, IsRoot}
use Rattle.ad_grammar.specs.Meaning.{AreSpelled}
use Rattle.ad_grammar.specs.Rules.{parsed_expr, parsed_ad}
use Rattle.ad_grammar.specs.Words.{Word}
use Rattle.ad_grammar.specs.declared.stop.Stop.{Stop}
use Rattle.ad_grammar.specs.declared.stop.Stop.TheVariants as stops
use Rattle.ad_grammar.proofs.GrammarLaws.{parsed_expr-sound, parsed_expr-none, parsed_ad-sound, parsed_ad-none}
use Rattle.ad_parser.specs.Answers.{Spells, IsWithin, IsFault, frames_of_expr, frames_of_ad}
use Rattle.ad_parser.specs.Faults.{of_stop}
use Rattle.ad_parser.specs.Taking.{IsShallow, IsChecked}
use Rattle.ad_parser.specs.declared.fault.ParseFault.{ParseFault}
use Rattle.ad_parser.specs.declared.fault.ParseFault.TheVariants as faults

pub tokens-spelled : (text : List ℕ) (at : ℕ) (list : List Lexeme) → AreTokensOf text at list → AreSpelled list
tokens-spelled text at [] tokens = tt
tokens-spelled text at (l ∷ ls) tokens = (tokens.0.spelled, tokens-spelled text l.end ls tokens.1)

-- what is read of words that don't nest too deep
module _ (text : List ℕ) (ws : List Word) (shallow : IsShallow text ws) where
  pub expr-spells : (x : Inline) → parsed_expr ws ≡ Some x → Spells IsExpr text x
  expr-spells x read = record { ws = ws; has = shallow.0; shallow = shallow.1; reads = parsed_expr-sound ws x read }

  pub ad-spells : (x : Inline) → parsed_ad ws ≡ Some x → Spells IsRoot text x
  ad-spells x read = record { ws = ws; has = shallow.0; shallow = shallow.1; reads = parsed_ad-sound ws x read }

  pub no-expr : parsed_expr ws ≡ None → IsFault IsExpr frames_of_expr text faults.Grammar
  no-expr none = (ws, shallow.0, shallow.1, parsed_expr-none ws none)

  pub no-ad : parsed_ad ws ≡ None → IsFault IsRoot frames_of_ad text faults.Grammar
  no-ad none = (ws, shallow.0, shallow.1, parsed_ad-none ws none)

-- a tree whose numbers are tested
module _ (rule : List Word → Inline → Type 0) (frames : Inline → ℕ) (text : List ℕ) (x : Inline) (has : Spells rule text x) (roots : ℕ)
    (frames_are : frames x ≡ roots + count x) where
  pub checked-fault : (fault : ParseFault) → IsChecked roots x (Err fault) → IsFault rule frames text fault
  checked-fault (faults.Lex kind place) is = absurd is
  checked-fault faults.Nesting is = absurd is
  checked-fault faults.Grammar is = absurd is
  checked-fault faults.Depth is = (x, has, is)
  checked-fault faults.Frames is = (x, has, is.0, omega arith)
  checked-fault faults.Attributes is = (x, has, is.0, omega arith, is.2)
  checked-fault faults.OutOfMemory is = absurd is

  pub checked-within : (done : Unit {0}) → IsChecked roots x (Ok done) → IsWithin frames x
  checked-within done is = record { low = is.0; few_frames = omega arith; few_definitions = is.2 }

-- an answer that only hands on why a step stopped
module _ {A : Type 0} (rule : List Word → Inline → Type 0) (frames : Inline → ℕ) (text : List ℕ) (answers : Result A ParseFault → Type 0)
    (told : (fault : ParseFault) → IsFault rule frames text fault → answers (Err fault)) where
  pub hands_on : (fault : ParseFault) (answer : Result A ParseFault) → IsErr answer → IsErrAnd answer (λ e. e ≡ fault) → IsFault rule frames text fault
      → answers answer
  hands_on fault (Ok a) err same is = absurd (cc)
  hands_on fault (Err other) err same is = told other (subst (IsFault rule frames text) (sym same) is)

  pub stops_at : (stop : Stop) (answer : Result A ParseFault) → IsErr answer → IsErrAnd answer (λ e. e ≡ of_stop stop)
      → (stop ≡ stops.Grammar → IsFault rule frames text faults.Grammar) → answers answer
  stops_at stops.Grammar answer err same is = hands_on faults.Grammar answer err same (is refl)
  stops_at stops.OutOfMemory answer err same is = hands_on faults.OutOfMemory answer err same tt
