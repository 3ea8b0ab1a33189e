-- Each text has one outcome as an expression and one as an ad, which is that of the functions.
use Rattle.std.proofs.Common.{◌≡◌, ◌⊎◌, ℕ, Bool, true, false, List, Option, None, Some, Result, Ok, Err, if◌then◌else◌, refl, subst, ap}
use Rattle.std.proofs.Common.{inl, inr}
use Rattle.ad_tree.specs.declared.ad.Ad.{Ad}
use Rattle.ad_tree.specs.declared.phrase.Phrase.{Phrase}
use Rattle.ad_tree.specs.Inline.{Inline}
use Rattle.ad_parser.specs.declared.fault.ParseFault.{ParseFault}
use Rattle.ad_parser.specs.declared.fault.ParseFault.TheVariants as faults
use Rattle.ad_parser.specs.Answers.{HasWords, AnswersAd, AnswersExpr, IsFault, frames_of_ad, frames_of_expr}
use Rattle.ad_grammar.specs.Grammar.{IsExpr, IsRoot}
use Rattle.ad_grammar.specs.Nesting.{nests_too_deep}
use Rattle.ad_grammar.specs.Rules.{parsed_expr, parsed_ad}
use Rattle.ad_parser.specs.OneAnswer.{HasFault, HasOneAnswer}
use Rattle.ad_parser.specs.Outcomes.{HasOutcome, HasExprOutcome, HasAdOutcome, IsExprAnswer, IsAdAnswer, words_of, read_within, outcome_by, expr_outcome}
use Rattle.ad_parser.specs.Outcomes.{ad_outcome}
use Rattle.ad_grammar.specs.Words.{Word, words}
use Rattle.ad_parser.proofs.AnswerLemmas.{limited-has, one_answer}
use Rattle.ad_parser.proofs.WordsLemmas.{words_of-tokens, words_of-fault}
use Rattle.ad_lexer.proofs.Texts.{has_answer}
use Rattle.ad_grammar.proofs.GrammarLaws.{parsed_expr-sound, parsed_expr-none, parsed_ad-sound, parsed_ad-none}
use Rattle.ad_grammar.proofs.UniqueLemmas.{expr-one, expr-decided, root-one, root-decided}

-- ---- one outcome

module _ (rule : List Word → Inline → Type 0) (frames : Inline → ℕ) (text : List ℕ) where
  one-outcome : HasOneAnswer rule frames text → (outcome other : Result Inline ParseFault) → HasOutcome rule frames text outcome
      → HasOutcome rule frames text other → outcome ≡ other
  one-outcome one (Ok x) (Ok y) a b = ap Ok (one.one_tree x y a.0 b.0)
  one-outcome one (Ok x) (Err fault) a b = absurd (one.not_both x fault a.0 a.1 b)
  one-outcome one (Err fault) (Ok y) a b = absurd (one.not_both y fault b.0 b.1 a)
  one-outcome one (Err fault) (Err other) a b = ap Err (one.one_fault fault other a b)

  -- a fault that is answered is one of the text, or want of memory
  has-fault : (fault : ParseFault) → IsFault rule frames text fault → (fault ≡ faults.OutOfMemory) ⊎ HasFault rule frames text fault
  has-fault (faults.Lex kind place) is = inr (is, λ same. absurd cc)
  has-fault faults.Nesting is = inr (is, λ same. absurd cc)
  has-fault faults.Grammar is = inr (is, λ same. absurd cc)
  has-fault faults.Depth is = inr (is, λ same. absurd cc)
  has-fault faults.Frames is = inr (is, λ same. absurd cc)
  has-fault faults.Attributes is = inr (is, λ same. absurd cc)
  has-fault faults.OutOfMemory is = inl refl

pub expr_answers : (text : List ℕ) → HasOneAnswer IsExpr frames_of_expr text
expr_answers text = one_answer IsExpr frames_of_expr expr-one expr-decided text

pub ad_answers : (text : List ℕ) → HasOneAnswer IsRoot frames_of_ad text
ad_answers text = one_answer IsRoot frames_of_ad root-one root-decided text

-- ---- the functions give it

module _ (rule : List Word → Inline → Type 0) (parse : List Word → Option Inline) (frames : Inline → ℕ)
    (sound : (ws : List Word) (x : Inline) → parse ws ≡ Some x → rule ws x)
    (complete : (ws : List Word) → parse ws ≡ None → (x : Inline) → rule ws x → ⊥) (text : List ℕ) where
  read-has : (ws : List Word) → HasWords text ws → nests_too_deep ws ≡ false → (read : Option Inline) → parse ws ≡ read
      → HasOutcome rule frames text (read_within frames read)
  read-has ws has shallow None is = ((ws, has, shallow, complete ws is), λ e. absurd cc)
  read-has ws has shallow (Some x) is = limited-has rule frames text x (record { ws = ws; has = has; shallow = shallow; reads = sound ws x is })

  words-has : (ws : List Word) → HasWords text ws → HasOutcome rule frames text (outcome_by parse frames (Ok ws))
  words-has ws has = by (nests_too_deep ws) refl
    where
      by : (b : Bool) → nests_too_deep ws ≡ b → HasOutcome rule frames text (if b then Err faults.Nesting else read_within frames (parse ws))
      by true deep = ((ws, has, deep), λ e. absurd cc)
      by false shallow = read-has ws has shallow (parse ws) refl

  outcome-has : HasOutcome rule frames text (outcome_by parse frames (words_of text))
  outcome-has =
      elim (has_answer text) [
        | inl found ↦ rw (words_of-tokens text found.0 found.1) (words-has (words found.0) (record { tokens = found.0; has = found.1; are = refl }))
        | inr found ↦ rw (words_of-fault text found.0 found.1 found.2) (found.2, λ e. absurd cc)
      ]

pub expr_outcome-has : (text : List ℕ) → HasExprOutcome text (expr_outcome text)
unfolding expr_outcome
expr_outcome-has text = outcome-has IsExpr parsed_expr frames_of_expr parsed_expr-sound parsed_expr-none text

pub ad_outcome-has : (text : List ℕ) → HasAdOutcome text (ad_outcome text)
unfolding ad_outcome
ad_outcome-has text = outcome-has IsRoot parsed_ad frames_of_ad parsed_ad-sound parsed_ad-none text

pub expr_outcome-one : (text : List ℕ) (outcome other : Result Inline ParseFault) → HasExprOutcome text outcome → HasExprOutcome text other
    → outcome ≡ other
expr_outcome-one text = one-outcome IsExpr frames_of_expr text (expr_answers text)

pub ad_outcome-one : (text : List ℕ) (outcome other : Result Inline ParseFault) → HasAdOutcome text outcome → HasAdOutcome text other
    → outcome ≡ other
ad_outcome-one text = one-outcome IsRoot frames_of_ad text (ad_answers text)

-- ---- what a parse answers fits the outcome

-- want of memory fits each outcome, and a fault itself
expr-memory : (outcome : Result Inline ParseFault) (fault : ParseFault) → fault ≡ faults.OutOfMemory → IsExprAnswer outcome (Err fault)
expr-memory (Ok x) fault same = same
expr-memory (Err wrong) fault same = inr same

ad-memory : (outcome : Result Inline ParseFault) (fault : ParseFault) → fault ≡ faults.OutOfMemory → IsAdAnswer outcome (Err fault)
ad-memory (Ok x) fault same = same
ad-memory (Err wrong) fault same = inr same

pub expr_answer-fits : (text : List ℕ) (answer : Result Phrase ParseFault) → AnswersExpr text answer → (outcome : Result Inline ParseFault)
    → HasExprOutcome text outcome → IsExprAnswer outcome answer
expr_answer-fits text (Ok phrase) is outcome has =
    subst (λ o. IsExprAnswer o (Ok phrase)) (expr_outcome-one text (Ok is.0) outcome (is.1, is.2) has) (is.3, is.4)
expr_answer-fits text (Err fault) is outcome has =
    elim (has-fault IsExpr frames_of_expr text fault is) [
      | inl same ↦ expr-memory outcome fault same
      | inr wrong ↦ subst (λ o. IsExprAnswer o (Err fault)) (expr_outcome-one text (Err fault) outcome wrong has) (inl refl)
    ]

pub ad_answer-fits : (text : List ℕ) (answer : Result Ad ParseFault) → AnswersAd text answer → (outcome : Result Inline ParseFault)
    → HasAdOutcome text outcome → IsAdAnswer outcome answer
ad_answer-fits text (Ok ad) is outcome has = subst (λ o. IsAdAnswer o (Ok ad)) (ad_outcome-one text (Ok is.0) outcome (is.1, is.2) has) is.3
ad_answer-fits text (Err fault) is outcome has =
    elim (has-fault IsRoot frames_of_ad text fault is) [
      | inl same ↦ ad-memory outcome fault same
      | inr wrong ↦ subst (λ o. IsAdAnswer o (Err fault)) (ad_outcome-one text (Err fault) outcome wrong has) (inl refl)
    ]
