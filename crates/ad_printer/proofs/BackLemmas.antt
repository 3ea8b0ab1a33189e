-- The printed text of a tree that a parse can give spells that tree, so what a parse answered is read back from its text.
use Rattle.std.proofs.Common.{◌≡◌, ℕ, ◌≤◌, false, List, [], ◌∷◌, Result, Ok, Err, refl, sym, ◌∙◌, ap, subst, arith, append-nil}
use Rattle.ad_lexer.specs.Tokens.{Divides, lexemes}
use Rattle.ad_tree.specs.declared.ad.Ad.{Ad}
use Rattle.ad_tree.specs.declared.phrase.Phrase.{Phrase}
use Rattle.ad_tree.specs.Ad.{ad_frames}
use Rattle.ad_tree.specs.Frames.{empty_frame}
use Rattle.ad_tree.specs.Inline.{Inline, Defs, inner, height, frames, number, spelled, spelled_tree, settled, ad_of}
use Rattle.ad_tree.specs.Tree.{tree}
use Rattle.ad_tree.proofs.SpellingLemmas.{settled-settled}
use Rattle.ad_parser.specs.declared.fault.ParseFault.{ParseFault}
use Rattle.ad_parser.specs.Answers.{HasWords, Spells, frames_of_expr, frames_of_ad, AnswersAd, AnswersExpr}
use Rattle.ad_grammar.specs.Grammar.{IsExpr, IsRoot}
use Rattle.ad_grammar.specs.Nesting.{nests_too_deep}
use Rattle.ad_parser.specs.Limits.{height_limit}
use Rattle.ad_grammar.specs.Made.{IsMade}
use Rattle.ad_parser.specs.Outcomes.{IsAdAnswer, IsExprAnswer}
use Rattle.ad_parser.proofs.AnswerLemmas.{spells_same}
use Rattle.ad_parser.proofs.KeptLemmas.{ad-kept, ad_answer-made, ad_answer-within, phrase-kept, phrase_answer-made, phrase_answer-within}
use Rattle.ad_parser.proofs.Outcomes.{ad_answer-fits, expr_answer-fits}
use Rattle.ad_grammar.proofs.UniqueLemmas.{expr-one, expr-decided, root-one, root-decided}
use Rattle.ad_printer.specs.Printed.{loose, pieces, printed}
use Rattle.ad_printer.specs.ReadBack.{IsAdAgain, IsPhraseAgain}
use Rattle.ad_printer.specs.Values.{printed_frame}
use Rattle.ad_printer.proofs.NestTrees.{tree_flat, shallow}
use Rattle.ad_printer.proofs.ReadTrees.{tree_reads, ad_reads, all_read}
use Rattle.ad_printer.proofs.StandLemmas.{Stand, Stand-divides, Stand-utf8, ahead-end}
use Rattle.ad_printer.proofs.StandTrees.{tree_stands}
use Rattle.ad_printer.proofs.WordLemmas.{words_of, lexemes-words}

-- ---- trees

printed-words : (x : Inline) → IsMade x → HasWords (printed x) (words_of (pieces x))
printed-words x made =
    let stand : Stand (pieces x) [] = (tree_stands x made).stand [] (ahead-end (loose x)) in
    record {
      tokens = lexemes 0 (pieces x);
      has = (
        Stand-utf8 (pieces x) [] stand,
        (
          pieces x,
          subst (λ text. Divides text (pieces x) []) (append-nil (printed x)) (Stand-divides (pieces x) []
              stand),
          refl,
        ),
      );
      are = sym (lexemes-words 0 (pieces x));
    }

printed-shallow : (x : Inline) → height x ≤ height_limit → nests_too_deep (words_of (pieces x)) ≡ false
printed-shallow x low = shallow (words_of (pieces x)) 128 (omega arith) (tree_flat x 128 (omega arith))

pub expr_spelled : (x : Inline) → IsMade x → height x ≤ height_limit → Spells IsExpr (printed x) x
expr_spelled x made low = record { ws = words_of (pieces x); has = printed-words x made; shallow = printed-shallow x low; reads = (tree_reads x made).whole }

pub ad_spelled : (ds : Defs) → IsMade (inner ds) → height (inner ds) ≤ height_limit → Spells IsRoot (printed (inner ds)) (inner ds)
ad_spelled ds made low =
    record {
      ws =
          words_of (pieces (inner ds));
      has =
          printed-words (inner ds) made;
      shallow = printed-shallow (inner ds) low;
      reads = (ds, refl, ad_reads ds (all_read ds made));
    }

-- no text spells two trees
pub one_expr : (text : List ℕ) (x y : Inline) → Spells IsExpr text x → Spells IsExpr text y → x ≡ y
one_expr text x y a b = spells_same IsExpr frames_of_expr expr-one expr-decided text x y a b

pub one_ad : (text : List ℕ) (x y : Inline) → Spells IsRoot text x → Spells IsRoot text y → x ≡ y
one_ad text x y a b = spells_same IsRoot frames_of_ad root-one root-decided text x y a b

pub printed-one : (x y : Inline) → IsMade x → IsMade y → height x ≤ height_limit → height y ≤ height_limit → printed x ≡ printed y → x ≡ y
printed-one x y made other low short same =
    one_expr (printed y) x y (subst (λ text. Spells IsExpr text x) same (expr_spelled x made low)) (expr_spelled y other short)

-- ---- ads that a parse answers

module _ (text : List ℕ) (ad : Ad) (answer : AnswersAd text (Ok ad)) where
  ad-is : spelled (ad_frames ad) ≡ settled answer.0
  ad-is = ad-kept (λ z. z ≡ settled answer.0) text ad answer (λ x s within. ap settled (one_ad text x answer.0 s answer.1))

  ad-again : ad_of (spelled (ad_frames ad)) ≡ ad_frames ad
  ad-again = ap (λ x. frames 0 0 (settled x)) ad-is ∙ ap (frames 0 0) (settled-settled answer.0) ∙ sym answer.3

  pub ad_text-spelled : Spells IsRoot (printed_frame (ad_frames ad) 0) (spelled (ad_frames ad))
  ad_text-spelled = ad_spelled _ (ad_answer-made text ad answer) (ad_answer-within text ad answer).low

  pub ad_text-read : (again : Result Ad ParseFault) → AnswersAd (printed_frame (ad_frames ad) 0) again → IsAdAgain (ad_frames ad) again
  ad_text-read again answers =
      by again (ad_answer-fits (printed_frame (ad_frames ad) 0) again answers (Ok (spelled (ad_frames ad))) (ad_text-spelled, ad_answer-within text ad answer))
    where
      by : (other : Result Ad ParseFault) → IsAdAnswer (Ok (spelled (ad_frames ad))) other → IsAdAgain (ad_frames ad) other
      by (Ok other) is = is ∙ ad-again
      by (Err fault) is = is

-- ---- phrases that a parse answers

module _ (text : List ℕ) (phrase : Phrase) (answer : AnswersExpr text (Ok phrase)) where
  phrase-is : spelled_tree (ad_frames phrase.ad) (tree phrase.expr) ≡ settled answer.0
  phrase-is = phrase-kept (λ z. z ≡ settled answer.0) text phrase answer (λ x s within. ap settled (one_expr text x answer.0 s answer.1))

  settled-again : settled (spelled_tree (ad_frames phrase.ad) (tree phrase.expr)) ≡ settled answer.0
  settled-again = ap settled phrase-is ∙ settled-settled answer.0

  pub phrase_text-spelled : Spells IsExpr (printed (spelled_tree (ad_frames phrase.ad) (tree phrase.expr)))
      (spelled_tree (ad_frames phrase.ad) (tree phrase.expr))
  phrase_text-spelled =
      expr_spelled (spelled_tree (ad_frames phrase.ad) (tree phrase.expr)) (phrase_answer-made text phrase answer) (phrase_answer-within text phrase answer).low

  pub phrase_text-read : (again : Result Phrase ParseFault) → AnswersExpr (printed (spelled_tree (ad_frames phrase.ad) (tree phrase.expr))) again
      → IsPhraseAgain (ad_frames phrase.ad) (tree phrase.expr) again
  phrase_text-read again answers =
      by again (expr_answer-fits (printed (spelled_tree (ad_frames phrase.ad) (tree phrase.expr))) again answers
      (Ok (spelled_tree (ad_frames phrase.ad) (tree phrase.expr))) (phrase_text-spelled, phrase_answer-within text phrase answer))
    where
      by : (other : Result Phrase ParseFault) → IsExprAnswer (Ok (spelled_tree (ad_frames phrase.ad) (tree phrase.expr))) other
          → IsPhraseAgain (ad_frames phrase.ad) (tree phrase.expr) other
      by (Ok other) is =
          (is.0 ∙ ap (λ x. empty_frame 0 ∷ frames 0 1 x) settled-again ∙ sym answer.3, is.1 ∙ ap (number 1) settled-again ∙ sym answer.4)
      by (Err fault) is = is
