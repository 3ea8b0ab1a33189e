-- What a text spells keeps what every parsed tree keeps, and so does what a parse answers, as it is spelled.
use Rattle.std.proofs.Common.{◌≡◌, ℕ, List, ◌∷◌, Ok, sym, ◌∙◌, ap, subst}
use Rattle.ad_tree.specs.declared.ad.Ad.{Ad}
use Rattle.ad_tree.specs.declared.phrase.Phrase.{Phrase}
use Rattle.ad_tree.specs.Ad.{ad_frames}
use Rattle.ad_tree.specs.Frames.{Frame, empty_frame}
use Rattle.ad_tree.specs.Inline.{Inline, Defs, inner, no_defs, frames, spelled, spelled_tree, settled, settled_defs}
use Rattle.ad_tree.specs.Tree.{tree}
use Rattle.ad_tree.proofs.SpellingLemmas.{spelled-frames, spelled_tree-frames}
use Rattle.ad_parser.specs.Answers.{HasWords, Spells, IsWithin, frames_of_expr, frames_of_ad, AnswersAd, AnswersExpr}
use Rattle.ad_grammar.specs.Grammar.{IsExpr, IsRoot}
use Rattle.ad_grammar.specs.Made.{IsMade, AreMade}
use Rattle.ad_grammar.specs.Words.{Word}
use Rattle.ad_grammar.proofs.MadeLemmas.{expr-made, root-made}
use Rattle.ad_grammar.proofs.MadeWordLemmas.{words-made}
use Rattle.ad_parser.proofs.SettledLemmas.{settled-made, settled_expr-within, settled_ad-within}

text-made : (text : List ℕ) (ws : List Word) → HasWords text ws → AreMade ws
text-made text ws has = subst AreMade (sym has.are) (words-made text has.tokens has.has)

pub spelled_expr-made : (text : List ℕ) (x : Inline) → Spells IsExpr text x → IsMade x
spelled_expr-made text x s = expr-made s.ws x s.reads (text-made text s.ws s.has)

pub spelled_ad-made : (text : List ℕ) (x : Inline) → Spells IsRoot text x → IsMade x
spelled_ad-made text x s = root-made s.ws x s.reads (text-made text s.ws s.has)

-- an ad that is answered is spelled as the text's tree without its repeated names
ad-spelled : (ds : Defs) (fs : List Frame) → fs ≡ frames 0 0 (settled (inner ds)) → spelled fs ≡ settled (inner ds)
ad-spelled ds fs is = ap spelled is ∙ spelled-frames (settled_defs no_defs ds)

pub ad-kept : (P : Inline → Type 0) (text : List ℕ) (ad : Ad) → AnswersAd text (Ok ad)
    → ((x : Inline) → Spells IsRoot text x → IsWithin frames_of_ad x → P (settled x)) → P (spelled (ad_frames ad))
ad-kept P text ad answer keeps =
    let root = answer.1.reads in
    let same : spelled (ad_frames ad) ≡ settled answer.0 =
    ad-spelled root.0 (ad_frames ad) (answer.3 ∙ ap (λ x. frames 0 0 (settled x)) root.1) ∙ ap settled (sym root.1) in
    subst P (sym same) (keeps answer.0 answer.1 answer.2)

pub ad_answer-made : (text : List ℕ) (ad : Ad) → AnswersAd text (Ok ad) → IsMade (spelled (ad_frames ad))
ad_answer-made text ad answer = ad-kept IsMade text ad answer (λ x s w. settled-made x (spelled_ad-made text x s))

pub ad_answer-within : (text : List ℕ) (ad : Ad) → AnswersAd text (Ok ad) → IsWithin frames_of_ad (spelled (ad_frames ad))
ad_answer-within text ad answer = ad-kept (IsWithin frames_of_ad) text ad answer (λ x s w. settled_ad-within x w)

pub phrase-kept : (P : Inline → Type 0) (text : List ℕ) (phrase : Phrase) → AnswersExpr text (Ok phrase)
    → ((x : Inline) → Spells IsExpr text x → IsWithin frames_of_expr x → P (settled x))
    → P (spelled_tree (ad_frames phrase.ad) (tree phrase.expr))
phrase-kept P text phrase answer keeps =
    let same : spelled_tree (ad_frames phrase.ad) (tree phrase.expr) ≡ settled answer.0 =
    ap (λ fs. spelled_tree fs (tree phrase.expr)) answer.3 ∙ ap (spelled_tree (empty_frame 0 ∷ frames 0 1 (settled answer.0))) answer.4
    ∙ spelled_tree-frames (settled answer.0)
    in
    subst P (sym same) (keeps answer.0 answer.1 answer.2)

pub phrase_answer-made : (text : List ℕ) (phrase : Phrase) → AnswersExpr text (Ok phrase) → IsMade (spelled_tree (ad_frames phrase.ad) (tree phrase.expr))
phrase_answer-made text phrase answer = phrase-kept IsMade text phrase answer (λ x s w. settled-made x (spelled_expr-made text x s))

pub phrase_answer-within : (text : List ℕ) (phrase : Phrase) → AnswersExpr text (Ok phrase)
    → IsWithin frames_of_expr (spelled_tree (ad_frames phrase.ad) (tree phrase.expr))
phrase_answer-within text phrase answer = phrase-kept (IsWithin frames_of_expr) text phrase answer (λ x s w. settled_expr-within x w)
