-- What a parse answers has no more attributes than its text has definitions, so 1,024 at most.
use Rattle.std.proofs.Common.{◌≡◌, ℕ, suc, ◌+◌, List, ◌∷◌, ◌++◌, length, Result, Ok, Err, IfOk, refl, ap, ◌∙◌, arith}
use Rattle.std.proofs.lemmas.List.Sums.{sum_by-append, sum_by-cons}
use Rattle.ad_tree.specs.declared.ad.Ad.{Ad}
use Rattle.ad_tree.specs.declared.phrase.Phrase.{Phrase}
use Rattle.ad_tree.specs.Ad.{ad_frames}
use Rattle.ad_tree.specs.Frames.{Frame, empty_frame}
use Rattle.ad_tree.specs.Inline.{Inline, shape, inner, Inlines, end, next, Defs, no_defs, def, count, definitions, definitions_all, definitions_in}
use Rattle.ad_tree.specs.Inline.{attributes_from, frames, frames_all, frames_in, settled}
use Rattle.ad_tree.specs.Small.{attribute_total, IsSmall}
use Rattle.ad_parser.specs.declared.fault.ParseFault.{ParseFault}
use Rattle.ad_parser.specs.Answers.{AnswersAd, AnswersExpr}
use Rattle.ad_parser.proofs.SettledLemmas.{settled_expr-within, settled_ad-within}

total-append : (fs gs : List Frame) → attribute_total (fs ++ gs) ≡ attribute_total fs + attribute_total gs
total-append fs gs = sum_by-append (λ (f : Frame). length f.attributes) fs gs

total-cons : (f : Frame) (fs : List Frame) → attribute_total (f ∷ fs) ≡ length f.attributes + attribute_total fs
total-cons f fs = sum_by-cons (λ (g : Frame). length g.attributes) f fs

-- the frames of a tree have one attribute for each of its definitions
mutual
  pub total-frames : (p b : ℕ) (i : Inline) → attribute_total (frames p b i) ≡ definitions i
  total-frames p b (shape label is) = total-frames_all p b is
  total-frames p b (inner ds) =
      total-cons (record { parent = p; attributes = attributes_from (suc b) ds }) (frames_in b (suc b) ds) ∙ total-frames_in b (suc b) (suc b) ds

  total-frames_all : (p b : ℕ) (is : Inlines) → attribute_total (frames_all p b is) ≡ definitions_all is
  total-frames_all p b end = refl
  total-frames_all p b (next i is) =
      omega (arith, total-append (frames p b i) (frames_all p (b + count i) is), total-frames p b i, total-frames_all p (b + count i) is)

  total-frames_in : (p b c : ℕ) (ds : Defs) → length (attributes_from c ds) + attribute_total (frames_in p b ds) ≡ definitions_in ds
  total-frames_in p b c no_defs = refl
  total-frames_in p b c (def name i ds) =
      omega (arith, total-append (frames p b i) (frames_in p (b + count i) ds), total-frames p b i, total-frames_in p (b + count i) (c + count i) ds)

pub ad_answer-small : (text : List ℕ) (result : Result Ad ParseFault) → AnswersAd text result → IfOk result (λ ad. IsSmall (ad_frames ad))
ad_answer-small text (Ok ad) answer =
    let within = settled_ad-within answer.0 answer.2 in
    let total = ap attribute_total answer.3 ∙ total-frames 0 0 (settled answer.0) in
    omega (arith, total, within.few_definitions)
ad_answer-small text (Err fault) answer = tt

pub expr_answer-small : (text : List ℕ) (result : Result Phrase ParseFault) → AnswersExpr text result
    → IfOk result (λ phrase. IsSmall (ad_frames phrase.ad))
expr_answer-small text (Ok phrase) answer =
    let within = settled_expr-within answer.0 answer.2 in
    let total = ap attribute_total answer.3 ∙ total-cons (empty_frame 0) (frames 0 1 (settled answer.0)) in
    omega (arith, total, total-frames 0 1 (settled answer.0), within.few_definitions)
expr_answer-small text (Err fault) answer = tt
