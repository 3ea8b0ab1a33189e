use Rattle.std.proofs.Common.{◌∙◌, ap, ◌∷◌}
use Rattle.ad_tree.specs.Tree.{tree}
use Rattle.ad_tree.specs.Inline.{spelled_tree}
use Rattle.ad_tree.specs.Frames.{empty_frame}
use Rattle.ad_tree.specs.Draft.{draft_frames}
use Rattle.ad_tree.proofs.FinishLemmas.{apart-draft, numbered_phrase, phrase_is_ad}
use Rattle.ad_tree.proofs.draft.Draft.finish_phrase.Goals as goal

pub behind_empty_root-requires : goal.behind_empty_root-requires
behind_empty_root-requires c =
    phrase_is_ad (draft_frames c.args.self) (apart-draft c.args.self.root c.args.self.inner.items) (tree c.args.expr)
    (ap (λ fs. empty_frame 0 ∷ fs) (c.is_phrase_in_order.ensures.frames c.if-not-is_phrase_in_order.false))

pub invariant_of-result : goal.invariant_of-result
invariant_of-result c =
    record {
      is_phrase = ∣ numbered_phrase (spelled_tree (draft_frames c.args.self) (tree c.args.expr))
          (c.in-Ok.ensures ∙ ap (λ fs. empty_frame 0 ∷ fs) (c.is_phrase_in_order.ensures.frames c.if-not-is_phrase_in_order.false))
          (c.is_phrase_in_order.ensures.expr c.if-not-is_phrase_in_order.false) ∣₁;
    }

pub returns-in-Ok-clause-frames : goal.returns-in-Ok-clause-frames
returns-in-Ok-clause-frames c =
    c.in-Ok.ensures ∙ ap (λ fs. empty_frame 0 ∷ fs) (c.is_phrase_in_order.ensures.frames c.if-not-is_phrase_in_order.false)

pub returns-in-Ok-clause-expr : goal.returns-in-Ok-clause-expr
returns-in-Ok-clause-expr c = c.is_phrase_in_order.ensures.expr c.if-not-is_phrase_in_order.false

pub returns-then-not-is_phrase_in_order-clause-frames : goal.returns-then-not-is_phrase_in_order-clause-frames
returns-then-not-is_phrase_in_order-clause-frames c = c.copied_phrase-phrase.ensures.frames

pub returns-then-not-is_phrase_in_order-clause-expr : goal.returns-then-not-is_phrase_in_order-clause-expr
returns-then-not-is_phrase_in_order-clause-expr c = c.copied_phrase-phrase.ensures.expr
