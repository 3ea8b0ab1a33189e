use Rattle.std.proofs.Common.{◌∙◌}
use Rattle.ad_tree.specs.Tree.{tree}
use Rattle.ad_tree.specs.Inline.{spelled_tree}
use Rattle.ad_tree.specs.Draft.{draft_frames}
use Rattle.ad_tree.proofs.FinishLemmas.{apart-draft, finished_phrase, numbered_phrase, phrase_is_ad, phrase_tree}
use Rattle.ad_tree.proofs.draft.Draft.copied_phrase.Goals as goal

pub into_ad-requires : goal.into_ad-requires
into_ad-requires c =
    let draft = c.args.self.now in
    let apart = apart-draft draft.root draft.inner.items in
    phrase_is_ad (draft_frames draft) apart (tree c.args.expr.now)
    (finished_phrase (draft_frames draft) apart c.count.result c.count.ensures (tree c.args.expr.now) c.with_seed-copy.ensures c.in_ok-expr.ensures)

pub returns-in-Ok-clause-frames : goal.returns-in-Ok-clause-frames
returns-in-Ok-clause-frames c =
    let draft = c.args.self.now in
    c.in-Ok.ensures
    ∙ finished_phrase (draft_frames draft) (apart-draft draft.root draft.inner.items) c.count.result c.count.ensures (tree c.args.expr.now)
    c.with_seed-copy.ensures c.in_ok-expr.ensures

pub returns-in-Ok-clause-expr : goal.returns-in-Ok-clause-expr
returns-in-Ok-clause-expr c =
    let draft = c.args.self.now in
    phrase_tree (draft_frames draft) (apart-draft draft.root draft.inner.items) c.count.result c.count.ensures (tree c.args.expr.now)
    c.with_seed-copy.ensures c.in_ok-expr.ensures

pub invariant_of-result : goal.invariant_of-result
invariant_of-result c =
    let draft = c.args.self.now in
    let apart = apart-draft draft.root draft.inner.items in
    record {
      is_phrase = ∣ numbered_phrase (spelled_tree (draft_frames draft) (tree c.args.expr.now))
          (c.in-Ok.ensures
          ∙ finished_phrase (draft_frames draft) apart c.count.result c.count.ensures (tree c.args.expr.now) c.with_seed-copy.ensures c.in_ok-expr.ensures)
          (phrase_tree (draft_frames draft) apart c.count.result c.count.ensures (tree c.args.expr.now) c.with_seed-copy.ensures c.in_ok-expr.ensures) ∣₁;
    }
