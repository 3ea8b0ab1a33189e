use Rattle.std.proofs.Common.{arith, ◌<◌, ◌-◌, ◌∙◌, ◌∷◌, ap, length, subst, sym}
use Rattle.std.proofs.lemmas.List.{length-map}
use Rattle.ad_tree.specs.Tree.{tree}
use Rattle.ad_tree.specs.Frames.{attributes_in, defined}
use Rattle.ad_tree.specs.Steady.{MovesNone}
use Rattle.ad_tree.specs.Table.{frame_of, frames_of}
use Rattle.ad_tree.specs.Draft.{draft_frames}
use Rattle.ad_tree.proofs.DraftLemmas.{inner-defined, inner-read, inner-same, on_ok, on_err}
use Rattle.ad_tree.proofs.FinishLemmas.{if_ok}
use Rattle.ad_tree.proofs.draft.Draft.define_noting.Goals as goal

pub returns-else-frame-eq0-clause-ok : goal.returns-else-frame-eq0-clause-ok
returns-else-frame-eq0-clause-ok c =
    let fs = c.args.self.now.inner.items in
    let within : c.args.frame - 1 < length fs = omega (arith, length-map fs frame_of, c.requires, c.if-frame-eq0.false) in
    on_ok c.define-else-frame-eq0.result
    (inner-defined (frame_of c.args.self.now.root) fs c.args.frame c.define-else-frame-eq0.new.self c.index_mut.result.now c.args.name (tree c.args.expr)
    c.if-frame-eq0.false within c.index_mut.ensures.value)
    c.define-else-frame-eq0.ensures.ok

pub returns-else-frame-eq0-clause-err : goal.returns-else-frame-eq0-clause-err
returns-else-frame-eq0-clause-err c =
    let fs = c.args.self.now.inner.items in
    let within : c.args.frame - 1 < length fs = omega (arith, length-map fs frame_of, c.requires, c.if-frame-eq0.false) in
    on_err c.define-else-frame-eq0.result
    (inner-same (frame_of c.args.self.now.root) fs (c.args.frame - 1) c.define-else-frame-eq0.new.self c.index_mut.result.now within c.index_mut.ensures.value)
    c.define-else-frame-eq0.ensures.err

pub returns-then-frame-eq0-clause-ok : goal.returns-then-frame-eq0-clause-ok
returns-then-frame-eq0-clause-ok c =
    on_ok c.define.result
    (λ h.
    ap (λ root. root ∷ frames_of c.args.self.now.inner.items) h
    ∙ ap (λ k. defined (draft_frames c.args.self.now) k c.args.name (tree c.args.expr)) (sym c.if-frame-eq0.true))
    c.define.ensures.ok

pub returns-then-frame-eq0-clause-err : goal.returns-then-frame-eq0-clause-err
returns-then-frame-eq0-clause-err c =
    on_err c.define.result (λ h. ap (λ root. root ∷ frames_of c.args.self.now.inner.items) h) c.define.ensures.err

pub returns-else-frame-eq0-clause-steady : goal.returns-else-frame-eq0-clause-steady
returns-else-frame-eq0-clause-steady c =
    let fs = c.args.self.now.inner.items in
    let within : c.args.frame - 1 < length fs = omega (arith, length-map fs frame_of, c.requires, c.if-frame-eq0.false) in
    let read = inner-read (frame_of c.args.self.now.root) fs c.args.frame c.index_mut.result.now c.if-frame-eq0.false within c.index_mut.ensures.value in
    if_ok c.define-else-frame-eq0.result
    (λ is_steady h is. subst (λ o. MovesNone c.args.name (tree c.args.expr) (attributes_in o)) read (h is))
    c.define-else-frame-eq0.ensures.steady

pub index_mut-requires : goal.index_mut-requires
index_mut-requires c =
    omega (arith, c.args.self.now.inner.ok.0, length-map c.args.self.now.inner.items frame_of, c.requires, c.if-frame-eq0.false)
