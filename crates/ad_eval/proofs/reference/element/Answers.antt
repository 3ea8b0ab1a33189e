use Rattle.std.proofs.Common.{◌≡◌, ◌≤◌, ℤ, pos, length, IfOk, int_lt, w64, ap, sym, ◌∙◌, subst, arith}
use Rattle.std.proofs.lemmas.Int.{to_z-of_z}
use mir.Val.{to_z, of_z}
use lib.IntN.{nat_abs}
use Rattle.ad_value.specs.Plain.{Plain, plain, plains}
use Rattle.ad_eval.proofs.ElementLemmas.{element-at, element-negative, element-past, whole}
use Rattle.ad_eval.proofs.reference.element.Goals as goal

pub returns-then-index-lt0 : goal.returns-then-index-lt0
returns-then-index-lt0 c =
    let ps = plains c.args.items.now in
    let same = to_z-of_z w64 c.args.index c.ranges.index in
    sym (element-negative ps c.args.index (ap (λ (i : ℤ). int_lt i (pos 0)) (sym same) ∙ c.if-index-lt0.true))

pub returns-then-place-len : goal.returns-then-place-len
returns-then-place-len c =
    let ps = plains c.args.items.now in
    let same = to_z-of_z w64 c.args.index c.ranges.index in
    let n = nat_abs (to_z w64 (of_z w64 c.args.index)) in
    let past : length ps ≤ n = omega arith in
    sym (element-past ps c.args.index n (sym same ∙ whole (to_z w64 (of_z w64 c.args.index)) c.if-index-lt0.false) past)

pub returns : goal.returns
returns c =
    let ps = plains c.args.items.now in
    let same = to_z-of_z w64 c.args.index c.ranges.index in
    let n = nat_abs (to_z w64 (of_z w64 c.args.index)) in
    subst (λ (p : Plain). IfOk c.copy.result (λ v. plain v ≡ p))
    (sym (element-at ps c.args.index n (plain c.at.result.now) (sym same ∙ whole (to_z w64 (of_z w64 c.args.index)) c.if-index-lt0.false) c.at.ensures))
    c.copy.ensures
