use Rattle.std.proofs.Common.{◌∙◌, ap, sym, Bool, ◌||◌, drop, suc, add-one, Some}
use Rattle.std.proofs.lemmas.Option.{slice_get-get_or}
use Rattle.ad_tree.specs.Names.{has_name}
use Rattle.conjunct_plan.specs.Tests.{labels_of}
use Rattle.conjunct_plan.proofs.TestLemmas.{label-behind}
use Rattle.conjunct_plan.proofs.side.has_label.Goals as goal

pub returns-then-is_label : goal.returns-then-is_label
returns-then-is_label c =
    ap (λ (b : Bool). b || has_name c.args.name.now (labels_of (drop (suc c.loop-i.i) c.args.ports.now))) (sym c.if-is_label.true ∙ c.is_label.ensures)
    ∙ sym (label-behind c.args.name.now c.args.ports.now c.loop-i.i c.index-ports-i.result
    (slice_get-get_or c.args.ports.now c.loop-i.i c.index-ports-i.result c.loop-i-test.true ∙ ap Some (sym c.index-ports-i.is)))
    ∙ c.loop-i.invariant

pub loop-i-preserved : goal.loop-i-preserved
loop-i-preserved c =
    rw (add-one c.loop-i.i)
    (ap (λ (b : Bool). b || has_name c.args.name.now (labels_of (drop (suc c.loop-i.i) c.args.ports.now))) (sym c.if-is_label.false ∙ c.is_label.ensures)
    ∙ sym (label-behind c.args.name.now c.args.ports.now c.loop-i.i c.index-ports-i.result
    (slice_get-get_or c.args.ports.now c.loop-i.i c.index-ports-i.result c.loop-i-test.true ∙ ap Some (sym c.index-ports-i.is)))
    ∙ c.loop-i.invariant)
