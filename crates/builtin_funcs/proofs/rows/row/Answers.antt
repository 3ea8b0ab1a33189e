use Rattle.std.proofs.Common.{sym, ◌∙◌, ap}
use Rattle.ad_value.specs.Limits.{bounded}
use Rattle.ad_value.specs.Plain.{plains}
use Rattle.builtin_funcs.proofs.RowLemmas.{if_ok, none-row, one-row, two-row, three-row}
use Rattle.builtin_funcs.proofs.rows.row.Goals as goal

pub returns-in-0 : goal.returns-in-0
returns-in-0 c =
    ap bounded (c.row_of_none.ensures ∙ none-row c.args.function (plains c.args.args.now) c.args.moment c.in_default.not-Strcat (sym c.len.ensures ∙ c.in-0.is))

pub returns-in-1 : goal.returns-in-1
returns-in-1 c =
    if_ok c.row_of_one.result
    (λ v h. ap bounded (h ∙ one-row c.args.function (plains c.args.args.now) c.args.moment _ c.in_default.not-Strcat (sym c.len.ensures
    ∙ c.in-1.is) c.at.ensures))
    c.row_of_one.ensures

pub returns-in-2 : goal.returns-in-2
returns-in-2 c =
    if_ok c.row_of_two.result
    (λ v h. ap bounded (h ∙ two-row c.args.function (plains c.args.args.now) c.args.moment _ _ c.in_default.not-Strcat (sym c.len.ensures
    ∙ c.in-2.is) c.at-in-2.ensures c.at-in-2-2.ensures))
    c.row_of_two.ensures

pub returns-in-3 : goal.returns-in-3
returns-in-3 c =
    if_ok c.row_of_three.result
    (λ v h. ap bounded (h ∙ three-row c.args.function (plains c.args.args.now) c.args.moment _ _ _ c.in_default.not-Strcat (sym c.len.ensures ∙ c.in-3.is)
    c.at-in-3.ensures c.at-in-3-2.ensures c.at-in-3-3.ensures))
    c.row_of_three.ensures
