use Rattle.std.proofs.Common.{sym, ◌∙◌}
use Rattle.ad_value.specs.Plain.{plains}
use Rattle.builtin_funcs.proofs.CallLemmas.{error_within, row_within, undefined_within}
use Rattle.builtin_funcs.proofs.calls.value_of.Goals as goal

pub returns-then-any_error : goal.returns-then-any_error
returns-then-any_error c =
    let ps = plains c.args.args.now in
    error_within c.args.function ps c.args.moment _ _ (c.strict_places-first.ensures.places ps (sym c.len.ensures)) c.if-any_error.ensures

pub returns-then-any_undefined : goal.returns-then-any_undefined
returns-then-any_undefined c =
    let ps = plains c.args.args.now in
    undefined_within c.args.function ps c.args.moment _ _ (c.strict_places-first.ensures.places ps (sym c.len.ensures)) c.if-any_error.ensures
    c.if-any_undefined.ensures

pub returns-in_ok-row : goal.returns-in_ok-row
returns-in_ok-row c =
    let ps = plains c.args.args.now in
    c.bounded.ensures ∙ c.in_ok-row.ensures ∙ row_within c.args.function ps c.args.moment _ _ (c.strict_places-first.ensures.places ps
    (sym c.len.ensures)) c.if-any_error.ensures c.if-any_undefined.ensures
