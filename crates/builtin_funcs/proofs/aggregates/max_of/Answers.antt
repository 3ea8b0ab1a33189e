use Rattle.std.proofs.Common.{sym, ◌∙◌, ap}
use Rattle.ad_value.specs.Plain.{plains}
use Rattle.builtin_funcs.specs.Aggregates.{greatest, row_in}
use Rattle.builtin_funcs.proofs.aggregates.max_of.Goals as goal

pub returns-in-Some : goal.returns-in-Some
returns-in-Some c = sym (c.in-Some.ensures greatest)

pub returns-in-None : goal.returns-in-None
returns-in-None c =
    c.greatest.ensures ∙ ap (λ decimals. row_in greatest decimals (plains c.args.items.now)) c.any_decimal.ensures ∙ sym (c.in-None.ensures greatest)
