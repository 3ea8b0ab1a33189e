use Rattle.std.proofs.Common.{sym, ◌∙◌, ap}
use Rattle.ad_value.specs.Plain.{plains}
use Rattle.builtin_funcs.specs.Aggregates.{least, row_in}
use Rattle.builtin_funcs.proofs.aggregates.min_of.Goals as goal

pub returns-in-Some : goal.returns-in-Some
returns-in-Some c = sym (c.in-Some.ensures least)

pub returns-in-None : goal.returns-in-None
returns-in-None c = c.least.ensures ∙ ap (λ decimals. row_in least decimals (plains c.args.items.now)) c.any_decimal.ensures ∙ sym (c.in-None.ensures least)
