use Rattle.std.proofs.Common.{◌∙◌, ap}
use Rattle.builtin_funcs.specs.Texts.{integer_in}
use Rattle.builtin_funcs.proofs.NumberLemmas.{integer_in-parsed, integer_in-refused, integer_in-not_text, kept_in_64_bits}
use Rattle.builtin_funcs.proofs.conversions.integer_in.Goals as goal

pub returns-in_default : goal.returns-in_default
returns-in_default c = integer_in-not_text c.args.bytes.now c.in_default.ensures.cases.0

pub returns-in-Ok-parse : goal.returns-in-Ok-parse
returns-in-Ok-parse c =
    let read = c.in-Ok-parse.ensures.value.0 in
    integer_in-parsed c.in-Ok.text.now _ read.0.0 read.0.1 (kept_in_64_bits _ _ read.1 read.0.1) ∙ ap integer_in c.in-Ok.ensures.cases.0

pub returns-in-Err : goal.returns-in-Err
returns-in-Err c =
    integer_in-refused c.in-Ok.text.now (λ numeral fits. c.in-Err.ensures.value.0 (numeral, fits)) ∙ ap integer_in c.in-Ok.ensures.cases.0
