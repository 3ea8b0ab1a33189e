use Rattle.std.proofs.Common.{◌∙◌, ap, refl}
use Rattle.builtin_funcs.specs.Functions.{function_in}
use Rattle.builtin_funcs.proofs.NameLemmas.{function_named-of_length}
use Rattle.builtin_funcs.proofs.function.function_named.Goals as goal

pub returns : goal.returns
returns c =
    let name = c.args.name.now in
    c.function_in.ensures ∙ ap (λ table. function_in table name) c.names_of_length.ensures ∙ function_named-of_length _ name refl
