use Rattle.builtin_funcs.proofs.LawLemmas.{to_lower_folds}
use Rattle.builtin_funcs.proofs.laws.to_lower_is_folding.Goals as goal

pub returns : goal.returns
returns c = to_lower_folds c.args.bytes.now c.args.moment
