use Rattle.builtin_funcs.proofs.LawLemmas.{strcat_joins}
use Rattle.builtin_funcs.proofs.laws.strcat_joins_texts.Goals as goal

pub returns : goal.returns
returns c = λ texts. strcat_joins texts c.args.moment
