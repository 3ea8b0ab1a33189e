use Rattle.ad_printer.proofs.BackLemmas.{printed-one}
use Rattle.ad_printer.proofs.laws.printing_is_one_to_one.Goals as goal

pub returns : goal.returns
returns c = printed-one
