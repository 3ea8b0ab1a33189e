use Rattle.run_rules.proofs.WireLemmas.{wire_lawful}
use Rattle.run_rules.proofs.laws.a_wire_is_lawful.Goals as goal

pub returns : goal.returns
returns c = wire_lawful
