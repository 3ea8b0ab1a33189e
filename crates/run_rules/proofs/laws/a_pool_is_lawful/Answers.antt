use Rattle.run_rules.proofs.PoolLemmas.{pool_lawful}
use Rattle.run_rules.proofs.laws.a_pool_is_lawful.Goals as goal

pub returns : goal.returns
returns c = pool_lawful
