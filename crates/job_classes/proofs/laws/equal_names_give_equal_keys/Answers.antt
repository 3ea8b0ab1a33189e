use Rattle.job_classes.proofs.KeyLemmas.{keys-alike}
use Rattle.job_classes.proofs.laws.equal_names_give_equal_keys.Goals as goal

pub returns : goal.returns
returns g c = λ same request. keys-alike g.given.0 g.given.1 same request
