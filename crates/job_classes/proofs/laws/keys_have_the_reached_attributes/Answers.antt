use Rattle.job_classes.proofs.KeyLemmas.{key_has_entries}
use Rattle.job_classes.proofs.laws.keys_have_the_reached_attributes.Goals as goal

pub returns : goal.returns
returns g c = key_has_entries g.given.0 g.given.1
