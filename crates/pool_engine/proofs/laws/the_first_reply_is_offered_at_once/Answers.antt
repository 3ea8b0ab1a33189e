use Rattle.pool_engine.proofs.TimeLemmas.{replies_first}
use Rattle.pool_engine.proofs.laws.the_first_reply_is_offered_at_once.Goals as goal

pub returns : goal.returns
returns c = λ start s t k m fault known from to. replies_first start s t k m fault known from to
