use Rattle.script_run.proofs.TimeLemmas.{answers_first}
use Rattle.script_run.proofs.laws.the_first_answer_is_offered_at_once.Goals as goal

pub returns : goal.returns
returns g c = λ start s t k m fault known from to. answers_first g.M.Machine.rules g.met.M.Machine.lawful start s t k m fault known from to
