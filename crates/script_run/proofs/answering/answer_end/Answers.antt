use Rattle.std.proofs.lemmas.Result.{err_from_is_err_and}
use Rattle.script_run.proofs.TookLemmas.{Stopped-none}
use Rattle.script_run.proofs.answering.answer_end.Goals as goal

pub returns-in_err-end-clause-stopped : goal.returns-in_err-end-clause-stopped
returns-in_err-end-clause-stopped g c =
    let exit = err_from_is_err_and c.from_residual.result c.from_residual.ensures.1 in
    rw (exit.1, exit.2) (Stopped-none g.M.Machine.rules g.met.M.Machine.lawful _ _ _)
