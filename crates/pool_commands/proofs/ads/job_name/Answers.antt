use Rattle.std.proofs.Common.{Some, sym, ◌∙◌, ap}
use Rattle.pool_commands.proofs.ads.job_name.Goals as goal

pub returns-in_ok-copy-in-Some : goal.returns-in_ok-copy-in-Some
returns-in_ok-copy-in-Some c = rw c.in-Some.is (ap Some c.in_ok-copy-in-Some.ensures.text ∙ sym c.job.ensures)
