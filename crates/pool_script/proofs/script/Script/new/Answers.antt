use Rattle.std.proofs.Common.{refl}
use Rattle.pool_script.specs.Commands.{commands_of}
use Rattle.pool_script.specs.Reading.{rest_kept}
use Rattle.pool_script.proofs.StandingLemmas.{stands_new}
use Rattle.pool_script.proofs.script.Script.new.Goals as goal

pub returns-clause-empty : goal.returns-clause-empty
unfolding rest_kept
returns-clause-empty c = let made = c.new.ensures in rw (made.waiting, made.block, made.line)

pub returns-clause-stands : goal.returns-clause-stands
unfolding rest_kept
returns-clause-stands c = let made = c.new.ensures in rw (made.waiting, made.block, made.line) (stands_new commands_of refl)
