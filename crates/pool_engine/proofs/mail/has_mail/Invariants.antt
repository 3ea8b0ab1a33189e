use Rattle.std.proofs.Common.{◌≡◌, length}
use Rattle.pool_engine.specs.Mails.{has_mail}
use Rattle.pool_engine.proofs.mail.has_mail.Given as goal

abbrev pub invariant-loop-left : goal.invariant-loop-left
invariant-loop-left l = has_mail l.name l.words ≡ has_mail l.name l.left

abbrev pub decreases-loop-left : goal.decreases-loop-left
decreases-loop-left l = length l.left
