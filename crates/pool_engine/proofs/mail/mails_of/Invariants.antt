use Rattle.std.proofs.Common.{◌≡◌, ◌++◌, length}
use Rattle.pool_engine.specs.Mails.{mails_of}
use Rattle.pool_engine.proofs.mail.mails_of.Given as goal

abbrev pub invariant-loop-left : goal.invariant-loop-left
invariant-loop-left l = mails_of l.words ≡ l.mails.items ++ mails_of l.left

abbrev pub decreases-loop-left : goal.decreases-loop-left
decreases-loop-left l = length l.left
