use Rattle.std.proofs.Common.{◌≡◌, map, take}
use Rattle.pool_books.specs.Books.{queue_of}
use Rattle.pool_commands.specs.Status.{job_row}
use Rattle.pool_commands.proofs.queue.jobs.Given as goal

abbrev pub invariant-loop-i : goal.invariant-loop-i
invariant-loop-i l = l.rows ≡ map job_row (take l.i (queue_of l.books))
