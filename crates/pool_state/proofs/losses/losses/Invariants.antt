use Rattle.std.proofs.Common.{◌≡◌, take}
use Rattle.pool_books.specs.Books.{queue_of}
use Rattle.pool_state.specs.Notices.{losses}
use Rattle.pool_state.proofs.losses.losses.Given as goal

abbrev pub invariant-loop-place : goal.invariant-loop-place
invariant-loop-place l = l.list ≡ losses (queue_of l.books) (take l.place-index l.places)
