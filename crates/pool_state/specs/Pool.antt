-- What contracts see of a pool.
use Rattle.std.specs.Prelude.{Bool}
use Rattle.claim_table.specs.Settings.{settings_of}
use Rattle.pool_books.specs.Books.{state_with}
use Rattle.pool_books.specs.State.{State}
use Rattle.pool_state.specs.declared.pool.Pool.{Pool}

-- the state of a pool
unfoldable pub state_of : Pool → State
state_of pool = state_with pool.moment (settings_of pool.priorities) pool.books

-- the pool ran out of memory, and does nothing any more
unfoldable pub is_spent : Pool → Bool
is_spent pool = pool.spent
