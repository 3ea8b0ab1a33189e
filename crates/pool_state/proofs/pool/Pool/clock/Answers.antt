use Rattle.std.proofs.Common.{arith}
use Rattle.pool_books.specs.Books.{queue_of}
use Rattle.pool_books.specs.Indexed.{ads_of}
use Rattle.pool_state.specs.Pool.{state_of}
use Rattle.pool_state.proofs.StepLemmas.{clock-back, clock-moves}
use Rattle.pool_state.proofs.pool.Pool.clock.Goals as goal

pub returns-then-n-self-clause-step : goal.returns-then-n-self-clause-step
unfolding state_of
returns-then-n-self-clause-step g c = clock-back (state_of c.args.self.now) c.args.n (omega arith)

pub returns-clause-step : goal.returns-clause-step
unfolding state_of
returns-clause-step g c =
    clock-moves (state_of c.args.self.now) c.args.n c.in_ok-expired.expired (ads_of c.expire.new.self.ads) (queue_of c.expire.new.self) (omega arith)
    c.in_ok-expired.ensures.ads c.in_ok-expired.ensures.jobs c.in_ok-expired.ensures.count
