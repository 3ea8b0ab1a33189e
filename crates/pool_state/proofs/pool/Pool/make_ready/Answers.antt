use Rattle.claim_table.specs.Settings.{settings_of}
use Rattle.pool_state.specs.Pool.{state_of}
use Rattle.pool_state.proofs.pool.Pool.make_ready.Goals as goal

pub returns-in-Query-clause-state : goal.returns-in-Query-clause-state
unfolding state_of
returns-in-Query-clause-state c = c.settle.ensures.state c.args.self.now.moment (settings_of c.args.self.now.priorities)

pub returns-in-List-clause-state : goal.returns-in-List-clause-state
unfolding state_of
returns-in-List-clause-state c = c.settle_order.ensures c.args.self.now.moment (settings_of c.args.self.now.priorities)
