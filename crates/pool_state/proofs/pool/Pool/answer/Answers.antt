use Rattle.std.proofs.Common.{◌≡◌, ◌≤◌, ◌+◌, IfOk, subst}
use Rattle.pool_books.specs.State.{State}
use Rattle.pool_state.specs.Pool.{state_of}
use Rattle.pool_state.specs.Step.{allowance, looks, step}
use Rattle.pool_state.proofs.pool.Pool.answer.Goals as goal

pub returns-clause-step : goal.returns-clause-step
returns-clause-step g c =
    subst (λ (s : State). IfOk c.run.result (λ reply. step s c.args.command.now ≡ (state_of c.run.new.self, reply))) c.make_ready.ensures.state
    c.run.ensures.step

pub returns-clause-cost : goal.returns-clause-cost
returns-clause-cost g c =
    subst (λ (s : State). c.run.new.meter.tops.now ≤ c.args.meter.now.tops.now + allowance s c.args.command.now) c.make_ready.ensures.state
    c.run.ensures.cost

pub returns-clause-looks : goal.returns-clause-looks
returns-clause-looks g c =
    subst (λ (s : State). c.run.new.meter.touch.now ≤ c.args.meter.now.touch.now + looks s c.args.command.now) c.make_ready.ensures.state
    c.run.ensures.looks
