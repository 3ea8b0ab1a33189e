-- The laws of a pool's rules.
use Rattle.std.proofs.Common.{List, [], ◌∷◌, ◌++◌, refl, inl, arith}
use Rattle.pool_script.specs.declared.command.Command.{Command}
use Rattle.pool_script.proofs.CountLemmas.{commands_of-length, ended_before_more, ended_before_whole}
use Rattle.pool_state.specs.Heard.{Heard, step_heard}
use Rattle.script_run.specs.Effects.{Beside}
use Rattle.script_run.specs.Rules.{IsLawful, after}
use Rattle.run_rules.specs.Events.{Event, event_of}
use Rattle.run_rules.specs.PoolRules.{Costs, Ran, pool_rules}
use Rattle.run_rules.proofs.EventLemmas.{Posted-append, Posted-none, allowed-append, looks-append, refusal_count-le}

Costs-none : (k : Beside) (events : List Event) → Costs k k events
Costs-none k events = record { tops = omega arith; touch = omega arith }

-- commands behind others
ran_behind : (s : Heard) (a b : List Command) (k m n : Beside) → Ran s a k m → Ran (after pool_rules s a) b m n → Ran s (a ++ b) k n
ran_behind s a b k m n first second = record {
  cost = record {
    tops = omega (arith, first.cost.tops, second.cost.tops, allowed-append s a b);
    touch = omega (arith, first.cost.touch, second.cost.touch, looks-append s a b);
  };
  posted = Posted-append s a b k.rows m.rows n.rows first.posted second.posted;
}

pub pool_lawful : IsLawful pool_rules
pool_lawful = record {
  few = commands_of-length;
  more = ended_before_more;
  whole = ended_before_whole;
  one = λ s command. refusal_count-le (step_heard s command).1;
  none = λ s k. record { cost = Costs-none k []; posted = Posted-none s k.rows };
  append = ran_behind;
  idle = λ s command k. record { cost = Costs-none k (event_of s command ∷ []); posted = inl refl };
}

-- ---- one command
