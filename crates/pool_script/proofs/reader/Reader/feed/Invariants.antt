use Rattle.std.proofs.Common.{◌≡◌, ◌++◌, ℕ, length, Bool, List}
use Rattle.pool_script.specs.Reading.{commands_from, IsSound}
use Rattle.pool_script.proofs.reader.Reader.feed.Given as goal

abbrev pub invariant-loop-line : goal.invariant-loop-line
invariant-loop-line l = record {
  sound : IsSound l.self;
  promise : (over : Bool) (more : List ℕ) → commands_from over l.self (l.left ++ more) ≡ commands_from over l.fn.self (l.piece ++ more);
}

abbrev pub decreases-loop-line : goal.decreases-loop-line
decreases-loop-line l = length l.left
