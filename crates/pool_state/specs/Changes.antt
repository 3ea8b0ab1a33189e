-- Which commands search the ads.
use Rattle.std.specs.Prelude.{Bool, true, false}
use Rattle.pool_script.specs.declared.command.Command.{Command}
use Rattle.pool_script.specs.declared.command.Command.TheVariants as command

-- the command looks for ads by the index
abbrev pub is_search : Command → Bool
is_search (command.Query block) = true
is_search (command.Gang block) = true
is_search command.Negotiate = true
is_search other = false
