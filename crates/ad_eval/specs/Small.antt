-- Worlds whose ads are as small as those that are read.
use Rattle.std.specs.Prelude.{All}
use Rattle.ad_tree.specs.Small.{IsSmall}
use Rattle.eval_scope.specs.World.{PlainWorld, ads}

-- no ad of the world has more attributes than one that was read may have
abbrev pub AreSmall : PlainWorld → Type 0
AreSmall w = All IsSmall (ads w)
