use Rattle.std.proofs.Common.{◌≡◌, ◌+◌, length}
use Rattle.ad_lexer.specs.Reading.{quoted}
use Rattle.ad_lexer.proofs.quoted.quoted.Given as goal

abbrev pub invariant-loop-len : goal.invariant-loop-len
invariant-loop-len l = (quoted l.kind l.quote l.at 0 l.rest ≡ quoted l.kind l.quote 1 0 l.text) × (l.at + length l.rest ≡ 1 + length l.text)

abbrev pub decreases-loop-len : goal.decreases-loop-len
decreases-loop-len l = length l.rest
