use Rattle.std.proofs.Common.{◌≡◌, ◌+◌, length}
use Rattle.ad_lexer.specs.Reading.{comment_len}
use Rattle.ad_lexer.proofs.next.comment_len.Given as goal

abbrev pub invariant-loop-rest : goal.invariant-loop-rest
invariant-loop-rest l = (comment_len l.len l.rest ≡ comment_len 0 l.text) × (l.len + length l.rest ≡ length l.text)

abbrev pub decreases-loop-rest : goal.decreases-loop-rest
decreases-loop-rest l = length l.rest
