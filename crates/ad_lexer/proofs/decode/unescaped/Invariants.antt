use Rattle.std.proofs.Common.{length}
use Rattle.ad_lexer.proofs.ContentLemmas.{Unread}
use Rattle.ad_lexer.proofs.decode.unescaped.Given as goal

abbrev pub invariant-loop-bytes : goal.invariant-loop-bytes
invariant-loop-bytes l = ∥ Unread l.quote l.spelling l.bytes.items l.rest ∥₁

abbrev pub decreases-loop-bytes : goal.decreases-loop-bytes
decreases-loop-bytes l = length l.rest
