use Rattle.std.proofs.Common.{ℕ, List, ◌≡◌, ◌≤◌, sym, ◌∙◌, ap, length, arith}
use Rattle.std.proofs.lemmas.Bool.Decides.{nat_tests}
use Rattle.std.proofs.lemmas.List.{length-map}
use Rattle.std.proofs.lemmas.Simd.{length-chunk}
use lib.Lanes.{chunk}
use Rattle.std.specs.Char.{to_ascii_lowercase}
use Rattle.pool_text.specs.Folding.{folded}
use Rattle.pool_text.proofs.LaneLemmas.{alike}
use Rattle.pool_text.proofs.folding.begin_alike.Goals as goal

long : (bytes lanes : List ℕ) → 16 ≤ length bytes → lanes ≡ folded (chunk 0 16 bytes) → length lanes ≡ 16
long bytes lanes room is = ap length is ∙ length-map (chunk 0 16 bytes) to_ascii_lowercase ∙ length-chunk 0 16 bytes room

pub returns : goal.returns
returns c = λ is.
    let first = c.small_letters.ensures in
    let second = c.small_letters-2.ensures in
    sym first ∙ alike _ _ (long _ _ c.requires.left first) (long _ _ c.requires.right second) (grind (arith, nat_tests)) ∙ second
