use Rattle.std.proofs.Common.{ℕ, List, map, ap₂, ◌∙◌, refl}
use Rattle.std.proofs.lemmas.Simd.{zip2_splat}
use lib.Lanes.{sel_l, top}
use Rattle.std.specs.Char.{to_ascii_lowercase}
use Rattle.pool_text.proofs.LaneLemmas.{chosen, in_turn}
use Rattle.pool_text.proofs.folding.small_letters.Goals as goal

pub returns : goal.returns
returns c =
    let v = c.args.bytes in
    let long = c.fits-bytes.0 in
    ap₂ (λ (m x : List ℕ). sel_l (map (top 7) m) x v) (in_turn _ _ 65 26 16 v long) (zip2_splat {Y = ℕ} _ v 16 32 long)
    ∙ chosen _ _ to_ascii_lowercase refl v c.fits-bytes.1
