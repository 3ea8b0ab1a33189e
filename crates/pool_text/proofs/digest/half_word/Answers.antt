use Rattle.std.proofs.Common.{◌∙◌, ap, arith, bit_or, length-take, take}
use Rattle.std.proofs.lemmas.Simd.{zip2_splat}
use Rattle.std.specs.Int.{w32, from_be_bytes}
use Rattle.pool_text.proofs.digest.half_word.Goals as goal

pub returns : goal.returns
returns c =
    c.from_be_bytes.ensures
    ∙ ap (from_be_bytes w32) (zip2_splat bit_or (take 4 c.args.letters.now) 4 32 (omega (arith, length-take 4 c.args.letters.now)))
