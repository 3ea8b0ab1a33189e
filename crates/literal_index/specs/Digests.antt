-- Numbers that stand for texts in the order of the index.
use Rattle.std.specs.Prelude.{ℕ, ◌/◌, ℤ, pos, List}
use Rattle.pool_text.specs.Folding.{folded}
use Rattle.pool_text.specs.Digests.{digest_from}

-- a number of 64 bits for bytes
abbrev pub digest : List ℕ → ℕ
digest bytes = digest_from 0 bytes

-- a number of 63 bits for a text, the same for texts that are equal after folding
abbrev pub number_of_text : List ℕ → ℤ
number_of_text bytes = pos (digest (folded bytes) / 2)
