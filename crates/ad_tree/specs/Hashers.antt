-- Hashers of names that begin with a seed.
use Rattle.std.specs.Prelude.{ℕ, ◌*◌, ◌/◌, ◌%◌, ◌^◌, ◌==◌, List, length, cond, bit_xor}
use Rattle.std.specs.Int.{w64, from_le_bytes}
use Rattle.ad_tree.specs.declared.hasher.NameHasher.{NameHasher}

-- the product of 128 bits of a multiplier and what a state and a word differ in
abbrev pub product : ℕ → ℕ → ℕ
product state word = bit_xor state word * 6364136223846793005

-- a state with one word more: the halves of the product, joined by xor
abbrev pub mixed : ℕ → ℕ → ℕ
mixed state word = bit_xor (product state word % (2 ^ 64)) (product state word / (2 ^ 64))

-- a hasher after a write: it takes the word that eight bytes are, and nothing where there are more or fewer
abbrev pub written : NameHasher → List ℕ → NameHasher
written hasher bytes = cond (length bytes == 8) (record { state = mixed hasher.state (from_le_bytes w64 bytes) }) hasher
