-- Numbers in 64 bits, for the order of the index.
use Rattle.std.specs.Prelude.{ℕ, ℤ, pos, negsuc, ◌+◌, ◌-◌, ◌/◌, ◌^◌, nat_lt, min, if◌then◌else◌}

-- a size in 63 bits: itself where it is small, and else by its upper bits
abbrev pub short : ℕ → ℕ
short n = if nat_lt n (2 ^ 62) then n else 2 ^ 62 + min (n / 2 ^ 22) (2 ^ 62 - 1)

-- a number in 64 bits; a greater one never comes to less
abbrev pub shortened : ℤ → ℤ
shortened (pos n) = pos (short n)
shortened (negsuc n) = negsuc (short n)
