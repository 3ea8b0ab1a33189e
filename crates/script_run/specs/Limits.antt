-- The limits of a run.
use Rattle.std.specs.Prelude.{ℕ, ◌^◌}

-- how many bytes an input may have
abbrev pub input_limit : ℕ
input_limit = 2 ^ 30
