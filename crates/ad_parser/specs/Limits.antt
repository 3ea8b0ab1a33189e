-- The limits of a parse.
use Rattle.std.specs.Prelude.{ℕ}

-- how high a tree may be
abbrev pub height_limit : ℕ
height_limit = 64

-- how many frames a text may spell, the root included
abbrev pub frame_limit : ℕ
frame_limit = 64

-- and how many definitions, those that are replaced included
abbrev pub definition_limit : ℕ
definition_limit = 1024
