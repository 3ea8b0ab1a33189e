-- The lines of a list of bytes, as they are given.
use Rattle.std.specs.Prelude.{ℕ, Bool, true, false, List, map, if◌then◌else◌}
use Rattle.pool_text.specs.Lines.{without_return}
use Rattle.pool_text.specs.Words.{is_long}
use Rattle.pool_script.specs.Commands.{lines_of}
use Rattle.pool_script.specs.declared.lines.Line.{Line}
use Rattle.pool_script.specs.declared.lines.Line.TheVariants as line

-- a line that isn't too long, without the one carriage return that may end it
abbrev pub given_line : List ℕ → Line
given_line bytes = if is_long bytes then line.TooLong else line.Words (without_return bytes)

-- the lines of bytes: all of them where the input is over, else those that have ended
abbrev pub given_lines : Bool → List ℕ → List Line
given_lines over bytes = map given_line (lines_of over bytes)

-- the lines whose line feed stands within the bytes
abbrev pub ended_lines : List ℕ → List Line
ended_lines bytes = given_lines false bytes

-- the lines of the bytes as the whole input
abbrev pub whole_lines : List ℕ → List Line
whole_lines bytes = given_lines true bytes
