-- Lines of a block that are taken all at once.
use Rattle.std.specs.Prelude.{ℕ, ◌-◌, Bool, ◌&&◌, ◌==◌, List, length, take, not, take_while}
use Rattle.pool_text.specs.Lines.{ended, with_feeds, without_return}
use Rattle.pool_script.specs.Commands.{is_dot}
use Rattle.pool_script.specs.declared.reader.Block.{Block}

-- a line that a block takes as it stands: it doesn't close the block, and no carriage return is dropped from it
abbrev pub is_plain : List ℕ → Bool
is_plain line = not (is_dot line) && length (without_return line) == length line

-- the lines at the front that a block takes as they stand, with their line feeds
abbrev pub run_of : List ℕ → List ℕ
run_of bytes = with_feeds (take_while is_plain (ended bytes))

-- those of a piece that a block has room for
abbrev pub run_into : Block → List ℕ → List ℕ
run_into block piece = run_of (take (65536 - length block.text) piece)
