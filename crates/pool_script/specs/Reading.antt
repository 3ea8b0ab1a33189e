-- The commands as a reader makes them: a line and a block of which only the first bytes are kept where they are too long.
use Rattle.std.specs.Prelude.{◌≡◌, ℕ, ◌≤◌, Bool, true, List, [], ◌∷◌, ◌++◌, length, map, take, Option, None, Some, if◌then◌else◌}
use Rattle.std.specs.List.{list_all}
use Rattle.pool_text.specs.Lines.{ended, with_feeds}
use Rattle.pool_text.specs.Words.{is_long}
use Rattle.pool_script.specs.Commands.{commands, is_dot, lines_of, next, takes_block}
use Rattle.pool_script.specs.Form.{are_block_lines, is_within_form}
use Rattle.pool_script.specs.declared.command.Command.{Command}
use Rattle.pool_script.specs.declared.reader.Block.{Block}
use Rattle.pool_script.specs.declared.reader.Reader.{Reader}

-- as much of a line as is kept
unfoldable pub kept : List ℕ → List ℕ
kept line = take 65537 line

-- the block behind a line: a text that is too long already grows no more
unfoldable pub kept_next : Option Block → List ℕ → Option Block
kept_next None line = next None line
kept_next (Some block) line = if is_dot line then None else (if is_long block.text then Some block else next (Some block) line)

-- a block that has begun and isn't closed
pub record IsOpen (block : Block) : Type 0 where
  pub taken : takes_block block.line ≡ true
  pub one_line : ended block.line ≡ []
  pub lines : are_block_lines block.text ≡ true
  pub short : length block.text ≤ 131074

-- a line that has begun, as it is kept
pub record IsBegun (line : List ℕ) : Type 0 where
  pub one_line : ended line ≡ []
  pub short : length line ≤ 65537

-- what a reader keeps between two lines or within one
pub record IsSound (reader : Reader) : Type 0 where
  pub form : list_all is_within_form reader.waiting.items ≡ true
  pub open_block : (block : Block) → reader.block ≡ Some block → IsOpen block
  pub one_line : ended reader.line.items ≡ []
  pub short : length reader.line.items ≤ 65537

-- the commands that the reader gives with more bytes behind what it has read
abbrev pub commands_from : Bool → Reader → List ℕ → List Command
commands_from over reader more = reader.waiting.items ++ commands over reader.block (lines_of over (reader.line.items ++ more))

-- the new reader is the old one with the bytes behind what it has read
pub record HasRead (old : Reader) (bytes : List ℕ) (new : Reader) : Type 0 where
  pub commands : (over : Bool) (more : List ℕ) → commands_from over new more ≡ commands_from over old (bytes ++ more)

-- the new reader has read a piece up to what is left of it
pub record HasReadTo (old : Reader) (piece : List ℕ) (new : Reader) (left : List ℕ) : Type 0 where
  pub no_more : length left ≤ length piece
  pub commands : (over : Bool) (more : List ℕ) → commands_from over new (left ++ more) ≡ commands_from over old (piece ++ more)

-- a line that ends in a carriage return, so that dropping one gives the line again
abbrev pub with_return : List ℕ → List ℕ
with_return line = line ++ 13 ∷ []

-- the bytes that are no command yet: the line that took a block, the block's lines, and the line that has begun
unfoldable pub rest_kept : Option Block → List ℕ → List ℕ
rest_kept None line = line
rest_kept (Some block) line = block.line ++ 10 ∷ (with_feeds (map with_return (ended block.text)) ++ line)
