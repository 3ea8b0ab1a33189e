-- The commands of a list of bytes.
use Rattle.std.specs.Prelude.{ℕ, Bool, true, false, ◌||◌, ◌==◌, nat_lt, List, [], ◌∷◌, ◌++◌, length, slice_index, Option, None, Some, codes, if◌then◌else◌}
use Rattle.std.specs.Option.{option_map_or}
use Rattle.std.specs.Str.{bytes_eq}
use Rattle.pool_text.specs.Lines.{ended, whole, without_return}
use Rattle.pool_script.specs.Keywords.{keyword_of, opens_block}
use Rattle.pool_script.specs.Rows.{keyword_command, line_too_long, unknown_command}
use Rattle.pool_text.specs.Words.{is_empty, past_blanks, word_of, words_behind}
use Rattle.pool_script.specs.declared.reader.Block.{Block}
use Rattle.pool_script.specs.declared.command.Command.{Command}

-- a line from its first word on
abbrev pub text_of : List ℕ → List ℕ
text_of line = past_blanks (without_return line)

-- a line of more bytes than a command may have
abbrev pub is_long : List ℕ → Bool
is_long line = nat_lt 65536 (length line)

-- a line without words, or a comment
abbrev pub is_silent : List ℕ → Bool
is_silent line = is_empty (text_of line) || slice_index (text_of line) 0 == 35

-- a line that takes the block behind it
unfoldable pub takes_block : List ℕ → Bool
takes_block line = if is_long line then false else option_map_or opens_block (keyword_of (word_of (text_of line))) false

-- a line of one dot
abbrev pub is_dot : List ℕ → Bool
is_dot line = bytes_eq (without_return line) (codes ".")

-- the command of a line, with the text of its block where the block has ended
unfoldable pub line_command : List ℕ → Option (List ℕ) → Command
line_command line block =
    option_map_or (λ keyword. keyword_command keyword (words_behind (text_of line)) block) (keyword_of (word_of (text_of line))) unknown_command

-- the commands that a line gives, in a block or outside one
unfoldable pub given : Option Block → List ℕ → List Command
given None line = if is_long line then line_too_long ∷ [] else (if is_silent line || takes_block line then [] else line_command line None ∷ [])
given (Some block) line = if is_dot line then line_command block.line (Some block.text) ∷ [] else []

-- the block behind a line
unfoldable pub next : Option Block → List ℕ → Option Block
next None line = if takes_block line then Some (record { line = line; text = [] }) else None
next (Some block) line = if is_dot line then None else Some (record { line = block.line; text = block.text ++ without_return line ++ 10 ∷ [] })

-- the commands that the end of the input gives: a block that it cuts off is refused
unfoldable pub cut_off : Option Block → List Command
cut_off None = []
cut_off (Some block) = line_command block.line None ∷ []

-- the commands of lines behind a block or outside one; `over` says that the input ends behind them
abbrev pub commands : Bool → Option Block → List (List ℕ) → List Command
commands over block [] = if over then cut_off block else []
commands over block (line ∷ lines) = given block line ++ commands over (next block line) lines

-- the commands that have ended within the bytes
abbrev pub ended_commands : List ℕ → List Command
ended_commands bytes = commands false None (ended bytes)

-- the commands of the bytes as the whole input
abbrev pub whole_commands : List ℕ → List Command
whole_commands bytes = commands true None (whole bytes)

-- the lines of bytes: all of them where the input is over, else those that have ended
abbrev pub lines_of : Bool → List ℕ → List (List ℕ)
lines_of over bytes = if over then whole bytes else ended bytes

-- the commands of bytes: all of them where the input is over, else those that have ended
abbrev pub commands_of : Bool → List ℕ → List Command
commands_of over bytes = commands over None (lines_of over bytes)
