-- What each command's words make of it. `words` are those behind the keyword, and `block` is the text of the block, or none where
-- the input ended within the block.
use Rattle.std.specs.Prelude.{ℕ, ◌^◌, ◌&&◌, nat_le, not, List, length, Option, None, Some, option_map, Result, Ok, Err, if◌then◌else◌}
use Rattle.std.specs.Option.{option_map_or}
use Rattle.pool_text.specs.Words.{is_empty, word_of, words_behind}
use Rattle.pool_script.specs.Names.{is_name, sole_number}
use Rattle.pool_script.specs.declared.keyword.Keyword.{Keyword}
use Rattle.pool_script.specs.declared.keyword.Keyword.TheVariants as word
use Rattle.pool_script.specs.declared.command.Command.{Command}
use Rattle.pool_script.specs.declared.command.Command.TheVariants as command

-- refusal 1, of a line that is too long
abbrev pub line_too_long : Command
line_too_long = command.Bad 1

-- refusal 2, of a line that names no command
abbrev pub unknown_command : Command
unknown_command = command.Bad 2

-- refusal 3, of words that the command doesn't take
abbrev pub wrong_words : Command
wrong_words = command.Bad 3

-- the name that is the only word
unfoldable pub sole_name : List ℕ → Option (List ℕ)
sole_name words = if is_name (word_of words) && is_empty (words_behind words) then Some (word_of words) else None

-- the command, where there are no words
unfoldable pub without_words : List ℕ → Command → Command
without_words words made = if is_empty words then made else wrong_words

-- the text of a block; else refusal 4 where the input ends before the block, and 5 where the text is too long
unfoldable pub block_text : Option (List ℕ) → Result (List ℕ) ℕ
block_text None = Err 4
block_text (Some text) = if nat_le (length text) 65536 then Ok text else Err 5

-- the command of the block's text, or the block's refusal
abbrev pub with_block : (List ℕ → Command) → Result (List ℕ) ℕ → Command
with_block make (Ok text) = make text
with_block make (Err refusal) = command.Bad refusal

-- `clock N`
unfoldable pub clock : List ℕ → Command
clock words = option_map_or command.Clock (sole_number words 0 (10 ^ 12)) wrong_words

-- `advertise NAME LIFETIME` and a block
unfoldable pub advertise : List ℕ → Option (List ℕ) → Command
advertise words block =
    if is_name (word_of words)
    then option_map_or (λ lifetime. with_block (command.Advertise (word_of words) lifetime) (block_text block)) (sole_number (words_behind words) 1 (10 ^ 9))
    wrong_words
    else wrong_words

-- `eval EXPR`
unfoldable pub eval : List ℕ → Command
eval words = if is_empty words then wrong_words else command.Eval words

-- `evalin NAME EXPR`
unfoldable pub eval_in : List ℕ → Command
eval_in words = if is_name (word_of words) && not (is_empty (words_behind words)) then command.EvalIn (word_of words) (words_behind words) else wrong_words

-- `query` and a block
unfoldable pub query : List ℕ → Option (List ℕ) → Command
query words block = if is_empty words then with_block command.Query (block_text block) else wrong_words

-- `submit JOB USER` and a block
unfoldable pub submit : List ℕ → Option (List ℕ) → Command
submit words block =
    if is_name (word_of words)
    then option_map_or (λ user. with_block (command.Submit (word_of words) user) (block_text block)) (sole_name (words_behind words)) wrong_words
    else wrong_words

-- `priority USER N`
unfoldable pub priority : List ℕ → Command
priority words =
    if is_name (word_of words)
    then option_map_or (command.Priority (word_of words)) (sole_number (words_behind words) 1 (10 ^ 6)) wrong_words
    else wrong_words

-- `gang` and a block
unfoldable pub gang : List ℕ → Option (List ℕ) → Command
gang words block = if is_empty words then with_block command.Gang (block_text block) else wrong_words

-- the names of a job and of its user, where the words are those
abbrev pub submit_names : List ℕ → Option (List ℕ × List ℕ)
submit_names words = if is_name (word_of words) then option_map (λ user. (word_of words, user)) (sole_name (words_behind words)) else None

-- the command of a keyword that takes one name, and of no other
abbrev pub name_command : Keyword → List ℕ → Command
name_command word.Withdraw name = command.Withdraw name
name_command word.Show name = command.Show name
name_command word.Remove name = command.Remove name
name_command word.Claim name = command.Claim name
name_command word.Release name = command.Release name
name_command word.Job name = command.Job name
name_command word.Why name = command.Why name
name_command word.Unlisten name = command.Unlisten name
name_command _ name = wrong_words

-- the command of such a keyword, where its words are one name
abbrev pub named_command : Keyword → Option (List ℕ) → Command
named_command keyword name = option_map_or (name_command keyword) name wrong_words

-- the command of a keyword
unfoldable pub keyword_command : Keyword → List ℕ → Option (List ℕ) → Command
keyword_command word.Clock words block = clock words
keyword_command word.Advertise words block = advertise words block
keyword_command word.Withdraw words block = option_map_or command.Withdraw (sole_name words) wrong_words
keyword_command word.Show words block = option_map_or command.Show (sole_name words) wrong_words
keyword_command word.List words block = without_words words command.List
keyword_command word.Eval words block = eval words
keyword_command word.EvalIn words block = eval_in words
keyword_command word.Query words block = query words block
keyword_command word.Submit words block = submit words block
keyword_command word.Remove words block = option_map_or command.Remove (sole_name words) wrong_words
keyword_command word.Priority words block = priority words
keyword_command word.Gang words block = gang words block
keyword_command word.Negotiate words block = without_words words command.Negotiate
keyword_command word.Claim words block = option_map_or command.Claim (sole_name words) wrong_words
keyword_command word.Release words block = option_map_or command.Release (sole_name words) wrong_words
keyword_command word.Jobs words block = without_words words command.Jobs
keyword_command word.Job words block = option_map_or command.Job (sole_name words) wrong_words
keyword_command word.Users words block = without_words words command.Users
keyword_command word.Why words block = option_map_or command.Why (sole_name words) wrong_words
keyword_command word.Classes words block = without_words words command.Classes
keyword_command word.Unlisten words block = option_map_or command.Unlisten (sole_name words) wrong_words
