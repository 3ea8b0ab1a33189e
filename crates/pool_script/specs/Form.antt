-- The forms of commands, and their limits.
use Rattle.std.specs.Prelude.{ℕ, ◌^◌, Bool, true, ◌&&◌, ◌==◌, nat_le, List, length, slice_index, not, codes}
use Rattle.std.specs.List.{list_all}
use Rattle.std.specs.Str.{bytes_eq}
use Rattle.pool_text.specs.Lines.{ended, rest_of}
use Rattle.pool_text.specs.Words.{is_blank, is_empty}
use Rattle.pool_script.specs.Names.{is_name}
use Rattle.pool_script.specs.declared.command.Command.{Command}
use Rattle.pool_script.specs.declared.command.Command.TheVariants as command

-- a number between two others, or one of them
abbrev pub is_within : ℕ → ℕ → ℕ → Bool
is_within least most n = nat_le least n && nat_le n most

-- lines that have all ended, none of them a dot
abbrev pub are_block_lines : List ℕ → Bool
are_block_lines text = is_empty (rest_of text) && list_all (λ line. not (bytes_eq line (codes "."))) (ended text)

-- the text of a block
abbrev pub is_block_text : List ℕ → Bool
is_block_text text = nat_le (length text) 65536 && are_block_lines text

-- bytes of which none is a line feed
abbrev pub holds_no_feed : List ℕ → Bool
holds_no_feed bytes = list_all (λ byte. not (byte == 10)) bytes

-- the bytes of an expression: some, no more than a line has, and no blank in front
abbrev pub is_expr : List ℕ → Bool
is_expr bytes = is_within 1 65536 (length bytes) && not (is_blank (slice_index bytes 0)) && holds_no_feed bytes

-- a command whose names, numbers and texts keep their forms and limits
unfoldable pub is_within_form : Command → Bool
is_within_form (command.Clock n) = is_within 0 (10 ^ 12) n
is_within_form (command.Advertise name lifetime block) = is_name name && is_within 1 (10 ^ 9) lifetime && is_block_text block
is_within_form (command.Withdraw name) = is_name name
is_within_form (command.Show name) = is_name name
is_within_form command.List = true
is_within_form (command.Eval expr) = is_expr expr
is_within_form (command.EvalIn name expr) = is_name name && is_expr expr
is_within_form (command.Query block) = is_block_text block
is_within_form (command.Submit job user block) = is_name job && is_name user && is_block_text block
is_within_form (command.Remove job) = is_name job
is_within_form (command.Priority user n) = is_name user && is_within 1 (10 ^ 6) n
is_within_form (command.Gang block) = is_block_text block
is_within_form command.Negotiate = true
is_within_form (command.Claim job) = is_name job
is_within_form (command.Release job) = is_name job
is_within_form command.Jobs = true
is_within_form (command.Job job) = is_name job
is_within_form command.Users = true
is_within_form (command.Why job) = is_name job
is_within_form command.Classes = true
is_within_form (command.Unlisten name) = is_name name
is_within_form (command.Bad refusal) = is_within 1 5 refusal
