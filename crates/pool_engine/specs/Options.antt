-- The options of a command line: mailboxes, and how many machines a workload has.
use Rattle.std.specs.Prelude.{ℕ, Bool, true, false, ◌&&◌, List, [], ◌∷◌, bytes_eq, codes, Option, None, is_none, is_some, if◌then◌else◌}
use Rattle.pool_script.specs.Names.{number_within}
use Rattle.pool_engine.specs.Mails.{is_last_of_name, mail_of}

-- the number behind the first `--generate`, where it is from 1 to 2,000
abbrev pub count_of : List (List ℕ) → Option ℕ
count_of (option ∷ value ∷ words) = if bytes_eq option (codes "--generate") then number_within 1 2000 value else count_of words
count_of words = None

-- a mailbox whose name no later option has, or a count that no later option asks for
abbrev pub is_option : List ℕ → List ℕ → List (List ℕ) → Bool
is_option option value words =
    if bytes_eq option (codes "--mail") then is_last_of_name (mail_of value) words
    else (bytes_eq option (codes "--generate") && is_some (number_within 1 2000 value) && is_none (count_of words))

-- `--mail NAME=FILE` any number of times, each name once, and `--generate N` once at most
abbrev pub are_options : List (List ℕ) → Bool
are_options [] = true
are_options (option ∷ []) = false
are_options (option ∷ value ∷ words) = is_option option value words && are_options words
