-- The mailboxes that the words of a command line ask for.
use Rattle.std.specs.Prelude.{ℕ, ◌+◌, Bool, false, not, ◌&&◌, ◌||◌, ◌==◌, List, [], ◌∷◌, bytes_eq, drop, position, take, Option, None}
use Rattle.std.specs.Prelude.{Some, option_and_then, if◌then◌else◌}
use Rattle.pool_script.specs.Names.{is_name}
use Rattle.pool_text.specs.Words.{is_empty}
use Rattle.pool_engine.specs.declared.mail.Mail.{Mail}

-- the mailbox of a name, with the file that takes its notices
abbrev pub mail : List ℕ → List ℕ → Mail
mail name file = record { name = name; file = file }

-- the parts before and behind a place, where they are a name and a file
abbrev pub divided_at : List ℕ → ℕ → Option Mail
divided_at word place =
    if is_name (take place word) && not (is_empty (drop (place + 1) word)) then Some (mail (take place word) (drop (place + 1) word)) else None

-- `NAME=FILE`, divided at the first `=`; the file isn't empty
abbrev pub mail_of : List ℕ → Option Mail
mail_of word = option_and_then (divided_at word) (position (λ byte. byte == 61) word)

-- there is a mailbox, and it has this name
abbrev pub is_named : List ℕ → Option Mail → Bool
is_named name None = false
is_named name (Some mail) = bytes_eq mail.name name

-- whether one of the options asks for a mailbox of the name
abbrev pub has_mail : List ℕ → List (List ℕ) → Bool
has_mail name (option ∷ value ∷ words) = is_named name (mail_of value) || has_mail name words
has_mail name words = false

-- a mailbox whose name no later option has
abbrev pub is_last_of_name : Option Mail → List (List ℕ) → Bool
is_last_of_name None words = false
is_last_of_name (Some mail) words = not (has_mail mail.name words)

-- a mailbox in front of others
abbrev pub with_mail : Option Mail → List Mail → List Mail
with_mail None mails = mails
with_mail (Some mail) mails = mail ∷ mails

-- the mailboxes of options, in their order; a number is none
abbrev pub mails_of : List (List ℕ) → List Mail
mails_of (option ∷ value ∷ words) = with_mail (mail_of value) (mails_of words)
mails_of words = []
