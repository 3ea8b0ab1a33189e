-- The first words of commands.
use Rattle.std.specs.Prelude.{ℕ, Bool, true, false, List, [], ◌∷◌, Option, None, Some, codes, if◌then◌else◌}
use Rattle.std.specs.Str.{bytes_eq}
use Rattle.pool_script.specs.declared.keyword.Keyword.{Keyword}
use Rattle.pool_script.specs.declared.keyword.Keyword.TheVariants as word

-- the first keyword of a table that the bytes spell
abbrev pub keyword_in : List (List ℕ × Keyword) → List ℕ → Option Keyword
keyword_in [] bytes = None
keyword_in (entry ∷ table) bytes = if bytes_eq entry.0 bytes then Some entry.1 else keyword_in table bytes

-- the keywords as they are spelled
abbrev pub spellings : List (List ℕ × Keyword)
spellings =
    (codes "clock", word.Clock) ∷ (codes "advertise", word.Advertise) ∷ (codes "withdraw", word.Withdraw) ∷ (codes "show", word.Show)
    ∷ (codes "list", word.List) ∷ (codes "eval", word.Eval) ∷ (codes "evalin", word.EvalIn) ∷ (codes "query", word.Query)
    ∷ (codes "submit", word.Submit) ∷ (codes "remove", word.Remove) ∷ (codes "priority", word.Priority) ∷ (codes "gang", word.Gang)
    ∷ (codes "negotiate", word.Negotiate) ∷ (codes "claim", word.Claim) ∷ (codes "release", word.Release)
    ∷ (codes "jobs", word.Jobs) ∷ (codes "job", word.Job) ∷ (codes "users", word.Users)
    ∷ (codes "why", word.Why) ∷ (codes "classes", word.Classes) ∷ (codes "unlisten", word.Unlisten)
    ∷ []

-- the keyword that the bytes spell exactly
unfoldable pub keyword_of : List ℕ → Option Keyword
keyword_of bytes = keyword_in spellings bytes

-- the keywords whose lines take a block
abbrev pub opens_block : Keyword → Bool
opens_block word.Advertise = true
opens_block word.Query = true
opens_block word.Submit = true
opens_block word.Gang = true
opens_block _ = false
