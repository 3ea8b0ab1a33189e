-- The summary of a run.
use Rattle.std.specs.Prelude.{ℕ, ◌+◌, ◌<◌, ◌^◌, List, ◌++◌, codes, decimal}
use Rattle.workload.specs.declared.summary.Summary.{Summary}

-- a word, a blank and a number
abbrev pub count_line : List ℕ → ℕ → List ℕ
count_line word count = word ++ codes " " ++ decimal count ++ codes "\n"

-- a line each for the commands, the refusals, the hits, the offers, and the bytes of the replies
abbrev pub summary_text : (commands refused hits offers bytes : ℕ) → List ℕ
summary_text commands refused hits offers bytes =
    count_line (codes "commands") commands ++ count_line (codes "refused") refused ++ count_line (codes "hits") hits ++ count_line (codes "offers") offers
    ++ count_line (codes "bytes") bytes

-- the counts of two summaries together have 64 bits at most
abbrev pub HaveRoom : Summary → Summary → Type 0
HaveRoom a b =
    (a.commands + b.commands < 2 ^ 64) × (a.refused + b.refused < 2 ^ 64) × (a.hits + b.hits < 2 ^ 64) × (a.offers + b.offers < 2 ^ 64)
    × (a.bytes + b.bytes < 2 ^ 64)
