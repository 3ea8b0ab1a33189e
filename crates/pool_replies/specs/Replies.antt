-- The text of replies.
use Rattle.std.specs.Prelude.{ℕ, Bool, true, false, ◌==◌, List, ◌++◌, Option, None, Some, codes, decimal, length, sum_by, if◌then◌else◌}
use Rattle.std.specs.List.{flat_map}
use Rattle.pool_text.specs.Number.{shortest_text}
use Rattle.pool_replies.specs.declared.reply.Reply.{Reply}
use Rattle.pool_replies.specs.declared.reply.Reply.TheVariants as reply
use Rattle.pool_replies.specs.declared.rows.AdRow.{AdRow}
use Rattle.pool_replies.specs.declared.rows.HitRow.{HitRow}
use Rattle.pool_replies.specs.Classes.{classes_text}
use Rattle.pool_replies.specs.Cycles.{cycle_text, offers_of_spin, with_blanks}
use Rattle.pool_replies.specs.Queues.{jobs_text, users_text}
use Rattle.pool_replies.specs.Reasons.{why_text}
use Rattle.pool_replies.specs.Refusals.{is_printable_refusal, refusal_text}

-- `clock N expired K`
abbrev pub clock_text : ℕ → ℕ → List ℕ
clock_text moment expired = codes "clock " ++ decimal moment ++ codes " expired " ++ decimal expired ++ codes "\n"

-- a word, a name and a line feed
abbrev pub name_line : List ℕ → List ℕ → List ℕ
name_line word name = word ++ name ++ codes "\n"

-- who claimed an ad, and to whom it is offered
abbrev pub status_text : Option (List ℕ) → Option (List ℕ) → List ℕ
status_text None None = codes "free"
status_text None (Some job) = codes "offered " ++ job
status_text (Some job) None = codes "claimed " ++ job
status_text (Some job) (Some other) = codes "claimed " ++ job ++ codes " offered " ++ other

-- `NAME BORN LIFETIME STATUS`
abbrev pub ad_line : AdRow → List ℕ
ad_line row = row.name ++ codes " " ++ decimal row.born ++ codes " " ++ decimal row.lifetime ++ codes " " ++ status_text row.claimed row.offered ++ codes "\n"

-- `ads K` and a line for each ad
abbrev pub ads_text : List AdRow → List ℕ
ads_text rows = codes "ads " ++ decimal (length rows) ++ codes "\n" ++ flat_map ad_line rows

-- `NAME RANK`
abbrev pub hit_line : HitRow → List ℕ
hit_line row = row.name ++ codes " " ++ shortest_text row.rank ++ codes "\n"

-- `hits K` and a line for each hit
abbrev pub hits_text : List HitRow → List ℕ
hits_text rows = codes "hits " ++ decimal (length rows) ++ codes "\n" ++ flat_map hit_line rows

-- `priority USER N`
abbrev pub priority_text : List ℕ → ℕ → List ℕ
priority_text user n = codes "priority " ++ user ++ codes " " ++ decimal n ++ codes "\n"

-- `gang` and the names
abbrev pub gang_text : List (List ℕ) → List ℕ
gang_text names = codes "gang" ++ with_blanks names ++ codes "\n"

-- `claimed JOB` and the names, and a line for each job that lost its claim
abbrev pub claimed_text : List ℕ → List (List ℕ) → List (List ℕ) → List ℕ
claimed_text job names preempted =
    codes "claimed " ++ job ++ with_blanks names ++ codes "\n" ++ flat_map (λ loser. name_line (codes "preempted ") loser) preempted

-- the lines of a reply
unfoldable pub reply_text : Reply → List ℕ
reply_text (reply.Clock moment expired) = clock_text moment expired
reply_text (reply.Advertised name) = name_line (codes "advertised ") name
reply_text (reply.Replaced name) = name_line (codes "replaced ") name
reply_text (reply.Withdrawn name) = name_line (codes "withdrawn ") name
reply_text (reply.Shown text) = text ++ codes "\n"
reply_text (reply.Ads rows) = ads_text rows
reply_text (reply.Evaluated text) = text ++ codes "\n"
reply_text (reply.Hits rows) = hits_text rows
reply_text (reply.Submitted job) = name_line (codes "submitted ") job
reply_text (reply.Removed job) = name_line (codes "removed ") job
reply_text (reply.Priority user n) = priority_text user n
reply_text (reply.Gang names) = gang_text names
reply_text reply.NoGang = codes "gang none\n"
reply_text (reply.Cycle spins) = cycle_text spins
reply_text (reply.Claimed job names preempted) = claimed_text job names preempted
reply_text (reply.Released job) = name_line (codes "released ") job
reply_text (reply.Jobs rows) = jobs_text rows
reply_text (reply.Users rows) = users_text rows
reply_text (reply.Why job names report) = why_text job names report
reply_text (reply.Classes classes) = classes_text classes
reply_text (reply.Unlistened name) = name_line (codes "unlistened ") name
reply_text (reply.Refused refusal) = refusal_text refusal

-- a reply that refuses the command
unfoldable pub is_refused : Reply → Bool
is_refused (reply.Refused refusal) = true
is_refused other = false

-- how many refusals a reply is
abbrev pub refusal_count : Reply → ℕ
refusal_count reply = if is_refused reply then 1 else 0

-- how many ads a reply lists as hits
unfoldable pub hit_count : Reply → ℕ
hit_count (reply.Hits rows) = length rows
hit_count other = 0

-- how many offers a reply tells of
unfoldable pub offer_count : Reply → ℕ
offer_count (reply.Cycle spins) = sum_by offers_of_spin spins
offer_count other = 0

-- a reply that has a text: an explanation has as many names as verdicts
unfoldable pub is_printable : Reply → Bool
is_printable (reply.Refused refusal) = is_printable_refusal refusal
is_printable (reply.Why job names report) = length names == length report.verdicts
is_printable other = true
