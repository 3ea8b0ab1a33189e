-- No reply is empty, so a sink that took nothing took no reply.
use Rattle.std.proofs.Common.{◌≡◌, ◌≢◌, ℕ, ◌<◌, ◌==◌, Bool, true, false, List, [], ◌∷◌, ◌++◌, codes, length, nat_lt}
use Rattle.std.proofs.Common.{if◌then◌else◌, nat_le, ◌+◌, Option, None, Some, Result, Ok, Err, refl, sym, ◌∙◌, ap, subst, arith, length-append}
use Rattle.ad_tree.specs.Inline.{Inline, ad_of, phrase_of, phrase_tree}
use Rattle.ad_tree.specs.Tree.{Tree}
use Rattle.ad_tree.specs.Frames.{Frame}
use Rattle.ad_tree.specs.declared.request.Port.{Port}
use Rattle.ad_parser.specs.declared.fault.ParseFault.{ParseFault}
use Rattle.ad_parser.specs.declared.fault.ParseFault.TheVariants as faults
use Rattle.ad_parser.specs.Outcomes.{HasAdOutcome, HasExprOutcome}
use Rattle.ad_parser.specs.Outcomes.{ad_outcome, expr_outcome}
use Rattle.ad_parser.proofs.Outcomes.{ad_outcome-has, expr_outcome-has}
use Rattle.ad_store.specs.Stock.{Advert, has, lack}
use Rattle.std.specs.Option.{option_map_or}
use Rattle.ad_store.specs.declared.answers.PutFault.{PutFault}
use Rattle.gang_ports.specs.Ports.{ports_of}
use Rattle.match_explain.specs.declared.report.Report.{Report}
use Rattle.pool_io.specs.Flow.{Supply}
use Rattle.pool_script.specs.Commands.{ended_commands}
use Rattle.pool_script.specs.declared.command.Command.{Command}
use Rattle.pool_script.specs.declared.command.Command.TheVariants as command
use Rattle.pool_replies.specs.declared.refusal.Refusal.{Refusal}
use Rattle.pool_replies.specs.declared.refusal.Refusal.TheVariants as why
use Rattle.pool_replies.specs.declared.refusal.Room.{Room}
use Rattle.pool_replies.specs.declared.refusal.Room.TheVariants as room
use Rattle.pool_replies.specs.declared.rows.AdRow.{AdRow}
use Rattle.pool_replies.specs.declared.rows.HitRow.{HitRow}
use Rattle.pool_replies.specs.declared.rows.JobRow.{JobRow}
use Rattle.pool_replies.specs.declared.rows.SpinRow.{SpinRow}
use Rattle.pool_replies.specs.declared.rows.UserRow.{UserRow}
use Rattle.pool_replies.specs.declared.reply.Reply.{Reply}
use Rattle.pool_replies.specs.declared.reply.Reply.TheVariants as reply
use Rattle.pool_replies.specs.Refusals.{fault_text, is_fault_of_text, line_refusal, refusal_text, room_text}
use Rattle.pool_replies.specs.Replies.{reply_text}
use Rattle.script_run.specs.Effects.{Effects}
use Rattle.script_run.specs.Ends.{IsWriteFault}
use Rattle.script_run.specs.Rules.{after, text_of}
use Rattle.script_run.specs.Streams.{before_last}
use Rattle.script_run.proofs.TimeLemmas.{answers_first}
use Rattle.run_rules.specs.PoolRules.{RepliesFirst, pool_rules}
use Rattle.run_rules.proofs.PoolLemmas.{pool_lawful}
use Rattle.ad_printer.specs.Values.{printed_frame}
use Rattle.claim_table.specs.Priorities.{Setting, lacks_place}
use Rattle.pool_commands.specs.Gangs.{gang, gang_names, line}
use Rattle.pool_commands.specs.Explaining.{ad_names, explain, explain_job}
use Rattle.pool_books.specs.Ports.{has_bad_ports, ports_in}
use Rattle.pool_books.specs.Queue.{has_job, job_refusal, job_text}
use Rattle.claim_table.specs.Jobs.{jobs_limit, text_limit}
use Rattle.claim_table.specs.declared.answers.JobState.{JobState}
use Rattle.pool_commands.specs.Status.{show_job}
use Rattle.pool_books.specs.State.{JobStanding, QueuedJob, State, claimed, idle, matched}
use Rattle.pool_state.specs.Heard.{Heard, is_unlisten, listens, step_heard}
use Rattle.pool_state.proofs.HeardLemmas.{heard-other}
use Rattle.pool_books.specs.Claiming.{checked, claim, claim_as, first_failing, job_named, losers, release, release_as, restood, without_holders}
use Rattle.pool_commands.specs.Ads.{ad_named, advertise, put_ad, room_of, show}
use Rattle.pool_state.specs.Step.{clock, step}
use Rattle.pool_commands.specs.Expressions.{eval, eval_beside, eval_in}
use Rattle.pool_commands.specs.Queries.{query}
use Rattle.pool_books.specs.State.{refused}
use Rattle.pool_commands.specs.Jobs.{remove, set_priority}
use Rattle.pool_commands.specs.Jobs.{submit, take_job}
use Rattle.pool_commands.specs.Ads.{withdraw}

-- ---- no reply is empty

front_some : (a b : List ℕ) → 0 < length a → 0 < length (a ++ b)
front_some a b some = omega (arith, some, length-append a b)

back_some : (a b : List ℕ) → 0 < length b → 0 < length (a ++ b)
back_some a b some = omega (arith, some, length-append a b)

fault_some : (fault : ParseFault) → is_fault_of_text fault ≡ true → 0 < length (fault_text fault)
fault_some (faults.Lex kind place) told = front_some (codes "refused 6 lexical ") _ (omega arith)
fault_some faults.Nesting told = omega arith
fault_some faults.Grammar told = omega arith
fault_some faults.Depth told = omega arith
fault_some faults.Frames told = omega arith
fault_some faults.Attributes told = omega arith
fault_some faults.OutOfMemory told = absurd (cc)

room_some : (r : Room) → 0 < length (room_text r)
room_some room.Ads = omega arith
room_some room.AdText = omega arith
room_some room.Jobs = omega arith
room_some room.JobText = omega arith
room_some room.Users = omega arith

holds_if : {A : Type 0} (P : A → Type 0) (b : Bool) (x y : A) → P x → P y → P (if b then x else y)
holds_if P true x y first second = first
holds_if P false x y first second = second

line_some : (n : ℕ) → 0 < length (line_refusal n)
unfolding line_refusal
line_some n =
    holds_if (λ (l : List ℕ). 0 < length l) (n == 1) _ _ (omega arith)
    (holds_if (λ (l : List ℕ). 0 < length l) (n == 2) _ _ (omega arith)
    (holds_if (λ (l : List ℕ). 0 < length l) (n == 3) _ _ (omega arith)
    (holds_if (λ (l : List ℕ). 0 < length l) (n == 4) _ _ (omega arith) (omega arith))))

-- the reply has a text of one byte at least
abbrev pub IsTold : State × Reply → Type 0
IsTold p = 0 < length (reply_text p.1)

line_told : (s : State) (n : ℕ) → IsTold (refused s (why.Line n))
unfolding reply_text refusal_text
line_told s n = line_some n

text_told : (s : State) (fault : ParseFault) → is_fault_of_text fault ≡ true → IsTold (refused s (why.AdText fault))
unfolding reply_text refusal_text
text_told s fault told = fault_some fault told

full_told : (s : State) (r : Room) → IsTold (refused s (why.Full r))
unfolding reply_text refusal_text
full_told s r = room_some r

back_told : (s : State) → IsTold (refused s why.ClockBack)
unfolding reply_text refusal_text
back_told s = omega arith

unknown_told : (s : State) → IsTold (refused s why.UnknownName)
unfolding reply_text refusal_text
unknown_told s = omega arith

bad_ports_told : (s : State) → IsTold (refused s why.BadPorts)
unfolding reply_text refusal_text
bad_ports_told s = omega arith

moment_told : (s : State) (n expired : ℕ) → IsTold (s, reply.Clock n expired)
unfolding reply_text
moment_told s n expired = front_some (codes "clock ") _ (omega arith)

advertised_told : (s : State) (name : List ℕ) → IsTold (s, reply.Advertised name)
unfolding reply_text
advertised_told s name = front_some (codes "advertised ") _ (omega arith)

replaced_told : (s : State) (name : List ℕ) → IsTold (s, reply.Replaced name)
unfolding reply_text
replaced_told s name = front_some (codes "replaced ") _ (omega arith)

withdrawn_told : (s : State) (name : List ℕ) → IsTold (s, reply.Withdrawn name)
unfolding reply_text
withdrawn_told s name = front_some (codes "withdrawn ") _ (omega arith)

shown_told : (s : State) (text : List ℕ) → IsTold (s, reply.Shown text)
unfolding reply_text
shown_told s text = back_some text (codes "\n") (omega arith)

evaluated_told : (s : State) (text : List ℕ) → IsTold (s, reply.Evaluated text)
unfolding reply_text
evaluated_told s text = back_some text (codes "\n") (omega arith)

used_told : (s : State) → IsTold (refused s why.NameInUse)
unfolding reply_text refusal_text
used_told s = omega arith

submitted_told : (s : State) (name : List ℕ) → IsTold (s, reply.Submitted name)
unfolding reply_text
submitted_told s name = front_some (codes "submitted ") _ (omega arith)

removed_told : (s : State) (name : List ℕ) → IsTold (s, reply.Removed name)
unfolding reply_text
removed_told s name = front_some (codes "removed ") _ (omega arith)

priority_told : (s : State) (user : List ℕ) (n : ℕ) → IsTold (s, reply.Priority user n)
unfolding reply_text
priority_told s user n = front_some (codes "priority ") _ (omega arith)

ads_told : (s : State) (rows : List AdRow) → IsTold (s, reply.Ads rows)
unfolding reply_text
ads_told s rows = front_some (codes "ads ") _ (omega arith)

hits_told : (s : State) (rows : List HitRow) → IsTold (s, reply.Hits rows)
unfolding reply_text
hits_told s rows = front_some (codes "hits ") _ (omega arith)

jobs_told : (s : State) (rows : List JobRow) → IsTold (s, reply.Jobs rows)
unfolding reply_text
jobs_told s rows = front_some (codes "jobs ") _ (omega arith)

users_told : (s : State) (rows : List UserRow) → IsTold (s, reply.Users rows)
unfolding reply_text
users_told s rows = front_some (codes "users ") _ (omega arith)

names_told : (s : State) (names : Option (List (List ℕ))) → IsTold (s, line names)
unfolding reply_text
names_told s None = omega arith
names_told s (Some names) = front_some (codes "gang") _ (omega arith)

claimed_told : (s : State) (job : List ℕ) (names losers : List (List ℕ)) → IsTold (s, reply.Claimed job names losers)
unfolding reply_text
claimed_told s job names losers = front_some (codes "claimed ") _ (omega arith)

released_told : (s : State) (job : List ℕ) → IsTold (s, reply.Released job)
unfolding reply_text
released_told s job = front_some (codes "released ") _ (omega arith)

stale_told : (s : State) (name : List ℕ) → IsTold (refused s (why.Stale name))
unfolding reply_text refusal_text
stale_told s name = front_some (codes "refused 12 stale ") _ (omega arith)

idle_told : (s : State) → IsTold (refused s (why.WrongState JobState.Idle))
unfolding reply_text refusal_text
idle_told s = omega arith

held_told : (s : State) → IsTold (refused s (why.WrongState JobState.Claimed))
unfolding reply_text refusal_text
held_told s = omega arith

cycle_told : (s : State) (spins : List SpinRow) → IsTold (s, reply.Cycle spins)
unfolding reply_text
cycle_told s spins = back_some _ (codes "\n") (omega arith)

-- ---- the replies to commands

clock_told : (s : State) (n : ℕ) → IsTold (clock s n)
clock_told s n = holds_if IsTold (nat_lt n s.moment) (refused s why.ClockBack) _ (back_told s) (moment_told s n _)

named_told : (s : State) (name : List ℕ) (b : Bool) → IsTold (s, if b then reply.Replaced name else reply.Advertised name)
named_told s name b = holds_if (λ (r : Reply). IsTold (s, r)) b (reply.Replaced name) (reply.Advertised name) (replaced_told s name) (advertised_told s name)

put_told : (s : State) (advert : Advert) (lacking : Option PutFault) → IsTold (put_ad s advert lacking)
put_told s advert (Some lacking) = full_told s (room_of lacking)
put_told s advert None = named_told s advert.name (has advert.name s.ads)

-- a fault that isn't want of memory is one of a text
told_fault : (fault : ParseFault) → fault ≢ faults.OutOfMemory → is_fault_of_text fault ≡ true
told_fault (faults.Lex kind place) other = refl
told_fault faults.Nesting other = refl
told_fault faults.Grammar other = refl
told_fault faults.Depth other = refl
told_fault faults.Frames other = refl
told_fault faults.Attributes other = refl
told_fault faults.OutOfMemory other = absurd (other refl)

advertise_told : (s : State) (name text : List ℕ) (lifetime size : ℕ) (outcome : Result Inline ParseFault) → HasAdOutcome text outcome
    → IsTold (advertise s name lifetime size outcome)
advertise_told s name text lifetime size (Ok x) has_outcome = put_told s _ (lack name size s.ads)
advertise_told s name text lifetime size (Err fault) has_outcome = text_told s fault (told_fault fault has_outcome.1)

withdraw_told : (s : State) (name : List ℕ) → IsTold (withdraw s name)
withdraw_told s name = holds_if IsTold (has name s.ads) _ (refused s why.UnknownName) (withdrawn_told s name) (unknown_told s)

show_told : (s : State) (name : List ℕ) (ads : List Advert) → IsTold (s, show name ads)
show_told s name ads = by (ad_named name ads)
  where
    by : (found : Option Advert) → IsTold (s, option_map_or (λ advert. reply.Shown (printed_frame advert.ad 0)) found (reply.Refused why.UnknownName))
    by None = unknown_told s
    by (Some advert) = shown_told s _

job_told : (s : State) (name : List ℕ) → IsTold (s, show_job name s.jobs)
job_told s name = by (job_named name s.jobs)
  where
    by : (found : Option QueuedJob) → IsTold (s, option_map_or (λ job. reply.Shown (printed_frame job.ad 0)) found (reply.Refused why.UnknownName))
    by None = unknown_told s
    by (Some job) = shown_told s _

eval_told : (s : State) (moment : ℕ) (text : List ℕ) (outcome : Result Inline ParseFault) → HasExprOutcome text outcome
    → IsTold (s, eval moment outcome)
eval_told s moment text (Ok x) has_outcome = evaluated_told s _
eval_told s moment text (Err fault) has_outcome = text_told s fault (told_fault fault has_outcome.1)

beside_told : (s : State) (moment : ℕ) (frames : List Frame) (t : Tree) (found : Option Advert) → IsTold (s, eval_beside moment frames t found)
beside_told s moment frames t None = unknown_told s
beside_told s moment frames t (Some advert) = evaluated_told s _

eval_in_told : (s : State) (moment : ℕ) (ads : List Advert) (name text : List ℕ) (outcome : Result Inline ParseFault) → HasExprOutcome text outcome
    → IsTold (s, eval_in moment ads name outcome)
eval_in_told s moment ads name text (Ok x) has_outcome = beside_told s moment (phrase_of x) (phrase_tree x) (ad_named name ads)
eval_in_told s moment ads name text (Err fault) has_outcome = text_told s fault (told_fault fault has_outcome.1)

query_told : (s : State) (moment : ℕ) (ads : List Advert) (text : List ℕ) (outcome : Result Inline ParseFault) → HasAdOutcome text outcome
    → IsTold (s, query moment ads outcome)
query_told s moment ads text (Ok x) has_outcome = hits_told s _
query_told s moment ads text (Err fault) has_outcome = text_told s fault (told_fault fault has_outcome.1)

gang_told : (s : State) (moment : ℕ) (ads : List Advert) (settings : List Setting) (jobs : List QueuedJob) (text : List ℕ)
    (outcome : Result Inline ParseFault) → HasAdOutcome text outcome → IsTold (s, gang moment ads settings jobs outcome)
gang_told s moment ads settings jobs text (Ok x) has_outcome = by (ports_of (ad_of x))
  where
    by : (listed : Option (List Port))
        → IsTold (s, option_map_or (λ ports. line (gang_names moment ads settings jobs (ad_of x) ports)) listed (reply.Refused why.BadPorts))
    by None = bad_ports_told s
    by (Some ports) = names_told s (gang_names moment ads settings jobs (ad_of x) ports)
gang_told s moment ads settings jobs text (Err fault) has_outcome = text_told s fault (told_fault fault has_outcome.1)

-- the refusal, where there is one, has a text
abbrev IsRefusalTold : State → Option Refusal → Type 0
IsRefusalTold s None = Unit {0}
IsRefusalTold s (Some reason) = IsTold (refused s reason)

refusal_told : (s : State) (name : List ℕ) (size : ℕ) (jobs : List QueuedJob) → IsRefusalTold s (job_refusal name size jobs)
refusal_told s name size jobs =
    holds_if (IsRefusalTold s) (has_job name jobs) _ _ (used_told s)
    (holds_if (IsRefusalTold s) (nat_le jobs_limit (length jobs)) _ _ (full_told s room.Jobs)
    (holds_if (IsRefusalTold s) (nat_lt text_limit (job_text jobs + size)) _ _ (full_told s room.JobText) tt))

take_told : (s : State) (job : QueuedJob) (reason : Option Refusal) → IsRefusalTold s reason → IsTold (take_job s job reason)
take_told s job (Some reason) told = told
take_told s job None told = holds_if IsTold (has_bad_ports job.ad) (refused s why.BadPorts) _ (bad_ports_told s) (submitted_told s job.name)

submit_told : (s : State) (name user text : List ℕ) (size : ℕ) (outcome : Result Inline ParseFault) → HasAdOutcome text outcome
    → IsTold (submit s name user size outcome)
submit_told s name user text size (Ok x) has_outcome =
    take_told s (record { name = name; user = user; size = size; ad = ad_of x; standing = idle }) (job_refusal name size s.jobs)
    (refusal_told s name size s.jobs)
submit_told s name user text size (Err fault) has_outcome = text_told s fault (told_fault fault has_outcome.1)

remove_told : (s : State) (name : List ℕ) → IsTold (remove s name)
remove_told s name = holds_if IsTold (has_job name s.jobs) _ (refused s why.UnknownName) (removed_told s name) (unknown_told s)

set_priority_told : (s : State) (user : List ℕ) (n : ℕ) → IsTold (set_priority s user n)
set_priority_told s user n =
    holds_if IsTold (lacks_place user s.priorities) (refused s (why.Full room.Users)) _ (full_told s room.Users) (priority_told s user n)

checked_told : (s : State) (job : QueuedJob) (names : List (List ℕ)) (failing : Option (List ℕ)) → IsTold (checked s job names failing)
checked_told s job names (Some name) = stale_told (record s { jobs = restood job.name idle s.jobs }) name
checked_told s job names None =
    claimed_told (record s { jobs = restood job.name (claimed names) (without_holders names s.jobs) }) job.name names (losers s.jobs names)

claim_as_told : (s : State) (job : QueuedJob) (standing : JobStanding) → IsTold (claim_as s job standing)
claim_as_told s job idle = idle_told s
claim_as_told s job (claimed names) = held_told s
claim_as_told s job (matched names) = checked_told s job names (first_failing s job names)

claim_told : (s : State) (name : List ℕ) → IsTold (claim s name)
claim_told s name = by (job_named name s.jobs)
  where
    by : (found : Option QueuedJob) → IsTold (option_map_or (λ job. claim_as s job job.standing) found (s, reply.Refused why.UnknownName))
    by None = unknown_told s
    by (Some job) = claim_as_told s job job.standing

release_as_told : (s : State) (job : QueuedJob) (standing : JobStanding) → IsTold (release_as s job standing)
release_as_told s job idle = idle_told s
release_as_told s job (claimed names) = released_told (record s { jobs = restood job.name idle s.jobs }) job.name
release_as_told s job (matched names) = released_told (record s { jobs = restood job.name idle s.jobs }) job.name

release_told : (s : State) (name : List ℕ) → IsTold (release s name)
release_told s name = by (job_named name s.jobs)
  where
    by : (found : Option QueuedJob) → IsTold (option_map_or (λ job. release_as s job job.standing) found (s, reply.Refused why.UnknownName))
    by None = unknown_told s
    by (Some job) = release_as_told s job job.standing

gang_job_told : (s : State) → IsTold (refused s why.GangJob)
unfolding reply_text refusal_text
gang_job_told s = omega arith

reasons_told : (s : State) (job : List ℕ) (names : List (List ℕ)) (report : Report) → IsTold (s, reply.Why job names report)
unfolding reply_text
reasons_told s job names report = front_some (codes "why ") _ (omega arith)

explain_job_told : (s : State) (job : QueuedJob) (ports : List Port) → IsTold (s, explain_job s.moment s.ads job ports)
explain_job_told s job [] = reasons_told s job.name (ad_names s.ads) _
explain_job_told s job (port ∷ ports) = gang_job_told s

explain_told : (s : State) (name : List ℕ) → IsTold (s, explain s.moment s.ads s.jobs name)
explain_told s name = by (job_named name s.jobs)
  where
    by : (found : Option QueuedJob)
        → IsTold (s, option_map_or (λ job. explain_job s.moment s.ads job (ports_in job.ad)) found (reply.Refused why.UnknownName))
    by None = unknown_told s
    by (Some job) = explain_job_told s job (ports_in job.ad)

classes_told : (s : State) (lists : List (List (List ℕ))) → IsTold (s, reply.Classes lists)
unfolding reply_text
classes_told s lists = front_some (codes "classes ") _ (omega arith)

pub step_told : (s : State) (c : Command) → IsTold (step s c)
unfolding step
step_told s (command.Clock n) = clock_told s n
step_told s (command.Advertise name lifetime block) = advertise_told s name block lifetime (length block) (ad_outcome block) (ad_outcome-has block)
step_told s (command.Withdraw name) = withdraw_told s name
step_told s (command.Show name) = show_told s name s.ads
step_told s command.List = ads_told s _
step_told s (command.Eval expr) = eval_told s s.moment expr (expr_outcome expr) (expr_outcome-has expr)
step_told s (command.EvalIn name expr) = eval_in_told s s.moment s.ads name expr (expr_outcome expr) (expr_outcome-has expr)
step_told s (command.Query block) = query_told s s.moment s.ads block (ad_outcome block) (ad_outcome-has block)
step_told s (command.Submit job user block) = submit_told s job user block (length block) (ad_outcome block) (ad_outcome-has block)
step_told s (command.Remove job) = remove_told s job
step_told s (command.Priority user n) = set_priority_told s user n
step_told s (command.Gang block) = gang_told s s.moment s.ads s.priorities s.jobs block (ad_outcome block) (ad_outcome-has block)
step_told s command.Negotiate = cycle_told s _
step_told s (command.Claim job) = claim_told s job
step_told s (command.Release job) = release_told s job
step_told s command.Jobs = jobs_told s _
step_told s (command.Job job) = job_told s job
step_told s command.Users = users_told s _
step_told s (command.Why job) = explain_told s job
step_told s command.Classes = classes_told s _
step_told s (command.Unlisten name) = unknown_told s
step_told s (command.Bad number) = line_told s number

unlistened_told : (name : List ℕ) → 0 < length (reply_text (reply.Unlistened name))
unfolding reply_text
unlistened_told name = front_some (codes "unlistened ") _ (omega arith)

-- the reply of a pool that names listen to
heard_told : (h : Heard) (c : Command) → 0 < length (reply_text (step_heard h c).1)
unfolding step_heard
heard_told h c = by c refl
  where
    same : is_unlisten c ≡ false → 0 < length (reply_text (step_heard h c).1)
    same other = subst (λ (p : Heard × Reply). 0 < length (reply_text p.1)) (sym (heard-other h c other)) (step_told h.pool c)

    taken : (name : List ℕ) → c ≡ command.Unlisten name → 0 < length (reply_text (step_heard h c).1)
    taken name is =
        subst (λ (d : Command). 0 < length (reply_text (step_heard h d).1)) (sym is)
        (holds_if (λ (p : Heard × Reply). 0 < length (reply_text p.1)) (listens name h.listeners) _ _ (unlistened_told name) (unknown_told h.pool))

    by : (b : Command) → c ≡ b → 0 < length (reply_text (step_heard h c).1)
    by (command.Unlisten name) is = taken name is
    by (command.Clock n) is = same (ap is_unlisten is)
    by (command.Advertise name lifetime block) is = same (ap is_unlisten is)
    by (command.Withdraw name) is = same (ap is_unlisten is)
    by (command.Show name) is = same (ap is_unlisten is)
    by command.List is = same (ap is_unlisten is)
    by (command.Eval text) is = same (ap is_unlisten is)
    by (command.EvalIn name text) is = same (ap is_unlisten is)
    by (command.Query block) is = same (ap is_unlisten is)
    by (command.Submit job user block) is = same (ap is_unlisten is)
    by (command.Remove job) is = same (ap is_unlisten is)
    by (command.Priority user n) is = same (ap is_unlisten is)
    by (command.Gang block) is = same (ap is_unlisten is)
    by command.Negotiate is = same (ap is_unlisten is)
    by (command.Claim job) is = same (ap is_unlisten is)
    by (command.Release job) is = same (ap is_unlisten is)
    by command.Jobs is = same (ap is_unlisten is)
    by (command.Job job) is = same (ap is_unlisten is)
    by command.Users is = same (ap is_unlisten is)
    by (command.Why job) is = same (ap is_unlisten is)
    by command.Classes is = same (ap is_unlisten is)
    by (command.Bad number) is = same (ap is_unlisten is)

-- ---- a sink that took nothing

-- replies whose text is empty are none
no_commands : (s : Heard) (commands : List Command) → length (text_of pool_rules s commands) ≡ 0 → commands ≡ []
no_commands s [] none = refl
no_commands s (c ∷ commands) none =
    absurd (omega (arith, none, heard_told s c, length-append (reply_text (step_heard s c).1) (text_of pool_rules (step_heard s c).0 commands)))

-- where a write failed and the sink took nothing, it was offered the first reply alone and whole, and no command had ended before
-- the last read
pub replies_first : (start : Heard) (s t : Supply) (k m : Effects) (fault : IsWriteFault pool_rules start s t k m) (known : List ℕ)
    → k.sink.taken ≡ Some known → m.sink.taken ≡ Some known → RepliesFirst start t m fault.bytes fault.front fault.cut
replies_first start s t k m fault known from to =
    let answers = answers_first pool_rules pool_lawful start s t k m fault known from to in
    let first = no_commands start fault.front (ap length answers.first) in
    record {
      first = first;
      alone = answers.alone ∙ ap (λ (l : List Command). length (reply_text (step_heard (after pool_rules start l) fault.cut).1)) first;
      in_time = no_commands start (ended_commands (before_last t fault.bytes)) (ap length answers.in_time);
    }
