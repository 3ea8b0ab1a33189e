-- What a command tells of jobs to their users and to the resources.
use Rattle.std.specs.Prelude.{ℕ, not, List, [], ◌∷◌, ◌++◌, codes, filter, fold, map, position, slice_get, Option, if◌then◌else◌}
use Rattle.std.specs.List.{flat_map}
use Rattle.std.specs.Option.{option_map_or}
use Rattle.ad_store.specs.Stock.{Advert, has, is_live}
use Rattle.claim_table.specs.Claims.{once}
use Rattle.pool_script.specs.declared.command.Command.{Command}
use Rattle.pool_replies.specs.Cycles.{with_blanks}
use Rattle.pool_replies.specs.declared.reply.Reply.{Reply}
use Rattle.pool_replies.specs.declared.rows.OfferRow.{OfferRow}
use Rattle.pool_replies.specs.declared.rows.SpinRow.{SpinRow}
use Rattle.pool_replies.specs.declared.rows.TurnRow.{TurnRow}
use Rattle.pool_script.specs.declared.command.Command.TheVariants as command
use Rattle.pool_replies.specs.declared.refusal.Refusal.TheVariants as why
use Rattle.pool_replies.specs.declared.reply.Reply.TheVariants as reply
use Rattle.pool_books.specs.Claiming.{job_named}
use Rattle.pool_books.specs.Queue.{claim_names, is_listed, names_of, offer_names}
use Rattle.pool_books.specs.State.{QueuedJob, State}
use Rattle.pool_state.specs.Step.{step}
use Rattle.pool_state.specs.declared.posting.Notice.{Notice}

-- ---- a notice

-- names with one more at the end, unless it is among them
abbrev pub with_name : List (List ℕ) → List ℕ → List (List ℕ)
with_name names name = if is_listed name names then names else names ++ name ∷ []

-- the names, each once at its first place
abbrev pub each_once : List (List ℕ) → List (List ℕ)
each_once names = fold with_name [] names

-- a word, a job and its resources; it goes to the user and to each resource
abbrev pub about : List ℕ → List ℕ → List ℕ → List (List ℕ) → Notice
about word user job names = record { names = each_once (user ∷ names); line = word ++ job ++ with_blanks names }

-- a word and a job, with what it has
abbrev pub about_job : List ℕ → QueuedJob → Notice
about_job word job = about word job.user job.name (names_of job.standing)

-- a job loses these resources, which are all that it has; where there are none, nothing is told
abbrev pub loss_of : QueuedJob → List (List ℕ) → List Notice
loss_of job [] = []
loss_of job (name ∷ names) = about (codes "freed ") job.user job.name (name ∷ names) ∷ []

-- a job loses all that it has
abbrev pub loss : QueuedJob → List Notice
loss job = loss_of job (names_of job.standing)

-- ---- who has a resource

-- the place of the job that has claimed the resource of a name
abbrev pub claimed_at : List ℕ → List QueuedJob → Option ℕ
claimed_at name jobs = position (λ job. is_listed name (claim_names job.standing)) jobs

-- the place of the job that the resource of a name is offered to
abbrev pub offered_at : List ℕ → List QueuedJob → Option ℕ
offered_at name jobs = position (λ job. is_listed name (offer_names job.standing)) jobs

-- the places of the jobs that have claimed these resources, each once, resource by resource
abbrev pub holders : List QueuedJob → List (List ℕ) → List ℕ
holders jobs names = fold (λ places name. once places (claimed_at name jobs)) [] names

-- the places of the jobs that have these resources: of each, first the job that has claimed it, then the one that it is offered to
abbrev pub had_by : List QueuedJob → List (List ℕ) → List ℕ
had_by jobs names = fold (λ places name. once (once places (claimed_at name jobs)) (offered_at name jobs)) [] names

-- the job at a place loses what it has
abbrev pub loss_at : List QueuedJob → ℕ → List Notice
loss_at jobs place = option_map_or loss (slice_get jobs place) []

-- the jobs at these places lose what they have, in order
abbrev pub losses : List QueuedJob → List ℕ → List Notice
losses jobs places = flat_map (loss_at jobs) places

-- ---- a command that isn't refused

-- the names of the ads that leave at a moment
abbrev pub expired_names : ℕ → List Advert → List (List ℕ)
expired_names now ads = map (λ advert. advert.name) (filter (λ advert. not (is_live now advert)) ads)

-- the jobs that lose their resources to a job, and then that it has them
abbrev pub granted_to : List QueuedJob → QueuedJob → List Notice
granted_to jobs job = losses jobs (holders jobs (names_of job.standing)) ++ about_job (codes "claimed ") job ∷ []

-- the job of a name loses what it has, if there is such a job
abbrev pub loss_named : List ℕ → List QueuedJob → List Notice
loss_named name jobs = option_map_or loss (job_named name jobs) []

-- what a command tells where it isn't refused; a cycle is told by its reply
abbrev pub granted : List Advert → List QueuedJob → Command → List Notice
granted ads jobs (command.Clock n) = losses jobs (had_by jobs (expired_names n ads))
granted ads jobs (command.Withdraw name) = if has name ads then losses jobs (had_by jobs (name ∷ [])) else []
granted ads jobs (command.Remove job) = loss_named job jobs
granted ads jobs (command.Release job) = loss_named job jobs
granted ads jobs (command.Claim job) = option_map_or (granted_to jobs) (job_named job jobs) []
granted ads jobs other = []

-- ---- a claim that is stale

-- the job loses what is offered to it
abbrev pub stale : List QueuedJob → Command → List Notice
stale jobs (command.Claim job) = loss_named job jobs
stale jobs other = []

-- ---- a cycle

-- the jobs of a turn are matched with what they are offered, in order
abbrev pub turn_matches : TurnRow → List Notice
turn_matches turn = map (λ (offer : OfferRow). about (codes "matched ") turn.user offer.job offer.names) turn.offers

-- the jobs of a spin are matched, in order
abbrev pub spin_matches : SpinRow → List Notice
spin_matches spin = flat_map turn_matches spin.turns

-- the jobs of a cycle are matched, in the order of the reply
abbrev pub matches : List SpinRow → List Notice
matches spins = flat_map spin_matches spins

-- ---- one step

-- what is told where a command is answered so
abbrev pub told : Reply → List Notice → List Notice → List Notice
told (reply.Refused (why.Stale name)) granted stale = stale
told (reply.Refused reason) granted stale = []
told (reply.Cycle spins) granted stale = matches spins
told other granted stale = granted

-- the notices of a command in a state, in order
unfoldable pub notices : State → Command → List Notice
notices s command = told (step s command).1 (granted s.ads s.jobs command) (stale s.jobs command)
