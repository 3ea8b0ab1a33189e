-- What the ads and the jobs of a pool answer to claims and releases.
use Rattle.std.specs.Prelude.{◌≡◌, ℕ, true, List, [], map, Contains, Result, Ok, Err}
use Rattle.std.specs.Option.{option_map_or}
use Rattle.ad_store.specs.Stock.{Stock}
use Rattle.claim_table.specs.declared.answers.ClaimFault.{ClaimFault}
use Rattle.claim_table.specs.declared.answers.Freed.{Freed}
use Rattle.claim_table.specs.declared.answers.JobFault.{JobFault}
use Rattle.pool_replies.specs.Refusals.{is_wrong_state}
use Rattle.pool_replies.specs.declared.reply.Reply.{Reply}
use Rattle.pool_replies.specs.declared.refusal.Refusal.TheVariants as why
use Rattle.pool_replies.specs.declared.reply.Reply.TheVariants as reply
use Rattle.pool_books.specs.Books.{name_in}
use Rattle.pool_books.specs.Claiming.{claim, job_named, release}
use Rattle.pool_books.specs.Queue.{names_of}
use Rattle.pool_books.specs.State.{QueuedJob, State}

-- the names of the resources of the job of a name
abbrev pub names_given : List ℕ → List QueuedJob → List (List ℕ)
names_given name jobs = option_map_or (λ job. names_of job.standing) (job_named name jobs) []

-- a claim that is answered so makes one state of another; after want of memory all is as it was
abbrev pub IsClaimAnswer : Stock → State → List ℕ → State → Result (List Freed) ClaimFault → Type 0
IsClaimAnswer stock s name t (Ok freed) = ◌≡◌ {A = State × Reply} (claim s name) (t, reply.Claimed name (names_given name s.jobs) (map (λ one. one.job) freed))
IsClaimAnswer stock s name t (Err ClaimFault.NoJob) = ◌≡◌ {A = State × Reply} (claim s name) (t, reply.Refused why.UnknownName)
IsClaimAnswer stock s name t (Err (ClaimFault.WrongState state)) =
    (is_wrong_state state ≡ true) × ◌≡◌ {A = State × Reply} (claim s name) (t, reply.Refused (why.WrongState state))
IsClaimAnswer stock s name t (Err (ClaimFault.Stale slot)) =
    Contains stock.slots slot × ◌≡◌ {A = State × Reply} (claim s name) (t, reply.Refused (why.Stale (name_in stock slot)))
IsClaimAnswer stock s name t (Err ClaimFault.OutOfMemory) = t ≡ s

-- a release that is answered so
abbrev pub IsReleaseAnswer : State → List ℕ → State → Result (List ℕ) JobFault → Type 0
IsReleaseAnswer s name t (Ok slots) = ◌≡◌ {A = State × Reply} (release s name) (t, reply.Released name)
IsReleaseAnswer s name t (Err JobFault.NoJob) = ◌≡◌ {A = State × Reply} (release s name) (t, reply.Refused why.UnknownName)
IsReleaseAnswer s name t (Err (JobFault.WrongState state)) =
    (is_wrong_state state ≡ true) × ◌≡◌ {A = State × Reply} (release s name) (t, reply.Refused (why.WrongState state))
