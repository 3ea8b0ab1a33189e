-- Why a job of a state matches the ads that it matches.
use Rattle.std.specs.Prelude.{ℕ, List, [], ◌∷◌, map}
use Rattle.std.specs.Option.{option_map_or}
use Rattle.ad_store.specs.Stock.{Advert}
use Rattle.ad_tree.specs.declared.request.Port.{Port}
use Rattle.match_explain.specs.Counted.{evaluations_most}
use Rattle.match_explain.specs.Why.{explained}
use Rattle.pool_replies.specs.declared.reply.Reply.{Reply}
use Rattle.pool_replies.specs.declared.refusal.Refusal.TheVariants as why
use Rattle.pool_replies.specs.declared.reply.Reply.TheVariants as reply
use Rattle.pool_books.specs.Claiming.{job_named}
use Rattle.pool_books.specs.Ports.{ports_in}
use Rattle.pool_books.specs.State.{QueuedJob}

-- the names of ads in order
abbrev pub ad_names : List Advert → List (List ℕ)
ad_names ads = map (λ advert. advert.name) ads

-- the reply for a job, by the ports of its request: a gang isn't explained
abbrev pub explain_job : ℕ → List Advert → QueuedJob → List Port → Reply
explain_job moment ads job [] = reply.Why job.name (ad_names ads) (explained moment job.ad ads)
explain_job moment ads job (port ∷ ports) = reply.Refused why.GangJob

-- `why JOB`
abbrev pub explain : ℕ → List Advert → List QueuedJob → List ℕ → Reply
explain moment ads jobs name = option_map_or (λ job. explain_job moment ads job (ports_in job.ad)) (job_named name jobs) (reply.Refused why.UnknownName)

-- how many evaluations `why` of a job may make: one for each ad and conjunct of either side, and none where it is refused
abbrev pub job_evaluations : List Advert → QueuedJob → List Port → ℕ
job_evaluations ads job [] = evaluations_most job.ad ads
job_evaluations ads job (port ∷ ports) = 0

-- how many evaluations `why JOB` may make, none where no job has the name
abbrev pub explained_evaluations : List Advert → List QueuedJob → List ℕ → ℕ
explained_evaluations ads jobs name = option_map_or (λ job. job_evaluations ads job (ports_in job.ad)) (job_named name jobs) 0
