-- The jobs of a state in classes: no ad of the state tells two jobs of one class apart.
use Rattle.std.specs.Prelude.{ℕ, Bool, false, List, [], ◌∷◌, ◌++◌, map, Option, None, Some, if◌then◌else◌}
use Rattle.ad_store.specs.Stock.{Advert}
use Rattle.ad_tree.specs.Frames.{Frame}
use Rattle.ad_tree.specs.declared.request.Port.{Port}
use Rattle.job_classes.specs.Classes.{has_key}
use Rattle.job_classes.specs.Keys.{Entry, key_of}
use Rattle.significant_attrs.specs.Shown.{ads_in}
use Rattle.pool_replies.specs.declared.reply.Reply.{Reply}
use Rattle.pool_replies.specs.declared.reply.Reply.TheVariants as reply
use Rattle.pool_books.specs.Ports.{ports_in}
use Rattle.pool_books.specs.State.{QueuedJob}

-- the key of a request beside the ads, by its ports: a gang has none
abbrev pub request_key : List Advert → List Frame → List Port → Option (List Entry)
request_key ads request [] = Some (key_of (ads_in ads) request)
request_key ads request (port ∷ ports) = None

-- the key of a job, whose request has the ports that its ad lists
abbrev pub job_key : List Advert → QueuedJob → Option (List Entry)
job_key ads job = request_key ads job.ad (ports_in job.ad)

-- a class: its key, which a gang's has none of, and the names of its jobs in the order of their submission
pub record Class : Type 0 where
  pub key : Option (List Entry)
  pub names : List (List ℕ)

-- a job joins a class of the same key; a gang joins none
abbrev pub joins : Option (List Entry) → Option (List Entry) → Bool
joins None key = false
joins (Some own) key = has_key own key

-- the classes with one job more: in the first that it joins, or in a new one behind the others
abbrev pub with_job : Option (List Entry) → List ℕ → List Class → List Class
with_job own name [] = record { key = own; names = name ∷ [] } ∷ []
with_job own name (class ∷ classes) =
    if joins own class.key then record { key = class.key; names = class.names ++ name ∷ [] } ∷ classes
    else class ∷ with_job own name classes

-- the classes with these jobs, each in turn, whatever its standing
abbrev pub with_jobs : List Advert → List Class → List QueuedJob → List Class
with_jobs ads classes [] = classes
with_jobs ads classes (job ∷ jobs) = with_jobs ads (with_job (job_key ads job) job.name classes) jobs

-- the names of the jobs of each class
abbrev pub class_names : List Class → List (List (List ℕ))
class_names classes = map (λ class. class.names) classes

-- `classes`
abbrev pub classify : List Advert → List QueuedJob → Reply
classify ads jobs = reply.Classes (class_names (with_jobs ads [] jobs))
