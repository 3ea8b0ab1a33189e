-- The state of a pool.
use Rattle.std.specs.Prelude.{ℕ, List, []}
use Rattle.ad_tree.specs.Frames.{Frame}
use Rattle.ad_store.specs.Stock.{Advert}
use Rattle.claim_table.specs.Priorities.{Setting}
use Rattle.pool_replies.specs.declared.refusal.Refusal.{Refusal}
use Rattle.pool_replies.specs.declared.reply.Reply.{Reply}
use Rattle.pool_replies.specs.declared.reply.Reply.TheVariants as reply

-- how a job stands: idle, or matched with resources that are offered to it, or claimed with those that it holds, each by their names in order
pub data JobStanding : Type 0 where
  idle : JobStanding
  matched : List (List ℕ) → JobStanding
  claimed : List (List ℕ) → JobStanding

-- a job: its name, its user, the length of its text in bytes, its ad, and how it stands
pub record QueuedJob : Type 0 where
  pub name : List ℕ
  pub user : List ℕ
  pub size : ℕ
  pub ad : List Frame
  pub standing : JobStanding

-- the moment, the ads in order, the jobs in the order of their submission, and the priorities that are set
pub record State : Type 0 where
  pub moment : ℕ
  pub ads : List Advert
  pub jobs : List QueuedJob
  pub priorities : List Setting

-- the state before the first command
abbrev pub opening : State
opening = record { moment = 0; ads = []; jobs = []; priorities = [] }

-- a refused command changes nothing
abbrev pub refused : State → Refusal → State × Reply
refused s reason = (s, reply.Refused reason)
