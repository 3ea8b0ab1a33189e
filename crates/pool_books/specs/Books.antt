-- What contracts see of the ads and the jobs of a pool.
use Rattle.std.specs.Prelude.{List, map, ℕ, ◌==◌, [], slice_get}
use Rattle.std.specs.List.{position_or_len}
use Rattle.std.specs.Option.{option_map_or}
use Rattle.ad_store.specs.Store.{stock_of}
use Rattle.claim_table.specs.Table.{jobs_of}
use Rattle.ad_tree.specs.Ad.{ad_frames}
use Rattle.ad_store.specs.Stock.{Stock}
use Rattle.claim_table.specs.declared.job.Job.{Job}
use Rattle.claim_table.specs.declared.job.Stage.{Stage}
use Rattle.claim_table.specs.Priorities.{Setting}
use Rattle.pool_books.specs.State.{QueuedJob, JobStanding, State, claimed, idle, matched}
use Rattle.pool_books.specs.declared.books.Books.{Books}

-- the name of the ad in a slot
abbrev pub name_in : Stock → ℕ → List ℕ
name_in stock slot = option_map_or (λ advert. advert.name) (slice_get stock.ads (position_or_len (λ s. s == slot) stock.slots)) []

-- how a job stands, with the names of its resources in place of their slots
abbrev pub named_standing : Stock → Stage → JobStanding
named_standing stock Stage.Idle = idle
named_standing stock (Stage.Matched slots) = matched (map (name_in stock) slots)
named_standing stock (Stage.Claimed slots) = claimed (map (name_in stock) slots)

-- a job as the state has it: with the frames of its ad, and names in place of slots
abbrev pub queued : Stock → Job → QueuedJob
queued stock job = record { name = job.name; user = job.user; size = job.text_len; ad = ad_frames job.request.ad; standing = named_standing stock job.standing }

-- the state of the books: the ads and the jobs; the moment and the priorities stand beside them
abbrev pub state_with : ℕ → List Setting → Books → State
state_with moment priorities books = record {
  moment = moment;
  ads = (stock_of books.ads.store).ads;
  jobs = map (queued (stock_of books.ads.store)) (jobs_of books.claims);
  priorities = priorities;
}

-- the jobs, with the names of their resources
abbrev pub queue_of : Books → List QueuedJob
queue_of books = map (queued (stock_of books.ads.store)) (jobs_of books.claims)
