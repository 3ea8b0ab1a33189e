-- What the searches of a cycle stand on.
use Rattle.std.specs.Prelude.{◌≡◌, ◌≤◌, ℕ, Bool, List, [], All, false, length, map, slice_get}
use Rattle.std.specs.Option.{option_map_or}
use Rattle.ad_tree.specs.Ad.{ad_frames}
use Rattle.ad_candidates.specs.Rows.{rows_of}
use Rattle.dock_match.specs.Pool.{AreStored}
use Rattle.claim_table.specs.declared.job.Job.{Job}
use Rattle.claim_table.specs.Holders.{holder_of}
use Rattle.claim_table.specs.Jobs.{jobs_limit}
use Rattle.literal_index.specs.Shown.{IsIndex}
use Rattle.job_clusters.specs.declared.scene.Scene.{Scene}
use Rattle.job_clusters.specs.Scenes.{settings_in, stock_in}
use Rattle.negotiator.specs.declared.queues.Queue.{Queue}
use Rattle.negotiator.specs.declared.shares.Share.{Share}
use Rattle.negotiator.specs.declared.shares.Shares.{Shares}
use Rattle.negotiator.specs.Budget.{AreFailing}
use Rattle.negotiator.specs.Cycle.{Market, Offer, PlainTurn, places, turn, turns}
use Rattle.negotiator.specs.Markets.{AreOwn, market_of}

-- the market of the scene among these jobs
abbrev pub market_in : Scene → List Job → Market ℕ
market_in scene jobs = market_of scene.moment (stock_in scene) (settings_in scene) jobs

-- the index is that of the store, what is claimed is in the store, each job has no ports or those that its ad lists, and jobs that are marked find nothing
pub record IsReady (scene : Scene) (jobs : List Job) (failed : List Bool) : Type 0 where
  pub index : IsIndex scene.index.now (rows_of (stock_in scene))
  pub stored : AreStored (stock_in scene) (holder_of (settings_in scene) jobs)
  pub ports : All (λ job. AreOwn (ad_frames job.request.ad) job.request.ports) jobs
  pub few : length jobs ≤ jobs_limit
  pub marks : length failed ≡ length jobs
  pub known : AreFailing scene.moment (stock_in scene) (settings_in scene) jobs failed

-- the users of the queues of these numbers
abbrev pub users_at : List Queue → List ℕ → List (List ℕ)
users_at queues numbers = map (λ k. option_map_or (λ queue. queue.user) (slice_get queues k) []) numbers

-- the offers of a user's turn, and the turns of a spin, where the jobs stand so as it begins
abbrev pub turn_in : Scene → List Job → Share → List (Offer ℕ)
turn_in scene jobs share = turn (market_in scene jobs) share.queue.now.user (places (market_in scene jobs).jobs) share.slice false []

abbrev pub turns_in : Scene → List Job → Shares → List (PlainTurn ℕ)
turns_in scene jobs shares = turns (market_in scene jobs) (users_at shares.queues.now shares.active.now) shares.slices.now []
