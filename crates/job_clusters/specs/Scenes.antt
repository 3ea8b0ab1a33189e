-- What the search for one job stands on.
use Rattle.std.specs.Prelude.{List}
use Rattle.ad_store.specs.Stock.{Stock}
use Rattle.ad_store.specs.Store.{stock_of}
use Rattle.dock_match.specs.Pool.{Pool}
use Rattle.claim_table.specs.declared.job.Job.{Job}
use Rattle.claim_table.specs.Priorities.{Setting}
use Rattle.claim_table.specs.Settings.{settings_of}
use Rattle.claim_table.specs.Table.{jobs_of}
use Rattle.job_clusters.specs.declared.scene.Scene.{Scene}
use Rattle.job_clusters.specs.declared.seeker.Seeker.{Seeker}
use Rattle.job_clusters.specs.Pools.{pool_for}

-- the ads of the scene's store, each with its slot
abbrev pub stock_in : Scene → Stock
stock_in scene = stock_of scene.store.now

-- the priorities that are set in the scene
abbrev pub settings_in : Scene → List Setting
settings_in scene = settings_of scene.priorities.now

-- the resources of the scene as the jobs hold them
abbrev pub pool_in : Scene → List Job → Pool
pool_in scene jobs = pool_for scene.moment (stock_in scene) (settings_in scene) jobs

-- the jobs among which one seeks a resource
abbrev pub jobs_around : Seeker → List Job
jobs_around seeker = jobs_of seeker.claims.now
