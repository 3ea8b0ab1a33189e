-- The pool in which a job is given a resource, and the ads among which a query finds some.
use Rattle.std.specs.Prelude.{ℕ, Bool, List, Option}
use Rattle.ad_tree.specs.Ad.{ad_frames}
use Rattle.ad_tree.specs.Frames.{Frame}
use Rattle.ad_store.specs.Holdings.{Holding}
use Rattle.ad_store.specs.Stock.{Advert, Stock}
use Rattle.ad_store.specs.Store.{stock_of}
use Rattle.dock_match.specs.Pool.{Pool, pool_of}
use Rattle.bilateral_match.specs.declared.scene.QueryScene.{QueryScene}
use Rattle.bilateral_match.specs.declared.scene.Scene.{Scene}

-- the resources of the scene
abbrev pub stock_in : {H : Type 0} → Scene H → Stock
stock_in scene = stock_of scene.store.now

-- what is offered and claimed of them is what the scene's holdings say
abbrev pub pool_in : {H : Type 0} → (H → ℕ → Bool) → (H → ℕ → Option Holding) → Scene H → Pool
pool_in is_offered holding scene = pool_of scene.moment (stock_in scene) (is_offered scene.held.now) (holding scene.held.now)

-- the job's request
abbrev pub request_in : {H : Type 0} → Scene H → List Frame
request_in scene = ad_frames scene.request.now.ad

-- ---- queries

-- the request of a query
abbrev pub asked_in : QueryScene → List Frame
asked_in scene = ad_frames scene.request.now.ad

-- the ads among which it finds some
abbrev pub ads_in : QueryScene → List Advert
ads_in scene = (stock_of scene.store.now).ads
