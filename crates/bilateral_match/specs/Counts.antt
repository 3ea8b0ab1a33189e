-- How many evaluations a query, and the choice of a resource for a job, may take, and how many attributes these may enter.
use Rattle.std.specs.Prelude.{ℕ, suc, ◌+◌, ◌*◌, Bool, not, ◌&&◌, List, [], ◌∷◌, count_by, sum_by, if◌then◌else◌}
use Rattle.std.specs.Option.{option_map_or}
use Rattle.ad_tree.specs.Frames.{Frame}
use Rattle.ad_store.specs.Stock.{Advert}
use Rattle.eval_scope.specs.World.{attribute_count}
use Rattle.dock_match.specs.Docks.{is_undecided, pair_world}
use Rattle.dock_match.specs.Pool.{Pool}

-- a dock that isn't decided takes three evaluations at most: the requirements of both sides, and the rank
abbrev pub evaluations_most : List Frame → List Frame → ℕ
evaluations_most request ad = if is_undecided request ad then 3 else 0

-- in each of which each attribute of the two is entered once at most
abbrev pub attributes_most : ℕ → List Frame → List Frame → ℕ
attributes_most moment request ad = evaluations_most request ad * attribute_count (pair_world moment request ad)

-- how many ads have an undecided dock with the request
abbrev pub undecided_count : List Frame → List Advert → ℕ
undecided_count request ads = count_by (λ advert. is_undecided request advert.ad) ads

-- how many attributes may be entered in the docks with all ads
abbrev pub entered_most : ℕ → List Frame → List Advert → ℕ
entered_most moment request ads = sum_by (λ advert. attributes_most moment request advert.ad) ads

-- ---- of a job among the resources of a pool

-- the sum of what the ads give at their places, for ads that stand from place k on
abbrev pub sum_from : (ℕ → Advert → ℕ) → ℕ → List Advert → ℕ
sum_from gives k [] = 0
sum_from gives k (advert ∷ ads) = gives k advert + sum_from gives (suc k) ads

-- the resource isn't offered, and no test decides its dock with the job
abbrev pub is_open : Pool → List Frame → ℕ → Advert → Bool
is_open pool request place advert = is_undecided request advert.ad && not (pool.is_offered place)

-- how many resources are so
abbrev pub open_count : Pool → List Frame → ℕ
open_count pool request = sum_from (λ place advert. if is_open pool request place advert then 1 else 0) 0 pool.ads

-- how many attributes may be entered to weigh a resource: four evaluations in its dock with the job, and one in that by which it is held
abbrev pub attributes_weighed : Pool → List Frame → ℕ → Advert → ℕ
attributes_weighed pool request place advert =
    4 * attribute_count (pair_world pool.moment request advert.ad)
    + option_map_or (λ hold. attribute_count hold.world) (pool.held_in place) 0

-- how many attributes may be entered to weigh all resources
abbrev pub entered_for : Pool → List Frame → ℕ
entered_for pool request = sum_from (λ place advert. if is_open pool request place advert then attributes_weighed pool request place advert else 0) 0 pool.ads
