-- The dock of a request and a resource.
use Rattle.std.specs.Prelude.{ℕ, ◌+◌, ℤ, Bool, not, ◌&&◌, List, [], ◌∷◌, Option, None, Some, if◌then◌else◌}
use Rattle.std.specs.Option.{option_map_or}
use Rattle.ad_tree.specs.Frames.{Frame}
use Rattle.eval_scope.specs.World.{PlainWorld, frames_of_ad, request_side, resource_side}
use Rattle.ad_eval.specs.Dock.{is_docked, meets_requirement, rank_by}
use Rattle.conjunct_plan.specs.Decided.{is_dock_decided}
use Rattle.conjunct_plan.specs.Tests.{labels_of}
use Rattle.dock_match.specs.declared.sides.OpenSides.{OpenSides}
use Rattle.dock_match.specs.Sides.{open_sides}

-- ---- a single request and one ad

-- the world in which an ad is docked to a single request
abbrev pub pair_world : ℕ → List Frame → List Frame → PlainWorld
pair_world moment request ad = record { moment = moment; request = request; ports = []; docked = ad ∷ [] }

-- their dock is true
abbrev pub docks : ℕ → List Frame → List Frame → Bool
docks moment request ad = is_docked (pair_world moment request ad)

-- the rank that the request gives the ad
abbrev pub rank_of_dock : ℕ → List Frame → List Frame → ℤ
rank_of_dock moment request ad = rank_by (pair_world moment request ad) (request_side (pair_world moment request ad))

-- the rank where they dock
abbrev pub ranked : ℕ → List Frame → List Frame → Option ℤ
ranked moment request ad = if docks moment request ad then Some (rank_of_dock moment request ad) else None

-- no test of either side is decided against
abbrev pub is_undecided : List Frame → List Frame → Bool
is_undecided request ad = not (is_dock_decided request 0 [] ad)

-- ---- any world, with the ad that was docked last

-- the frames of the ad that was docked last
abbrev pub last_ad : PlainWorld → List Frame
last_ad w = frames_of_ad w (resource_side w).ad

-- the rank that the request gives it, where the last dock is true
abbrev pub ranked_in : PlainWorld → Option ℤ
ranked_in w = if is_docked w then Some (rank_by w (request_side w)) else None

-- the last dock is decided
abbrev pub is_last_decided : PlainWorld → Bool
is_last_decided w = is_dock_decided w.request (request_side w).frame (labels_of w.ports) (last_ad w)

-- the sides of the last dock that tests leave open
abbrev pub last_open : PlainWorld → Option OpenSides
last_open w = open_sides w.request (request_side w).frame (labels_of w.ports) (last_ad w)

-- how many evaluations the last dock takes where tests leave these sides open: the request's requirement, and the resource's only where that is true
abbrev pub evaluations_of_sides : PlainWorld → OpenSides → ℕ
evaluations_of_sides w sides =
    (if sides.request then 1 else 0) + (if sides.resource && meets_requirement w (request_side w) then 1 else 0)

-- how many it takes at most: none where it is decided
abbrev pub evaluations_of_last : PlainWorld → ℕ
evaluations_of_last w = option_map_or (evaluations_of_sides w) (last_open w) 0
