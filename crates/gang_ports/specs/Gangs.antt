-- Gangs: which resources of a pool the ports of a request are given.
use Rattle.std.specs.Prelude.{ℕ, suc, ◌*◌, Bool, ◌&&◌, not, false, List, [], ◌∷◌, ◌++◌, filter, length, map, slice_get, sum_by, Option}
use Rattle.std.specs.Prelude.{is_some, if◌then◌else◌}
use Rattle.std.specs.List.{range_with_len}
use Rattle.std.specs.Option.{option_map_or}
use Rattle.ad_tree.specs.Frames.{Frame}
use Rattle.ad_tree.specs.declared.request.Port.{Port}
use Rattle.ad_store.specs.Stock.{Advert, is_live}
use Rattle.ad_eval.specs.Dock.{is_docked, rank_by}
use Rattle.conjunct_plan.specs.Decided.{is_dock_decided}
use Rattle.conjunct_plan.specs.Tests.{labels_of, tests_of}
use Rattle.ad_candidates.specs.Counts.{least_left}
use Rattle.dock_match.specs.Pool.{Pool}
use Rattle.eval_scope.specs.World.{PlainWorld, attribute_count, port_frame, request_side}
use Rattle.gang_ports.specs.Choice.{Choice, first_of, is_among, over_prefixes, tuples}
use Rattle.gang_ports.specs.FreePorts.{is_free_port}

-- ---- the choice

-- the frames of the ad at a place
abbrev pub ad_at : Pool → ℕ → List Frame
ad_at pool place = option_map_or (λ advert. advert.ad) (slice_get pool.ads place) []

-- the world in which the resources at these places are docked to a gang's ports, in order
abbrev pub gang_world : Pool → List Frame → List Port → List ℕ → PlainWorld
gang_world pool request ports places = record { moment = pool.moment; request = request; ports = ports; docked = map (ad_at pool) places }

-- a resource may be taken where it is live, not offered, and not claimed
abbrev pub is_free : Pool → ℕ → Bool
is_free pool place = option_map_or (is_live pool.moment) (slice_get pool.ads place) false && (not (pool.is_offered place) && not (is_some (pool.held_in place)))

-- the places of the resources that may be taken, in order
unfoldable pub free_places : Pool → List ℕ
free_places pool = filter (is_free pool) (range_with_len 0 (length pool.ads))

-- the choice of a gang in a pool
abbrev pub choice_of : Pool → List Frame → List Port → Choice
choice_of pool request ports = record {
  free = free_places pool;
  dock = λ before place. is_docked (gang_world pool request ports (before ++ place ∷ []));
  rank = λ before place. let world = gang_world pool request ports (before ++ place ∷ []) in rank_by world (request_side world);
}

-- the gang for the ports of a request in a pool: the valid tuple before all others
abbrev pub gang : Pool → List Frame → List Port → Option (List ℕ)
gang pool request ports = first_of (choice_of pool request ports) (tuples (choice_of pool request ports) (length ports) [])

-- ---- what a search may take

-- no test decides the dock of a frame of the request with the resource at a place
abbrev pub is_open : Pool → List Frame → List Port → ℕ → ℕ → Bool
is_open pool request ports frame place = not (is_dock_decided request frame (labels_of ports) (ad_at pool place))

-- the resources that may be taken and whose dock with a frame is undecided
unfoldable pub open_places : Pool → List Frame → List Port → ℕ → List ℕ
open_places pool request ports frame = filter (is_open pool request ports frame) (free_places pool)

-- those of them that aren't docked, for the next port once resources are docked to the ports before it
unfoldable pub open_docks : Pool → List Frame → List Port → List ℕ → List ℕ
open_docks pool request ports before = filter (λ place. not (is_among before place)) (open_places pool request ports (port_frame ports (suc (length before))))

-- how many docks are undecided, over all valid prefixes
abbrev pub docks_open : Pool → List Frame → List Port → ℕ
docks_open pool request ports = over_prefixes (choice_of pool request ports) (λ before. length (open_docks pool request ports before)) (length ports) []

-- three evaluations for each of these docks: the requirements of both sides, and the rank
abbrev pub evaluations_behind : Pool → List Frame → List Port → List ℕ → ℕ
evaluations_behind pool request ports before = 3 * length (open_docks pool request ports before)

-- in each of which each attribute of the request and of the docked ads is entered once at most
abbrev pub attributes_behind : Pool → List Frame → List Port → List ℕ → ℕ
attributes_behind pool request ports before =
    sum_by (λ place. 3 * attribute_count (gang_world pool request ports (before ++ place ∷ []))) (open_docks pool request ports before)

-- how many attributes these evaluations enter at most, over all valid prefixes
abbrev pub attributes_open : Pool → List Frame → List Port → ℕ
attributes_open pool request ports = over_prefixes (choice_of pool request ports) (attributes_behind pool request ports) (length ports) []

-- how often the docks of port i are weighed: once where it is free, else behind each valid prefix
abbrev pub times_weighed : Pool → List Frame → List Port → ℕ → ℕ
times_weighed pool request ports i = if is_free_port request ports i then 1 else length (tuples (choice_of pool request ports) i [])

-- the undecided docks of port i, each as often as it is weighed
unfoldable pub weighed_at : Pool → List Frame → List Port → ℕ → ℕ
weighed_at pool request ports i = length (open_places pool request ports (port_frame ports (suc i))) * times_weighed pool request ports i

-- those of all ports
abbrev pub docks_weighed : Pool → List Frame → List Port → ℕ
docks_weighed pool request ports = sum_by (weighed_at pool request ports) (range_with_len 0 (length ports))

-- the sum over the ports of the least number of ads that one of a port's tests leaves
abbrev pub looks_most : List Advert → List Frame → List Port → ℕ
looks_most ads request ports = sum_by (λ port. least_left ads (tests_of request port.frame (labels_of ports))) ports
