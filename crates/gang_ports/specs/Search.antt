-- What a search for a gang goes through, and what it makes of a prefix.
use Rattle.std.specs.Prelude.{◌≡◌, ◌≤◌, ℕ, suc, ◌+◌, ◌*◌, ℤ, Bool, ◌==◌, ◌&&◌, ◌||◌, nat_le, true, false, List, []}
use Rattle.std.specs.Prelude.{◌∷◌, ◌++◌, length, map, sum_by, take, Option, None, Some, option_map, All, if◌then◌else◌}
use Rattle.std.specs.List.{filter_map, list_all, list_any}
use Rattle.std.specs.List.Sorted.{IsPermutation}
use Rattle.std.specs.Ordering.{int_cmp, nat_cmp, ordering_then}
use Rattle.std.specs.declared.cmp.Ordering.{Ordering}
use Rattle.ad_tree.specs.Ad.{ad_frames}
use Rattle.ad_tree.specs.Frames.{Frame}
use Rattle.ad_tree.specs.declared.request.Port.{Port}
use Rattle.eval_scope.specs.World.{PlainWorld, attribute_count, port_frame, request_side, with_docked}
use Rattle.ad_eval.specs.Dock.{is_docked, rank_by}
use Rattle.conjunct_plan.specs.Tests.{labels_of}
use Rattle.dock_match.specs.Pool.{Pool}
use Rattle.dock_match.specs.Sides.{open_sides}
use Rattle.gang_ports.specs.declared.searching.Ending.{Ending}
use Rattle.gang_ports.specs.declared.weighing.Candidate.{Candidate}
use Rattle.gang_ports.specs.declared.weighing.Kept.{Kept}
use Rattle.gang_ports.specs.declared.weighing.Resource.{Resource}
use Rattle.gang_ports.specs.declared.weighing.Side.{Side}
use Rattle.gang_ports.specs.Choice.{Choice, IsFirst, is_among, over_prefixes, tuples}
use Rattle.gang_ports.specs.FreePorts.{is_free_port}
use Rattle.gang_ports.specs.Gangs.{ad_at, attributes_behind, choice_of, evaluations_behind, gang_world, open_places}

-- ---- a port's resources

-- the rank that the request's side of the last dock gives, where the dock is true
abbrev pub worth : PlainWorld → Option ℤ
worth w = if is_docked w then Some (rank_by w (request_side w)) else None

-- the candidate that a resource is, where it isn't docked yet and docks
abbrev pub candidate_of : PlainWorld → List ℕ → Resource → Option Candidate
candidate_of w before r =
    if is_among before r.place then None
    else option_map (λ rank. record { place = r.place; rank = rank; ad = r.ad }) (worth (with_docked w (ad_frames r.ad.now)))

unfoldable pub weighed : PlainWorld → List ℕ → List Resource → List Candidate
weighed w before resources = filter_map (candidate_of w before) resources

abbrev pub candidate_order : Candidate → Candidate → Ordering
candidate_order a b = ordering_then (int_cmp b.rank a.rank) (nat_cmp a.place b.place)

-- how many evaluations a resource may take, and how many attributes may be entered in them
abbrev pub evaluations_of : List ℕ → Resource → ℕ
evaluations_of before r = if is_among before r.place then 0 else 3

abbrev pub attributes_of : PlainWorld → List ℕ → Resource → ℕ
attributes_of w before r = if is_among before r.place then 0 else 3 * attribute_count (with_docked w (ad_frames r.ad.now))

-- ---- what is kept of a port's resources

-- nothing is known of a resource
abbrev pub is_unknown : Kept → Bool
is_unknown Kept.Unknown = true
is_unknown (Kept.Weighed rank) = false

-- what is kept of a resource with this ad is what its dock is worth in a world
abbrev pub IsWorth : PlainWorld → List Frame → Kept → Type 0
IsWorth w ad Kept.Unknown = Unit {0}
IsWorth w ad (Kept.Weighed rank) = rank ≡ worth (with_docked w ad)

-- what is kept once it is weighed
abbrev pub kept_in : PlainWorld → List Frame → Kept → Kept
kept_in w ad Kept.Unknown = Kept.Weighed (worth (with_docked w ad))
kept_in w ad (Kept.Weighed rank) = Kept.Weighed rank

abbrev pub rank_kept : Kept → Option ℤ
rank_kept Kept.Unknown = None
rank_kept (Kept.Weighed rank) = rank

-- a resource is weighed where it isn't docked yet and nothing is known of it
abbrev pub weighed_in : PlainWorld → List ℕ → Resource → Resource
weighed_in w before r =
    if is_among before r.place then r else record { place = r.place; ad = r.ad; sides = r.sides; kept = kept_in w (ad_frames r.ad.now) r.kept }

-- the candidate that it then is
abbrev pub candidate_in : PlainWorld → List ℕ → Resource → Option Candidate
candidate_in w before r =
    if is_among before r.place then None
    else option_map (λ rank. record { place = r.place; rank = rank; ad = r.ad }) (rank_kept (kept_in w (ad_frames r.ad.now) r.kept))

-- how many evaluations that may take
abbrev pub evaluations_in : List ℕ → Resource → ℕ
evaluations_in before r = if is_among before r.place then 0 else if is_unknown r.kept then 3 else 0

abbrev pub forgotten : Resource → Resource
forgotten r = record { place = r.place; ad = r.ad; sides = r.sides; kept = Kept.Unknown }

-- the resources of a port as they are when they are weighed again: what is kept of them stays at a free port alone
abbrev pub remembered : Bool → List Resource → List Resource
remembered true resources = resources
remembered false resources = map forgotten resources

-- how many evaluations a resource may still take at a free port, and all resources of a port, if it is free
abbrev pub evaluations_ahead : Resource → ℕ
evaluations_ahead r = if is_unknown r.kept then 3 else 0

abbrev pub side_ahead : Side → ℕ
side_ahead side = if side.is_free then sum_by evaluations_ahead side.resources.items else 0

unfoldable pub sides_ahead : List Side → ℕ
sides_ahead sides = sum_by side_ahead sides

-- ---- the resources of all ports

-- the resources at these places of a pool, in any order
pub record AreResources (pool : Pool) (places : List ℕ) (resources : List Resource) : Type 0 where
  pub all : IsPermutation places (map (λ r. r.place) resources)
  pub ads : All (λ r. ad_frames r.ad.now ≡ ad_at pool r.place) resources

-- what is kept of a resource is its worth to port i behind each prefix
abbrev pub IsKept : Pool → List Frame → List Port → ℕ → Resource → Type 0
IsKept pool request ports i r = (before : List ℕ) → length before ≡ i → IsWorth (gang_world pool request ports before) (ad_frames r.ad.now) r.kept

-- port i has the resources with which its dock may be true, and if it is free, what is kept of them is so
pub record IsSide (pool : Pool) (request : List Frame) (ports : List Port) (i : ℕ) (side : Side) : Type 0 where
  pub free : side.is_free ≡ is_free_port request ports i
  pub resources : AreResources pool (open_places pool request ports (port_frame ports (suc i))) side.resources.items
  pub kept : side.is_free ≡ true → All (IsKept pool request ports i) side.resources.items

-- the sides of a resource's dock with frame f of a request are those that tests leave open
abbrev pub HasSides : List Frame → List Port → ℕ → Resource → Type 0
HasSides request ports f r = open_sides request f (labels_of ports) (ad_frames r.ad.now) ≡ Some r.sides

-- so are those of its dock with the next port in a world
abbrev pub HasSidesIn : PlainWorld → Resource → Type 0
HasSidesIn w r = HasSides w.request w.ports (port_frame w.ports (suc (length w.docked))) r

-- so are those of all resources of the ports from i on
abbrev pub HaveSides : List Frame → List Port → ℕ → List Side → Type 0
HaveSides request ports i [] = Unit {0}
HaveSides request ports i (side ∷ sides) =
    All (HasSides request ports (port_frame ports (suc i))) side.resources.items × HaveSides request ports (suc i) sides

-- the ports from i on
abbrev pub AreSides : Pool → List Frame → List Port → ℕ → List Side → Type 0
AreSides pool request ports i [] = Unit {0}
AreSides pool request ports i (side ∷ sides) = IsSide pool request ports i side × AreSides pool request ports (suc i) sides

-- some port has none
unfoldable pub has_empty : List Side → Bool
has_empty sides = list_any (λ side. length side.resources.items == 0) sides

-- a resource was weighed, and doesn't dock
abbrev pub is_undocked : Kept → Bool
is_undocked Kept.Unknown = false
is_undocked (Kept.Weighed None) = true
is_undocked (Kept.Weighed (Some rank)) = false

-- a port is free, and each of its resources is docked at one of these places, or was weighed and doesn't dock
abbrev pub is_spent : List ℕ → Side → Bool
is_spent before side = side.is_free && list_all (λ r. is_undocked r.kept || is_among before r.place) side.resources.items

-- ---- behind a prefix

-- the world is that of a prefix, and the sides are those of the ports behind it
pub record IsBehind (pool : Pool) (w : PlainWorld) (before : List ℕ) (left : List Side) : Type 0 where
  pub world : w ≡ gang_world pool w.request w.ports before
  pub sides : AreSides pool w.request w.ports (length before) left

abbrev pub choice_in : Pool → PlainWorld → Choice
choice_in pool w = choice_of pool w.request w.ports

-- a tuple is found
abbrev pub is_found : Ending → Bool
is_found Ending.Found = true
is_found (Ending.NotFound many) = false

-- a tuple is found, or there is none while the places stay up to this depth
abbrev pub is_over : ℕ → Ending → Bool
is_over depth Ending.Found = true
is_over depth (Ending.NotFound many) = nat_le many depth

-- no n more places follow as many places that begin with this many of these
abbrev pub HasNoTuples : Choice → ℕ → List ℕ → ℕ → Type 0
HasNoTuples choice n before many =
    (other : List ℕ) → length other ≡ length before → take many other ≡ take many before → tuples choice n other ≡ []

-- the places before it stay the first, and the first tuple of n more is added to them, or there is none
abbrev pub Outcome : Choice → ℕ → List ℕ → List ℕ → Ending → Type 0
Outcome choice n before after Ending.Found = (tuple : List ℕ) × (after ≡ before ++ tuple) × IsFirst choice before (tuples choice n before) tuple
Outcome choice n before after (Ending.NotFound many) = ((rest : List ℕ) × (after ≡ before ++ rest)) × HasNoTuples choice n before many

-- the evaluations over all prefixes behind one, and the attributes that may be entered in them
abbrev pub evaluations_from : Pool → PlainWorld → ℕ → List ℕ → ℕ
evaluations_from pool w n before = over_prefixes (choice_in pool w) (evaluations_behind pool w.request w.ports) n before

abbrev pub attributes_from : Pool → PlainWorld → ℕ → List ℕ → ℕ
attributes_from pool w n before = over_prefixes (choice_in pool w) (attributes_behind pool w.request w.ports) n before

-- those behind a prefix for a port that isn't free
abbrev pub evaluations_anew : Pool → PlainWorld → List ℕ → ℕ
evaluations_anew pool w before = if is_free_port w.request w.ports (length before) then 0 else evaluations_behind pool w.request w.ports before

-- the evaluations that are ahead: of each unknown resource of a free port once, and at any other port behind each prefix
abbrev pub evaluations_once : Pool → PlainWorld → List ℕ → List Side → ℕ
evaluations_once pool w before sides = sides_ahead sides + over_prefixes (choice_in pool w) (evaluations_anew pool w) (length sides) before

-- a search behind a prefix takes no more than this, from these counts of evaluations and of attributes on to those
pub record Takes (pool : Pool) (w : PlainWorld) (before : List ℕ) (sides : List Side) (tops entry tops_then entry_then : ℕ) : Type 0 where
  pub evaluations : tops_then ≤ tops + evaluations_from pool w (length sides) before
  pub once : tops_then ≤ tops + evaluations_once pool w before sides
  pub entries : entry_then ≤ entry + attributes_from pool w (length sides) before

-- it leaves the sides of the same ports, and what is ahead of them then is part of what it may take
pub record Leaves (pool : Pool) (w : PlainWorld) (before : List ℕ) (sides : List Side) (tops tops_then : ℕ) (left : List Side) : Type 0 where
  pub are : AreSides pool w.request w.ports (length before) left
  pub ahead : tops_then + sides_ahead left ≤ tops + evaluations_once pool w before sides
