-- The ads at places, as a query goes through them.
use Rattle.std.specs.Prelude.{ℕ, ℤ, Bool, true, not, int_lt, List, Option, None, Some, option_map, slice_get, if◌then◌else◌}
use Rattle.std.specs.Option.{option_and_then, option_map_or}
use Rattle.ad_tree.specs.Frames.{Frame}
use Rattle.ad_store.specs.Stock.{Advert}
use Rattle.eval_scope.specs.World.{PlainWorld, request_side, resource_side}
use Rattle.ad_eval.specs.Dock.{is_docked, rank_by}
use Rattle.dock_match.specs.declared.preemption.Preemption.{Preemption}
use Rattle.dock_match.specs.Docks.{docks, rank_of_dock}
use Rattle.dock_match.specs.Pool.{Pool}
use Rattle.bilateral_match.specs.declared.hit.Match.{Match}
use Rattle.bilateral_match.specs.Answers.{match_with}
use Rattle.bilateral_match.specs.declared.member.Member.{Member}
use Rattle.bilateral_match.specs.declared.member.Ranks.{Ranks}
use Rattle.bilateral_match.specs.Counts.{attributes_most, attributes_weighed, evaluations_most, is_open}
use Rattle.bilateral_match.specs.Members.{member_with, regard}

-- the match with the ad at a place
abbrev pub match_at : ℕ → List Frame → List Advert → ℕ → Option Match
match_at moment request ads place = option_and_then (match_with moment request place) (slice_get ads place)

-- how many evaluations the ad at a place may take, and how many attributes may be entered in them
abbrev pub evaluations_at : List Frame → List Advert → ℕ → ℕ
evaluations_at request ads place = option_map_or (λ advert. evaluations_most request advert.ad) (slice_get ads place) 0

abbrev pub attributes_at : ℕ → List Frame → List Advert → ℕ → ℕ
attributes_at moment request ads place = option_map_or (λ advert. attributes_most moment request advert.ad) (slice_get ads place) 0

-- ---- the resources at places, as the best is sought among them

-- what the sides of the last dock rank each other where it is true
abbrev pub ranks_in : PlainWorld → Option Ranks
ranks_in w = if is_docked w then Some (record { rank = rank_by w (request_side w); regard = rank_by w (resource_side w) }) else None

-- what the sides rank each other where they dock
abbrev pub ranks_of_dock : ℕ → List Frame → List Frame → Option Ranks
ranks_of_dock moment request ad =
    if docks moment request ad then Some (record { rank = rank_of_dock moment request ad; regard = regard moment request ad }) else None

-- a resource as members are compared, and none where it isn't won
abbrev pub as_member : Ranks → ℕ → Preemption → Member
as_member ranks place preemption = record { rank = ranks.rank; preemption = preemption; regard = ranks.regard; place = place }

abbrev pub where_won : Option Preemption → Ranks → ℕ → Option Member
where_won won ranks place = option_map (as_member ranks place) won

abbrev pub member_at : Pool → List Frame → ℕ → ℕ → Option Member
member_at pool request number place = option_and_then (member_with pool request number place) (slice_get pool.ads place)

-- the job's rank is no lower than the bar, where there is one
abbrev pub reaches : Option ℤ → ℤ → Bool
reaches None rank = true
reaches (Some bar) rank = not (int_lt rank bar)

-- ranks whose rank by the job reaches the bar
abbrev pub ranks_above : Option ℤ → Option Ranks → Option Ranks
ranks_above bar None = None
ranks_above bar (Some ranks) = if reaches bar ranks.rank then Some ranks else None

-- a member whose rank by the job reaches the bar
abbrev pub member_above : Option ℤ → Option Member → Option Member
member_above bar None = None
member_above bar (Some m) = if reaches bar m.rank then Some m else None

-- how many evaluations the resource at a place may take, and how many attributes may be entered in them
abbrev pub evaluations_for : Pool → List Frame → ℕ → ℕ
evaluations_for pool request place = option_map_or (λ advert. if is_open pool request place advert then 5 else 0) (slice_get pool.ads place) 0

abbrev pub attributes_for : Pool → List Frame → ℕ → ℕ
attributes_for pool request place =
    option_map_or (λ advert. if is_open pool request place advert then attributes_weighed pool request place advert else 0) (slice_get pool.ads place) 0
