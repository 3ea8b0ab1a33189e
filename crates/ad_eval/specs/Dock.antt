-- Requirements, ranks and docks.
use Rattle.std.specs.Prelude.{ℕ, ◌+◌, Bool, true, false, ◌&&◌, is_some, if◌then◌else◌, ℤ, pos, ◌*ℤ◌}
use Rattle.std.specs.Option.{option_map_or}
use Rattle.pool_text.specs.declared.language.AdPlace.{AdPlace}
use Rattle.pool_text.specs.declared.language.Pos.{Pos}
use Rattle.ad_value.specs.Numbers.{million}
use Rattle.ad_value.specs.Plain.{Plain, boolean, decimal, integer}
use Rattle.ad_value.specs.Logic.{is_true}
use Rattle.ad_tree.specs.Special.{requirement_of, rank_of}
use Rattle.eval_scope.specs.World.{PlainWorld, frames_of_ad, request_side, resource_side}
use Rattle.ad_eval.specs.Value.{evaluation_at}

-- attribute k of the frame at a place
abbrev pub attribute_of : AdPlace → ℕ → Pos
attribute_of p k = record { ad = p.ad; frame = p.frame; attr = k }

-- the requirement of the frame at a place is the Boolean true; without one it isn't
abbrev pub meets_requirement : PlainWorld → AdPlace → Bool
meets_requirement w p = option_map_or (λ k. is_true (evaluation_at w (attribute_of p k))) (requirement_of (frames_of_ad w p.ad) p.frame) false

-- how many evaluations it takes to ask for it: one where there is one
abbrev pub evaluations_of_requirement : PlainWorld → AdPlace → ℕ
evaluations_of_requirement w p = if is_some (requirement_of (frames_of_ad w p.ad) p.frame) then 1 else 0

-- a rank in millionths: an Integer's, a Decimal's, those of 1 for true, and 0 for all else
abbrev pub rank_number : Plain → ℤ
rank_number (integer n) = n *ℤ million
rank_number (decimal m) = m
rank_number (boolean true) = million
rank_number value = pos 0

-- the rank by the frame at a place, 0 where it has none
abbrev pub rank_by : PlainWorld → AdPlace → ℤ
rank_by w p = option_map_or (λ k. rank_number (evaluation_at w (attribute_of p k))) (rank_of (frames_of_ad w p.ad) p.frame) (pos 0)

-- how many evaluations it takes to ask for it: one where there is one
abbrev pub evaluations_of_rank : PlainWorld → AdPlace → ℕ
evaluations_of_rank w p = if is_some (rank_of (frames_of_ad w p.ad) p.frame) then 1 else 0

-- the requirements of both sides of the last dock are true
abbrev pub is_docked : PlainWorld → Bool
is_docked w = meets_requirement w (request_side w) && meets_requirement w (resource_side w)

-- how many evaluations it takes to ask for them: the resource's is asked for only where the request's is true
abbrev pub evaluations_of_dock : PlainWorld → ℕ
evaluations_of_dock w =
    evaluations_of_requirement w (request_side w)
    + (if meets_requirement w (request_side w) then evaluations_of_requirement w (resource_side w) else 0)
