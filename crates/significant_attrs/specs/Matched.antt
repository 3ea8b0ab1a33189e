-- Requests that an ad can't tell apart.
use Rattle.std.specs.Prelude.{ℕ, ◌≡◌, List, [], ◌∷◌}
use Rattle.ad_tree.specs.Frames.{Frame}
use Rattle.eval_scope.specs.World.{PlainWorld, request_side, resource_side}
use Rattle.ad_eval.specs.Dock.{is_docked, rank_by}

-- the world in which an ad is docked to a single request
abbrev pub docked_to : ℕ → List Frame → List Frame → PlainWorld
docked_to moment request ad = record { moment = moment; request = request; ports = []; docked = ad ∷ [] }

-- both docks are true or neither is, and the ranks on either side are equal
pub record AreMatchedAlike (w v : PlainWorld) : Type 0 where
  pub docks : is_docked w ≡ is_docked v
  pub rank : rank_by w (request_side w) ≡ rank_by v (request_side v)
  pub regard : rank_by w (resource_side w) ≡ rank_by v (resource_side v)
