-- The resources of a pool, which are offered, and how they are held.
use Rattle.std.specs.Prelude.{◌≡◌, ℕ, ℤ, suc, Bool, ◌==◌, List, [], map, take, slice_get, slice_index, Option, Some, All, Contains, option_map}
use Rattle.std.specs.List.{position_or_len}
use Rattle.std.specs.Option.{option_map_or}
use Rattle.ad_tree.specs.Ad.{ad_frames}
use Rattle.ad_tree.specs.Frames.{Frame}
use Rattle.ad_tree.specs.declared.request.Request.{Request}
use Rattle.ad_store.specs.Holdings.{Holding}
use Rattle.ad_store.specs.Stock.{Advert, Stock}
use Rattle.eval_scope.specs.World.{PlainWorld, resource_side}
use Rattle.ad_eval.specs.Dock.{rank_by}

-- ---- a pool

-- how a resource is held: the world of the dock by which it is, and the priority number of the holder's user
pub record Hold : Type 0 where
  pub world : PlainWorld
  pub number : ℕ

-- the moment, the resources in order, and for each place whether its resource is offered, and how it is held
pub record Pool : Type 0 where
  pub moment : ℕ
  pub ads : List Advert
  pub is_offered : ℕ → Bool
  pub held_in : ℕ → Option Hold

-- the rank that the resource of the last dock gives the request
abbrev pub regard_in : PlainWorld → ℤ
regard_in world = rank_by world (resource_side world)

-- ---- resources by their slots

-- the slot of the resource at a place
abbrev pub slot_at : Stock → ℕ → ℕ
slot_at stock place = slice_index stock.slots place

-- the frames of the ad in a slot
abbrev pub ad_in : Stock → ℕ → List Frame
ad_in stock slot = option_map_or (λ advert. advert.ad) (slice_get stock.ads (position_or_len (λ s. s == slot) stock.slots)) []

-- the world in which the resources in these slots are docked to a request, in order
abbrev pub slots_world : ℕ → Stock → Request → List ℕ → PlainWorld
slots_world moment stock request slots = record { moment = moment; request = ad_frames request.ad; ports = request.ports; docked = map (ad_in stock) slots }

-- the world of the dock by which a resource is held: those of the holder's resources are docked that stand up to its port
abbrev pub holder_world : ℕ → Stock → Holding → PlainWorld
holder_world moment stock holding = slots_world moment stock holding.request (take (suc holding.port) holding.slots)

-- how a resource is held by this holder
abbrev pub hold_of : ℕ → Stock → Holding → Hold
hold_of moment stock holding = record { world = holder_world moment stock holding; number = holding.number }

-- the pool of a stock, where it is told by slots what is offered, and who holds what
abbrev pub pool_of : ℕ → Stock → (ℕ → Bool) → (ℕ → Option Holding) → Pool
pool_of moment stock is_offered holding = record {
  moment = moment;
  ads = stock.ads;
  is_offered = λ place. is_offered (slot_at stock place);
  held_in = λ place. option_map (hold_of moment stock) (holding (slot_at stock place));
}

-- what is held is in the store
abbrev pub AreStored : Stock → (ℕ → Option Holding) → Type 0
AreStored stock holding = (slot : ℕ) (h : Holding) → holding slot ≡ Some h → All (Contains stock.slots) h.slots
