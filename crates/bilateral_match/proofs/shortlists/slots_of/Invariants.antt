use Rattle.std.proofs.Common.{◌≡◌, All, Contains, map, take}
use Rattle.ad_store.specs.Store.{stock_of}
use Rattle.dock_match.specs.Pool.{slot_at}
use Rattle.bilateral_match.proofs.shortlists.slots_of.Given as goal

abbrev pub invariant-loop-member : goal.invariant-loop-member
invariant-loop-member l = record {
  slots : l.slots ≡ map (λ m. slot_at (stock_of l.store) m.place) (take l.member-index l.members);
  held : All (Contains (stock_of l.store).slots) l.slots;
}
