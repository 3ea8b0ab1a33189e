-- Who holds resources, as contracts see it.
use Rattle.std.specs.Prelude.{ℕ, List}
use Rattle.ad_tree.specs.declared.request.Request.{Request}
use Rattle.ad_store.specs.declared.holdings.Held.{Held}

-- a request that holds a list of resources by their slots, of which one stands at a port, and the priority number of its user
pub record Holding : Type 0 where
  pub request : Request
  pub slots : List ℕ
  pub port : ℕ
  pub number : ℕ

-- what a `Held` refers to
abbrev pub holding_of : Held → Holding
holding_of held = record { request = held.request.now; slots = held.slots.now; port = held.port; number = held.number }
