-- The gang of a pool whose resources stand in slots, and of one whose resources are names.
use Rattle.std.proofs.Common.{◌≡◌, ℕ, ◌≤◌, ◌+◌, ◌*◌, All, true, Contains, List, map}
use Rattle.std.proofs.Common.{Option, option_map, IfSome, arith}
use Rattle.ad_tree.specs.Frames.{Frame}
use Rattle.ad_tree.specs.declared.request.Port.{Port}
use Rattle.ad_store.specs.Stock.{Stock}
use Rattle.dock_match.specs.Pool.{slot_at}
use Rattle.claim_table.specs.declared.job.Job.{Job}
use Rattle.claim_table.specs.Priorities.{Setting}
use Rattle.gang_ports.specs.Gangs.{docks_open, docks_weighed, gang}
use Rattle.job_clusters.specs.Pools as pools
use Rattle.negotiator.proofs.GangLemmas.{gang-all, slots-stored}
use Rattle.pool_books.specs.Books.{queued}
use Rattle.pool_books.specs.Negotiation as seen
use Rattle.pool_books.specs.Stored.{are_stored}
use Rattle.pool_books.proofs.MatchedLemmas.{IsOwned}
use Rattle.pool_books.proofs.NameLemmas.{AreBeside}
use Rattle.pool_books.proofs.PoolLemmas.{docks-seen, weighed-seen}
use Rattle.pool_commands.specs.Gangs.{open_docks_of}

module _ (stock : Stock) (beside : AreBeside stock.ads stock.slots) (moment : ℕ) (settings : List Setting) (jobs : List Job)
    (stored : are_stored stock.slots jobs ≡ true) (owned : All IsOwned jobs) where
  -- a search makes no more evaluations than both numbers of docks allow
  pub gang-cost : (request : List Frame) (ports : List Port) (before behind : ℕ)
      → behind ≤ before + 3 * docks_open (pools.pool_for moment stock settings jobs) request ports
      → behind ≤ before + 3 * docks_weighed (pools.pool_for moment stock settings jobs) request ports
      → behind ≤ before + 3 * open_docks_of (seen.pool_in moment stock.ads settings (map (queued stock) jobs)) request ports
  gang-cost request ports before behind prefixes once =
      let docks = docks-seen stock beside moment settings jobs stored owned request ports in
      let weighed = weighed-seen stock beside moment settings jobs stored owned request ports in
      omega (arith, docks, weighed, prefixes, once)

  -- they are in the store
  pub gang-stored : (request : List Frame) (ports : List Port) (found : Option (List ℕ))
      → found ≡ option_map (map (slot_at stock)) (gang (pools.pool_for moment stock settings jobs) request ports) → IfSome found (All (Contains stock.slots))
  gang-stored request ports found is =
      gang-all moment stock settings jobs request ports (All (Contains stock.slots))
      (λ places there. slots-stored moment stock settings jobs request ports places there (let long = beside.long in omega (arith, long))) found is
