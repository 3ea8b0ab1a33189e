-- One resource of an offer, by its slot and by its name: the world of its dock, and whether the job wins it.
use Rattle.std.proofs.Common.{◌≡◌, ℕ, suc, All, true, ◌&&◌, List, map, take, sym, ◌∙◌, ap}
use Rattle.std.specs.List.{list_all}
use Rattle.std.proofs.lemmas.List.{take-map}
use Rattle.ad_tree.specs.Ad.{ad_frames}
use Rattle.ad_tree.specs.Frames.{Frame}
use Rattle.ad_tree.specs.declared.request.Port.{Port}
use Rattle.ad_eval.specs.Dock.{is_docked}
use Rattle.ad_store.specs.Stock.{Stock}
use Rattle.dock_match.specs.Preemption.{is_yielded}
use Rattle.dock_match.specs.Pool.{ad_in, regard_in}
use Rattle.claim_table.specs.Jobs.{lists}
use Rattle.claim_table.specs.Priorities.{Setting}
use Rattle.claim_table.specs.declared.job.Job.{Job}
use Rattle.eval_scope.specs.World.{PlainWorld}
use Rattle.claim_table.specs.Claims as claims
use Rattle.pool_books.specs.Books.{name_in, queued}
use Rattle.pool_books.specs.Claiming as seen
use Rattle.pool_books.specs.Negotiation.{frames_named}
use Rattle.pool_books.specs.Ports.{ports_in}
use Rattle.pool_books.specs.Stored.{are_stored}
use Rattle.pool_books.proofs.DockLemmas.{frames-of-all, holder-same}
use Rattle.pool_books.proofs.MatchedLemmas.{IsOwned}
use Rattle.pool_books.proofs.NameLemmas.{AreBeside, Named, beside-is, name_there, named_beside}
use Rattle.pool_books.proofs.QueueLemmas.{map-map}
use Rattle.pool_books.proofs.SlotLemmas.{all-take}

module _ (stock : Stock) (beside : AreBeside stock.ads stock.slots) (moment : ℕ) where
  -- the world of the dock of the resource at a port
  pub world-seen : (job : Job) → IsOwned job → (slots : List ℕ) → list_all (lists stock.slots) slots ≡ true → (port : ℕ)
      → seen.world_at moment stock.ads (queued stock job) (map (name_in stock) slots) port ≡ claims.world_at moment stock job.request slots port
  world-seen job owned slots listed port =
      ap (λ docked. world (ports_in (ad_frames job.request.ad)) docked)
      (ap (map (frames_named stock.ads)) (take-map (name_in stock) (suc port) slots)
      ∙ map-map (frames_named stock.ads) (name_in stock) (take (suc port) slots)
      ∙ frames-of-all stock beside (take (suc port) slots) (all-take (lists stock.slots) (suc port) slots listed))
      ∙ ap (λ ports. world ports (map (ad_in stock) (take (suc port) slots))) (sym owned)
    where
      world : List Port → List (List Frame) → PlainWorld
      world ports docked = record { moment = moment; request = ad_frames job.request.ad; ports = ports; docked = docked }

  module _ (settings : List Setting) (jobs : List Job) (number : ℕ) (stored : are_stored stock.slots jobs ≡ true) (owned : All IsOwned jobs) where
    won-seen : (slot : ℕ) → lists stock.slots slot ≡ true → (world : PlainWorld)
        → seen.is_won moment stock.ads settings (map (queued stock) jobs) number (name_in stock slot) world
        ≡ claims.is_won moment stock settings jobs number slot world
    won-seen slot listed world =
        ap (λ name. seen.is_won moment stock.ads settings (map (queued stock) jobs) number name world) called
        ∙ ap (is_yielded number (regard_in world)) (holder-same stock beside there.place there.advert slot there.at there.slot_at jobs stored moment settings
        owned)
      where
        there : Named stock.ads stock.slots slot (named_beside stock.ads stock.slots slot)
        there = name_there stock.ads stock.slots slot beside.long listed

        called : name_in stock slot ≡ there.advert.name
        called = beside-is stock.ads stock.slots slot ∙ sym there.called

    -- the resource passes by its name as it does by its slot
    pub passes-seen : (slot : ℕ) → lists stock.slots slot ≡ true → (world : PlainWorld)
        → seen.passes moment stock.ads settings (map (queued stock) jobs) number (name_in stock slot) world
        ≡ claims.passes moment stock settings jobs number slot world
    passes-seen slot listed world = ap (λ b. is_docked world && b) (won-seen slot listed world)
