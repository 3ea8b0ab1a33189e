-- What jobs find among the resources of a store, by slots and by names.
use Rattle.std.proofs.Common.{◌≡◌, ℕ, suc, ◌+◌, ◌<◌, ◌≤◌, All, Bool, false, true, if◌then◌else◌, List, [], ◌∷◌, length, map, slice_get, Option, None, Some}
use Rattle.std.proofs.Common.{option_map, IfSome, refl, sym, ◌∙◌, ap, arith}
use Rattle.std.specs.List.{cons_option}
use Rattle.std.specs.Option.{option_and_then}
use Rattle.std.specs.Ordering.{is_lt}
use Rattle.std.proofs.lemmas.List.Elements.{All-cons, All-head, All-nil, All-tail}
use Rattle.std.proofs.lemmas.Option.{slice_get-map}
use Rattle.ad_tree.specs.Ad.{ad_frames}
use Rattle.ad_tree.specs.Frames.{Frame}
use Rattle.ad_tree.specs.declared.request.Port.{Port}
use Rattle.ad_store.specs.Stock.{Advert, Stock}
use Rattle.dock_match.specs.Pool.{Pool, slot_at}
use Rattle.bilateral_match.specs.declared.member.Member.{Member}
use Rattle.bilateral_match.specs.Members.{as_member, best, earlier, first_of, is_member, member_order, members_from}
use Rattle.claim_table.specs.declared.job.Job.{Job}
use Rattle.claim_table.specs.Priorities.{Setting, priority_of}
use Rattle.claim_table.proofs.HolderLemmas.{All-found}
use Rattle.job_clusters.specs.Pools as pools
use Rattle.negotiator.specs.Markets as market
use Rattle.pool_books.specs.Books.{name_in, queued}
use Rattle.pool_books.specs.Negotiation as seen
use Rattle.pool_books.specs.Ports.{ports_in}
use Rattle.pool_books.specs.State.{QueuedJob}
use Rattle.pool_books.specs.Stored.{are_stored}
use Rattle.pool_books.proofs.MatchedLemmas.{IsOwned}
use Rattle.pool_books.proofs.NameLemmas.{AreBeside}
use Rattle.pool_books.proofs.PoolLemmas.{best-seen, gang-names, name-of}

-- ---- the best resource is one of the ads

first-all : (P : Member → Type 0) (ms : List Member) → All P ms → IfSome (first_of ms) P
first-all P [] all = tt
first-all P (m ∷ ms) all = by (first_of ms) (first-all P ms (All-tail P m ms all))
  where
    choose : (other : Member) (b : Bool) → P other → IfSome (if b then Some other else Some m) P
    choose other true holds = holds
    choose other false holds = All-head P m ms all

    by : (o : Option Member) → IfSome o P → IfSome (earlier (Some m) o) P
    by None holds = All-head P m ms all
    by (Some other) holds = choose other (is_lt (member_order other m)) holds

members-within : (pool : Pool) (request : List Frame) (number n k : ℕ) (ads : List Advert) → k + length ads ≤ n
    → All (λ (m : Member). m.place < n) (members_from pool request number k ads)
members-within pool request number n k [] fits = All-nil (λ (m : Member). m.place < n)
members-within pool request number n k (a ∷ ads) fits =
    by (is_member pool request number k a) (members-within pool request number n (suc k) ads (omega (arith, fits)))
  where
    by : (b : Bool) → All (λ (m : Member). m.place < n) (members_from pool request number (suc k) ads)
        → All (λ (m : Member). m.place < n) (cons_option (if b then Some (as_member pool request k a) else None) (members_from pool request number (suc k) ads))
    by true rest = All-cons (λ (m : Member). m.place < n) (as_member pool request k a) (members_from pool request number (suc k) ads) (omega (arith, fits)) rest
    by false rest = rest

best-within : (pool : Pool) (request : List Frame) (number : ℕ) → IfSome (best pool request number) (λ m. m.place < length pool.ads)
best-within pool request number =
    first-all (λ (m : Member). m.place < length pool.ads) (members_from pool request number 0 pool.ads)
    (members-within pool request number (length pool.ads) 0 pool.ads (omega arith))

-- ---- what jobs find

module _ (stock : Stock) (beside : AreBeside stock.ads stock.slots) (moment : ℕ) (settings : List Setting) (jobs : List Job)
    (stored : are_stored stock.slots jobs ≡ true) (owned : All IsOwned jobs) where
  abbrev pool_seen : Pool
  pool_seen = seen.pool_in moment stock.ads settings (map (queued stock) jobs)

  abbrev pool_here : Pool
  pool_here = pools.pool_for moment stock settings jobs

  abbrev names_at : ℕ → List ℕ
  names_at place = seen.name_at stock.ads place

  best-named : (number : ℕ) (request : List Frame) → option_map (map names_at) (option_map (λ (m : Member). m.place ∷ []) (best pool_here request number))
      ≡ option_map (map (name_in stock)) (option_map (λ slot. slot ∷ []) (option_map (λ (m : Member). slot_at stock m.place) (best pool_here request number)))
  best-named number request = by (best pool_here request number) (best-within pool_here request number)
    where
      by : (o : Option Member) → IfSome o (λ m. m.place < length stock.ads) → option_map (map names_at) (option_map (λ (m : Member). m.place ∷ []) o)
          ≡ option_map (map (name_in stock)) (option_map (λ slot. slot ∷ []) (option_map (λ (m : Member). slot_at stock m.place) o))
      by None within = refl
      by (Some m) within = ap (λ (n : List ℕ). Some (n ∷ [])) (name-of stock beside m.place within)

  -- what a request with these ports finds
  found-with : (number : ℕ) (request : List Frame) (ports : List Port)
      → option_map (map names_at) (seen.places_for pool_seen number request ports)
      ≡ option_map (map (name_in stock)) (market.found_by stock pool_here number request ports)
  found-with number request [] =
      ap (λ o. option_map (map names_at) (option_map (λ (m : Member). m.place ∷ []) o))
      (best-seen stock beside moment settings jobs stored owned number request) ∙ best-named number request
  found-with number request (port ∷ ports) = gang-names stock beside moment settings jobs stored owned request (port ∷ ports)

  owned-at : (i : ℕ) → IfSome (slice_get jobs i) IsOwned
  owned-at i = by (slice_get jobs i) refl
    where
      by : (o : Option Job) → slice_get jobs i ≡ o → IfSome o IsOwned
      by None at = tt
      by (Some job) at = All-found IsOwned jobs i job owned at

  abbrev seen_for : QueuedJob → Option (List (List ℕ))
  seen_for job = option_map (map names_at) (seen.places_for pool_seen (priority_of job.user settings) job.ad (ports_in job.ad))

  pub find-seen : (i : ℕ)
      → seen.found moment stock.ads settings (map (queued stock) jobs) i ≡ option_map (map (name_in stock)) (market.found moment stock settings jobs i)
  find-seen i = ap (option_and_then seen_for) (slice_get-map (queued stock) jobs i) ∙ by (slice_get jobs i) (owned-at i)
    where
      by : (o : Option Job) → IfSome o IsOwned → option_and_then seen_for (option_map (queued stock) o)
          ≡ option_map (map (name_in stock)) (option_and_then
          (λ (job : Job). market.found_for moment stock settings jobs (priority_of job.user settings) job.request) o)
      by None own = refl
      by (Some job) own =
          ap (λ ports. option_map (map names_at) (seen.places_for pool_seen (priority_of job.user settings) (ad_frames job.request.ad) ports)) (sym own)
          ∙ found-with (priority_of job.user settings) (ad_frames job.request.ad) job.request.ports
