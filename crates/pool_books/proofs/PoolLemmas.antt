-- The pool of a state, by the names of its resources, and that of a table of jobs, by their slots: they say the same of each place.
use Rattle.std.proofs.Common.{◌≡◌, ℕ, zero, suc, ◌<◌, All, Bool, true, cond, eqb, List, [], ◌∷◌, count_by, length, map, slice_get}
use Rattle.std.proofs.Common.{Option, None, Some, option_map, is_some, refl, sym, ◌∙◌, ap, arith}
use Rattle.std.specs.List.{position_or_len}
use Rattle.std.specs.Option.{option_map_or}
use Rattle.std.proofs.lemmas.List.Elements.{All-head, All-tail}
use Rattle.std.proofs.lemmas.List.Sums.{sum_by-cons}
use Rattle.std.proofs.lemmas.Option.{get_or_from_slice_get}
use Rattle.ad_tree.specs.Frames.{Frame}
use Rattle.ad_tree.specs.declared.request.Port.{Port}
use Rattle.ad_store.specs.Stock.{Advert, Stock}
use Rattle.dock_match.specs.Pool.{Hold, hold_of, slot_at}
use Rattle.bilateral_match.specs.Counts.{open_count}
use Rattle.bilateral_match.specs.Members.{best}
use Rattle.bilateral_match.proofs.PoolLemmas.{best-same, open-same}
use Rattle.claim_table.specs.declared.job.Job.{Job}
use Rattle.claim_table.specs.Holders.{holder_of}
use Rattle.claim_table.specs.Jobs.{offered_to as offeree}
use Rattle.claim_table.specs.Priorities.{Setting}
use Rattle.gang_ports.specs.Gangs.{docks_open, docks_weighed, gang}
use Rattle.gang_ports.proofs.SameLemmas.{docks-same, gang-same, weighed-same}
use Rattle.job_clusters.specs.Pools as pools
use Rattle.negotiator.proofs.GangLemmas.{gang-below}
use Rattle.pool_books.specs.Books.{name_in, queued}
use Rattle.pool_books.specs.Negotiation as seen
use Rattle.pool_books.specs.Queue.{claimed_by, offered_to}
use Rattle.pool_books.specs.Stored.{are_stored}
use Rattle.pool_books.proofs.DockLemmas.{free-same, holder-same, offered-same}
use Rattle.pool_books.proofs.MatchedLemmas.{IsOwned}
use Rattle.pool_books.proofs.NameLemmas.{AreBeside}
use Rattle.pool_books.proofs.SlotLemmas.{position-at}

-- ---- lists

-- an element within a list
record At {A : Type 0} (xs : List A) (i : ℕ) : Type 0 where
  pub it : A
  pub at : slice_get xs i ≡ Some it

get-within : {A : Type 0} (xs : List A) (i : ℕ) → i < length xs → At xs i
get-within [] i within = absurd (omega (arith, within))
get-within (x ∷ xs) zero within = record { it = x; at = refl }
get-within (x ∷ xs) (suc i) within = let rest = get-within xs i (omega (arith, within)) in record { it = rest.it; at = rest.at }

count-beside : {A B : Type 0} (f : A → Bool) (g : B → Bool) (xs : List A) (ys : List B) → length xs ≡ length ys
    → ((i : ℕ) (a : A) (b : B) → slice_get xs i ≡ Some a → slice_get ys i ≡ Some b → f a ≡ g b) → count_by f xs ≡ count_by g ys
count-beside f g [] [] long same = refl
count-beside f g [] (y ∷ ys) long same = absurd (omega (arith, long))
count-beside f g (x ∷ xs) [] long same = absurd (omega (arith, long))
count-beside f g (x ∷ xs) (y ∷ ys) long same =
    let one = ap (λ (b : Bool). let k : ℕ = cond b 1 0 in k) (same 0 x y refl refl) in
    let rest = count-beside f g xs ys (omega (arith, long)) (λ i a b at_x at_y. same (suc i) a b at_x at_y) in
    omega (arith, one, rest, sum_by-cons (λ a. cond (f a) 1 0) x xs, sum_by-cons (λ b. cond (g b) 1 0) y ys)

-- ---- the pool

module _ (stock : Stock) (beside : AreBeside stock.ads stock.slots) where
  abbrev names_at : ℕ → List ℕ
  names_at place = seen.name_at stock.ads place

  -- the name of the resource at a place, and the name in its slot
  pub name-of : (place : ℕ) → place < length stock.ads → names_at place ≡ name_in stock (slot_at stock place)
  name-of place within =
      let s = get-within stock.slots place (let long = beside.long in omega (arith, within, long)) in
      let slot : slot_at stock place ≡ s.it = get_or_from_slice_get stock.slots place s.it 0 s.at in
      let at_slot : position_or_len (λ t. eqb t s.it) stock.slots ≡ place =
      position-at stock.slots place s.it s.at (λ j at_j. beside.apart j place s.it at_j s.at) in
      sym (ap (name_in stock) slot ∙ ap (λ k. option_map_or (λ (x : Advert). x.name) (slice_get stock.ads k) []) at_slot)

  module _ (moment : ℕ) (settings : List Setting) (jobs : List Job) (stored : are_stored stock.slots jobs ≡ true) (owned : All IsOwned jobs) where
    abbrev off_named : ℕ → Bool
    off_named place = is_some (offered_to (names_at place) (map (queued stock) jobs))

    abbrev off_slots : ℕ → Bool
    off_slots place = is_some (offeree (slot_at stock place) jobs)

    abbrev held_named : ℕ → Option Hold
    held_named place = option_map (seen.held_by moment stock.ads settings (names_at place)) (claimed_by (names_at place) (map (queued stock) jobs))

    abbrev held_slots : ℕ → Option Hold
    held_slots place = option_map (hold_of moment stock) (holder_of settings jobs (slot_at stock place))

    same-at : (i : ℕ) → i < length stock.ads → (off_named i ≡ off_slots i) × (held_named i ≡ held_slots i)
    same-at i within =
        let a = get-within stock.ads i within in
        let s = get-within stock.slots i (let long = beside.long in omega (arith, within, long)) in
        let name : names_at i ≡ a.it.name = ap (λ o. option_map_or (λ (x : Advert). x.name) o []) a.at in
        let slot : slot_at stock i ≡ s.it = get_or_from_slice_get stock.slots i s.it 0 s.at in (
          ap (λ n. is_some (offered_to n (map (queued stock) jobs))) name ∙ offered-same stock beside i a.it s.it a.at s.at jobs stored
              ∙ sym (ap (λ k. is_some (offeree k jobs)) slot),
          ap (λ n. option_map (seen.held_by moment stock.ads settings n) (claimed_by n (map (queued stock) jobs))) name
              ∙ holder-same stock beside i a.it s.it a.at s.at jobs stored moment settings owned
              ∙ sym (ap (λ k. option_map (hold_of moment stock) (holder_of settings jobs k)) slot),
        )

    pub best-seen : (number : ℕ) (request : List Frame)
        → best (seen.pool_in moment stock.ads settings (map (queued stock) jobs)) request number
        ≡ best (pools.pool_for moment stock settings jobs) request number
    best-seen number request = best-same moment stock.ads request off_named off_slots held_named held_slots number same-at

    pub open-seen : (request : List Frame)
        → open_count (seen.pool_in moment stock.ads settings (map (queued stock) jobs)) request
        ≡ open_count (pools.pool_for moment stock settings jobs) request
    open-seen request = open-same moment stock.ads request off_named off_slots held_named held_slots same-at

    pub free-seen : count_by (seen.is_free (map (queued stock) jobs)) stock.ads ≡ pools.free_among stock jobs
    free-seen =
        count-beside (seen.is_free (map (queued stock) jobs)) (pools.is_free jobs) stock.ads stock.slots beside.long
        (λ i a s at_a at_s. free-same stock beside i a s at_a at_s jobs stored)

    -- ---- gangs

    gang-seen : (request : List Frame) (ports : List Port)
        → gang (seen.pool_in moment stock.ads settings (map (queued stock) jobs)) request ports
        ≡ gang (pools.pool_for moment stock settings jobs) request ports
    gang-seen request ports = gang-same moment stock.ads off_named off_slots held_named held_slots same-at request ports

    pub docks-seen : (request : List Frame) (ports : List Port)
        → docks_open (seen.pool_in moment stock.ads settings (map (queued stock) jobs)) request ports
        ≡ docks_open (pools.pool_for moment stock settings jobs) request ports
    docks-seen request ports = docks-same moment stock.ads off_named off_slots held_named held_slots same-at request ports

    pub weighed-seen : (request : List Frame) (ports : List Port)
        → docks_weighed (seen.pool_in moment stock.ads settings (map (queued stock) jobs)) request ports
        ≡ docks_weighed (pools.pool_for moment stock settings jobs) request ports
    weighed-seen request ports = weighed-same moment stock.ads off_named off_slots held_named held_slots same-at request ports

    names-of : (places : List ℕ) → All (λ p. p < length stock.ads) places → map names_at places ≡ map (name_in stock) (map (slot_at stock) places)
    names-of [] within = refl
    names-of (p ∷ places) within =
        ap (λ n. n ∷ map names_at places) (name-of p (All-head (λ p. p < length stock.ads) p places within))
        ∙ ap (λ l. name_in stock (slot_at stock p) ∷ l) (names-of places (All-tail (λ p. p < length stock.ads) p places within))

    -- the names of a gang are those in its slots
    pub gang-names : (request : List Frame) (ports : List Port) → option_map (map names_at)
        (gang (seen.pool_in moment stock.ads settings (map (queued stock) jobs)) request ports)
        ≡ option_map (map (name_in stock)) (option_map (map (slot_at stock)) (gang (pools.pool_for moment stock settings jobs) request ports))
    gang-names request ports =
        ap (option_map (map names_at)) (gang-seen request ports)
        ∙ by (gang (pools.pool_for moment stock settings jobs) request ports) refl
      where
        by : (o : Option (List ℕ)) → gang (pools.pool_for moment stock settings jobs) request ports ≡ o
            → option_map (map names_at) o ≡ option_map (map (name_in stock)) (option_map (map (slot_at stock)) o)
        by None there = refl
        by (Some places) there = ap (λ l. Some l) (names-of places (gang-below (pools.pool_for moment stock settings jobs) request ports places there))
