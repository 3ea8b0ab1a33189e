-- What is offered in a cycle is what searches find, and so it is in the store.
use Rattle.std.proofs.Common.{◌≡◌, ◌≤◌, ◌<◌, ◌+◌, ℕ, zero, suc, Bool, true, false, if◌then◌else◌, List, [], ◌∷◌, ◌++◌}
use Rattle.std.proofs.Common.{All, Contains, length, slice_get, Option, None, Some, refl, sym, subst, arith}
use Rattle.std.specs.Prelude.{IfSome, option_and_then, option_map}
use Rattle.std.specs.List.{cons_option}
use Rattle.std.specs.Ordering.{is_lt}
use Rattle.std.proofs.lemmas.List.{get_or_default, length-map}
use Rattle.std.proofs.lemmas.List.Elements.{All-append, All-cons, All-head, All-nil, All-tail}
use Rattle.std.proofs.lemmas.Option.{none-some, same_Some}
use Rattle.ad_tree.specs.Ad.{ad_frames}
use Rattle.ad_tree.specs.Frames.{Frame}
use Rattle.ad_tree.specs.declared.request.Port.{Port}
use Rattle.ad_store.specs.declared.store.Store.{Store}
use Rattle.ad_store.specs.Stock.{Advert, Stock}
use Rattle.ad_store.specs.Store.{stock_of}
use Rattle.dock_match.specs.Pool.{Pool, slot_at}
use Rattle.bilateral_match.specs.declared.member.Member.{Member}
use Rattle.bilateral_match.specs.Members.{as_member, best, earlier, first_of, is_member, member_order, members, members_from}
use Rattle.claim_table.specs.declared.job.Job.{Job}
use Rattle.job_clusters.specs.Pools.{pool_for}
use Rattle.negotiator.specs.Cycle.{Market, Offer, cycle_of, is_empty, offers_in, offers_of, places, shares_of, spin, spins_within, turn, turns, users_of}
use Rattle.negotiator.specs.Cycle.{waiting_count}
use Rattle.negotiator.specs.Markets.{found, found_by, found_for, market_of, with_offers}
use Rattle.claim_table.specs.Priorities.{Setting, priority_of}
use Rattle.negotiator.proofs.CycleLemmas.{offer, offers-kept, turn-by}
use Rattle.negotiator.proofs.GangLemmas.{gang-all, slots-stored}

-- ---- in a cycle

module _ {R : Type 0} (market : Market R) (P : List R → Type 0)
    (finds : (made : List (Offer R)) (i : ℕ) (rs : List R) → market.find made i ≡ Some rs → P rs) where
  abbrev Q : Offer R → Type 0
  Q o = P o.resources

  turn-all : (user : List ℕ) (is : List ℕ) (left : ℕ) (given : Bool) (made : List (Offer R)) → All Q (turn market user is left given made)
  turn-all user =
      turn-by market user (λ is left given made os. All Q os)
      (λ left given made. All-nil Q)
      (λ i is left given made rest h. h)
      (λ i is left given made. All-nil Q)
      (λ i is left given made rest rs w f h. All-cons Q (offer i rs) rest (finds made i rs f) h)

  turns-all : (users : List (List ℕ)) (slices : List ℕ) (made : List (Offer R)) → All Q (offers_in (turns market users slices made))
  turns-all [] slices made = All-nil Q
  turns-all (user ∷ users) [] made = All-nil Q
  turns-all (user ∷ users) (slice ∷ slices) made =
      let os = turn market user (places market.jobs) slice false made in
      All-append Q os (offers_in (turns market users slices (made ++ os))) (turn-all user (places market.jobs) slice false made)
      (turns-all users slices (made ++ os))

  spin-all : (made : List (Offer R)) → All Q (offers_in (spin market made).turns)
  spin-all made =
      subst (All Q) (sym (offers-kept (turns market (users_of market made) (shares_of market made) made)))
      (turns-all (users_of market made) (shares_of market made) made)

  spins-all : (n : ℕ) (made : List (Offer R)) → All Q (offers_of (spins_within market n made))
  spins-all zero made = All-nil Q
  spins-all (suc n) made = by (is_empty (spin market made).turns) (spins-all n (made ++ offers_in (spin market made).turns))
    where
      by : (b : Bool) → All Q (offers_of (spins_within market n (made ++ offers_in (spin market made).turns)))
          → All Q (offers_of (spin market made ∷ (if b then [] else spins_within market n (made ++ offers_in (spin market made).turns))))
      by true rest = All-append Q (offers_in (spin market made).turns) [] (spin-all made) (All-nil Q)
      by false rest =
          All-append Q (offers_in (spin market made).turns) (offers_of (spins_within market n (made ++ offers_in (spin market made).turns))) (spin-all made)
          rest

  pub cycle-all : All Q (offers_of (cycle_of market))
  cycle-all = spins-all (suc (waiting_count market [])) []

-- ---- what a search finds

first-all : (P : Member → Type 0) (ms : List Member) → All P ms → IfSome (first_of ms) P
first-all P [] h = tt
first-all P (m ∷ ms) h = by (first_of ms) (first-all P ms (All-tail P m ms h))
  where
    head : P m
    head = All-head P m ms h

    choose : (a : Member) (c : Bool) → P a → IfSome (if c then Some a else Some m) P
    choose a true p = p
    choose a false p = head

    by : (o : Option Member) → IfSome o P → IfSome (earlier (Some m) o) P
    by None p = head
    by (Some a) p = choose a (is_lt (member_order a m)) p

module _ (pool : Pool) (request : List Frame) (number : ℕ) where
  abbrev Below : ℕ → Member → Type 0
  Below n m = m.place < n

  members-below : (n k : ℕ) (ads : List Advert) → k + length ads ≤ n → All (Below n) (members_from pool request number k ads)
  members-below n k [] fits = All-nil (Below n)
  members-below n k (a ∷ ads) fits = by (is_member pool request number k a) (members-below n (suc k) ads (omega (arith, fits)))
    where
      by : (b : Bool) → All (Below n) (members_from pool request number (suc k) ads)
          → All (Below n) (cons_option (if b then Some (as_member pool request k a) else None) (members_from pool request number (suc k) ads))
      by true rest = All-cons (Below n) (as_member pool request k a) (members_from pool request number (suc k) ads) (omega (arith, fits)) rest
      by false rest = rest

  best-below : (n : ℕ) → length pool.ads ≤ n → IfSome (best pool request number) (Below n)
  best-below n fits = first-all (Below n) (members pool request number) (members-below n 0 pool.ads (omega (arith, fits)))

module _ (moment : ℕ) (stock : Stock) (settings : List Setting) (beside : length stock.ads ≤ length stock.slots) where
  at-place : (place : ℕ) → place < length stock.slots → Contains stock.slots (slot_at stock place)
  at-place place within = (place, within, get_or_default stock.slots place (slot_at stock place) 0 within)

  found-by : (jobs : List Job) (number : ℕ) (request : List Frame) (ports : List Port) (slots : List ℕ)
      → found_by stock (pool_for moment stock settings jobs) number request ports ≡ Some slots → All (Contains stock.slots) slots
  found-by jobs number request [] slots e =
      by (best (pool_for moment stock settings jobs) request number)
      (best-below (pool_for moment stock settings jobs) request number (length stock.slots) beside) e
    where
      by : (o : Option Member) → IfSome o (λ m. m.place < length stock.slots)
          → option_map (λ slot. slot ∷ []) (option_map (λ (m : Member). slot_at stock m.place) o) ≡ Some slots → All (Contains stock.slots) slots
      by None h e = absurd (none-some slots e)
      by (Some m) h e =
          subst (All (Contains stock.slots)) (same_Some (slot_at stock m.place ∷ []) slots e)
          (All-cons (Contains stock.slots) (slot_at stock m.place) [] (at-place m.place h) (All-nil (Contains stock.slots)))
  found-by jobs number request (port ∷ ports) slots e =
      subst (λ o. IfSome o (All (Contains stock.slots))) e
      (gang-all moment stock settings jobs request (port ∷ ports) (All (Contains stock.slots))
      (λ places is. slots-stored moment stock settings jobs request (port ∷ ports) places is beside)
      (found_by stock (pool_for moment stock settings jobs) number request (port ∷ ports)) refl)

  pub found-stored : (jobs : List Job) (i : ℕ) (slots : List ℕ) → found moment stock settings jobs i ≡ Some slots → All (Contains stock.slots) slots
  found-stored jobs i slots e = by (slice_get jobs i) e
    where
      by : (o : Option Job)
          → option_and_then (λ (job : Job). found_for moment stock settings jobs (priority_of job.user settings) job.request) o ≡ Some slots
          → All (Contains stock.slots) slots
      by None e = absurd (none-some slots e)
      by (Some job) e = found-by jobs (priority_of job.user settings) (ad_frames job.request.ad) job.request.ports slots e

-- ---- a store

module _ (store : Store) where
  pub beside : length (stock_of store).ads ≤ length (stock_of store).slots
  beside = simp length-map (omega arith)

  pub cycle-stored : (moment : ℕ) (settings : List Setting) (jobs : List Job)
      → All (λ (o : Offer ℕ). All (Contains (stock_of store).slots) o.resources) (offers_of (cycle_of (market_of moment (stock_of store) settings jobs)))
  cycle-stored moment settings jobs =
      cycle-all (market_of moment (stock_of store) settings jobs) (All (Contains (stock_of store).slots))
      (λ made i slots e. found-stored moment (stock_of store) settings beside (with_offers made jobs) i slots e)
