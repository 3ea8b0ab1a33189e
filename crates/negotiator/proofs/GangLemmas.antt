-- The gang that a request finds: distinct resources of the store that aren't offered, one for each port.
use Rattle.std.proofs.Common.{◌≡◌, ◌≢◌, ◌<◌, ◌≤◌, ◌==◌, ℕ, zero, suc, Bool, true, false, not, ◌&&◌, ◌||◌, List, []}
use Rattle.std.proofs.Common.{◌∷◌, ◌++◌, All, AllPairs, Contains, get_or, length, map, slice_get, Option, None, Some, is_some, refl, ap, sym}
use Rattle.std.proofs.Common.{◌∙◌, subst, arith, eq-eqb}
use Rattle.std.specs.Prelude.{IfSome, option_map}
use Rattle.std.specs.List.{list_any, range_with_len}
use Rattle.std.specs.Option.{option_map_or}
use Rattle.std.proofs.lemmas.List.{get_or_default}
use Rattle.std.proofs.lemmas.List.Elements.{All-cons, All-contains, All-map, All-nil, All-weaker, filter_passes}
use Rattle.std.proofs.lemmas.List.Kept.{AllPairs-cons}
use Rattle.std.proofs.lemmas.Option.{slice_get-get_or, slice_get_within}
use Rattle.ad_tree.specs.Frames.{Frame}
use Rattle.ad_tree.specs.declared.request.Port.{Port}
use Rattle.ad_store.specs.Stock.{Advert, Stock, is_live}
use Rattle.dock_match.specs.Pool.{Pool, slot_at}
use Rattle.claim_table.specs.declared.job.Job.{Job}
use Rattle.claim_table.specs.Jobs.{AreFree, offered_to}
use Rattle.claim_table.specs.Priorities.{Setting}
use Rattle.gang_ports.specs.Choice.{Choice, IsFirst, IsFirstOf, fits, is_among, next, tuples}
use Rattle.gang_ports.specs.Gangs.{choice_of, free_places, gang, is_free}
use Rattle.gang_ports.proofs.LawLemmas.{all-tuples, first-are}
use Rattle.gang_ports.proofs.ListLemmas.{All-flat_map, length-mapped, mapped-at}
use Rattle.job_clusters.specs.Pools.{pool_for}
use Rattle.negotiator.proofs.CycleLemmas.{any-append}

-- ---- the tuples of a choice

-- a tuple of distinct places of which none is among those before
pub record IsApart (before tuple : List ℕ) : Type 0 where
  pub outside : All (λ place. is_among before place ≡ false) tuple
  pub distinct : AllPairs (λ a b. a ≢ b) tuple

fits-outside : (a b : Bool) → not a && b ≡ true → a ≡ false
fits-outside false b e = refl
fits-outside true b e = absurd (cc)

either-false : (a b : Bool) → a || b ≡ false → (a ≡ false) × (b ≡ false)
either-false false false e = (refl, refl)
either-false false true e = absurd (cc)
either-false true b e = absurd (cc)

-- a place in front of a tuple
module _ (before : List ℕ) (place : ℕ) (tuple : List ℕ) (outside : is_among before place ≡ false)
    (behind : IsApart (before ++ place ∷ []) tuple) where
  neither : (other : ℕ) → is_among (before ++ place ∷ []) other ≡ false
      → (is_among before other ≡ false) × (list_any (λ p. p == other) (place ∷ []) ≡ false)
  neither other e =
      either-false (is_among before other) (list_any (λ p. p == other) (place ∷ [])) (sym (any-append (λ p. p == other) before (place ∷ [])) ∙ e)

  differs : (other : ℕ) → is_among (before ++ place ∷ []) other ≡ false → place ≢ other
  differs other e same = by (place == other) (eq-eqb place other same) ((neither other e).1)
    where
      by : (b : Bool) → b ≡ true → b || false ≡ false → ⊥
      by true is apart = cc
      by false is apart = cc

  apart-cons : IsApart before (place ∷ tuple)
  apart-cons = record {
    outside =
        All-cons (λ p. is_among before p ≡ false) place tuple outside
        (All-weaker (λ p. is_among (before ++ place ∷ []) p ≡ false) (λ p. is_among before p ≡ false) (λ p e. (neither p e).0) tuple behind.outside);
    distinct =
        AllPairs-cons (λ (a b : ℕ). a ≢ b) place tuple
        (All-weaker (λ p. is_among (before ++ place ∷ []) p ≡ false) (λ p. place ≢ p) differs tuple behind.outside) behind.distinct;
  }

module _ (choice : Choice) where
  abbrev below : ℕ → List ℕ → ℕ → List (List ℕ)
  below n before place = map (λ tuple. place ∷ tuple) (tuples choice n (before ++ place ∷ []))

  tuples-long : (n : ℕ) (before : List ℕ) → All (λ tuple. length tuple ≡ n) (tuples choice n before)
  unfolding tuples
  tuples-long zero before = All-cons (λ (tuple : List ℕ). length tuple ≡ 0) [] [] refl (All-nil (λ (tuple : List ℕ). length tuple ≡ 0))
  tuples-long (suc n) before =
      All-flat_map (λ tuple. length tuple ≡ suc n) (below n before) (next choice before)
      (λ k d within.
      let place = get_or (next choice before) k d in
      All-map (λ tuple. length tuple ≡ suc n) (λ tuple. place ∷ tuple) (tuples choice n (before ++ place ∷ []))
      (λ j e w. ap suc (tuples-long n (before ++ place ∷ []) j e w)))

  tuples-apart : (n : ℕ) (before : List ℕ) → All (IsApart before) (tuples choice n before)
  unfolding tuples next fits
  tuples-apart zero before =
      All-cons (IsApart before) [] [] (record {
        outside =
            All-nil (λ p. is_among before p ≡ false);
        distinct = λ i j d lower within. absurd (omega (arith, within));
      }) (All-nil (IsApart before))
  tuples-apart (suc n) before =
      All-flat_map (IsApart before) (below n before) (next choice before)
      (λ k d within.
      let place = get_or (next choice before) k d in
      let outside : is_among before place ≡ false =
      fits-outside (is_among before place) (choice.dock before place) (filter_passes (fits choice before) choice.free k d within) in
      All-map (IsApart before) (λ tuple. place ∷ tuple) (tuples choice n (before ++ place ∷ []))
      (λ j e w. apart-cons before place (get_or (tuples choice n (before ++ place ∷ [])) j e) outside (tuples-apart n (before ++ place ∷ []) j e w)))

-- ---- the gang

module _ (pool : Pool) (request : List Frame) (ports : List Port) (places : List ℕ) (is : gang pool request ports ≡ Some places) where
  abbrev all : List (List ℕ)
  all = tuples (choice_of pool request ports) (length ports) []

  first : IsFirst (choice_of pool request ports) [] all places
  first = subst (IsFirstOf (choice_of pool request ports) all) is (first-are (choice_of pool request ports) all)

  gang-long : length places ≡ length ports
  gang-long = All-contains (λ tuple. length tuple ≡ length ports) all places (tuples-long (choice_of pool request ports) (length ports) []) first.among

  gang-apart : AllPairs (λ a b. a ≢ b) places
  gang-apart = (All-contains (IsApart []) all places (tuples-apart (choice_of pool request ports) (length ports) []) first.among).distinct

  gang-free : All (λ place. is_free pool place ≡ true) places
  unfolding free_places
  gang-free =
      All-contains (λ tuple. All (λ place. is_free pool place ≡ true) tuple) all places
      (all-tuples (choice_of pool request ports) (λ place. is_free pool place ≡ true) (filter_passes (is_free pool) (range_with_len 0 (length pool.ads)))
      (length ports) [])
      first.among

  pub gang-below : All (λ place. place < length pool.ads) places
  gang-below =
      All-weaker (λ place. is_free pool place ≡ true) (λ place. place < length pool.ads) (λ place free. by place (slice_get pool.ads place) refl free)
      places gang-free
    where
      by : (place : ℕ) (o : Option Advert) → slice_get pool.ads place ≡ o
          → option_map_or (is_live pool.moment) o false && (not (pool.is_offered place) && not (is_some (pool.held_in place))) ≡ true
          → place < length pool.ads
      by place None at free = absurd (cc)
      by place (Some advert) at free = slice_get_within pool.ads place advert at

  gang-unoffered : All (λ place. pool.is_offered place ≡ false) places
  gang-unoffered =
      All-weaker (λ place. is_free pool place ≡ true) (λ place. pool.is_offered place ≡ false)
      (λ place free. by (option_map_or (is_live pool.moment) (slice_get pool.ads place) false) (pool.is_offered place) (not (is_some (pool.held_in place)))
      free) places gang-free
    where
      by : (a b c : Bool) → a && (not b && c) ≡ true → b ≡ false
      by a false c e = refl
      by false true c e = absurd (cc)
      by true true c e = absurd (cc)

pub not-some : {A : Type 0} (o : Option A) → is_some o ≡ false → o ≡ None
not-some None e = refl
not-some (Some a) e = absurd (cc)

-- ---- the gang by its slots

module _ (moment : ℕ) (stock : Stock) (settings : List Setting) (jobs : List Job) (request : List Frame) (ports : List Port) where
  abbrev pool : Pool
  pool = pool_for moment stock settings jobs

  -- what holds of the slots of the gang holds of what a search for it finds
  pub gang-all : (P : List ℕ → Type 0) → ((places : List ℕ) → gang pool request ports ≡ Some places → P (map (slot_at stock) places))
      → (o : Option (List ℕ)) → o ≡ option_map (map (slot_at stock)) (gang pool request ports) → IfSome o P
  gang-all P each o e = subst (λ (p : Option (List ℕ)). IfSome p P) (sym e) (by (gang pool request ports) refl)
    where
      by : (g : Option (List ℕ)) → gang pool request ports ≡ g → IfSome (option_map (map (slot_at stock)) g) P
      by None is = tt
      by (Some places) is = each places is

  module _ (places : List ℕ) (is : gang pool request ports ≡ Some places) where
    pub slots-many : length (map (slot_at stock) places) ≡ length ports
    slots-many = length-mapped (slot_at stock) places ∙ gang-long pool request ports places is

    pub slots-free : AreFree (map (slot_at stock) places) jobs
    slots-free =
        All-map (λ slot. offered_to slot jobs ≡ None) (slot_at stock) places
        (All-weaker (λ place. pool.is_offered place ≡ false) (λ place. offered_to (slot_at stock place) jobs ≡ None)
        (λ place e. not-some (offered_to (slot_at stock place) jobs) e) places (gang-unoffered pool request ports places is))

    module _ (beside : length stock.ads ≤ length stock.slots) where
      within-slots : (k : ℕ) → k < length places → get_or places k 0 < length stock.slots
      within-slots k inside = let low = gang-below pool request ports places is k 0 inside in omega (arith, low, beside)

      pub slots-stored : All (Contains stock.slots) (map (slot_at stock) places)
      slots-stored =
          All-map (Contains stock.slots) (slot_at stock) places
          (All-weaker (λ place. place < length stock.ads) (λ place. Contains stock.slots (slot_at stock place))
          (λ place low. let within : place < length stock.slots =
          omega (arith, low, beside) in (place, within, get_or_default stock.slots place (slot_at stock place) 0 within)) places
          (gang-below pool request ports places is))

      -- distinct places have distinct slots
      pub slots-distinct : ((i j slot : ℕ) → slice_get stock.slots i ≡ Some slot → slice_get stock.slots j ≡ Some slot → i ≡ j)
          → AllPairs (λ a b. a ≢ b) (map (slot_at stock) places)
      slots-distinct apart i j d lower within = λ same.
          let long = length-mapped (slot_at stock) places in
          let inside : j < length places = omega (arith, within, long) in
          let before : i < length places = omega (arith, lower, inside) in
          let one = slice_get-get_or stock.slots (get_or places i 0) 0 (within-slots i before) in
          let other = slice_get-get_or stock.slots (get_or places j 0) 0 (within-slots j inside) in
          let slots : slot_at stock (get_or places i 0) ≡ slot_at stock (get_or places j 0) =
          sym (mapped-at (slot_at stock) places i d 0 before) ∙ same ∙ mapped-at (slot_at stock) places j d 0 inside in
          gang-apart pool request ports places is i j 0 lower inside
          (apart (get_or places i 0) (get_or places j 0) (slot_at stock (get_or places j 0)) (one ∙ ap Some slots) other)
