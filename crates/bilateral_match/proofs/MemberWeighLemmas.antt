-- What one resource is for a job, and what it takes to tell.
use Rattle.std.proofs.Common.{◌≡◌, ◌≤◌, ◌+◌, ◌*◌, ℕ, ℤ, zero, suc, Bool, true, false, not, ◌&&◌, refl, List, [], ◌∷◌}
use Rattle.std.proofs.Common.{slice_get, slice_index, Option, None, Some, option_map, if◌then◌else◌, ap, sym, ◌∙◌, arith, zero-le}
use Rattle.std.specs.Option.{option_and_then, option_map_or}
use Rattle.ad_tree.specs.Frames.{Frame}
use Rattle.ad_store.specs.Holdings.{Holding}
use Rattle.ad_store.specs.Stock.{Advert, Stock, is_live}
use Rattle.eval_scope.specs.World.{attribute_count}
use Rattle.conjunct_plan.specs.Decided.{is_dock_decided}
use Rattle.dock_match.specs.declared.preemption.Preemption.{Preemption}
use Rattle.dock_match.specs.Docks.{docks, is_undecided, pair_world, rank_of_dock}
use Rattle.dock_match.specs.Preemption.{preemption_of, won_from}
use Rattle.dock_match.specs.Pool.{Hold, Pool, hold_of, holder_world, pool_of, slot_at}
use Rattle.bilateral_match.specs.declared.member.Member.{Member}
use Rattle.bilateral_match.specs.declared.member.Ranks.{Ranks}
use Rattle.bilateral_match.specs.Counts.{attributes_weighed, is_open}
use Rattle.bilateral_match.specs.Members.{as_member, is_won, member_with, regard}
use Rattle.bilateral_match.specs.Scan.{ranks_of_dock, where_won}
use Rattle.bilateral_match.specs.Scan.{as_member as as_made}
use Rattle.bilateral_match.proofs.ScanLemmas.{decided-docks}

-- ---- the dock

module _ (moment : ℕ) (request ad : List Frame) where
  abbrev ranks-there : Ranks
  ranks-there = record { rank = rank_of_dock moment request ad; regard = regard moment request ad }

  pub ranks-decided : is_dock_decided request 0 [] ad ≡ true → None ≡ ranks_of_dock moment request ad
  ranks-decided decided =
      sym (ap (λ (b : Bool). if b then Some ranks-there else None) (decided-docks moment request ad (ap not decided)))

  -- where they dock, the ranks are those of both sides
  abbrev pub AreRanks : Ranks → Type 0
  AreRanks r = (docks moment request ad ≡ true) × (r.rank ≡ rank_of_dock moment request ad) × (r.regard ≡ regard moment request ad)

  pub are-ranks : (r : Ranks) → ranks_of_dock moment request ad ≡ Some r → AreRanks r
  are-ranks r e = by (docks moment request ad) e
    where
      by : (b : Bool) → (if b then Some ranks-there else None) ≡ Some r
          → (b ≡ true) × (r.rank ≡ rank_of_dock moment request ad) × (r.regard ≡ regard moment request ad)
      by true e = let same : ranks-there ≡ r = cc in (refl, ap (λ (x : Ranks). x.rank) (sym same), ap (λ (x : Ranks). x.regard) (sym same))
      by false e = absurd (cc)

  docked-open : docks moment request ad ≡ true → is_undecided request ad ≡ true
  docked-open docked = by (is_undecided request ad) refl
    where
      by : (b : Bool) → is_undecided request ad ≡ b → is_undecided request ad ≡ true
      by true e = e
      by false e = let not_docked = decided-docks moment request ad e in absurd (cc)

-- ---- the slot at a place

pub read-at : (xs : List ℕ) (i x : ℕ) → slice_get xs i ≡ Some x → slice_index xs i ≡ x
read-at [] i x e = absurd (cc)
read-at (y ∷ ys) zero x e = cc
read-at (y ∷ ys) (suc i) x e = read-at ys i x e

-- ---- a resource

-- a choice over what is mapped is one over what was there
map-or : {A B C : Type 0} → (f : B → C) (g : A → B) (d : C) (o : Option A) → option_map_or f (option_map g o) d ≡ option_map_or (λ x. f (g x)) o d
map-or f g d None = refl
map-or f g d (Some x) = refl

module _ (moment : ℕ) (stock : Stock) (offered : ℕ → Bool) (holding : ℕ → Option Holding) (request : List Frame) (place slot : ℕ)
    (at : slice_get stock.slots place ≡ Some slot) where
  abbrev pool : Pool
  pool = pool_of moment stock offered holding

  here : slot_at stock place ≡ slot
  here = read-at stock.slots place slot at

  offered-here : pool.is_offered place ≡ offered slot
  offered-here = ap offered here

  held-here : pool.held_in place ≡ option_map (hold_of moment stock) (holding slot)
  held-here = ap (λ s. option_map (hold_of moment stock) (holding s)) here

  module _ (number : ℕ) where
    -- how the resource at the place is won
    abbrev won_at : List Frame → Option Preemption
    won_at ad = won_from number (regard moment request ad) (pool.held_in place)

    -- it is won as the contract of the look at the holder says it
    pub won-by : (ad : List Frame) (n : ℤ) (held : Option Holding) → n ≡ regard moment request ad → held ≡ holding slot
        → won_from number n (option_map (hold_of moment stock) held) ≡ won_at ad
    won-by ad n held regards who =
        ap (λ (k : ℤ). won_from number k (option_map (hold_of moment stock) held)) regards
        ∙ ap (won_from number (regard moment request ad)) (ap (option_map (hold_of moment stock)) who ∙ sym held-here)

    abbrev member_of : Option Advert → Option Member
    member_of o = option_and_then (member_with pool request number place) o

    pub none-offered : offered slot ≡ true → (o : Option Advert) → None ≡ member_of o
    none-offered before None = refl
    none-offered before (Some a) =
        sym (by (is_live pool.moment a) (pool.is_offered place) (docks pool.moment request a.ad && is_won pool request number place a.ad)
        (offered-here ∙ before))
      where
        by : (live off rest : Bool) → off ≡ true → (if live && (not off && rest) then Some (as_member pool request place a) else None) ≡ None
        by true true rest e = refl
        by false true rest e = refl
        by live false rest e = absurd (cc)

    pub none-dead : (o : Option Advert) → option_map (is_live pool.moment) o ≡ Some false → None ≡ member_of o
    none-dead None e = refl
    none-dead (Some a) e =
        let dead : is_live pool.moment a ≡ false =
        cc in sym (ap (λ (b : Bool). if b && (not (pool.is_offered place)
        && (docks pool.moment request a.ad && is_won pool request number place a.ad)) then Some (as_member pool request place a) else None) dead)

    module _ (fs : List Frame) where
      none-lost : (o : Option Advert) → option_map (λ a. a.ad) o ≡ Some fs → is_won pool request number place fs ≡ false → None ≡ member_of o
      none-lost None is lost = refl
      none-lost (Some a) is lost =
          let same : a.ad ≡ fs = cc in
          sym (by (is_live pool.moment a) (not (pool.is_offered place)) (docks pool.moment request a.ad) (is_won pool request number place a.ad)
          (ap (is_won pool request number place) same ∙ lost))
        where
          by : (live free docked won : Bool) → won ≡ false
              → (if live && (free && (docked && won)) then Some (as_member pool request place a) else None) ≡ None
          by true true true false e = refl
          by true true false false e = refl
          by true false docked false e = refl
          by false free docked false e = refl
          by live free docked true e = absurd (cc)

      -- as members are compared, where the request ranks the resource so
      abbrev won_with : Ranks → Member
      won_with r = as_made r place (preemption_of (regard moment request fs) (pool.held_in place))

      abbrev made : ℤ → ℤ → ℤ → Member
      made rank given shown = record { rank = rank; preemption = preemption_of given (pool.held_in place); regard = shown; place = place }

      some-won : (o : Option Advert) (r : Ranks) → option_map (λ a. a.ad) o ≡ Some fs → option_map (is_live pool.moment) o ≡ Some true
          → offered slot ≡ false
          → Some r ≡ ranks_of_dock pool.moment request fs → is_won pool request number place fs ≡ true → Some (won_with r) ≡ member_of o
      some-won None r is live free ranks won = absurd (cc)
      some-won (Some a) r is live free ranks won =
          let same : a.ad ≡ fs = cc in
          let lives : is_live pool.moment a ≡ true = cc in
          let both = are-ranks pool.moment request fs r (sym ranks) in
          sym (by (is_live pool.moment a) (pool.is_offered place) (docks pool.moment request a.ad) (is_won pool request number place a.ad)
          lives (offered-here ∙ free) (ap (docks pool.moment request) same ∙ both.0) (ap (is_won pool request number place) same ∙ won)
          ∙ ap (λ (ad : List Frame). Some (made (rank_of_dock pool.moment request ad) (regard pool.moment request ad) (regard pool.moment request ad))) same
          ∙ ap (λ (n : ℤ). Some (made n (regard pool.moment request fs) (regard pool.moment request fs))) (sym both.1)
          ∙ ap (λ (n : ℤ). Some (made r.rank (regard pool.moment request fs) n)) (sym both.2))
        where
          by : (live off docked won : Bool) → live ≡ true → off ≡ false → docked ≡ true → won ≡ true
              → (if live && (not off && (docked && won)) then Some (as_member pool request place a) else None) ≡ Some (as_member pool request place a)
          by true false true true e f g h = refl
          by true false true false e f g h = absurd (cc)
          by true false false won e f g h = absurd (cc)
          by true true docked won e f g h = absurd (cc)
          by false off docked won e f g h = absurd (cc)

      -- where they dock, it is a member if it is won
      pub won-or-lost : (o : Option Advert) (r : Ranks) → option_map (λ a. a.ad) o ≡ Some fs → option_map (is_live pool.moment) o ≡ Some true
          → offered slot ≡ false
          → Some r ≡ ranks_of_dock pool.moment request fs → where_won (won_at fs) r place ≡ member_of o
      won-or-lost o r is live free ranks = by (is_won pool request number place fs) refl
        where
          by : (won : Bool) → is_won pool request number place fs ≡ won
              → where_won (if won then Some (preemption_of (regard moment request fs) (pool.held_in place)) else None) r place ≡ member_of o
          by true e = some-won o r is live free ranks e
          by false e = none-lost o is e

  module _ (fs : List Frame) where
    -- what it takes
    module _ (free : offered slot ≡ false) where
      open-here : (a : Advert) → a.ad ≡ fs → is_undecided request fs ≡ true → is_open pool request place a ≡ true
      open-here a same left = both (is_undecided request a.ad) (pool.is_offered place) (ap (is_undecided request) same ∙ left) (offered-here ∙ free)
        where
          both : (u off : Bool) → u ≡ true → off ≡ false → (u && not off) ≡ true
          both true false e f = refl
          both true true e f = absurd (cc)
          both false off e f = absurd (cc)

      -- up to four evaluations leave one of five
      pub four-of-five : (o : Option Advert) → option_map (λ a. a.ad) o ≡ Some fs
          → (if is_undecided request fs then 4 else 0) ≤ option_map_or (λ a. if is_open pool request place a then 5 else 0) o 0
      four-of-five None is = absurd (cc)
      four-of-five (Some a) is = let same : a.ad ≡ fs = cc in by (is_undecided request fs) refl same
        where
          by : (b : Bool) → is_undecided request fs ≡ b → a.ad ≡ fs → (if b then 4 else 0) ≤ (if is_open pool request place a then 5 else 0)
          by false e same = zero-le
          by true e same = let five = ap {B = ℕ} (λ (b : Bool). if b then 5 else 0) (open-here a same e) in omega (arith, five)

      pub five-in-all : (o : Option Advert) (r : Ranks) → option_map (λ a. a.ad) o ≡ Some fs → Some r ≡ ranks_of_dock pool.moment request fs
          → (if is_undecided request fs then 4 else 0) + 1 ≤ option_map_or (λ a. if is_open pool request place a then 5 else 0) o 0
      five-in-all None r is ranks = absurd (cc)
      five-in-all (Some a) r is ranks =
          let same : a.ad ≡ fs = cc in
          let left = docked-open pool.moment request fs (are-ranks pool.moment request fs r (sym ranks)).0 in
          let five = ap {B = ℕ} (λ (b : Bool). if b then 5 else 0) (open-here a same left) in
          let four = ap {B = ℕ} (λ (b : Bool). if b then 4 else 0) left in
          omega (arith, five, four)

      abbrev job_attributes : ℕ
      job_attributes = 4 * attribute_count (pair_world pool.moment request fs)

      abbrev holder_attributes : ℕ
      holder_attributes = option_map_or (λ h. attribute_count (holder_world moment stock h)) (holding slot) 0

      weighed : (a : Advert) → a.ad ≡ fs → is_undecided request fs ≡ true
          → (if is_open pool request place a then attributes_weighed pool request place a else 0) ≡ job_attributes + holder_attributes
      weighed a same left =
          ap {B = ℕ} (λ (b : Bool). if b then attributes_weighed pool request place a else 0) (open-here a same left)
          ∙ ap (λ (ad : List Frame). 4 * attribute_count (pair_world pool.moment request ad)
          + option_map_or (λ hold. attribute_count hold.world) (pool.held_in place) 0) same
          ∙ ap (λ n. job_attributes + n) (map-or (λ (hold : Hold). attribute_count hold.world) (hold_of moment stock) 0 (holding (slot_at stock place))
          ∙ ap (λ s. option_map_or (λ h. attribute_count (holder_world moment stock h)) (holding s) 0) here)

      pub attributes-of-dock : (o : Option Advert) → option_map (λ a. a.ad) o ≡ Some fs
          → (if is_undecided request fs then job_attributes else 0)
          ≤ option_map_or (λ a. if is_open pool request place a then attributes_weighed pool request place a else 0) o 0
      attributes-of-dock None is = absurd (cc)
      attributes-of-dock (Some a) is = let same : a.ad ≡ fs = cc in by (is_undecided request fs) refl same
        where
          by : (b : Bool) → is_undecided request fs ≡ b → a.ad ≡ fs
              → (if b then job_attributes else 0) ≤ (if is_open pool request place a then attributes_weighed pool request place a else 0)
          by false e same = zero-le
          by true e same = let all = weighed a same e in omega (arith, all)

      pub attributes-in-all : (o : Option Advert) (r : Ranks) → option_map (λ a. a.ad) o ≡ Some fs → Some r ≡ ranks_of_dock pool.moment request fs
          → (if is_undecided request fs then job_attributes else 0) + holder_attributes
          ≤ option_map_or (λ a. if is_open pool request place a then attributes_weighed pool request place a else 0) o 0
      attributes-in-all None r is ranks = absurd (cc)
      attributes-in-all (Some a) r is ranks =
          let same : a.ad ≡ fs = cc in
          let left = docked-open pool.moment request fs (are-ranks pool.moment request fs r (sym ranks)).0 in
          let all = weighed a same left in
          let job = ap {B = ℕ} (λ (b : Bool). if b then job_attributes else 0) left in
          omega (arith, all, job)
