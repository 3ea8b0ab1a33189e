-- Going through places: the members that are found, and how often resources are evaluated.
use Rattle.std.proofs.Common.{◌≡◌, ◌<◌, ◌≤◌, ◌+◌, ◌*◌, ℕ, suc, Bool, true, false, not, ◌&&◌, refl, List, [], ◌∷◌, ◌++◌}
use Rattle.std.proofs.Common.{Option, None, Some, option_map, slice_get, get_or, take, sum_by, if◌then◌else◌, length, All, IfSome, ap, sym, ◌∙◌}
use Rattle.std.proofs.Common.{subst, arith, zero-add}
use Rattle.std.specs.List.{cons_option, filter_map}
use Rattle.std.specs.Option.{option_and_then, option_map_or}
use Rattle.std.proofs.lemmas.List.Elements.{All-cons, All-contains, All-nil, All-tail}
use Rattle.std.proofs.lemmas.List.Sums.{sum_by-cons}
use Rattle.ad_tree.specs.Frames.{Frame}
use Rattle.ad_store.specs.Stock.{Advert, Stock, is_live}
use Rattle.ad_candidates.specs.Candidates.{AreCandidates}
use Rattle.dock_match.specs.Docks.{docks, is_undecided}
use Rattle.dock_match.specs.Pool.{Pool, slot_at}
use Rattle.bilateral_match.specs.declared.member.Member.{Member}
use Rattle.bilateral_match.specs.Counts.{attributes_weighed, entered_for, is_open, open_count, sum_from}
use Rattle.bilateral_match.specs.Members.{IsBest, as_member, best, earlier, first_of, is_won, member_with, members, members_from}
use Rattle.bilateral_match.specs.Scan.{attributes_for, evaluations_for, member_at}
use Rattle.bilateral_match.proofs.LoopLemmas.{finds-all, finds-next}
use Rattle.bilateral_match.proofs.MemberLemmas.{first-is-best, first-next, one-first}
use Rattle.bilateral_match.proofs.ScanLemmas.{all-total, decided-docks, sum-filter_map}

module _ (pool : Pool) (request : List Frame) where
  -- ---- a decided dock is not among the members

  nothing-won : (live free won : Bool) → (live && (free && (false && won))) ≡ false
  nothing-won true true won = refl
  nothing-won true false won = refl
  nothing-won false free won = refl

  no-member : (number place : ℕ) (advert : Advert) → is_undecided request advert.ad ≡ false → member_with pool request number place advert ≡ None
  no-member number place advert decided =
      ap (λ (b : Bool). if b then Some (as_member pool request place advert) else None)
      (ap (λ (d : Bool). is_live pool.moment advert && (not (pool.is_offered place) && (d && is_won pool request number place advert.ad)))
      (decided-docks pool.moment request advert.ad decided)
      ∙ nothing-won (is_live pool.moment advert) (not (pool.is_offered place)) (is_won pool request number place advert.ad))

  not-open : (place : ℕ) (advert : Advert) → is_undecided request advert.ad ≡ false → is_open pool request place advert ≡ false
  not-open place advert decided = ap (λ (b : Bool). b && not (pool.is_offered place)) decided

  -- ---- sums over all ads

  members-total : (number : ℕ) (f : Member → ℕ) (k : ℕ) (ads : List Advert)
      → sum_by f (members_from pool request number k ads) ≡ sum_from (λ place a. option_map_or f (member_with pool request number place a) 0) k ads
  members-total number f k [] = refl
  members-total number f k (a ∷ ads) = by (members-total number f (suc k) ads) (member_with pool request number k a)
    where
      by : sum_by f (members_from pool request number (suc k) ads)
          ≡ sum_from (λ place a. option_map_or f (member_with pool request number place a) 0) (suc k) ads → (o : Option Member)
          → sum_by f (cons_option o (members_from pool request number (suc k) ads))
          ≡ option_map_or f o 0 + sum_from (λ place a. option_map_or f (member_with pool request number place a) 0) (suc k) ads
      by behind None = behind ∙ sym (zero-add (sum_from (λ place a. option_map_or f (member_with pool request number place a) 0) (suc k) ads))
      by behind (Some m) = sum_by-cons f m (members_from pool request number (suc k) ads) ∙ ap (λ n. f m + n) behind

  five-times : (k : ℕ) (ads : List Advert)
      → sum_from (λ place a. if is_open pool request place a then 5 else 0) k ads
      ≡ 5 * sum_from (λ place a. if is_open pool request place a then 1 else 0) k ads
  five-times k [] = refl
  five-times k (a ∷ ads) =
      let rest = five-times (suc k) ads in
      let one = five (is_open pool request k a) in
      omega (arith, rest, one)
    where
      five : (b : Bool) → (if b then 5 else 0) ≡ 5 * (if b then 1 else 0)
      five true = refl
      five false = refl

  -- ---- over the candidates

  module _ (places : List ℕ) (some : AreCandidates request pool.ads places) where
    pub found-members : (number : ℕ) (f : Member → ℕ)
        → sum_by f (filter_map (member_at pool request number) places) ≡ sum_by f (members pool request number)
    found-members number f =
        sum-filter_map f (member_at pool request number) places
        ∙ all-total pool.moment request pool.ads places some
        (λ place a. option_map_or f (member_with pool request number place a) 0) (λ place. option_map_or f (member_at pool request number place) 0)
        (λ place a e. ap (λ o. option_map_or f o 0) (no-member number place a e))
        (λ place a is. ap (λ o. option_map_or f (option_and_then (member_with pool request number place) o) 0) is)
        ∙ sym (members-total number f 0 pool.ads)

    -- the first of what is found is the best
    pub found-best : (number : ℕ) (first : Option Member) → IsBest (filter_map (member_at pool request number) places) first
        → first ≡ best pool request number
    found-best number first h =
        one-first (filter_map (member_at pool request number) places) (members pool request number) first (first_of (members pool request number))
        (found-members number) h (first-is-best (members pool request number))

    pub open-sum : sum_by (evaluations_for pool request) places ≡ 5 * open_count pool request
    open-sum =
        all-total pool.moment request pool.ads places some
        (λ place a. if is_open pool request place a then 5 else 0) (evaluations_for pool request)
        (λ place a e. ap (λ (b : Bool). if b then 5 else 0) (not-open place a e))
        (λ place a is. ap (λ o. option_map_or (λ (advert : Advert). if is_open pool request place advert then 5 else 0) o 0) is)
        ∙ five-times 0 pool.ads

    pub entered-sum : sum_by (attributes_for pool request) places ≡ entered_for pool request
    entered-sum =
        all-total pool.moment request pool.ads places some
        (λ place a. if is_open pool request place a then attributes_weighed pool request place a else 0) (attributes_for pool request)
        (λ place a e. ap (λ (b : Bool). if b then attributes_weighed pool request place a else 0) (not-open place a e))
        (λ place a is. ap (λ o. option_map_or (λ (advert : Advert). if is_open pool request place advert then attributes_weighed pool request place
        advert else 0) o 0) is)

-- ---- step by step

module _ (h : ℕ → Option Member) (xs : List ℕ) (i : ℕ) where
  pub first-grows : (first new next : Option Member) → i < length xs → IsBest (filter_map h (take i xs)) first → next ≡ h (get_or xs i 0)
      → new ≡ earlier first next → IsBest (filter_map h (take (i + 1) xs)) new
  first-grows first new next within so_far found is =
      let P : Option Member → Type 0 = λ o. IsBest (filter_map h (take (i + 1) xs)) o in
      let Q : List Member → Type 0 = λ ms. IsBest ms (earlier first next) in
      subst P (sym is)
      (subst Q (finds-next h xs i (filter_map h (take i xs)) (filter_map h (take i xs) ++ cons_option next []) next within refl found refl)
      (first-next (filter_map h (take i xs)) first next so_far))

  pub first-ends : (ys : List ℕ) (first : Option Member) → xs ≡ ys → length xs ≤ i → IsBest (filter_map h (take i xs)) first
      → IsBest (filter_map h ys) first
  first-ends ys first same past so_far =
      let Q : List Member → Type 0 = λ ms. IsBest ms first in
      subst Q (finds-all h xs i ys (filter_map h (take i xs)) same past refl) so_far

-- ---- what each member is

module _ (pool : Pool) (request : List Frame) (number : ℕ) (P : Member → Type 0) where
  pub all-found : (places : List ℕ) → All (λ place. (m : Member) → member_at pool request number place ≡ Some m → P m) places
      → All P (filter_map (member_at pool request number) places)
  all-found [] h = All-nil P
  all-found (place ∷ places) h =
      by (all-found places (All-tail (λ place. (m : Member) → member_at pool request number place ≡ Some m → P m) place places h))
      (member_at pool request number place) refl
    where
      by : All P (filter_map (member_at pool request number) places) → (o : Option Member) → member_at pool request number place ≡ o
          → All P (cons_option o (filter_map (member_at pool request number) places))
      by rest None e = rest
      by rest (Some m) e = All-cons P m (filter_map (member_at pool request number) places) (h 0 place (omega arith) m e) rest

  of-first : (places : List ℕ) (first : Option Member) → IsBest (filter_map (member_at pool request number) places) first
      → All (λ place. (m : Member) → member_at pool request number place ≡ Some m → P m) places → IfSome first P
  of-first places None is h = tt
  of-first places (Some m) is h = All-contains P (filter_map (member_at pool request number) places) m (all-found places h) is.among

module _ (pool : Pool) (request : List Frame) (number : ℕ) where
  -- a member stands at its place, and isn't offered
  pub stands-at : (place : ℕ) (m : Member) → member_at pool request number place ≡ Some m → (m.place ≡ place) × (pool.is_offered place ≡ false)
  stands-at place m is = by (slice_get pool.ads place) is
    where
      parts : (live before docked won : Bool) (a : Member) → (if live && (not before && (docked && won)) then Some a else None) ≡ Some m
          → (a ≡ m) × (before ≡ false)
      parts true false true true a e = (cc, refl)
      parts true false true false a e = absurd (cc)
      parts true false false won a e = absurd (cc)
      parts true true docked won a e = absurd (cc)
      parts false before docked won a e = absurd (cc)

      by : (o : Option Advert) → option_and_then (member_with pool request number place) o ≡ Some m
          → (m.place ≡ place) × (pool.is_offered place ≡ false)
      by None e = absurd (cc)
      by (Some a) e =
          let p =
          parts (is_live pool.moment a) (pool.is_offered place) (docks pool.moment request a.ad) (is_won pool request number place a.ad)
          (as_member pool request place a) e in
          (ap (λ (n : Member). n.place) (sym p.0), p.1)

  pub first-within : (n : ℕ) (places : List ℕ) (first : Option Member) → IsBest (filter_map (member_at pool request number) places) first
      → All (λ place. place < n) places → IfSome first (λ m. m.place < n)
  first-within n places first is within =
      of-first pool request number (λ m. m.place < n) places first is
      (λ k d inside m e. let at = (stands-at (get_or places k d) m e).0 in let low = within k d inside in omega (arith, at, low))

  pub first-free : (places : List ℕ) (first : Option Member) → IsBest (filter_map (member_at pool request number) places) first
      → IfSome first (λ m. pool.is_offered m.place ≡ false)
  first-free places first is =
      of-first pool request number (λ m. pool.is_offered m.place ≡ false) places first is
      (λ k d inside m e. let s = stands-at (get_or places k d) m e in ap pool.is_offered s.0 ∙ s.1)

-- the slot of the first isn't offered
pub slot-free : (stock : Stock) (offered : ℕ → Bool) (first : Option Member) (slot : Option ℕ)
    → IfSome first (λ m. offered (slot_at stock m.place) ≡ false) → slot ≡ option_map (λ m. slot_at stock m.place) first
    → IfSome slot (λ s. offered s ≡ false)
slot-free stock offered first slot free at =
    let Q : Option ℕ → Type 0 = λ o. IfSome o (λ s. offered s ≡ false) in
    subst Q (sym at) (by first free)
  where
    by : (o : Option Member) → IfSome o (λ m. offered (slot_at stock m.place) ≡ false)
        → IfSome (option_map (λ m. slot_at stock m.place) o) (λ s. offered s ≡ false)
    by None h = tt
    by (Some m) h = h
