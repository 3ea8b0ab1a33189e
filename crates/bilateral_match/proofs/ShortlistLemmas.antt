-- Members in order: the first that isn't offered is the best, however many more are offered.
use Rattle.std.proofs.Common.{◌≡◌, ◌<◌, ◌+◌, ℕ, suc, zero-le, Bool, true, false, not, ◌&&◌, refl, List, [], ◌∷◌, Option, None, Some}
use Rattle.std.proofs.Common.{length, get_or, map, take, ◌++◌, filter, sum_by, cond, if◌then◌else◌, All, ap, sym, ◌∙◌, arith, add-one}
use Rattle.std.specs.Prelude.{option_map}
use Rattle.std.specs.List.{cons_option, filter_map, find}
use Rattle.std.specs.List.Sorted.{IsPermutation, IsSorted}
use Rattle.std.specs.Ordering.{is_lt}
use Rattle.std.proofs.lemmas.List.{map-append, take_more}
use Rattle.std.proofs.lemmas.List.Elements.{All-cons, All-filter}
use Rattle.std.proofs.lemmas.List.Sorted.{sorted_far, sum_by-IsPermutation}
use Rattle.std.proofs.lemmas.List.Sums.{sum_by-cons}
use Rattle.ad_tree.specs.Frames.{Frame}
use Rattle.ad_store.specs.Holdings.{Holding}
use Rattle.ad_store.specs.Stock.{Advert, Stock, is_live}
use Rattle.ad_candidates.specs.Candidates.{AreCandidates}
use Rattle.dock_match.specs.Docks.{docks}
use Rattle.dock_match.specs.Pool.{Pool, pool_of, slot_at}
use Rattle.bilateral_match.specs.declared.member.Member.{Member}
use Rattle.bilateral_match.specs.Members.{IsBest, as_member, best, first_of, is_won, member_order, members, members_from}
use Rattle.bilateral_match.specs.Scan.{member_at}
use Rattle.bilateral_match.specs.Shortlists.{IsShortlist, first_left}
use Rattle.bilateral_match.proofs.MemberLemmas.{NotBefore, first-is-best, member_weak, not-before-itself, one-first}
use Rattle.bilateral_match.proofs.MemberScanLemmas.{all-found, found-members, stands-at}

-- ---- each before those behind it

abbrev InOrder : List Member → Type 0
InOrder [] = Unit {0}
InOrder (m ∷ ms) = All (NotBefore m) ms × InOrder ms

tail-sorted : (m : Member) (ms : List Member) → IsSorted member_order (m ∷ ms) → IsSorted member_order ms
tail-sorted m ms h k d low within =
    let step = h (suc k) d zero-le (omega (arith, within)) in
    rw (add-one k) (rw (add-one (suc k)) at step)

in-order-from : (ms : List Member) → IsSorted member_order ms → InOrder ms
in-order-from [] h = tt
in-order-from (m ∷ ms) h = (
  λ k d within. sorted_far (λ a b. is_lt (member_order a b)) member_weak (m ∷ ms) h 0 (suc k) d zero-le (omega (arith, within)),
  in-order-from ms (tail-sorted m ms h),
)

-- the first that passes is the first of those that pass
first-passes : (q : Member → Bool) (ms : List Member) → InOrder ms → IsBest (filter q ms) (find q ms)
first-passes q [] h = refl
first-passes q (m ∷ ms) h = by (first-passes q ms h.1) (q m)
  where
    by : IsBest (filter q ms) (find q ms) → (b : Bool) → IsBest (cond b (m ∷ filter q ms) (filter q ms)) (cond b (Some m) (find q ms))
    by rest true = record {
      among = (0, omega arith, refl);
      none_before = All-cons (NotBefore m) m (filter q ms) (not-before-itself m) (All-filter q (NotBefore m) ms h.0);
    }
    by rest false = rest

-- ---- sums over what passes

sum-filter : (q : Member → Bool) (f : Member → ℕ) (ms : List Member) → sum_by f (filter q ms) ≡ sum_by (λ m. if q m then f m else 0) ms
sum-filter q f [] = refl
sum-filter q f (m ∷ ms) = by (sum-filter q f ms) (q m) ∙ sym (sum_by-cons (λ m. if q m then f m else 0) m ms)
  where
    by : sum_by f (filter q ms) ≡ sum_by (λ m. if q m then f m else 0) ms → (b : Bool)
        → sum_by f (cond b (m ∷ filter q ms) (filter q ms)) ≡ (if b then f m else 0) + sum_by (λ m. if q m then f m else 0) ms
    by rest true = let head = sum_by-cons f m (filter q ms) in omega (arith, head, rest)
    by rest false = omega (arith, rest)

find-map : (offered : ℕ → Bool) (slot : Member → ℕ) (ms : List Member)
    → option_map slot (find (λ m. not (offered (slot m))) ms) ≡ first_left offered (map slot ms)
find-map offered slot [] = refl
find-map offered slot (m ∷ ms) = by (find-map offered slot ms) (offered (slot m))
  where
    by : option_map slot (find (λ m. not (offered (slot m))) ms) ≡ first_left offered (map slot ms) → (b : Bool)
        → option_map slot (cond (not b) (Some m) (find (λ m. not (offered (slot m))) ms)) ≡ cond (not b) (Some (slot m)) (first_left offered (map slot ms))
    by rest true = rest
    by rest false = refl

-- ---- a pool with more offers

-- what one resource gives with more offers
one-still : (f g : Member → ℕ) (m : Member) (xs ys : List Member) (live before after rest : Bool) → (before ≡ true → after ≡ true)
    → g m ≡ (if not after then f m else 0) → sum_by g xs ≡ sum_by f ys
    → sum_by g (cons_option (if live && (not before && rest) then Some m else None) xs)
    ≡ sum_by f (cons_option (if live && (not after && rest) then Some m else None) ys)
one-still f g m xs ys false before after rest more gives others = others
one-still f g m xs ys true true true rest more gives others = others
one-still f g m xs ys true true false rest more gives others = let same : false ≡ true = more refl in absurd (cc)
one-still f g m xs ys true false true false more gives others = others
one-still f g m xs ys true false false false more gives others = others
one-still f g m xs ys true false true true more gives others = let head = sum_by-cons g m xs in omega (arith, head, gives, others)
one-still f g m xs ys true false false true more gives others =
    let head = sum_by-cons g m xs in let here = sum_by-cons f m ys in omega (arith, head, here, gives, others)

module _ (pool : Pool) (request : List Frame) (number : ℕ) (offered : ℕ → Bool)
    (more : (place : ℕ) → pool.is_offered place ≡ true → offered place ≡ true) where
  abbrev later : Pool
  later = record pool { is_offered = offered }

  abbrev is_left : Member → Bool
  is_left m = not (offered m.place)

  members-left : (f : Member → ℕ) (k : ℕ) (ads : List Advert)
      → sum_by (λ m. if is_left m then f m else 0) (members_from pool request number k ads) ≡ sum_by f (members_from later request number k ads)
  members-left f k [] = refl
  members-left f k (a ∷ ads) =
      one-still f (λ m. if is_left m then f m else 0) (as_member pool request k a) (members_from pool request number (suc k) ads)
      (members_from later request number (suc k) ads)
      (is_live pool.moment a) (pool.is_offered k) (offered k) (docks pool.moment request a.ad && is_won pool request number k a.ad) (more k) refl
      (members-left f (suc k) ads)

  -- the first of the members in order that isn't offered is the best
  pub first-is-left : (places : List ℕ) (sorted : List Member) → AreCandidates request pool.ads places
      → IsPermutation (filter_map (member_at pool request number) places) sorted → IsSorted member_order sorted
      → find is_left sorted ≡ best later request number
  first-is-left places sorted some moved ordered =
      one-first (filter is_left sorted) (members later request number) (find is_left sorted) (first_of (members later request number))
      (λ f.
      let g : Member → ℕ = λ m. if is_left m then f m else 0 in
      sum-filter is_left f sorted
      ∙ sum_by-IsPermutation g (filter_map (member_at pool request number) places) sorted moved
      ∙ found-members pool request places some number g
      ∙ members-left f 0 pool.ads)
      (first-passes is_left sorted (in-order-from sorted ordered))
      (first-is-best (members later request number))

-- the slots of the members in order are a shortlist
pub shortlisted : (moment : ℕ) (stock : Stock) (offered : ℕ → Bool) (holding : ℕ → Option Holding) (request : List Frame) (number : ℕ)
    (places : List ℕ) (sorted : List Member) (slots : List ℕ)
    → AreCandidates request stock.ads places → IsPermutation (filter_map (member_at (pool_of moment stock offered holding) request number) places) sorted
    → IsSorted member_order sorted
    → slots ≡ map (λ m. slot_at stock m.place) sorted → IsShortlist moment stock offered holding request number slots
shortlisted moment stock offered holding request number places sorted slots some moved ordered are more grows =
    let slot : Member → ℕ = λ m. slot_at stock m.place in
    ap (option_map slot) (sym (first-is-left (pool_of moment stock offered holding) request number (λ place. more (slot_at stock place))
    (λ place. grows (slot_at stock place)) places sorted some moved ordered))
    ∙ find-map more slot sorted
    ∙ ap (first_left more) (sym are)

-- each member that is found stands at one of the places
pub found-within : (pool : Pool) (request : List Frame) (number n : ℕ) (places : List ℕ) → All (λ place. place < n) places
    → All (λ m. m.place < n) (filter_map (member_at pool request number) places)
found-within pool request number n places within =
    all-found pool request number (λ m. m.place < n) places
    (λ k d inside m e. let at = (stands-at pool request number (get_or places k d) m e).0 in let low = within k d inside in omega (arith, at, low))

-- one more slot
pub slots-more : (slot : Member → ℕ) (members : List Member) (i : ℕ) (m : Member) (slots new : List ℕ) (s : ℕ) → i < length members
    → slots ≡ map slot (take i members) → new ≡ slots ++ s ∷ [] → s ≡ slot (get_or members i m) → new ≡ map slot (take (i + 1) members)
slots-more slot members i m slots new s within so_far added is =
    added
    ∙ ap (λ l. l ++ s ∷ []) so_far
    ∙ ap (λ x. map slot (take i members) ++ x ∷ []) is
    ∙ sym (map-append slot (take i members) (get_or members i m ∷ []))
    ∙ ap (map slot) (sym (take_more members i m within))
