-- More offers leave no more members, and no more docks to evaluate.
use Rattle.std.proofs.Common.{◌≡◌, ◌≤◌, ℕ, suc, Bool, true, false, not, ◌&&◌, refl, List, [], ◌∷◌, Option, None, Some}
use Rattle.std.proofs.Common.{if◌then◌else◌, ap, arith, zero-le}
use Rattle.std.specs.List.{cons_option}
use Rattle.std.specs.Ordering.{is_lt}
use Rattle.ad_tree.specs.Frames.{Frame}
use Rattle.ad_store.specs.Stock.{Advert, is_live}
use Rattle.dock_match.specs.Docks.{docks, is_undecided}
use Rattle.dock_match.specs.Pool.{Pool}
use Rattle.bilateral_match.specs.declared.member.Member.{Member}
use Rattle.bilateral_match.specs.Counts.{attributes_weighed, entered_for, is_open, open_count, sum_from}
use Rattle.bilateral_match.specs.Members.{as_member, best, earlier, first_of, is_won, member_order, member_with, members, members_from}

-- ---- Booleans

fewer : (undecided before after : Bool) (n : ℕ) → (before ≡ true → after ≡ true)
    → (if undecided && not after then n else 0) ≤ (if undecided && not before then n else 0)
fewer false before after n more = zero-le
fewer true before true n more = zero-le
fewer true false false n more = omega arith
fewer true true false n more = let same : false ≡ true = more refl in absurd (cc)

none-still : (live before after rest : Bool) (m n : Member) → (before ≡ true → after ≡ true)
    → (if live && (not before && rest) then Some m else None) ≡ None → (if live && (not after && rest) then Some n else None) ≡ None
none-still false before after rest m n more e = refl
none-still true before true rest m n more e = refl
none-still true before false false m n more e = refl
none-still true false false true m n more e = absurd (cc)
none-still true true false true m n more e = let same : false ≡ true = more refl in absurd (cc)

-- ---- lists

empty-still : (o p : Option Member) (ms ns : List Member) → (o ≡ None → p ≡ None) → (ms ≡ [] → ns ≡ []) → cons_option o ms ≡ []
    → cons_option p ns ≡ []
empty-still (Some m) p ms ns one others e = absurd (cc)
empty-still None None ms ns one others e = others e
empty-still None (Some m) ms ns one others e = let same : Some m ≡ None = one refl in absurd (cc)

none-first : (ms : List Member) → first_of ms ≡ None → ms ≡ []
none-first [] e = refl
none-first (m ∷ ms) e = absurd (by (first_of ms) e)
  where
    some : (a b : Member) (c : Bool) → (if c then Some a else Some b) ≡ None → ⊥
    some a b true e = cc
    some a b false e = cc

    by : (o : Option Member) → earlier (Some m) o ≡ None → ⊥
    by None e = cc
    by (Some a) e = some a m (is_lt (member_order a m)) e

sum-fewer : (f g : ℕ → Advert → ℕ) → ((place : ℕ) (a : Advert) → f place a ≤ g place a) → (k : ℕ) (ads : List Advert)
    → sum_from f k ads ≤ sum_from g k ads
sum-fewer f g each k [] = zero-le
sum-fewer f g each k (a ∷ ads) = let one = each k a in let rest = sum-fewer f g each (suc k) ads in omega (arith, one, rest)

-- ---- a pool with more offers

module _ (pool : Pool) (request : List Frame) (offered : ℕ → Bool) (more : (slot : ℕ) → pool.is_offered slot ≡ true → offered slot ≡ true) where
  abbrev later : Pool
  later = record pool { is_offered = offered }

  no-members : (number k : ℕ) (ads : List Advert) → members_from pool request number k ads ≡ [] → members_from later request number k ads ≡ []
  no-members number k [] e = refl
  no-members number k (a ∷ ads) e =
      empty-still (member_with pool request number k a) (member_with later request number k a) (members_from pool request number (suc k) ads)
      (members_from later request number (suc k) ads)
      (none-still (is_live pool.moment a) (pool.is_offered k) (offered k) (docks pool.moment request a.ad && is_won pool request number k a.ad)
      (as_member pool request k a) (as_member later request k a) (more k))
      (no-members number (suc k) ads) e

  pub none-later : (number : ℕ) → best pool request number ≡ None → best later request number ≡ None
  none-later number e = ap first_of (no-members number 0 pool.ads (none-first (members pool request number) e))

  pub fewer-open : open_count later request ≤ open_count pool request
  fewer-open =
      sum-fewer (λ place a. if is_open later request place a then 1 else 0) (λ place a. if is_open pool request place a then 1 else 0)
      (λ place a. fewer (is_undecided request a.ad) (pool.is_offered place) (offered place) 1 (more place))
      0 pool.ads

  pub fewer-entered : entered_for later request ≤ entered_for pool request
  fewer-entered =
      sum-fewer (λ place a. if is_open later request place a then attributes_weighed later request place a else 0)
      (λ place a. if is_open pool request place a then attributes_weighed pool request place a else 0)
      (λ place a. fewer (is_undecided request a.ad) (pool.is_offered place) (offered place) (attributes_weighed pool request place a) (more place))
      0 pool.ads
