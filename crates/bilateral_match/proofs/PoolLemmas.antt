-- Pools that say the same of each place have the same members, and as many open docks.
use Rattle.std.proofs.Common.{◌≡◌, ◌<◌, ◌+◌, ℕ, suc, Bool, not, ◌&&◌, refl, List, [], ◌∷◌, Option, None, Some, if◌then◌else◌}
use Rattle.std.proofs.Common.{length, ap, sym, ◌∙◌, subst, arith, zero-add}
use Rattle.std.specs.List.{cons_option}
use Rattle.ad_tree.specs.Frames.{Frame}
use Rattle.ad_store.specs.Stock.{Advert, is_live}
use Rattle.dock_match.specs.Docks.{docks, is_undecided, rank_of_dock}
use Rattle.dock_match.specs.Preemption.{is_yielded, preemption_of}
use Rattle.dock_match.specs.Pool.{Hold, Pool}
use Rattle.bilateral_match.specs.declared.member.Member.{Member}
use Rattle.bilateral_match.specs.Counts.{is_open, open_count, sum_from}
use Rattle.bilateral_match.specs.Members.{best, first_of, member_with, members_from, regard}

at-front : (k : ℕ) → k + 0 ≡ k
at-front k = omega arith

further : (k i : ℕ) → k + suc i ≡ suc k + i
further k i = omega arith

module _ (moment : ℕ) (ads : List Advert) (request : List Frame) (off_a off_b : ℕ → Bool) (held_a held_b : ℕ → Option Hold) where
  abbrev pub one : Pool
  one = record { moment = moment; ads = ads; is_offered = off_a; held_in = held_a }

  abbrev pub other : Pool
  other = record { moment = moment; ads = ads; is_offered = off_b; held_in = held_b }

  -- both say the same of a place
  abbrev pub SameAt : ℕ → Type 0
  SameAt place = (off_a place ≡ off_b place) × (held_a place ≡ held_b place)

  -- a resource as a member, by what is said of it
  abbrev member_by : ℕ → ℕ → Advert → Bool → Option Hold → Option Member
  member_by number place a offered held =
      let m : Member =
      record {
        rank =
            rank_of_dock moment request a.ad;
        preemption =
            preemption_of (regard moment request a.ad) held;
        regard = regard moment request a.ad;
        place = place;
      } in
      if is_live moment a && (not offered && (docks moment request a.ad && is_yielded number (regard moment request a.ad) held)) then Some m else None

  member-same : (number place : ℕ) (a : Advert) → SameAt place → member_with one request number place a ≡ member_with other request number place a
  member-same number place a same =
      ap (λ offered. member_by number place a offered (held_a place)) same.0 ∙ ap (member_by number place a (off_b place)) same.1

  members-same : (number k : ℕ) (xs : List Advert) → ((i : ℕ) → i < length xs → SameAt (k + i))
      → members_from one request number k xs ≡ members_from other request number k xs
  members-same number k [] same = refl
  members-same number k (a ∷ xs) same =
      let here : SameAt k = subst SameAt (at-front k) (same 0 (omega arith)) in
      let behind : (i : ℕ) → i < length xs → SameAt (suc k + i) = λ i inside. subst SameAt (further k i) (same (suc i) (omega (arith, inside))) in
      ap (λ o. cons_option o (members_from one request number (suc k) xs)) (member-same number k a here)
      ∙ ap (cons_option (member_with other request number k a)) (members-same number (suc k) xs behind)

  pub best-same : (number : ℕ) → ((i : ℕ) → i < length ads → SameAt i) → best one request number ≡ best other request number
  best-same number same = ap first_of (members-same number 0 ads (λ i inside. subst SameAt (sym (zero-add i)) (same i inside)))

  sum-same : (k : ℕ) (xs : List Advert) → ((i : ℕ) → i < length xs → SameAt (k + i))
      → sum_from (λ place a. if is_open one request place a then 1 else 0) k xs
      ≡ sum_from (λ place a. if is_open other request place a then 1 else 0) k xs
  sum-same k [] same = refl
  sum-same k (a ∷ xs) same =
      let here : SameAt k = subst SameAt (at-front k) (same 0 (omega arith)) in
      let behind : (i : ℕ) → i < length xs → SameAt (suc k + i) = λ i inside. subst SameAt (further k i) (same (suc i) (omega (arith, inside))) in
      let rest = sum-same (suc k) xs behind in
      let now = ap {B = ℕ} (λ (b : Bool). if is_undecided request a.ad && not b then 1 else 0) here.0 in
      omega (arith, rest, now)

  pub open-same : ((i : ℕ) → i < length ads → SameAt i) → open_count one request ≡ open_count other request
  open-same same = sum-same 0 ads (λ i inside. subst SameAt (sym (zero-add i)) (same i inside))
