-- Members and ranks that reach a bar.
use Rattle.std.proofs.Common.{◌≡◌, ℕ, ℤ, pos, negsuc, Bool, true, false, true≢false, not, ◌&&◌, int_lt, cond, List, Option, None, Some, Less}
use Rattle.std.proofs.Common.{Equal, Greater, Ordering, option_map, if◌then◌else◌, refl, ap, sym, ◌∙◌, arith}
use Rattle.std.specs.Option.{option_and_then}
use Rattle.std.specs.Ordering.{int_cmp, is_lt, nat_cmp, ordering_then}
use Rattle.ad_tree.specs.Frames.{Frame}
use Rattle.ad_store.specs.Stock.{Advert, is_live}
use Rattle.dock_match.specs.declared.preemption.Preemption.{Preemption}
use Rattle.dock_match.specs.Docks.{docks, rank_of_dock}
use Rattle.dock_match.specs.Preemption.{order_of}
use Rattle.dock_match.specs.Pool.{Pool}
use Rattle.bilateral_match.specs.declared.member.Member.{Member}
use Rattle.bilateral_match.specs.declared.member.Ranks.{Ranks}
use Rattle.bilateral_match.specs.Members.{as_member, earlier, is_won, member_with, regard}
use Rattle.bilateral_match.specs.Scan.{member_above, ranks_above, ranks_of_dock, reaches, where_won}

-- without a bar all members are there
pub no-bar : (m : Option Member) → member_above None m ≡ m
no-bar None = refl
no-bar (Some m) = refl

-- ranks that are there reach the bar
pub ranks-there : (bar : Option ℤ) (o : Option Ranks) (r : Ranks) → Some r ≡ ranks_above bar o → (Some r ≡ o) × (reaches bar r.rank ≡ true)
ranks-there bar None r is = absurd (cc)
ranks-there bar (Some x) r is = by (reaches bar x.rank) refl is
  where
    by : (b : Bool) → reaches bar x.rank ≡ b → Some r ≡ (if b then Some x else None) → (Some r ≡ Some x) × (reaches bar r.rank ≡ true)
    by true e same = let one : x ≡ r = cc in (same, ap (λ (y : Ranks). reaches bar y.rank) (sym one) ∙ e)
    by false e same = absurd (cc)

-- what is won reaches the bar where its ranks do
pub won-above : (bar : Option ℤ) (won : Option Preemption) (r : Ranks) (place : ℕ) → reaches bar r.rank ≡ true
    → where_won won r place ≡ member_above bar (where_won won r place)
won-above bar None r place high = refl
won-above bar (Some preemption) r place high = sym (ap (λ (b : Bool). if b then where_won (Some preemption) r place else None) high)

-- where ranks aren't there, there is no member above the bar
module _ (pool : Pool) (request : List Frame) (number place : ℕ) (bar : Option ℤ) where
  below : (a : Advert) (r : Ranks) → r.rank ≡ rank_of_dock pool.moment request a.ad → (docked : Bool)
      → None ≡ ranks_above bar (if docked then Some r else None)
      → None ≡ member_above bar (if is_live pool.moment a
      && (not (pool.is_offered place) && (docked && is_won pool request number place a.ad)) then Some (as_member pool request place a) else None)
  below a r same docked none =
      by (is_live pool.moment a) (not (pool.is_offered place)) docked (is_won pool request number place a.ad) (reaches bar r.rank) refl none
    where
      high-here : (b : Bool) → reaches bar r.rank ≡ b
          → (if reaches bar (rank_of_dock pool.moment request a.ad) then Some (as_member pool request place a) else None)
          ≡ (if b then Some (as_member pool request place a) else None)
      high-here b e = ap (λ (c : Bool). if c then Some (as_member pool request place a) else None) (ap (reaches bar) (sym same) ∙ e)

      by : (live free docks won high : Bool) → reaches bar r.rank ≡ high → None ≡ ranks_above bar (if docks then Some r else None)
          → None ≡ member_above bar (if live && (free && (docks && won)) then Some (as_member pool request place a) else None)
      by true true true true true e none = absurd (let is : ranks_above bar (Some r) ≡ Some r = ap (λ (c : Bool). if c then Some r else None) e in cc)
      by true true true true false e none = sym (high-here false e)
      by true true true false high e none = refl
      by true true false won high e none = refl
      by true false docks won high e none = refl
      by false free docks won high e none = refl

  pub none-above : (fs : List Frame) (o : Option Advert) → option_map (λ a. a.ad) o ≡ Some fs
      → None ≡ ranks_above bar (ranks_of_dock pool.moment request fs)
      → None ≡ member_above bar (option_and_then (member_with pool request number place) o)
  none-above fs None is none = refl
  none-above fs (Some a) is none =
      let same : a.ad ≡ fs = cc in
      below a (record { rank = rank_of_dock pool.moment request a.ad; regard = regard pool.moment request a.ad }) refl (docks pool.moment request a.ad)
      (none ∙ ap (λ (f : List Frame). ranks_above bar (ranks_of_dock pool.moment request f)) (sym same))

-- a member below the rank of another doesn't come before it
not-below : (x y : ℤ) → int_lt x y ≡ true → int_lt y x ≡ true → false ≡ true
not-below (pos a) (pos b) l g = grind arith
not-below (pos a) (negsuc b) l g = l
not-below (negsuc a) (pos b) l g = g
not-below (negsuc a) (negsuc b) l g = grind arith

pub earlier-above : (first m : Option Member) → earlier first (member_above (option_map (λ m. m.rank) first) m) ≡ earlier first m
earlier-above None m = no-bar m
earlier-above (Some a) None = refl
earlier-above (Some a) (Some b) = by (int_lt b.rank a.rank) (int_lt a.rank b.rank) refl refl
  where
    by : (low high : Bool) → int_lt b.rank a.rank ≡ low → int_lt a.rank b.rank ≡ high
        → earlier (Some a) (if not (int_lt b.rank a.rank) then Some b else None) ≡ earlier (Some a) (Some b)
    by false high l h = ap (λ (low : Bool). earlier (Some a) (if not low then Some b else None)) l
    by true true l h = absurd (true≢false (sym (not-below b.rank a.rank l h)))
    by true false l h =
        ap (λ (low : Bool). earlier (Some a) (if not low then Some b else None)) l
        ∙ sym (ap (λ (o : Ordering). if is_lt (ordering_then
        (ordering_then (ordering_then o (nat_cmp (order_of b.preemption) (order_of a.preemption))) (int_cmp a.regard b.regard))
        (nat_cmp b.place a.place)) then Some b else Some a)
        (ap (λ (c : Bool). cond c Less (cond (int_lt b.rank a.rank) Greater Equal)) h ∙ ap (λ (c : Bool). cond c Greater Equal) l))
