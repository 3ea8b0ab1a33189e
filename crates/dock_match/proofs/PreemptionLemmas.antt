-- The holder of a resource, and how the resource is taken from it.
use Rattle.std.proofs.Common.{◌≡◌, ◌<◌, ◌+◌, ◌*◌, ℕ, ℤ, zero, suc, Bool, true, false, int_lt, nat_le, cond, Less, Equal, Greater, refl}
use Rattle.std.proofs.Common.{List, [], ◌∷◌, slice_get, length, All, Contains, IfSome, Option, None, Some, option_map, if◌then◌else◌, ap, sym}
use Rattle.std.proofs.Common.{◌∙◌, subst, arith, add-one, take}
use Rattle.std.specs.Ordering.{match_ordering}
use Rattle.ad_store.specs.declared.holdings.Held.{Held}
use Rattle.ad_store.specs.Holdings.{Holding, holding_of}
use Rattle.ad_store.specs.Stock.{Stock}
use Rattle.eval_scope.specs.World.{PlainWorld, resource_side}
use Rattle.ad_eval.specs.Dock.{rank_by}
use Rattle.dock_match.specs.declared.preemption.Preemption.{Preemption}
use Rattle.dock_match.specs.Pool.{AreStored, Hold, hold_of, regard_in, slots_world}
use Rattle.dock_match.specs.Preemption.{taken_by, won_from}

module _ (stock : Stock) (holding : ℕ → Option Holding) (slot : ℕ) where
  -- what the holder holds is in the store
  pub holder-stored : (holder : Option Held) → AreStored stock holding → option_map holding_of holder ≡ holding slot
      → IfSome holder (λ h. All (Contains stock.slots) h.slots.now)
  holder-stored None stored who = tt
  holder-stored (Some h) stored who = stored slot (holding_of h) (sym who)

  pub holder-stands : (holder : Option Held) → IfSome holder (λ h. slice_get h.slots.now h.port ≡ Some slot)
      → IfSome holder (λ h. h.port < length h.slots.now)
  holder-stands None stands = tt
  holder-stands (Some h) stands = within h.slots.now h.port stands
    where
      within : (xs : List ℕ) (i : ℕ) → slice_get xs i ≡ Some slot → i < length xs
      within [] i e = absurd (cc)
      within (x ∷ xs) zero e = omega arith
      within (x ∷ xs) (suc i) e = let rest = within xs i e in omega (arith, rest)

-- what holds of a value that is there holds of that value
pub some-of : (holder : Option Held) (h : Held) (P : Held → Type 0) → holder ≡ Some h → IfSome holder P → P h
some-of holder h P is all = let Q : Option Held → Type 0 = λ o. IfSome o P in subst Q is all

-- how a resource is taken from a holder is how it is won where it has that holder
taken-won : (number : ℕ) (regard : ℤ) (hold : Hold) → taken_by (regard_in hold.world) regard hold.number number ≡ won_from number regard (Some hold)
taken-won number regard hold = by (int_lt (regard_in hold.world) regard) (int_lt regard (regard_in hold.world)) (nat_le (2 * number) hold.number)
  where
    by : (lower higher twice : Bool)
        → match_ordering (cond lower Less (cond higher Greater Equal)) (Some Preemption.ByRank) (if twice then Some Preemption.ByPriority else None) None
        ≡ (if match_ordering (cond lower Less (cond higher Greater Equal)) true twice false then Some
        (if lower then Preemption.ByRank else Preemption.ByPriority) else None)
    by true higher twice = refl
    by false true twice = refl
    by false false true = refl
    by false false false = refl

-- the rank of the holder is that of the world up to its port
pub won-of-holder : (moment : ℕ) (stock : Stock) (holder : Option Held) (h : Held) (w : PlainWorld) (number : ℕ) (regard : ℤ) → holder ≡ Some h
    → w ≡ slots_world moment stock h.request.now (take (h.port + 1) h.slots.now)
    → taken_by (rank_by w (resource_side w)) regard h.number number
    ≡ won_from number regard (option_map (hold_of moment stock) (option_map holding_of holder))
won-of-holder moment stock holder h w number regard is world =
    ap (λ (u : PlainWorld). taken_by (rank_by u (resource_side u)) regard h.number number)
    (world ∙ ap (λ i. slots_world moment stock h.request.now (take i h.slots.now)) (add-one h.port))
    ∙ taken-won number regard (hold_of moment stock (holding_of h))
    ∙ ap (λ (o : Option Held). won_from number regard (option_map (hold_of moment stock) (option_map holding_of o))) (sym is)
