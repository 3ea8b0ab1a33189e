-- The members for a job in order, which serve it and all jobs of users with the same number that no ad tells apart, while more and more resources are offered.
use Rattle.std.specs.Prelude.{◌≡◌, ℕ, Bool, true, not, List, map, Option}
use Rattle.std.specs.List.{find}
use Rattle.std.specs.List.Sorted.{IsPermutation, IsSorted}
use Rattle.ad_tree.specs.Frames.{Frame}
use Rattle.ad_store.specs.Holdings.{Holding}
use Rattle.ad_store.specs.Stock.{Stock}
use Rattle.dock_match.specs.Pool.{pool_of, slot_at}
use Rattle.bilateral_match.specs.declared.member.Member.{Member}
use Rattle.bilateral_match.specs.Members.{best_slot, member_order}

-- the first of these slots that isn't offered
abbrev pub first_left : (ℕ → Bool) → List ℕ → Option ℕ
first_left is_offered slots = find (λ slot. not (is_offered slot)) slots

-- whatever is offered beside what is already, the first of these slots that isn't is that of the best resource for a user with this number
abbrev pub IsShortlist : ℕ → Stock → (ℕ → Bool) → (ℕ → Option Holding) → List Frame → ℕ → List ℕ → Type 0
IsShortlist moment stock is_offered holding request number slots =
    (more : ℕ → Bool) → ((slot : ℕ) → is_offered slot ≡ true → more slot ≡ true)
    → best_slot stock (pool_of moment stock more holding) request number ≡ first_left more slots

-- the slots of these members in order
abbrev pub AreInOrder : Stock → List Member → List ℕ → Type 0
AreInOrder stock found slots =
    (sorted : List Member) × IsPermutation found sorted × IsSorted member_order sorted × (slots ≡ map (λ m. slot_at stock m.place) sorted)
