-- A port without a resource: no tuple fills all ports.
use Rattle.std.proofs.Common.{◌≡◌, ◌≢◌, ◌<◌, ◌+◌, ◌==◌, ℕ, zero, suc, Bool, ◌||◌, true, false, List, [], ◌∷◌, ◌++◌}
use Rattle.std.proofs.Common.{length, filter, get_or, map, None, refl, ap, sym, ◌∙◌, subst, arith}
use Rattle.std.specs.List.{flat_map, list_any}
use Rattle.std.proofs.lemmas.Bool.{eqb-true}
use Rattle.std.proofs.lemmas.List.{length-append, length-map, nil_from_length}
use Rattle.std.proofs.lemmas.List.Sorted.{length_permutation}
use Rattle.ad_tree.specs.Frames.{Frame}
use Rattle.ad_tree.specs.declared.request.Port.{Port}
use Rattle.dock_match.specs.Pool.{Pool}
use Rattle.eval_scope.specs.World.{port_frame}
use Rattle.gang_ports.specs.declared.weighing.Resource.{Resource}
use Rattle.gang_ports.specs.declared.weighing.Side.{Side}
use Rattle.gang_ports.specs.Choice.{Choice, fits, next, tuples}
use Rattle.gang_ports.specs.Gangs.{choice_of, gang, open_places}
use Rattle.gang_ports.specs.Search.{AreSides, IsSide, has_empty}
use Rattle.gang_ports.proofs.DockLemmas.{next-open}
use Rattle.gang_ports.proofs.ListLemmas.{flat_map-none}
use Rattle.gang_ports.proofs.PoolLemmas.{gang-none}

abbrev has_none : Side → Bool
has_none side = length side.resources.items == 0

above-zero : (n : ℕ) → (n == 0) ≡ false → 0 < n
above-zero zero e = absurd (cc)
above-zero (suc n) e = omega arith

module _ (pool : Pool) (request : List Frame) (ports : List Port) where
  abbrev choice : Choice
  choice = choice_of pool request ports

  abbrev open_at : ℕ → List ℕ
  open_at i = open_places pool request ports (port_frame ports (suc i))

  as-many : (i : ℕ) (side : Side) → IsSide pool request ports i side → length side.resources.items ≡ length (open_at i)
  as-many i side is =
      sym (length-map side.resources.items (λ (r : Resource). r.place))
      ∙ length_permutation (open_at i) (map (λ (r : Resource). r.place) side.resources.items) is.resources.all

  no-next : (before : List ℕ) (side : Side) → IsSide pool request ports (length before) side → has_none side ≡ true → next choice before ≡ []
  no-next before side is none =
      sym (next-open pool request ports before)
      ∙ ap (filter (fits choice before)) (nil_from_length (open_at (length before))
      (sym (as-many (length before) side is) ∙ eqb-true (length side.resources.items) 0 none))

  -- the tuples that begin with a place
  abbrev behind_place : ℕ → List ℕ → ℕ → List (List ℕ)
  behind_place n before place = map (λ tuple. place ∷ tuple) (tuples choice n (before ++ place ∷ []))

  no-tuples : (sides : List Side) (before : List ℕ) → AreSides pool request ports (length before) sides → has_empty sides ≡ true
      → tuples choice (length sides) before ≡ []
  unfolding has_empty tuples
  no-tuples [] before are empty = absurd (cc)
  no-tuples (side ∷ sides) before are empty =
      by (has_none side) refl (λ rest place. no-tuples sides (before ++ place ∷ [])
      (subst (λ (n : ℕ). AreSides pool request ports n sides) (omega (arith, length-append before (place ∷ []))) are.1) rest)
    where
      by : (b : Bool) → has_none side ≡ b
          → (list_any has_none sides ≡ true → (place : ℕ) → tuples choice (length sides) (before ++ place ∷ []) ≡ [])
          → flat_map (behind_place (length sides) before) (next choice before) ≡ []
      by true e behind = ap (flat_map (behind_place (length sides) before)) (no-next before side are.0 e)
      by false e behind =
          let rest : list_any has_none sides ≡ true = ap (λ b. b || list_any has_none sides) (sym e) ∙ empty in
          flat_map-none (behind_place (length sides) before) (next choice before)
          (λ k d within. ap (map (λ tuple. get_or (next choice before) k d ∷ tuple)) (behind rest (get_or (next choice before) k d)))

  pub gang-empty : (sides : List Side) → AreSides pool request ports 0 sides → length sides ≡ length ports → has_empty sides ≡ true
      → gang pool request ports ≡ None
  gang-empty sides are many empty = gang-none pool request ports (length sides) many (no-tuples sides [] are empty)

  some-open : (k i p : ℕ) (sides : List Side) → p ≡ k + i → AreSides pool request ports k sides → has_empty sides ≡ false → i < length sides
      → 0 < length (open_at p)
  unfolding has_empty
  some-open k i p [] at are full within = absurd (omega (arith, within))
  some-open k zero p (side ∷ sides) at are full within =
      let here : k ≡ p = omega (arith, at) in
      subst (λ (n : ℕ). 0 < length (open_at n)) here (omega (
        arith,
        as-many k side are.0,
        above-zero (length side.resources.items) (or-left (has_none side) (list_any has_none sides) full),
      ))
    where
      or-left : (a b : Bool) → (a || b) ≡ false → a ≡ false
      or-left true b e = e
      or-left false b e = refl
  some-open k (suc i) p (side ∷ sides) at are full within =
      some-open (suc k) i p sides (omega (arith, at)) are.1 (or-right (has_none side) (list_any has_none sides) full) (omega (arith, within))
    where
      or-right : (a b : Bool) → (a || b) ≡ false → b ≡ false
      or-right true b e = absurd (cc)
      or-right false b e = e

  -- where no port has none, the dock of each may be true with some resource
  pub all-open : (sides : List Side) → AreSides pool request ports 0 sides → length sides ≡ length ports → has_empty sides ≡ false
      → (i : ℕ) → i < length ports → open_at i ≢ []
  all-open sides are many full i within none =
      omega (arith, some-open 0 i i sides (omega arith) are full (omega (arith, within, many)), ap length none)
