-- The evaluations of a whole search: each undecided dock of a free port once, and those of another port behind each valid prefix.
use Rattle.std.proofs.Common.{◌≡◌, ◌≤◌, ◌+◌, ◌*◌, ℕ, zero, suc, Bool, true, false, not, if◌then◌else◌, refl, List, [], ◌∷◌}
use Rattle.std.proofs.Common.{◌++◌, length, map, get_or, sum_by, All, ap, sym, ◌∙◌, subst, arith, add-one}
use Rattle.std.specs.List.{range_with_len}
use Rattle.std.proofs.Math.Nat.{mul_comm, mul_left_comm}
use Rattle.std.proofs.lemmas.List.Elements.{All-cons, All-map, All-nil}
use Rattle.std.proofs.lemmas.List.Sorted.{length_permutation}
use Rattle.std.proofs.lemmas.List.Sums.{sum_by-cons, sum_by-le}
use Rattle.ad_tree.specs.Frames.{Frame}
use Rattle.ad_tree.specs.declared.request.Port.{Port}
use Rattle.dock_match.specs.Pool.{Pool}
use Rattle.eval_scope.specs.World.{port_frame}
use Rattle.gang_ports.specs.declared.weighing.Resource.{Resource}
use Rattle.gang_ports.specs.declared.weighing.Side.{Side}
use Rattle.gang_ports.specs.Choice.{Choice, is_among, next, over_prefixes, tuples}
use Rattle.gang_ports.specs.FreePorts.{is_free_port}
use Rattle.gang_ports.specs.Gangs.{choice_of, docks_weighed, gang_world, open_docks, open_places, weighed_at}
use Rattle.gang_ports.specs.Search.{AreSides, evaluations_ahead, evaluations_anew, evaluations_once, is_unknown, side_ahead, sides_ahead}
use Rattle.gang_ports.proofs.LawLemmas.{length-fewer}
use Rattle.gang_ports.proofs.ListLemmas.{All-flat_map, length-mapped, sum_by-both, sum_by-multiple, sum_by-same}

tuples-length : (choice : Choice) (n : ℕ) (before : List ℕ) → All (λ t. length t ≡ n) (tuples choice n before)
unfolding tuples
tuples-length choice zero before = All-cons (λ t. length t ≡ 0) [] [] refl (All-nil (λ t. length t ≡ 0))
tuples-length choice (suc n) before =
    All-flat_map (λ t. length t ≡ suc n) (λ q. map (λ t. q ∷ t) (tuples choice n (before ++ q ∷ []))) (next choice before)
    (λ k d within.
    let q = get_or (next choice before) k d in
    All-map (λ t. length t ≡ suc n) (λ t. q ∷ t) (tuples choice n (before ++ q ∷ []))
    (λ j e low. ap suc (tuples-length choice n (before ++ q ∷ []) j e low)))

range-more : (f : ℕ → ℕ) (a n : ℕ) → sum_by f (range_with_len a (suc n)) ≡ sum_by f (range_with_len a n) + f (a + n)
range-more f a zero = let same : a + 0 ≡ a = omega arith in omega (arith, sum_by-cons f a [], ap f same)
range-more f a (suc n) =
    let moved : (a + 1) + n ≡ a + suc n = omega arith in
    omega (arith, range-more f (a + 1) n, sum_by-cons f a (range_with_len (a + 1) (suc n)), sum_by-cons f a (range_with_len (a + 1) n), ap f moved)

module _ (pool : Pool) (request : List Frame) (ports : List Port) where
  abbrev choice : Choice
  choice = choice_of pool request ports

  -- how many docks of port i are undecided
  abbrev open_at : ℕ → ℕ
  open_at i = length (open_places pool request ports (port_frame ports (suc i)))

  -- ---- free ports

  abbrev once_at : ℕ → ℕ
  once_at i = if is_free_port request ports i then 3 * open_at i else 0

  ahead-most : (rs : List Resource) → sum_by evaluations_ahead rs ≤ 3 * length rs
  ahead-most rs = omega (arith, sum_by-le evaluations_ahead 3 rs (λ k d within. three (is_unknown (get_or rs k d).kept)))
    where
      three : (b : Bool) → (if b then 3 else 0) ≤ 3
      three true = omega arith
      three false = omega arith

  ahead-within : (i : ℕ) (sides : List Side) → AreSides pool request ports i sides
      → sides_ahead sides ≤ sum_by once_at (range_with_len i (length sides))
  unfolding sides_ahead
  ahead-within i [] are = omega arith
  ahead-within i (side ∷ sides) are =
      omega (
        arith,
        here,
        moved,
        ahead-within (suc i) sides are.1,
        sum_by-cons side_ahead side sides,
        sum_by-cons once_at i (range_with_len (i + 1) (length sides)),
      )
    where
      many : length side.resources.items ≡ open_at i
      many = sym (length-mapped (λ (r : Resource). r.place) side.resources.items)
          ∙ length_permutation (open_places pool request ports (port_frame ports (suc i))) (map (λ (r : Resource). r.place) side.resources.items)
          are.0.resources.all

      by : (b : Bool) → (if b then sum_by evaluations_ahead side.resources.items else 0) ≤ (if b then 3 * open_at i else 0)
      by true = omega (arith, ahead-most side.resources.items, many)
      by false = omega arith

      moved : sum_by once_at (range_with_len (suc i) (length sides)) ≡ sum_by once_at (range_with_len (i + 1) (length sides))
      moved = ap (λ (n : ℕ). sum_by once_at (range_with_len n (length sides))) (sym (add-one i))

      here : side_ahead side ≤ once_at i
      here = subst (λ (b : Bool). side_ahead side ≤ (if b then 3 * open_at i else 0)) are.0.free (by side.is_free)

  -- ---- other ports

  abbrev anew : List ℕ → ℕ
  anew = evaluations_anew pool (gang_world pool request ports [])

  abbrev anew_at : ℕ → ℕ
  anew_at i = if is_free_port request ports i then 0 else 3 * open_at i

  anew-least : (before : List ℕ) → anew before ≤ anew_at (length before)
  unfolding open_docks
  anew-least before = by (is_free_port request ports (length before))
    where
      by : (b : Bool) → (if b then 0 else 3 * length (open_docks pool request ports before)) ≤ (if b then 0 else 3 * open_at (length before))
      by true = omega arith
      by false = omega (arith, length-fewer (λ place. not (is_among before place)) (open_places pool request ports (port_frame ports (suc (length before)))))

  abbrev behind_at : ℕ → ℕ
  behind_at i = length (tuples choice i []) * anew_at i

  anew-within : (n : ℕ) → over_prefixes choice anew n [] ≤ sum_by behind_at (range_with_len 0 n)
  unfolding over_prefixes
  anew-within zero = omega arith
  anew-within (suc n) = omega (arith, here, last, anew-within n, range-more behind_at 0 n)
    where
      last : behind_at (0 + n) ≡ behind_at n
      last = let same : 0 + n ≡ n = omega arith in ap behind_at same

      here : sum_by (λ tuple. anew ([] ++ tuple)) (tuples choice n []) ≤ behind_at n
      here = sum_by-le anew (anew_at n) (tuples choice n [])
          (λ k d within. subst (λ m. anew (get_or (tuples choice n []) k d) ≤ anew_at m) (tuples-length choice n [] k d within)
          (anew-least (get_or (tuples choice n []) k d)))

  -- ---- both

  both-at : (i : ℕ) → once_at i + behind_at i ≡ 3 * weighed_at pool request ports i
  unfolding weighed_at
  both-at i = by (is_free_port request ports i)
    where
      turned : length (tuples choice i []) * (3 * open_at i) ≡ 3 * (open_at i * length (tuples choice i []))
      turned = mul_left_comm (length (tuples choice i [])) 3 (open_at i) ∙ ap (λ n. 3 * n) (mul_comm (length (tuples choice i [])) (open_at i))

      by : (b : Bool)
          → (if b then 3 * open_at i else 0) + length (tuples choice i []) * (if b then 0 else 3 * open_at i)
          ≡ 3 * (open_at i * (if b then 1 else length (tuples choice i [])))
      by true = omega (arith, mul_comm (length (tuples choice i [])) 0)
      by false = omega (arith, turned)

  pub once-within : (sides : List Side) → AreSides pool request ports 0 sides → length sides ≡ length ports
      → evaluations_once pool (gang_world pool request ports []) [] sides ≤ 3 * docks_weighed pool request ports
  once-within sides are many =
      let range = range_with_len 0 (length ports) in
      let first : sides_ahead sides ≤ sum_by once_at range =
      subst (λ n. sides_ahead sides ≤ sum_by once_at (range_with_len 0 n)) many (ahead-within 0 sides are) in
      let others : over_prefixes choice anew (length sides) [] ≤ sum_by behind_at range =
      subst (λ n. over_prefixes choice anew (length sides) [] ≤ sum_by behind_at (range_with_len 0 n)) many (anew-within (length sides)) in
      let total : sum_by once_at range + sum_by behind_at range ≡ 3 * docks_weighed pool request ports =
      sum_by-both once_at behind_at range ∙ sum_by-same (λ i. once_at i + behind_at i) (λ i. 3 * weighed_at pool request ports i) both-at range
      ∙ sum_by-multiple 3 (weighed_at pool request ports) range in
      omega (arith, first, others, total)
