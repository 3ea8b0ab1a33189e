-- The order of candidates, and loops over resources.
use Rattle.std.proofs.Common.{◌≡◌, ◌<◌, ◌≤◌, ◌+◌, ℕ, zero, suc, refl, List, [], ◌++◌, ◌∷◌, length, map, take, drop, get_or}
use Rattle.std.proofs.Common.{Option, All, ap, sym, ◌∙◌, subst}
use Rattle.std.specs.Cmp.{IsStrictWeakOrder, IsTotalOrder}
use Rattle.std.specs.List.{cons_option, filter_map}
use Rattle.std.specs.Ordering.{is_lt}
use Rattle.std.proofs.lemmas.Cmp.{back_total, int_cmp_total, nat_cmp_total, on_total, then_total}
use Rattle.std.proofs.lemmas.List.{append-nil, drop_all, take_all, take_more}
use Rattle.std.proofs.lemmas.List.Elements.{filter_map-append}
use Rattle.std.proofs.lemmas.List.Sorted.{ranks_by}
use Rattle.gang_ports.specs.declared.weighing.Candidate.{Candidate}
use Rattle.gang_ports.specs.Search.{candidate_order}

candidate_total : IsTotalOrder candidate_order
candidate_total = then_total (back_total (on_total (λ (c : Candidate). c.rank) int_cmp_total)) (on_total (λ (c : Candidate). c.place) nat_cmp_total)

pub candidate_weak : IsStrictWeakOrder (λ a b. is_lt (candidate_order a b))
candidate_weak = ranks_by candidate_total (λ (c : Candidate). c)

-- ---- resources, one after another

-- the item that a loop is at, where those before it are mapped already
front-at : {X : Type 0} (f : X → X) (xs : List X) (i : ℕ) (d : X) → get_or (map f (take i xs) ++ drop i xs) i d ≡ get_or xs i d
front-at f [] zero d = refl
front-at f [] (suc i) d = refl
front-at f (x ∷ xs) zero d = refl
front-at f (x ∷ xs) (suc i) d = front-at f xs i d

pub item-at : {X : Type 0} (f : X → X) (xs now : List X) (i : ℕ) (x : X) → x ≡ get_or now i x → now ≡ map f (take i xs) ++ drop i xs
    → x ≡ get_or xs i x
item-at f xs now i x is so_far = is ∙ ap (λ ys. get_or ys i x) so_far ∙ front-at f xs i x

-- what holds of all of them holds of the item
pub item-hold : {X : Type 0} (P : X → Type 0) (f : X → X) (start now : List X) (i : ℕ) (item : X) → i < length start → item ≡ get_or now i item
    → now ≡ map f (take i start) ++ drop i start
    → All P start → P (get_or now i item)
item-hold P f start now i item within is so_far h = subst P (sym (item-at f start now i item is so_far) ∙ is) (h i item within)

pub front-all : {X : Type 0} (f : X → X) (xs : List X) (i : ℕ) → length xs ≤ i → map f (take i xs) ++ drop i xs ≡ map f xs
front-all f xs i past = ap (λ ys. map f (take i xs) ++ ys) (drop_all i xs past) ∙ append-nil (map f (take i xs)) ∙ ap (map f) (take_all i xs past)

module _ {X Y : Type 0} (f : X → Option Y) (xs : List X) (i : ℕ) where
  pub found-next : (x : X) (ys new : List Y) (o : Option Y) → i < length xs → x ≡ get_or xs i x → ys ≡ filter_map f (take i xs) → o ≡ f x
      → new ≡ ys ++ cons_option o [] → new ≡ filter_map f (take (i + 1) xs)
  found-next x ys new o within is so_far found added =
      added
      ∙ ap (λ zs. zs ++ cons_option o []) so_far
      ∙ ap (λ p. filter_map f (take i xs) ++ cons_option p []) found
      ∙ sym (filter_map-append f (take i xs) (x ∷ []))
      ∙ ap (λ q. filter_map f (take i xs ++ q ∷ [])) is
      ∙ ap (filter_map f) (sym (take_more xs i x within))

  pub found-all : (ys : List Y) → length xs ≤ i → ys ≡ filter_map f (take i xs) → ys ≡ filter_map f xs
  found-all ys past so_far = so_far ∙ ap (filter_map f) (take_all i xs past)
