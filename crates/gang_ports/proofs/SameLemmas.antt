-- Pools that say the same of each place have the same gangs, and as many open docks.
use Rattle.std.proofs.Common.{◌≡◌, ◌<◌, ◌≤◌, ◌+◌, ◌*◌, ℕ, zero, suc, Bool, false, not, ◌&&◌, cond, refl, List, [], ◌∷◌}
use Rattle.std.proofs.Common.{filter, length, Option, slice_get, is_some, ap, ◌∙◌, arith}
use Rattle.std.specs.List.{range_with_len}
use Rattle.std.specs.Option.{option_map_or}
use Rattle.ad_tree.specs.Frames.{Frame}
use Rattle.ad_tree.specs.declared.request.Port.{Port}
use Rattle.ad_store.specs.Stock.{Advert, is_live}
use Rattle.dock_match.specs.Pool.{Hold, Pool}
use Rattle.eval_scope.specs.World.{port_frame}
use Rattle.gang_ports.specs.Choice.{Choice, first_of, is_among, over_prefixes, tuples}
use Rattle.gang_ports.specs.FreePorts.{is_free_port}
use Rattle.gang_ports.specs.Gangs.{choice_of, docks_open, docks_weighed, free_places, gang, is_free, is_open, open_docks, open_places, weighed_at}
use Rattle.gang_ports.proofs.ListLemmas.{sum_by-same}

-- ---- places of a range

filter-within : (p q : ℕ → Bool) (k n m : ℕ) → k + n ≤ m → ((i : ℕ) → i < m → p i ≡ q i)
    → filter p (range_with_len k n) ≡ filter q (range_with_len k n)
filter-within p q k zero m fits same = refl
filter-within p q k (suc n) m fits same =
    ap (λ b. cond b (k ∷ filter p (range_with_len (k + 1) n)) (filter p (range_with_len (k + 1) n))) (same k (omega (arith, fits)))
    ∙ ap (λ l. cond (q k) (k ∷ l) l) (filter-within p q (k + 1) n m (omega (arith, fits)) same)

-- ---- pools that say the same

module _ (moment : ℕ) (ads : List Advert) (off_a off_b : ℕ → Bool) (held_a held_b : ℕ → Option Hold) where
  abbrev pub one : Pool
  one = record { moment = moment; ads = ads; is_offered = off_a; held_in = held_a }

  abbrev pub other : Pool
  other = record { moment = moment; ads = ads; is_offered = off_b; held_in = held_b }

  module _ (same : (i : ℕ) → i < length ads → (off_a i ≡ off_b i) × (held_a i ≡ held_b i)) where
    free-by : (place : ℕ) → place < length ads → is_free one place ≡ is_free other place
    free-by place within =
        let live = option_map_or (is_live moment) (slice_get ads place) false in
        ap (λ b. live && (not b && not (is_some (held_a place)))) (same place within).0
        ∙ ap (λ held. live && (not (off_b place) && not (is_some held))) (same place within).1

    free-same : free_places one ≡ free_places other
    unfolding free_places
    free-same = filter-within (is_free one) (is_free other) 0 (length ads) (length ads) (omega arith) free-by

    module _ (request : List Frame) (ports : List Port) where
      choice-same : choice_of one request ports ≡ choice_of other request ports
      choice-same =
          ap (λ (free : List ℕ). let c : Choice =
          record { free = free; dock = (choice_of one request ports).dock; rank = (choice_of one request ports).rank } in c) free-same

      pub gang-same : gang one request ports ≡ gang other request ports
      gang-same = ap (λ c. first_of c (tuples c (length ports) [])) choice-same

      behind-same : (before : List ℕ) → open_docks one request ports before ≡ open_docks other request ports before
      unfolding open_docks open_places
      behind-same before =
          ap (λ free. filter (λ p. not (is_among before p)) (filter (is_open one request ports (port_frame ports (suc (length before)))) free)) free-same

      pub docks-same : docks_open one request ports ≡ docks_open other request ports
      docks-same = λ i. over_prefixes (choice-same i) (λ before. length (behind-same before i)) (length ports) []

      -- the docks of a port, and how often each is weighed
      weighed-at-same : (i : ℕ) → weighed_at one request ports i ≡ weighed_at other request ports i
      unfolding weighed_at open_places
      weighed-at-same i =
          λ j. length (filter (is_open one request ports (port_frame ports (suc i))) (free-same j)) *
          (cond (is_free_port request ports i) 1 (length (tuples (choice-same j) i [])))

      pub weighed-same : docks_weighed one request ports ≡ docks_weighed other request ports
      weighed-same = sum_by-same (weighed_at one request ports) (weighed_at other request ports) weighed-at-same (range_with_len 0 (length ports))
