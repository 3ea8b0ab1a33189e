-- Gangs of a pool: what a search from nothing finds, and what more offers leave.
use Rattle.std.proofs.Common.{◌≡◌, ◌<◌, ◌≤◌, ◌+◌, ◌*◌, ℕ, zero, suc, Bool, true, false, not, ◌&&◌, refl, List, [], ◌∷◌}
use Rattle.std.proofs.Common.{◌++◌, length, filter, Option, None, Some, slice_get, is_some, sum_by, All, ap, sym, ◌∙◌, subst, arith}
use Rattle.std.specs.List.{range_with_len}
use Rattle.std.specs.Option.{option_map_or}
use Rattle.std.proofs.lemmas.List.Elements.{All-cons, All-contains, All-filter, All-nil, filter_agree}
use Rattle.ad_tree.specs.Frames.{Frame}
use Rattle.ad_tree.specs.declared.request.Port.{Port}
use Rattle.ad_store.specs.Stock.{is_live}
use Rattle.dock_match.specs.Pool.{Pool}
use Rattle.eval_scope.specs.World.{attribute_count, port_frame}
use Rattle.gang_ports.specs.Choice.{Choice, IsFirstOf, first_of, is_among, over_prefixes, tuples}
use Rattle.gang_ports.specs.Gangs.{attributes_behind, attributes_open, choice_of, docks_open, evaluations_behind, free_places, gang, gang_world, is_free}
use Rattle.gang_ports.specs.Gangs.{is_open, open_docks, open_places}
use Rattle.gang_ports.specs.declared.searching.Ending.{Ending}
use Rattle.gang_ports.specs.Search.{Outcome}
use Rattle.gang_ports.proofs.CountLemmas.{over-multiple}
use Rattle.gang_ports.proofs.LawLemmas.{all-tuples, fewer, filter-turned, first-are, length-fewer, none-fewer, over-fewer, sum-fewer}
use Rattle.gang_ports.proofs.ListLemmas.{filter-both}
use Rattle.gang_ports.proofs.OrderLemmas.{first-is, first-none}

module _ (pool : Pool) (request : List Frame) (ports : List Port) where
  -- ---- from nothing on

  pub gang-found : (n : ℕ) (places : List ℕ) → n ≡ length ports → Outcome (choice_of pool request ports) n [] places Ending.Found
      → gang pool request ports ≡ Some places
  gang-found n places many o =
      let found : first_of (choice_of pool request ports) (tuples (choice_of pool request ports) n []) ≡ Some o.0 =
      first-is (choice_of pool request ports) (tuples (choice_of pool request ports) n []) o.0 o.2 in
      ap (λ m. first_of (choice_of pool request ports) (tuples (choice_of pool request ports) m [])) (sym many) ∙ found ∙ ap Some (sym o.1)

  pub gang-none : (n : ℕ) → n ≡ length ports → tuples (choice_of pool request ports) n [] ≡ [] → gang pool request ports ≡ None
  gang-none n many none =
      ap (λ m. first_of (choice_of pool request ports) (tuples (choice_of pool request ports) m [])) (sym many)
      ∙ first-none (choice_of pool request ports) (tuples (choice_of pool request ports) n []) none

  range-below : (k n m : ℕ) → k + n ≤ m → All (λ p. p < m) (range_with_len k n)
  range-below k zero m fits = All-nil (λ p. p < m)
  range-below k (suc n) m fits = All-cons (λ p. p < m) k (range_with_len (k + 1) n) (omega (arith, fits)) (range-below (k + 1) n m (omega (arith, fits)))

  pub gang-within : (n m : ℕ) (places : List ℕ) → length pool.ads ≤ m → Outcome (choice_of pool request ports) n [] places Ending.Found
      → All (λ p. p < m) places
  unfolding free_places
  gang-within n m places fits o =
      subst (All (λ p. p < m)) (sym o.1)
      (All-contains (λ t. All (λ p. p < m) t) (tuples (choice_of pool request ports) n []) o.0
      (all-tuples (choice_of pool request ports) (λ p. p < m)
      (All-filter (is_free pool) (λ p. p < m) (range_with_len 0 (length pool.ads)) (range-below 0 (length pool.ads) m (omega (arith, fits)))) n [])
      o.2.among)

  pub evaluations-total : over_prefixes (choice_of pool request ports) (evaluations_behind pool request ports) (length ports) []
      ≡ 3 * docks_open pool request ports
  evaluations-total = over-multiple (choice_of pool request ports) 3 (λ before. length (open_docks pool request ports before)) (length ports) []

  -- ---- more offers

  module _ (offered : ℕ → Bool) (more : (place : ℕ) → pool.is_offered place ≡ true → offered place ≡ true) where
    abbrev later : Pool
    later = record pool { is_offered = offered }

    abbrev unoffered : ℕ → Bool
    unoffered place = not (offered place)

    free-later : (live was now claimed : Bool) → (was ≡ true → now ≡ true)
        → (live && (not now && not claimed)) ≡ ((live && (not was && not claimed)) && not now)
    free-later false was now claimed more = refl
    free-later true true true claimed more = refl
    free-later true true false claimed more = absurd (cc (more refl))
    free-later true false true claimed more = by claimed
      where
        by : (b : Bool) → false ≡ (not b && false)
        by true = refl
        by false = refl
    free-later true false false claimed more = by claimed
      where
        by : (b : Bool) → not b ≡ (not b && true)
        by true = refl
        by false = refl

    free-fewer : free_places later ≡ filter unoffered (free_places pool)
    unfolding free_places
    free-fewer =
        filter_agree (is_free later) (λ p. is_free pool p && unoffered p)
        (λ p. free-later (option_map_or (is_live pool.moment) (slice_get pool.ads p) false) (pool.is_offered p) (offered p) (is_some (pool.held_in p))
        (more p))
        (range_with_len 0 (length pool.ads))
        ∙ sym (filter-both (is_free pool) unoffered (range_with_len 0 (length pool.ads)))

    choice-fewer : choice_of later request ports ≡ fewer unoffered (choice_of pool request ports)
    choice-fewer =
        ap (λ (free : List ℕ). let c : Choice =
        record { free = free; dock = (choice_of pool request ports).dock; rank = (choice_of pool request ports).rank } in c) free-fewer

    docks-fewer : (before : List ℕ) → open_docks later request ports before ≡ filter unoffered (open_docks pool request ports before)
    unfolding open_docks open_places
    docks-fewer before =
        let asked = is_open pool request ports (port_frame ports (suc (length before))) in
        ap (λ ps. filter (λ p. not (is_among before p)) (filter asked ps)) free-fewer
        ∙ ap (filter (λ p. not (is_among before p))) (filter-turned unoffered asked (free_places pool))
        ∙ filter-turned unoffered (λ p. not (is_among before p)) (filter asked (free_places pool))

    pub gang-later : gang pool request ports ≡ None → gang later request ports ≡ None
    gang-later none =
        let n = length ports in
        ap (λ c. first_of c (tuples c n [])) choice-fewer
        ∙ first-none (fewer unoffered (choice_of pool request ports)) (tuples (fewer unoffered (choice_of pool request ports)) n [])
        (none-fewer unoffered (choice_of pool request ports) n []
        (no-tuples (first_of (choice_of pool request ports) (tuples (choice_of pool request ports) n [])) none
        (first-are (choice_of pool request ports) (tuples (choice_of pool request ports) n []))))
      where
        no-tuples : (o : Option (List ℕ)) → o ≡ None
            → IsFirstOf (choice_of pool request ports) (tuples (choice_of pool request ports) (length ports) []) o
            → tuples (choice_of pool request ports) (length ports) [] ≡ []
        no-tuples None e h = h
        no-tuples (Some t) e h = absurd (cc)

    pub docks-later : docks_open later request ports ≤ docks_open pool request ports
    docks-later =
        let few = λ (before : List ℕ). length (open_docks later request ports before) in
        let many = λ (before : List ℕ). length (open_docks pool request ports before) in
        subst (λ c. over_prefixes c few (length ports) [] ≤ docks_open pool request ports) (sym choice-fewer)
        (over-fewer unoffered (choice_of pool request ports) few many
        (λ before. subst (λ ps. length ps ≤ length (open_docks pool request ports before)) (sym (docks-fewer before))
        (length-fewer unoffered (open_docks pool request ports before))) (length ports) [])

    pub attributes-later : attributes_open later request ports ≤ attributes_open pool request ports
    attributes-later =
        subst (λ c. over_prefixes c (attributes_behind later request ports) (length ports) [] ≤ attributes_open pool request ports) (sym choice-fewer)
        (over-fewer unoffered (choice_of pool request ports) (attributes_behind later request ports) (attributes_behind pool request ports)
        (λ before.
        let count = λ (p : ℕ). 3 * attribute_count (gang_world pool request ports (before ++ p ∷ [])) in
        let same : (p : ℕ) → count p ≤ count p = λ p. omega arith in
        subst (λ ps. sum_by count ps ≤ sum_by count (open_docks pool request ports before)) (sym (docks-fewer before))
        (sum-fewer unoffered count count same (open_docks pool request ports before))) (length ports) [])
