-- A port that is spent by the first of the places before it: no tuple leads through it while these stay.
use Rattle.std.proofs.Common.{◌≡◌, ◌<◌, ◌≤◌, ◌==◌, ◌&&◌, ◌||◌, ◌∷◌, ◌++◌, ℕ, suc, Bool, true, false, not}
use Rattle.std.proofs.Common.{if◌then◌else◌, List, [], All, None, Some, drop, filter, get_or, length, map, take, refl, ap, sym, ◌∙◌, subst, arith}
use Rattle.std.specs.List.{flat_map, list_all}
use Rattle.std.proofs.lemmas.List.{take-append-drop, take-append-le, take_all}
use Rattle.std.proofs.lemmas.List.Folds.{list_any-append}
use Rattle.std.proofs.lemmas.List.Elements.{All-head, All-map, All-tail}
use Rattle.std.proofs.lemmas.List.Sorted.{All-permutation, IsPermutation-sym}
use Rattle.std.proofs.lemmas.List.Sums.{AllPass-from_list_all}
use Rattle.ad_tree.specs.Ad.{ad_frames}
use Rattle.ad_tree.specs.Frames.{Frame}
use Rattle.ad_tree.specs.declared.request.Port.{Port}
use Rattle.ad_eval.specs.Dock.{is_docked, rank_by}
use Rattle.dock_match.specs.Pool.{Pool}
use Rattle.eval_scope.specs.World.{PlainWorld, port_frame, request_side, with_docked}
use Rattle.gang_ports.specs.declared.weighing.Kept.{Kept}
use Rattle.gang_ports.specs.declared.weighing.Resource.{Resource}
use Rattle.gang_ports.specs.declared.weighing.Side.{Side}
use Rattle.gang_ports.specs.Choice.{Choice, fits, is_among, next, tuples}
use Rattle.gang_ports.specs.Gangs.{choice_of, gang_world, open_places}
use Rattle.gang_ports.specs.Search.{HasNoTuples, IsSide, IsWorth, is_spent, is_undocked, worth}
use Rattle.gang_ports.proofs.DockLemmas.{gang-with, next-open}
use Rattle.gang_ports.proofs.ListLemmas.{flat_map-none, length-more}

filter-none : {X : Type 0} (p : X → Bool) (xs : List X) → All (λ x. p x ≡ false) xs → filter p xs ≡ []
filter-none p [] h = refl
filter-none p (x ∷ xs) h = by (p x) (All-head (λ x. p x ≡ false) x xs h) (filter-none p xs (All-tail (λ x. p x ≡ false) x xs h))
  where
    by : (b : Bool) → b ≡ false → filter p xs ≡ [] → (if b then x ∷ filter p xs else filter p xs) ≡ []
    by true e rest = absurd (cc)
    by false e rest = rest

worth-none : (w : PlainWorld) (ad : List Frame) (kept : Kept) → is_undocked kept ≡ true → IsWorth w ad kept → worth (with_docked w ad) ≡ None
worth-none w ad Kept.Unknown e right = absurd (cc)
worth-none w ad (Kept.Weighed None) e right = sym right
worth-none w ad (Kept.Weighed (Some rank)) e right = absurd (cc)

not-docked : (w : PlainWorld) → worth w ≡ None → is_docked w ≡ false
not-docked w none = by (is_docked w) none
  where
    by : (b : Bool) → (if b then Some (rank_by w (request_side w)) else None) ≡ None → b ≡ false
    by true e = absurd (cc)
    by false e = refl

among-take : (many : ℕ) (before : List ℕ) (place : ℕ) → is_among (take many before) place ≡ true → is_among before place ≡ true
among-take many before place e =
    ap (λ (ps : List ℕ). is_among ps place) (sym (take-append-drop many before))
    ∙ list_any-append (λ other. other == place) (take many before) (drop many before)
    ∙ ap (λ (b : Bool). b || is_among (drop many before) place) e

module _ (pool : Pool) (request : List Frame) (ports : List Port) where
  abbrev choice : Choice
  choice = choice_of pool request ports

  no-fit : (before : List ℕ) (place : ℕ) → worth (gang_world pool request ports (before ++ place ∷ [])) ≡ None → fits choice before place ≡ false
  unfolding fits
  no-fit before place none =
      by (not (is_among before place)) (is_docked (gang_world pool request ports (before ++ place ∷ [])))
      (not-docked (gang_world pool request ports (before ++ place ∷ [])) none)
    where
      by : (a b : Bool) → b ≡ false → (a && b) ≡ false
      by true b e = e
      by false b e = refl

  taken : (before : List ℕ) (place : ℕ) → is_among before place ≡ true → fits choice before place ≡ false
  unfolding fits
  taken before place among = ap (λ (b : Bool). not b && choice.dock before place) among

  module _ (before : List ℕ) (side : Side) (is : IsSide pool request ports (length before) side) (many : ℕ) (free : side.is_free ≡ true)
      (none : list_all (λ (r : Resource). is_undocked r.kept || is_among (take many before) r.place) side.resources.items ≡ true) where
    abbrev resources : List Resource
    resources = side.resources.items

    no-next : next choice before ≡ []
    no-next =
        let asked = open_places pool request ports (port_frame ports (suc (length before))) in
        sym (next-open pool request ports before)
        ∙ filter-none (fits choice before) asked
        (All-permutation (λ (p : ℕ). fits choice before p ≡ false) (map (λ (r : Resource). r.place) resources) asked
        (IsPermutation-sym asked (map (λ (r : Resource). r.place) resources) is.resources.all)
        (All-map (λ (p : ℕ). fits choice before p ≡ false) (λ (r : Resource). r.place) resources (λ k d within. unfit k d within)))
      where
        unfit : (k : ℕ) (d : Resource) → k < length resources → fits choice before (get_or resources k d).place ≡ false
        unfit k d within =
            by (is_undocked r.kept) (is_among (take many before) r.place) refl refl
            (AllPass-from_list_all (λ (q : Resource). is_undocked q.kept || is_among (take many before) q.place) resources none k d within)
          where
            r : Resource
            r = get_or resources k d

            world : PlainWorld
            world = gang_world pool request ports before

            by : (a b : Bool) → is_undocked r.kept ≡ a → is_among (take many before) r.place ≡ b → (a || b) ≡ true
                → fits choice before r.place ≡ false
            by true b undocked among e =
                no-fit before r.place
                (sym (ap worth (ap (with_docked world) (is.resources.ads k d within) ∙ gang-with pool request ports before r.place))
                ∙ worth-none world (ad_frames r.ad.now) r.kept undocked (is.kept free k d within before refl))
            by false true undocked among e = taken before r.place (among-take many before r.place among)
            by false false undocked among e = absurd (cc)

  -- where a port is spent by the first places there is no tuple behind them
  pub spent-here : (n : ℕ) (before : List ℕ) (side : Side) → IsSide pool request ports (length before) side → (many : ℕ)
      → is_spent (take many before) side ≡ true → HasNoTuples choice (suc n) before many
  unfolding tuples
  spent-here n before side is many e = λ other long same.
      let spent : is_spent (take many other) side ≡ true = ap (λ (ps : List ℕ). is_spent ps side) same ∙ e in
      let parts = both side.is_free (list_all (λ (r : Resource). is_undocked r.kept || is_among (take many other) r.place) side.resources.items) spent in
      ap (flat_map (λ place. map (λ tuple. place ∷ tuple) (tuples choice n (other ++ place ∷ []))))
      (no-next other side (subst (λ (i : ℕ). IsSide pool request ports i side) (sym long) is) many parts.0 parts.1)
    where
      both : (a b : Bool) → (a && b) ≡ true → (a ≡ true) × (b ≡ true)
      both true b e = (refl, e)
      both false b e = absurd (cc)

module _ (choice : Choice) (n : ℕ) (before : List ℕ) (many : ℕ) where
  -- nor is there where there is none behind one place more
  pub spent-above : (c : ℕ) → many ≤ length before → HasNoTuples choice n (before ++ c ∷ []) many → HasNoTuples choice (suc n) before many
  unfolding tuples
  spent-above c deep none = λ other long same.
      flat_map-none (λ place. map (λ tuple. place ∷ tuple) (tuples choice n (other ++ place ∷ []))) (next choice other)
      (λ k d within.
      let place = get_or (next choice other) k d in
      ap (map (λ tuple. place ∷ tuple))
      (none (other ++ place ∷ []) (length-more other place ∙ ap suc long ∙ sym (length-more before c))
      (take-append-le many other (place ∷ []) (omega (arith, deep, long)) ∙ same ∙ sym (take-append-le many before (c ∷ []) deep))))

  -- where there is none behind all places before, there is none behind so many
  pub none-whole : length before ≤ many → tuples choice n before ≡ [] → HasNoTuples choice n before many
  none-whole past none = λ other long same.
      ap (tuples choice n) (sym (take_all many other (omega (arith, past, long))) ∙ same ∙ take_all many before past) ∙ none
