-- A port's side once its resources are weighed behind a prefix.
use Rattle.std.proofs.Common.{◌≡◌, ◌≤◌, ◌+◌, ℕ, suc, Bool, true, false, if◌then◌else◌, List, [], ◌∷◌, ◌++◌, length, map}
use Rattle.std.proofs.Common.{sum_by, None, Some, All, ap, sym, ◌∙◌, subst, arith, ℤ}
use Rattle.std.specs.List.Sorted.{IsPermutation}
use Rattle.std.proofs.lemmas.List.Elements.{All-map}
use Rattle.ad_tree.specs.Ad.{ad_frames}
use Rattle.ad_tree.specs.Frames.{Frame}
use Rattle.eval_scope.specs.World.{PlainWorld, port_frame, with_docked}
use Rattle.dock_match.specs.Pool.{Pool}
use Rattle.gang_ports.specs.declared.weighing.Kept.{Kept}
use Rattle.gang_ports.specs.declared.weighing.Resource.{Resource}
use Rattle.gang_ports.specs.declared.weighing.Side.{Side}
use Rattle.gang_ports.specs.Choice.{is_among}
use Rattle.gang_ports.specs.FreePorts.{is_free_port}
use Rattle.gang_ports.specs.Gangs.{ad_at, choice_of, evaluations_behind, gang_world, open_places}
use Rattle.gang_ports.specs.Search.{AreResources, IsKept, IsSide, IsWorth, evaluations_ahead, evaluations_anew, evaluations_in, evaluations_of, kept_in}
use Rattle.gang_ports.specs.Search.{remembered, side_ahead, weighed_in, worth}
use Rattle.gang_ports.proofs.DockLemmas.{gang-with}
use Rattle.gang_ports.proofs.FreePortLemmas.{free-dock, free-rank}
use Rattle.gang_ports.proofs.WeighLemmas.{remembered-evaluations, remembered-hold, remembered-places, weighed-ahead, weighed-hold}

module _ (pool : Pool) (w : PlainWorld) (before : List ℕ) (same : w ≡ gang_world pool w.request w.ports before) where
  -- ---- a free port

  module _ (free : is_free_port w.request w.ports (length before) ≡ true) (others : List ℕ) (many : length others ≡ length before) (ad : List Frame)
      (place : ℕ) (at : ad ≡ ad_at pool place) where
    here : worth (with_docked w ad) ≡ worth (gang_world pool w.request w.ports (before ++ place ∷ []))
    here = ap worth (ap (with_docked w) at ∙ ap (λ (u : PlainWorld). with_docked u (ad_at pool place)) same
        ∙ gang-with pool w.request w.ports before place)

    there : worth (with_docked (gang_world pool w.request w.ports others) ad) ≡ worth (gang_world pool w.request w.ports (others ++ place ∷ []))
    there = ap worth (ap (with_docked (gang_world pool w.request w.ports others)) at ∙ gang-with pool w.request w.ports others place)

    across : worth (gang_world pool w.request w.ports (before ++ place ∷ [])) ≡ worth (gang_world pool w.request w.ports (others ++ place ∷ []))
    across =
        let choice = choice_of pool w.request w.ports in
        ap (λ (b : Bool). if b then Some (choice.rank before place) else None) (sym (free-dock pool w.request w.ports before others place many free))
        ∙ ap (λ (r : ℤ). if choice.dock others place then Some r else None) (sym (free-rank pool w.request w.ports before others place many free))

    pub worth-same : worth (with_docked w ad) ≡ worth (with_docked (gang_world pool w.request w.ports others) ad)
    worth-same = here ∙ across ∙ sym there

  kept-kept : is_free_port w.request w.ports (length before) ≡ true → (r : Resource) → ad_frames r.ad.now ≡ ad_at pool r.place
      → IsKept pool w.request w.ports (length before) r
      → IsKept pool w.request w.ports (length before) (weighed_in w before r)
  kept-kept free r at h = λ others many. by others many (is_among before r.place)
    where
      once : (others : List ℕ) → length others ≡ length before → (kept : Kept)
          → IsWorth (gang_world pool w.request w.ports others) (ad_frames r.ad.now) kept
          → IsWorth (gang_world pool w.request w.ports others) (ad_frames r.ad.now) (kept_in w (ad_frames r.ad.now) kept)
      once others many Kept.Unknown k = worth-same free others many (ad_frames r.ad.now) r.place at
      once others many (Kept.Weighed rank) k = k

      by : (others : List ℕ) → length others ≡ length before → (among : Bool)
          → (let q : Resource =
          if among then r else record { place = r.place; ad = r.ad; sides = r.sides; kept = kept_in w (ad_frames r.ad.now) r.kept } in IsWorth
          (gang_world pool w.request w.ports others) (ad_frames q.ad.now) q.kept)
      by others many true = h others many
      by others many false = once others many r.kept (h others many)

  -- ---- the side

  module _ (side new : Side) (is : IsSide pool w.request w.ports (length before) side) (free : new.is_free ≡ side.is_free)
      (kept : new.resources.items ≡ map (weighed_in w before) (remembered side.is_free side.resources.items)) where
    abbrev Has : Resource → Type 0
    Has r = ad_frames r.ad.now ≡ ad_at pool r.place

    side-resources : AreResources pool (open_places pool w.request w.ports (port_frame w.ports (suc (length before))))
        (map (weighed_in w before) (remembered side.is_free side.resources.items))
    side-resources = record {
      all = subst (λ (ps : List ℕ). IsPermutation (open_places pool w.request w.ports (port_frame w.ports (suc (length before)))) ps)
          (sym (remembered-places w before side.is_free side.resources.items)) is.resources.all;
      ads =
          weighed-hold w before Has (λ r kept h. h) (remembered side.is_free side.resources.items)
          (remembered-hold w before Has (λ r kept h. h) side.is_free side.resources.items is.resources.ads);
    }

    side-kept : side.is_free ≡ true
        → All (IsKept pool w.request w.ports (length before)) (map (weighed_in w before) (remembered side.is_free side.resources.items))
    side-kept e =
        subst (λ (b : Bool). All (IsKept pool w.request w.ports (length before)) (map (weighed_in w before) (remembered b side.resources.items))) (sym e)
        (All-map (IsKept pool w.request w.ports (length before)) (weighed_in w before) side.resources.items
        (λ k d within. kept-kept (sym is.free ∙ e) _ (is.resources.ads k d within) (is.kept e k d within)))

    pub side-weighed : IsSide pool w.request w.ports (length before) new
    side-weighed = record {
      free = free ∙ is.free;
      resources = subst (AreResources pool (open_places pool w.request w.ports (port_frame w.ports (suc (length before))))) (sym kept) side-resources;
      kept = λ e. subst (All (IsKept pool w.request w.ports (length before))) (sym kept) (side-kept (sym free ∙ e));
    }

    -- what is weighed now is ahead at a free port, or is weighed anew at another
    pub side-once : (start tops : ℕ) → sum_by (evaluations_of before) side.resources.items ≡ evaluations_behind pool w.request w.ports before
        → tops ≤ start + sum_by (evaluations_in before) (remembered side.is_free side.resources.items)
        → tops + side_ahead new ≤ start + side_ahead side + evaluations_anew pool w before
    side-once start tops whole step =
        subst (λ (b : Bool). tops + (if b then sum_by evaluations_ahead new.resources.items else 0)
        ≤ start + side_ahead side + evaluations_anew pool w before) (sym free)
        (subst (λ (rs : List Resource). tops + (if side.is_free then sum_by evaluations_ahead rs else 0)
        ≤ start + side_ahead side + evaluations_anew pool w before) (sym kept)
        (subst (λ (b : Bool). tops + (if side.is_free then sum_by evaluations_ahead
        (map (weighed_in w before) (remembered side.is_free side.resources.items)) else 0)
        ≤ start + side_ahead side + (if b then 0 else evaluations_behind pool w.request w.ports before)) is.free
        (by side.is_free step)))
      where
        by : (b : Bool) → tops ≤ start + sum_by (evaluations_in before) (remembered b side.resources.items)
            → tops + (if b then sum_by evaluations_ahead (map (weighed_in w before) (remembered b side.resources.items)) else 0)
            ≤ start + (if b then sum_by evaluations_ahead side.resources.items else 0) + (if b then 0 else evaluations_behind pool w.request w.ports before)
        by true step = omega (arith, step, weighed-ahead w before side.resources.items)
        by false step = omega (arith, step, whole, remembered-evaluations w before false side.resources.items)

  -- where no memory was left, what was weighed was ahead too
  module _ (side : Side) (is : IsSide pool w.request w.ports (length before) side) where
    pub side-spent : (start tops : ℕ) → sum_by (evaluations_of before) side.resources.items ≡ evaluations_behind pool w.request w.ports before
        → tops ≤ start + sum_by (evaluations_in before) (remembered side.is_free side.resources.items)
        → tops ≤ start + side_ahead side + evaluations_anew pool w before
    side-spent start tops whole step =
        subst (λ (b : Bool). tops ≤ start + side_ahead side + (if b then 0 else evaluations_behind pool w.request w.ports before)) is.free
        (by side.is_free step)
      where
        by : (b : Bool) → tops ≤ start + sum_by (evaluations_in before) (remembered b side.resources.items)
            → tops ≤ start + (if b then sum_by evaluations_ahead side.resources.items else 0)
            + (if b then 0 else evaluations_behind pool w.request w.ports before)
        by true step = omega (arith, step, weighed-ahead w before side.resources.items)
        by false step = omega (arith, step, whole, remembered-evaluations w before false side.resources.items)
