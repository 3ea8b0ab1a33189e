-- The resources of a port: those among the places that a test leaves.
use Rattle.std.proofs.Common.{◌≡◌, ◌<◌, ◌+◌, ◌-◌, ℕ, suc, Bool, true, false, not, ◌&&◌, cond, if◌then◌else◌, refl, List, []}
use Rattle.std.proofs.Common.{◌∷◌, ◌++◌, length, map, filter, take, get_or, Option, None, Some, option_map, slice_get, unwrap_or, All, ap, sym}
use Rattle.std.proofs.Common.{◌∙◌, subst, arith, add-zero, add-one, IfSome}
use Rattle.std.specs.List.{cons_option, range_with_len}
use Rattle.std.specs.List.Sorted.{IsPermutation}
use Rattle.std.specs.Option.{option_map_or}
use Rattle.std.proofs.lemmas.List.{append-nil}
use Rattle.std.proofs.lemmas.List.Elements.{All-push, filter_more}
use Rattle.ad_tree.specs.Ad.{ad_frames}
use Rattle.ad_tree.specs.Frames.{Frame}
use Rattle.ad_tree.specs.declared.request.Port.{Port}
use Rattle.ad_store.specs.Stock.{Advert}
use Rattle.conjunct_plan.specs.Decided.{is_dock_decided}
use Rattle.conjunct_plan.specs.Tests.{labels_of}
use Rattle.eval_scope.specs.World.{PlainWorld, port_frame}
use Rattle.ad_candidates.specs.Candidates.{AreCandidatesAt, places_where}
use Rattle.dock_match.specs.Pool.{Pool}
use Rattle.dock_match.specs.Sides.{open_sides}
use Rattle.dock_match.specs.declared.sides.OpenSides.{OpenSides}
use Rattle.dock_match.proofs.MetLemmas.{none-undecided, some-undecided}
use Rattle.gang_ports.specs.declared.weighing.Kept.{Kept}
use Rattle.gang_ports.specs.declared.weighing.Resource.{Resource}
use Rattle.gang_ports.specs.declared.weighing.Side.{Side}
use Rattle.gang_ports.specs.FreePorts.{is_free_port}
use Rattle.gang_ports.specs.Gangs.{ad_at, free_places, gang_world, is_free, is_open, open_places}
use Rattle.gang_ports.specs.Search.{AreResources, AreSides, HasSides, HaveSides, IsWorth, IsSide, is_unknown}
use Rattle.gang_ports.proofs.ListLemmas.{IsPermutation-filter, filter-both, map-more}

-- ---- places that a test leaves

module _ (keeps : ℕ → Bool) (passes : Advert → Bool) where
  -- all places of which some are kept, where none of the others is
  kept-where : (k : ℕ) (ads : List Advert) → ((i : ℕ) (a : Advert) → slice_get ads i ≡ Some a → passes a ≡ false → keeps (k + i) ≡ false)
      → filter keeps (range_with_len k (length ads)) ≡ filter keeps (places_where passes k ads)
  kept-where k [] others = refl
  kept-where k (a ∷ ads) others =
      by (passes a) refl
      (ap (λ (n : ℕ). filter keeps (range_with_len n (length ads))) (add-one k)
      ∙ kept-where (suc k) ads (λ i b at e. let moved : suc k + i ≡ k + suc i = omega arith in ap keeps moved ∙ others (suc i) b at e))
    where
      here : passes a ≡ false → keeps k ≡ false
      here e = ap keeps (sym (add-zero k)) ∙ others 0 a refl e

      by : (b : Bool) → passes a ≡ b → filter keeps (range_with_len (k + 1) (length ads)) ≡ filter keeps (places_where passes (suc k) ads)
          → cond (keeps k) (k ∷ filter keeps (range_with_len (k + 1) (length ads))) (filter keeps (range_with_len (k + 1) (length ads)))
          ≡ filter keeps (if b then k ∷ places_where passes (suc k) ads else places_where passes (suc k) ads)
      by true e rest = ap (λ (ys : List ℕ). cond (keeps k) (k ∷ ys) ys) rest
      by false e rest =
          ap (λ (c : Bool). cond c (k ∷ filter keeps (range_with_len (k + 1) (length ads))) (filter keeps (range_with_len (k + 1) (length ads)))) (here e)
          ∙ rest

-- ---- the resources of a frame

module _ (pool : Pool) (request : List Frame) (ports : List Port) (frame : ℕ) where
  -- the place may be taken, and no test decides the dock
  abbrev pub is_asked : ℕ → Bool
  is_asked place = is_free pool place && is_open pool request ports frame place

  open-asked : open_places pool request ports frame ≡ filter is_asked (range_with_len 0 (length pool.ads))
  unfolding open_places free_places
  open-asked = filter-both (is_free pool) (is_open pool request ports frame) (range_with_len 0 (length pool.ads))

  closed : (a : Bool) (b : Bool) → b ≡ false → (a && b) ≡ false
  closed true b e = e
  closed false b e = refl

  pub asked-places : (places : List ℕ) → AreCandidatesAt request frame (labels_of ports) pool.ads places → (rs : List Resource)
      → map (λ (r : Resource). r.place) rs ≡ filter is_asked places → All (λ (r : Resource). ad_frames r.ad.now ≡ ad_at pool r.place) rs
      → AreResources pool (open_places pool request ports frame) rs
  asked-places places some rs are ads =
      let whole : filter is_asked (range_with_len 0 (length pool.ads)) ≡ filter is_asked (places_where some.passes 0 pool.ads) =
      kept-where is_asked some.passes 0 pool.ads (λ i a at e.
      let ad_is : ad_at pool i ≡ a.ad = ap (λ (o : Option Advert). option_map_or (λ (b : Advert). b.ad) o []) at in
      let start : 0 + i ≡ i = omega arith in
      ap is_asked start ∙ closed (is_free pool i) (is_open pool request ports frame i) (ap
      (λ (ad : List Frame). not (is_dock_decided request frame (labels_of ports) ad)) ad_is ∙ some.others a e)) in
      let moved : IsPermutation (filter is_asked (places_where some.passes 0 pool.ads)) (filter is_asked places) =
      IsPermutation-filter is_asked (places_where some.passes 0 pool.ads) places some.all in
      record {
        all = subst (λ (ys : List ℕ). IsPermutation (open_places pool request ports frame) ys) (sym are)
            (subst (λ (xs : List ℕ). IsPermutation xs (filter is_asked places)) (sym (open-asked ∙ whole)) moved);
        ads = ads;
      }

  -- the resource at a place, where it may be taken
  module _ (place : ℕ) (fs : List Frame) (found : option_map (λ a. a.ad) (slice_get pool.ads place) ≡ Some fs) where
    ad-there : ad_at pool place ≡ fs
    ad-there = by (slice_get pool.ads place) found
      where
        by : (o : Option Advert) → option_map (λ a. a.ad) o ≡ Some fs → option_map_or (λ (a : Advert). a.ad) o [] ≡ fs
        by None e = absurd (cc)
        by (Some a) e = cc

    there-open : (decided : Bool) → is_dock_decided request frame (labels_of ports) fs ≡ decided → is_open pool request ports frame place ≡ not decided
    there-open decided e = ap (λ (ad : List Frame). not (is_dock_decided request frame (labels_of ports) ad)) ad-there ∙ ap not e

    pub none-asked : open_sides request frame (labels_of ports) fs ≡ None → None ≡ (if is_asked place then Some place else None)
    none-asked none =
        sym (ap (λ (b : Bool). if b then Some place else None)
        (closed (is_free pool place) (is_open pool request ports frame place) (there-open true (none-undecided request frame (labels_of ports) fs none))))

    pub some-asked : (sides : OpenSides) → is_free pool place ≡ true → open_sides request frame (labels_of ports) fs ≡ Some sides
        → Some place ≡ (if is_asked place then Some place else None)
    some-asked sides free some =
        sym (ap (λ (b : Bool). if b && is_open pool request ports frame place then Some place else None) free
        ∙ ap (λ (b : Bool). if b then Some place else None) (there-open false (some-undecided request frame (labels_of ports) fs sides some)))

  -- one place more
  module _ (rs new : List Resource) (items : List ℕ) (i : ℕ) (within : i < length items) (o : Option Resource)
      (added : new ≡ rs ++ cons_option o []) where
    pub asked-next : map (λ (r : Resource). r.place) rs ≡ filter is_asked (take i items)
        → option_map (λ (r : Resource). r.place) o ≡ (if is_asked (get_or items i 0) then Some (get_or items i 0) else None)
        → map (λ (r : Resource). r.place) new ≡ filter is_asked (take (i + 1) items)
    asked-next so_far found =
        ap (map (λ (r : Resource). r.place)) added
        ∙ by o (is_asked (get_or items i 0)) found
        ∙ sym (filter_more is_asked items i 0 within)
      where
        by : (p : Option Resource) (b : Bool) → option_map (λ (r : Resource). r.place) p ≡ (if b then Some (get_or items i 0) else None)
            → map (λ (r : Resource). r.place) (rs ++ cons_option p []) ≡ filter is_asked (take i items) ++ cond b (get_or items i 0 ∷ []) []
        by None true e = absurd (cc)
        by None false e = ap (map (λ (r : Resource). r.place)) (append-nil rs) ∙ so_far ∙ sym (append-nil (filter is_asked (take i items)))
        by (Some r) true e =
            let same : r.place ≡ get_or items i 0 = cc in
            map-more (λ (r : Resource). r.place) rs r ∙ ap (λ (ps : List ℕ). ps ++ r.place ∷ []) so_far
            ∙ ap (λ (p : ℕ). filter is_asked (take i items) ++ p ∷ []) same
        by (Some r) false e = absurd (cc)

    pub ads-next : All (λ (r : Resource). ad_frames r.ad.now ≡ ad_at pool r.place) rs → IfSome o (λ r. ad_frames r.ad.now ≡ ad_at pool r.place)
        → All (λ (r : Resource). ad_frames r.ad.now ≡ ad_at pool r.place) new
    ads-next so_far has = subst (All (λ (r : Resource). ad_frames r.ad.now ≡ ad_at pool r.place)) (sym added) (by o has)
      where
        by : (p : Option Resource) → IfSome p (λ r. ad_frames r.ad.now ≡ ad_at pool r.place)
            → All (λ (r : Resource). ad_frames r.ad.now ≡ ad_at pool r.place) (rs ++ cons_option p [])
        by None h = subst (All (λ (r : Resource). ad_frames r.ad.now ≡ ad_at pool r.place)) (sym (append-nil rs)) so_far
        by (Some r) h = All-push (λ (r : Resource). ad_frames r.ad.now ≡ ad_at pool r.place) rs r so_far h

pub found-hold : (P : Resource → Type 0) (rs new : List Resource) (o : Option Resource) → new ≡ rs ++ cons_option o [] → All P rs → IfSome o P
    → All P new
found-hold P rs new o added so_far has = subst (All P) (sym added) (by o has)
  where
    by : (p : Option Resource) → IfSome p P → All P (rs ++ cons_option p [])
    by None h = subst (All P) (sym (append-nil rs)) so_far
    by (Some r) h = All-push P rs r so_far h

-- ---- the sides of all ports

module _ (pool : Pool) (request : List Frame) (ports : List Port) where
  sides-push : (i : ℕ) (sides : List Side) (side : Side) → AreSides pool request ports i sides → IsSide pool request ports (i + length sides) side
      → AreSides pool request ports i (sides ++ side ∷ [])
  sides-push i [] side h one = let start : i + 0 ≡ i = omega arith in (subst (λ (n : ℕ). IsSide pool request ports n side) start one, tt)
  sides-push i (s ∷ sides) side h one =
      let moved : i + suc (length sides) ≡ suc i + length sides = omega arith in
      (h.0, sides-push (suc i) sides side h.1 (subst (λ (n : ℕ). IsSide pool request ports n side) moved one))

  -- what nothing is known of is right in every world
  unknown-right : (w : PlainWorld) (ad : List Frame) (kept : Kept) → is_unknown kept ≡ true → IsWorth w ad kept
  unknown-right w ad Kept.Unknown e = tt
  unknown-right w ad (Kept.Weighed rank) e = absurd (cc)

  frame-at : (i : ℕ) (port : Port) → slice_get ports i ≡ Some port → port_frame ports (suc i) ≡ port.frame
  frame-at i port at =
      let back : suc i - 1 ≡ i = omega arith in
      ap (λ (k : ℕ). unwrap_or (option_map (λ (p : Port). p.frame) (slice_get ports k)) 0) back
      ∙ ap (λ (o : Option Port). unwrap_or (option_map (λ (p : Port). p.frame) o) 0) at

  pub sides-next : (sides new : List Side) (side : Side) (i : ℕ) (port : Port) → new ≡ sides ++ side ∷ [] → AreSides pool request ports 0 sides
      → length sides ≡ i → slice_get ports i ≡ Some port
      → side.is_free ≡ is_free_port request ports (length sides) → AreResources pool (open_places pool request ports port.frame) side.resources.items
      → All (λ (r : Resource). is_unknown r.kept ≡ true) side.resources.items
      → AreSides pool request ports 0 new
  sides-next sides new side i port added so_far many at free resources unknown =
      let start : 0 + length sides ≡ length sides = omega arith in
      let here : port_frame ports (suc (length sides)) ≡ port.frame = ap (λ (n : ℕ). port_frame ports (suc n)) many ∙ frame-at i port at in
      subst (AreSides pool request ports 0) (sym added)
      (sides-push 0 sides side so_far
      (subst (λ (n : ℕ). IsSide pool request ports n side) (sym start)
      (record {
        free = free;
        resources = subst (λ (f : ℕ). AreResources pool (open_places pool request ports f) side.resources.items) (sym here) resources;
        kept = λ e k d within. λ before long. let r =
            get_or side.resources.items k d in unknown-right (gang_world pool request ports before) (ad_frames r.ad.now) r.kept (unknown k d within);
      })))

  have-push : (i : ℕ) (sides : List Side) (side : Side) → HaveSides request ports i sides
      → All (HasSides request ports (port_frame ports (suc (i + length sides)))) side.resources.items → HaveSides request ports i (sides ++ side ∷ [])
  have-push i [] side h one =
      let start : i + 0 ≡ i =
      omega arith in (subst (λ (n : ℕ). All (HasSides request ports (port_frame ports (suc n))) side.resources.items) start one, tt)
  have-push i (s ∷ sides) side h one =
      let moved : i + suc (length sides) ≡ suc i + length sides = omega arith in
      (h.0, have-push (suc i) sides side h.1 (subst (λ (n : ℕ). All (HasSides request ports (port_frame ports (suc n))) side.resources.items) moved one))

  -- what tests leave open of the docks with the next port
  pub have-next : (sides new : List Side) (side : Side) (i : ℕ) (port : Port) → new ≡ sides ++ side ∷ [] → HaveSides request ports 0 sides
      → length sides ≡ i → slice_get ports i ≡ Some port
      → All (HasSides request ports port.frame) side.resources.items → HaveSides request ports 0 new
  have-next sides new side i port added so_far many at has =
      let start : 0 + length sides ≡ length sides = omega arith in
      let here : port_frame ports (suc (0 + length sides)) ≡ port.frame =
      ap (λ (n : ℕ). port_frame ports (suc n)) (start ∙ many) ∙ frame-at i port at in
      subst (HaveSides request ports 0) (sym added)
      (have-push 0 sides side so_far (subst (λ (f : ℕ). All (HasSides request ports f) side.resources.items) (sym here) has))
