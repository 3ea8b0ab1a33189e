-- Small ads: those of a pool's resources, of candidates, and of the worlds in which they are docked.
use Rattle.std.proofs.Common.{◌≡◌, ℕ, suc, Bool, true, false, if◌then◌else◌, refl, List, [], ◌∷◌, length, map, get_or, Option}
use Rattle.std.proofs.Common.{None, Some, option_map, slice_get, All, ap, sym, subst, arith, ℤ}
use Rattle.std.specs.List.{cons_option, filter_map}
use Rattle.std.specs.Option.{option_map_or}
use Rattle.std.proofs.lemmas.List.Elements.{All-append, All-cons, All-head, All-nil, All-tail}
use Rattle.std.proofs.lemmas.List.Sorted.{All-permutation}
use Rattle.ad_tree.specs.Ad.{ad_frames}
use Rattle.ad_tree.specs.Frames.{Frame}
use Rattle.ad_tree.specs.Small.{IsSmall}
use Rattle.ad_tree.specs.declared.request.Port.{Port}
use Rattle.ad_store.specs.Stock.{Advert}
use Rattle.eval_scope.specs.World.{PlainWorld, ads, with_docked}
use Rattle.ad_eval.specs.Small.{AreSmall}
use Rattle.dock_match.specs.Pool.{Pool}
use Rattle.dock_match.specs.Small.{AreSmallAds}
use Rattle.dock_match.proofs.SmallLemmas.{found-small}
use Rattle.gang_ports.specs.declared.weighing.Candidate.{Candidate}
use Rattle.gang_ports.specs.declared.weighing.Resource.{Resource}
use Rattle.gang_ports.specs.declared.weighing.Side.{Side}
use Rattle.gang_ports.specs.Choice.{is_among}
use Rattle.gang_ports.specs.Search.{AreSides, candidate_in, kept_in, rank_kept, remembered, weighed_in}
use Rattle.gang_ports.specs.Small.{AreSmallResources, AreSmallSides}
use Rattle.gang_ports.proofs.SearchLemmas.{first-cut, first-whole, made}
use Rattle.gang_ports.proofs.TurnLemmas.{Begun, Deeper, Weighed, asked_of, first, others, whole}
use Rattle.gang_ports.proofs.WeighLemmas.{asked-hold, kept-hold, remembered-hold}

abbrev pub HasSmall : Resource → Type 0
HasSmall r = IsSmall (ad_frames r.ad.now)

abbrev HaveSmall : Side → Type 0
HaveSmall side = AreSmallResources side.resources.items

abbrev IsOfSmall : Candidate → Type 0
IsOfSmall c = IsSmall (ad_frames c.ad.now)

-- ---- worlds

-- one more small ad is docked
pub docked-small : (w deeper : PlainWorld) (ad : List Frame) → deeper ≡ with_docked w ad → AreSmall w → IsSmall ad → AreSmall deeper
docked-small w deeper ad is small fits = subst AreSmall (sym is) (All-append IsSmall (ads w) (ad ∷ []) small (All-cons IsSmall ad [] fits (All-nil IsSmall)))

-- ---- the resources of a pool

-- the ad at a place of a small stock, or none
at-small : (adverts : List Advert) → AreSmallAds adverts → (place : ℕ) (o : Option Advert) → slice_get adverts place ≡ o
    → IsSmall (option_map_or (λ advert. advert.ad) o [])
at-small adverts small place None at = omega arith
at-small adverts small place (Some a) at = found-small adverts place a.ad small (ap (option_map (λ (advert : Advert). advert.ad)) at)

module _ (pool : Pool) (request : List Frame) (ports : List Port) where
  -- the resources of its ports
  pub are-small : AreSmallAds pool.ads → (i : ℕ) (sides : List Side) → AreSides pool request ports i sides → AreSmallSides sides
  are-small small i [] are = All-nil HaveSmall
  are-small small i (side ∷ sides) are =
      All-cons HaveSmall side sides
      (λ k d within. subst IsSmall (sym (are.0.resources.ads k d within)) (at-small pool.ads small (get_or side.resources.items k d).place _ refl))
      (are-small small (suc i) sides are.1)

-- ---- resources, weighed one after another

module _ (w : PlainWorld) (before : List ℕ) where
  remembered-small : (free : Bool) (rs : List Resource) → AreSmallResources rs → AreSmallResources (remembered free rs)
  remembered-small free rs small = remembered-hold w before HasSmall (λ r kept h. h) free rs small

  -- as the code has it: the resources once they are forgotten or not, of which there is another list
  pub asked-small : (free : Bool) (rs now asked : List Resource) → now ≡ rs → asked ≡ remembered free now → AreSmallResources rs
      → AreSmallResources asked
  asked-small = asked-hold w before HasSmall (λ r kept h. h)

  -- once they are weighed
  kept-small : (side new : Side) → new.resources.items ≡ map (weighed_in w before) (remembered side.is_free side.resources.items)
      → AreSmallResources side.resources.items → AreSmallResources new.resources.items
  kept-small = kept-hold w before HasSmall (λ r kept h. h)

  candidate-small : (r : Resource) (tl : List Candidate) (among : Bool) (rank : Option ℤ) → HasSmall r → All IsOfSmall tl
      → All IsOfSmall (cons_option (if among then None else option_map (made r) rank) tl)
  candidate-small r tl true rank fits rest = rest
  candidate-small r tl false None fits rest = rest
  candidate-small r tl false (Some rank) fits rest = All-cons IsOfSmall (made r rank) tl fits rest

  candidates-small : (rs : List Resource) → AreSmallResources rs → All IsOfSmall (filter_map (candidate_in w before) rs)
  candidates-small [] small = All-nil IsOfSmall
  candidates-small (r ∷ rs) small =
      candidate-small r (filter_map (candidate_in w before) rs) (is_among before r.place) (rank_kept (kept_in w (ad_frames r.ad.now) r.kept))
      (All-head HasSmall r rs small) (candidates-small rs (All-tail HasSmall r rs small))

-- ---- a turn of a search

module _ (x : Begun) where
  -- the sides behind the first one
  pub rest-small : AreSmallSides x.sides → AreSmallSides (others x)
  rest-small small = All-tail HaveSmall (first x) (others x) (subst AreSmallSides (first-cut x.sides x.new x.spare x.some) small)

  module _ (y : Weighed x) where
    -- all of them, once there are others behind the first one
    pub whole-small : (left : List Side) → length left ≡ length (others x) → AreSmallSides x.sides → AreSmallSides left → AreSmallSides (whole x left)
    whole-small left long small rest =
        subst AreSmallSides (sym (first-whole x.sides x.new left x.some long))
        (All-cons HaveSmall x.new left (kept-small x.w x.listed (first x) x.new y.kept (small 0 x.spare x.some)) rest)

    -- the world behind a candidate
    pub turn-small : (d : Deeper x y) → AreSmall x.w → AreSmallSides x.sides → AreSmall d.w
    turn-small d small are =
        let fits = are 0 x.spare x.some in
        let those : All IsOfSmall y.tries =
        All-permutation IsOfSmall (filter_map (candidate_in x.w x.listed) (asked_of (first x))) y.tries y.all
        (candidates-small x.w x.listed (asked_of (first x)) (remembered-small x.w x.listed (first x).is_free (first x).resources.items fits)) in
        docked-small x.w d.w (ad_frames d.on.c.ad.now) d.docked small (subst IsOfSmall (sym d.on.is) (those d.on.i d.on.c d.on.within))
