-- Ads that are looked up among small ones are small, and so are worlds of small ads.
use Rattle.std.proofs.Common.{◌≡◌, ◌==◌, ℕ, zero, suc, refl, List, [], ◌∷◌, Option, None, Some, option_map, slice_get, map, IfSome, get_or}
use Rattle.std.proofs.Common.{ap, sym, subst, arith, zero-le}
use Rattle.std.specs.List.{position_or_len}
use Rattle.std.specs.Option.{option_map_or}
use Rattle.std.proofs.lemmas.List.Elements.{All-cons, All-map, All-tail}
use Rattle.ad_tree.specs.Ad.{ad_frames}
use Rattle.ad_tree.specs.Frames.{Frame}
use Rattle.ad_tree.specs.Small.{IsSmall}
use Rattle.ad_tree.specs.declared.request.Request.{Request}
use Rattle.ad_store.specs.declared.holdings.Held.{Held}
use Rattle.ad_store.specs.Holdings.{Holding, holding_of}
use Rattle.ad_store.specs.Stock.{Advert, Stock}
use Rattle.eval_scope.specs.World.{PlainWorld}
use Rattle.ad_eval.specs.Small.{AreSmall}
use Rattle.dock_match.specs.Docks.{pair_world}
use Rattle.dock_match.specs.Pool.{ad_in, slots_world}
use Rattle.dock_match.specs.Small.{AreSmallAds, AreSmallHolders}

-- ---- one ad

-- an ad that stands among small ones is small
pub found-small : (ads : List Advert) (i : ℕ) (fs : List Frame) → AreSmallAds ads → option_map (λ a. a.ad) (slice_get ads i) ≡ Some fs → IsSmall fs
found-small [] i fs small is = absurd (cc)
found-small (a ∷ ads) zero fs small is = let same : a.ad ≡ fs = cc in subst IsSmall same (small 0 a (omega arith))
found-small (a ∷ ads) (suc i) fs small is = found-small ads i fs (All-tail (λ (advert : Advert). IsSmall advert.ad) a ads small) is

-- so is the ad in a slot, and an ad that isn't there has no attributes
pub in-small : (stock : Stock) (slot : ℕ) → AreSmallAds stock.ads → IsSmall (ad_in stock slot)
in-small stock slot small = by (slice_get stock.ads (position_or_len (λ s. s == slot) stock.slots)) refl
  where
    by : (o : Option Advert) → slice_get stock.ads (position_or_len (λ s. s == slot) stock.slots) ≡ o
        → IsSmall (option_map_or (λ (a : Advert). a.ad) o [])
    by None is = zero-le
    by (Some a) is = found-small stock.ads (position_or_len (λ s. s == slot) stock.slots) a.ad small (ap (option_map (λ (b : Advert). b.ad)) is)

-- ---- worlds

-- the world in which small ads are docked by their slots to a small request is small
pub slots-small : (moment : ℕ) (stock : Stock) (request : Request) (slots : List ℕ) (w : PlainWorld) → w ≡ slots_world moment stock request slots
    → IsSmall (ad_frames request.ad) → AreSmallAds stock.ads → AreSmall w
slots-small moment stock request slots w is small_request small_ads =
    subst AreSmall (sym is)
    (All-cons IsSmall (ad_frames request.ad) (map (ad_in stock) slots) small_request
    (All-map IsSmall (ad_in stock) slots (λ i d within. in-small stock (get_or slots i d) small_ads)))

-- so is the world in which a small ad is docked to a small request
pub pair-small : (moment : ℕ) (request ad : List Frame) (w : PlainWorld) → w ≡ pair_world moment request ad → IsSmall request → IsSmall ad
    → AreSmall w
pair-small moment request ad w is small_request small_ad =
    subst AreSmall (sym is) (All-cons IsSmall request (ad ∷ []) small_request (All-cons IsSmall ad [] small_ad (λ i d within. absurd (omega arith))))

-- ---- the holder

-- the request that holds a resource is small where those of all holders are
pub holder-small : (holding : ℕ → Option Holding) (slot : ℕ) (holder : Option Held) → option_map holding_of holder ≡ holding slot
    → AreSmallHolders holding → IfSome holder (λ h. IsSmall (ad_frames h.request.now.ad))
holder-small holding slot None who small = tt
holder-small holding slot (Some h) who small = small slot (holding_of h) (sym who)
