-- Ads as small as those that are read, among which no evaluation enters many attributes.
use Rattle.std.specs.Prelude.{◌≡◌, ℕ, List, Option, Some, All}
use Rattle.ad_tree.specs.Ad.{ad_frames}
use Rattle.ad_tree.specs.Small.{IsSmall}
use Rattle.ad_store.specs.Holdings.{Holding}
use Rattle.ad_store.specs.Stock.{Advert}

-- the ads that are held are small
abbrev pub AreSmallAds : List Advert → Type 0
AreSmallAds ads = All (λ advert. IsSmall advert.ad) ads

-- so are those of the requests that hold some of them
abbrev pub AreSmallHolders : (ℕ → Option Holding) → Type 0
AreSmallHolders holding = (slot : ℕ) (h : Holding) → holding slot ≡ Some h → IsSmall (ad_frames h.request.ad)
