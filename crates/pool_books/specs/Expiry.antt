-- The ads that are no longer live.
use Rattle.std.specs.Prelude.{ℕ, Bool, not, ◌&&◌, List, filter}
use Rattle.std.specs.List.{list_any}
use Rattle.ad_store.specs.Stock.{Advert, is_live, is_named}

-- the ads that are live
abbrev pub live_ads : ℕ → List Advert → List Advert
live_ads now ads = filter (is_live now) ads

-- the ad of this name is held, and not live
abbrev pub has_expired : ℕ → List Advert → List ℕ → Bool
has_expired now ads name = list_any (λ advert. is_named name advert && not (is_live now advert)) ads
