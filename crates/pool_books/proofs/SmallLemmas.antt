-- Ads stay as small as those that are read.
use Rattle.std.proofs.Common.{◌≡◌, ℕ, Bool, true, false, cond, List, [], ◌∷◌, Result, Ok, Err, OnErr, OnOk, sym, ap, subst}
use Rattle.std.proofs.lemmas.List.Elements.{All-cons, All-head, All-nil, All-tail}
use Rattle.ad_tree.specs.Ad.{ad_frames}
use Rattle.ad_tree.specs.Small.{IsSmall}
use Rattle.ad_tree.specs.declared.request.Request.{Request}
use Rattle.ad_store.specs.Stock.{Advert, Stock, is_named, placed, without}
use Rattle.dock_match.specs.Small.{AreSmallAds}

-- the ad of the request is small
abbrev pub IsSmallRequest : Request → Type 0
IsSmallRequest request = IsSmall (ad_frames request.ad)

abbrev IsSmallAdvert : Advert → Type 0
IsSmallAdvert advert = IsSmall advert.ad

-- ---- ads that come and go

-- the ads with one more that is small
small-placed : (advert : Advert) (held : List Advert) → IsSmall advert.ad → AreSmallAds held → AreSmallAds (placed advert held)
small-placed advert [] new small = All-cons IsSmallAdvert advert [] new (All-nil IsSmallAdvert)
small-placed advert (a ∷ held) new small = by (is_named advert.name a) (small-placed advert held new rest)
  where
    rest : AreSmallAds held
    rest = All-tail IsSmallAdvert a held small

    by : (b : Bool) → AreSmallAds (placed advert held) → AreSmallAds (cond b (advert ∷ held) (a ∷ placed advert held))
    by true more = All-cons IsSmallAdvert advert held new rest
    by false more = All-cons IsSmallAdvert a (placed advert held) (All-head IsSmallAdvert a held small) more

-- the ads without that of a name
small-without : (name : List ℕ) (held : List Advert) → AreSmallAds held → AreSmallAds (without name held)
small-without name [] small = small
small-without name (a ∷ held) small = by (is_named name a) (small-without name held rest)
  where
    rest : AreSmallAds held
    rest = All-tail IsSmallAdvert a held small

    by : (b : Bool) → AreSmallAds (without name held) → AreSmallAds (cond b held (a ∷ without name held))
    by true fewer = rest
    by false fewer = All-cons IsSmallAdvert a (without name held) (All-head IsSmallAdvert a held small) fewer

-- the ads are small, whether one was put or not
pub small-put : {T E : Type 0} (r : Result T E) (advert : Advert) (old new : Stock) → OnOk r (new.ads ≡ placed advert old.ads) → OnErr r (new ≡ old)
    → IsSmall advert.ad → AreSmallAds old.ads → AreSmallAds new.ads
small-put (Ok x) advert old new put same more small = subst AreSmallAds (sym put) (small-placed advert old.ads more small)
small-put (Err e) advert old new put same more small = subst AreSmallAds (sym (ap (λ (s : Stock). s.ads) same)) small

-- the ads are small, whether one was withdrawn or not
pub small-withdrawn : {T E : Type 0} (r : Result T E) (name : List ℕ) (old new : Stock) → OnOk r (new.ads ≡ without name old.ads) → OnErr r (new ≡ old)
    → AreSmallAds old.ads → AreSmallAds new.ads
small-withdrawn (Ok x) name old new gone same small = subst AreSmallAds (sym gone) (small-without name old.ads small)
small-withdrawn (Err e) name old new gone same small = subst AreSmallAds (sym (ap (λ (s : Stock). s.ads) same)) small
