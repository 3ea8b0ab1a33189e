-- What contracts see of what is advertised.
use Rattle.ad_tree.specs.Ad.{ad_frames}
use Rattle.ad_store.specs.Stock.{Advert}
use Rattle.pool_books.specs.declared.advertised.Advertised.{Advertised}

-- the ad as the stock holds it
abbrev pub advert_of : Advertised → Advert
advert_of advertised = record {
  name = advertised.name.now;
  born = advertised.born;
  lifetime = advertised.lifetime;
  size = advertised.text_len;
  ad = ad_frames advertised.ad;
}
