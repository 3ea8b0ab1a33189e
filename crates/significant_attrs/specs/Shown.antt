-- What contracts see of the names from which matching goes on.
use Rattle.std.specs.Prelude.{ℕ, ◌≡◌, List, map}
use Rattle.ad_store.specs.Stock.{Advert}
use Rattle.ad_tree.specs.Frames.{Frame}
use Rattle.ad_tree.specs.Names.{has_name}
use Rattle.significant_attrs.specs.declared.reach.Reach.{Reach}
use Rattle.significant_attrs.specs.Reach.{first_names}

-- the names, folded, in the order in which they came
abbrev pub names_in : Reach → List (List ℕ)
names_in reach = map (λ key. key.items) reach.names.names.keys

-- the frames of the ads of a store
abbrev pub ads_in : List Advert → List (List Frame)
ads_in adverts = map (λ advert. advert.ad) adverts

-- they are the names from which the matching with these ads goes on
abbrev pub HasReadAds : Reach → List Advert → Type 0
HasReadAds reach ads = (x : List ℕ) → has_name x (names_in reach) ≡ has_name x (first_names (ads_in ads))
