-- What an index stands for.
use Rattle.std.specs.Prelude.{ℕ, ◌≡◌, ◌<◌, ◌^◌, ◌==◌, List, map, length, is_some, All, nat_eq, Option, None, Some, IfSome, if◌then◌else◌}
use Rattle.std.specs.Option.{option_and_then}
use Rattle.std.specs.List.{IsDistinct}
use Rattle.std.specs.Ordering.{nat_cmp}
use Rattle.std.specs.BTreeMap.{BTreeMap, get}
use Rattle.std.specs.BTreeSet.{BTreeSet, contains}
use Rattle.ad_tree.specs.declared.ad.Ad.{Ad}
use Rattle.ad_tree.specs.Ad.{ad_frames}
use Rattle.ad_tree.specs.Frames.{Frame, IsAd, attributes_at}
use Rattle.literal_index.specs.declared.index.Index.{Index}
use Rattle.literal_index.specs.declared.place.Place.{Place}
use Rattle.literal_index.specs.declared.entry.Entry.{Entry}
use Rattle.literal_index.specs.Rows.{Row, ad_under}
use Rattle.literal_index.specs.Entries.{entry_at, entry_in}
use Rattle.literal_index.specs.Order.{place_order}

-- an ad in a slot that the code can number
pub record IsRow (row : Row) : Type 0 where
  pub ad : IsAd row.ad
  pub slot : row.slot < 2 ^ 64
  pub few : length (attributes_at row.ad 0) < 2 ^ 32

-- the entries and the slots are those of the ads that stand under slots, and of no others
pub record ArePlaced (map_of_entries : BTreeMap Place Entry) (set_of_slots : BTreeSet ℕ) (under : ℕ → Option (List Frame)) : Type 0 where
  pub entries : (q : Place) → get place_order map_of_entries q ≡ option_and_then (λ fs. entry_in (attributes_at fs 0) q) (under q.slot)
  pub slots : (slot : ℕ) → contains nat_cmp set_of_slots slot ≡ is_some (under slot)

-- the same with one more ad, under this slot
abbrev pub with_ad : ℕ → List Frame → (ℕ → Option (List Frame)) → ℕ → Option (List Frame)
with_ad slot ad under s = if slot == s then Some ad else under s

-- ---- an index that can be searched

-- the entries and the slots are those of these ads, each under its slot, and of no others
pub record AreIndexed (map_of_entries : BTreeMap Place Entry) (set_of_slots : BTreeSet ℕ) (rows : List Row) : Type 0 where
  pub entries : (q : Place) → get place_order map_of_entries q ≡ entry_at rows q
  pub slots : (slot : ℕ) → contains nat_cmp set_of_slots slot ≡ is_some (ad_under slot rows)
  pub apart : IsDistinct nat_eq (map (λ row. row.slot) rows)
  pub ads : All IsRow rows

-- the index is that of these ads
abbrev pub IsIndex : Index → List Row → Type 0
IsIndex index rows = AreIndexed index.entries index.slots rows

-- ---- an index in which ads wait

-- the ad under a slot, unless it waits
abbrev pub settled_under : BTreeMap ℕ Ad → List Row → ℕ → Option (List Frame)
settled_under waiting rows slot = if is_some (get nat_cmp waiting slot) then None else ad_under slot rows

-- each of these ads waits, under its slot, or is in the entries and the slots, and no other ad is
pub record AreKept (map_of_entries : BTreeMap Place Entry) (set_of_slots : BTreeSet ℕ) (map_of_waiting : BTreeMap ℕ Ad) (rows : List Row) : Type 0 where
  pub settled : ArePlaced map_of_entries set_of_slots (settled_under map_of_waiting rows)
  pub waiting : (slot : ℕ) → IfSome (get nat_cmp map_of_waiting slot) (λ ad. ad_under slot rows ≡ Some (ad_frames ad))
  pub apart : IsDistinct nat_eq (map (λ row. row.slot) rows)
  pub ads : All IsRow rows

-- the index is that of these ads, once those that wait are settled
abbrev pub IsKept : Index → List Row → Type 0
IsKept index rows = AreKept index.entries index.slots index.waiting rows
