-- How the ads lie in memory: slots in order, a table that has an entry at each, and names that lead to them.
use Rattle.std.specs.Prelude.{◌≡◌, ℕ, ◌+◌, ◌==◌, true, List, [], map, Option, Some}
use Rattle.std.specs.List.{list_any}
use Rattle.std.specs.Option.{option_map_or}
use Rattle.slab.specs.Slab.{ContainsKey, Slab, get}
use Rattle.ad_tree.specs.Ad.{ad_frames}
use Rattle.ad_store.specs.declared.entry.Content.{Content}
use Rattle.ad_store.specs.declared.entry.Entry.{Entry}
use Rattle.ad_store.specs.Stock.{Advert}

-- an entry, as contracts see it
abbrev pub advert_of : Option Entry → Advert
advert_of entry = record {
  name = option_map_or (λ e. e.name) entry [];
  born = option_map_or (λ e. e.content.born) entry 0;
  lifetime = option_map_or (λ e. e.content.lifetime) entry 0;
  size = option_map_or (λ e. e.content.size) entry 0;
  ad = option_map_or (λ e. ad_frames e.content.ad) entry [];
}

-- when an entry's lifetime ends
abbrev pub end_of : Option Entry → ℕ
end_of entry = (advert_of entry).born + (advert_of entry).lifetime

-- a content under a name
abbrev pub named_content : List ℕ → Content → Advert
named_content name content = record { name = name; born = content.born; lifetime = content.lifetime; size = content.size; ad = ad_frames content.ad }

-- the ads in order
abbrev pub adverts : Slab Entry → List ℕ → List Advert
adverts table slots = map (λ slot. advert_of (get table slot)) slots

-- each slot in order has an entry, whose name leads to the slot, and names lead nowhere else
pub record AreHeld (table : Slab Entry) (slots : List ℕ) (names : List ℕ → Option ℕ) : Type 0 where
  pub filled : (slot : ℕ) → list_any (λ s. s == slot) slots ≡ true → ContainsKey table slot
  pub led : (slot : ℕ) → list_any (λ s. s == slot) slots ≡ true → names (advert_of (get table slot)).name ≡ Some slot
  pub leads : (name : List ℕ) (slot : ℕ) → names name ≡ Some slot → (list_any (λ s. s == slot) slots ≡ true) × ((advert_of (get table slot)).name ≡ name)
