-- How the attributes of an ad change what stands at places.
use Rattle.std.specs.Prelude.{ℕ, ◌≡◌, Bool, ◌&&◌, nat_lt, List, None, Some, option_map, slice_get, if◌then◌else◌}
use Rattle.std.specs.BTreeMap.{BTreeMap, get, is_at}
use Rattle.ad_tree.specs.Tree.{Tree}
use Rattle.literal_index.specs.declared.place.Place.{Place}
use Rattle.literal_index.specs.declared.entry.Entry.{Entry}
use Rattle.literal_index.specs.Entries.{entry_of, is_place, place_of}
use Rattle.literal_index.specs.Order.{place_order}

-- the place is that of one of the first n of these attributes of the ad under a slot
abbrev pub is_place_below : ℕ → ℕ → List (List ℕ × Tree) → Place → Bool
is_place_below n slot attrs q = nat_lt q.attr n && is_place slot attrs q

-- the same entries at all places
abbrev pub IsSame : BTreeMap Place Entry → BTreeMap Place Entry → Type 0
IsSame old new = (q : Place) → get place_order new q ≡ get place_order old q

-- attribute k of the ad under a slot was put in
abbrev pub HasPutOne : ℕ → ℕ → (List ℕ × Tree) → BTreeMap Place Entry → BTreeMap Place Entry → Type 0
HasPutOne slot k a old new =
    (q : Place) → get place_order new q ≡ (if is_at (place_order (place_of slot k a)) q then Some (entry_of a) else get place_order old q)

-- the first n attributes of the ad under a slot were put in
abbrev pub HasPut : ℕ → ℕ → List (List ℕ × Tree) → BTreeMap Place Entry → BTreeMap Place Entry → Type 0
HasPut n slot attrs old new =
    (q : Place) → get place_order new q ≡ (if is_place_below n slot attrs q then option_map entry_of (slice_get attrs q.attr) else get place_order old q)

-- the first n attributes of the ad under a slot were taken out
abbrev pub HasTaken : ℕ → ℕ → List (List ℕ × Tree) → BTreeMap Place Entry → BTreeMap Place Entry → Type 0
HasTaken n slot attrs old new = (q : Place) → get place_order new q ≡ (if is_place_below n slot attrs q then None else get place_order old q)

-- attribute k of the ad under a slot was taken out
abbrev pub HasTakenOne : ℕ → ℕ → (List ℕ × Tree) → BTreeMap Place Entry → BTreeMap Place Entry → Type 0
HasTakenOne slot k a old new = (q : Place) → get place_order new q ≡ (if is_at (place_order (place_of slot k a)) q then None else get place_order old q)
