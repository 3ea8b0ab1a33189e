-- Names and the slots that they lead to.
use Rattle.std.specs.Prelude.{◌≡◌, ℕ, Bool, false, not, List, Option, None, Some, Vec, bytes_eq, if◌then◌else◌}
use Rattle.std.specs.declared.alloc.Global.{Global}
use Rattle.std.specs.declared.collections.btree_map.BTreeMap.{BTreeMap}
use Rattle.std.specs.BTreeMap.{get}
use Rattle.std.specs.Map.{lookup}
use Rattle.std.specs.Option.{option_or}
use Rattle.std.specs.Ordering.{nat_cmp}
use Rattle.pool_text.specs.Digests.{name_digest}
use Rattle.slot_order.specs.declared.names.NamedSlot.{NamedSlot}
use Rattle.slot_order.specs.declared.names.SlotNames.{SlotNames}

-- the slot of a name where it is the one that is there
abbrev pub slot_if : List ℕ → Option NamedSlot → Option ℕ
slot_if name None = None
slot_if name (Some first) = if bytes_eq name first.name.items then Some first.slot else None

-- another name is there
abbrev pub has_other : List ℕ → Option NamedSlot → Bool
has_other name None = false
has_other name (Some first) = not (bytes_eq name first.name.items)

-- the slot of a name that stands under its digest
abbrev pub first_at : BTreeMap ℕ NamedSlot Global → List ℕ → Option ℕ
first_at firsts name = slot_if name (get nat_cmp firsts (name_digest name))

-- the slot of a name among those whose digest another name had
abbrev pub other_at : BTreeMap (Vec ℕ Global) ℕ Global → List ℕ → Option ℕ
other_at others name = lookup (λ key. bytes_eq name key.items) others.entries

-- the slot that a name leads to
unfoldable pub slot_at : SlotNames → List ℕ → Option ℕ
slot_at names name = option_or (first_at names.firsts name) (other_at names.others name)

-- a name leads to this from now on, and each other one where it did
abbrev pub Turns : List ℕ → Option ℕ → SlotNames → SlotNames → Type 0
Turns name slot old new = (other : List ℕ) → slot_at new other ≡ (if bytes_eq name other then slot else slot_at old other)
