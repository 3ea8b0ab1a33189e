-- The order of places.
use Rattle.std.proofs.Common.{refl, ◌≡◌, ℕ, ℤ, Ordering, true, nat_cmp}
use Rattle.std.specs.Ordering.{int_cmp, ordering_then, is_eq}
use Rattle.std.proofs.lemmas.Map.Lookups.{CmpEqualImpliesEq, exact_unsigned, exact_signed}
use Rattle.std.specs.BTreeMap.{is_at}
use Rattle.std.specs.declared.cmp.Ordering.TheVariants.{Less, Equal, Greater}
use Rattle.literal_index.specs.declared.place.Place.{Place}
use Rattle.literal_index.specs.declared.place.Kind.{Kind}
use Rattle.literal_index.specs.Order.{kind_order, place_order}

pub exact_kinds : CmpEqualImpliesEq kind_order
exact_kinds Kind.Open Kind.Open e = refl
exact_kinds Kind.Undefined Kind.Undefined e = refl
exact_kinds Kind.Error Kind.Error e = refl
exact_kinds Kind.Number Kind.Number e = refl
exact_kinds Kind.Str Kind.Str e = refl
exact_kinds a b e = absurd (cc)

pub kind_order_self : (a : Kind) → kind_order a a ≡ Equal
kind_order_self Kind.Open = refl
kind_order_self Kind.Undefined = refl
kind_order_self Kind.Error = refl
kind_order_self Kind.Number = refl
kind_order_self Kind.Str = refl

-- places that the order doesn't tell apart are equal
pub exact_places : CmpEqualImpliesEq place_order
exact_places a b e =
    let name = then_equal (nat_cmp a.name b.name) _ e in
    let kind = then_equal (kind_order a.kind b.kind) _ name.1 in
    let value = then_equal (int_cmp a.value b.value) _ kind.1 in
    let slot = then_equal (nat_cmp a.slot b.slot) (nat_cmp a.attr b.attr) value.1 in
    by (exact_unsigned a.name b.name name.0) (exact_kinds a.kind b.kind kind.0) (exact_signed a.value b.value value.0) (exact_unsigned a.slot b.slot slot.0)
    (exact_unsigned a.attr b.attr slot.1)
  where
    then_equal : (x y : Ordering) → ordering_then x y ≡ Equal → (x ≡ Equal) × (y ≡ Equal)
    then_equal Equal y e = (refl, e)
    then_equal Less y e = absurd (cc)
    then_equal Greater y e = absurd (cc)

    made : ℕ → Kind → ℤ → ℕ → ℕ → Place
    made name kind value slot attr = record { name = name; kind = kind; value = value; slot = slot; attr = attr }

    by : a.name ≡ b.name → a.kind ≡ b.kind → a.value ≡ b.value → a.slot ≡ b.slot → a.attr ≡ b.attr
        → made a.name a.kind a.value a.slot a.attr ≡ made b.name b.kind b.value b.slot b.attr
    by n k v s t = cc

-- a query that finds a place is that place
pub at_place : (p q : Place) → is_at (place_order p) q ≡ true → p ≡ q
at_place p q e = exact_places p q (equal (place_order p q) e)
  where
    equal : (o : Ordering) → is_eq o ≡ true → o ≡ Equal
    equal Equal h = refl
    equal Less h = absurd (cc)
    equal Greater h = absurd (cc)
