-- The order of places.
use Rattle.std.specs.Cmp.{IsTotalOrder, int_cmp_total, nat_cmp_total, on_total, then_total}
use Rattle.std.specs.Ordering.{int_cmp, nat_cmp, on, then_cmp}
use Rattle.std.specs.declared.cmp.Ordering.{Ordering}
use Rattle.literal_index.specs.declared.place.Place.{Place}
use Rattle.literal_index.specs.declared.place.Kind.{Kind}
use Rattle.literal_index.specs.contracts.place.KindOrd.TheImpl as kinds
use Rattle.literal_index.specs.contracts.place.KindOrd.TheImpl.Laws as laws

-- the order of kinds
abbrev pub kind_order : Kind → Kind → Ordering
kind_order = (kinds.cmp-value).it

-- by the name, then by the kind, the value, the slot and the attribute
abbrev pub place_order : Place → Place → Ordering
place_order =
    then_cmp (on (λ p. p.name) nat_cmp) (then_cmp (on (λ p. p.kind) kind_order)
    (then_cmp (on (λ p. p.value) int_cmp) (then_cmp (on (λ p. p.slot) nat_cmp) (on (λ p. p.attr) nat_cmp))))

pub place_order_total : IsTotalOrder place_order
place_order_total =
    then_total (on_total (λ p. p.name) nat_cmp_total) (then_total (on_total (λ p. p.kind) laws.total-law)
    (then_total (on_total (λ p. p.value) int_cmp_total) (then_total (on_total (λ p. p.slot) nat_cmp_total) (on_total (λ p. p.attr) nat_cmp_total))))
