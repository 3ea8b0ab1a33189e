-- What stands in a span.
use Rattle.std.specs.Prelude.{List}
use Rattle.std.specs.declared.ops.Bound.{Bound}
use Rattle.std.specs.BTreeMap.{BTreeMap}
use Rattle.std.specs.BTreeMap.Range.{entries_between}
use Rattle.pool_text.specs.Folding.{folded}
use Rattle.conjunct_plan.specs.declared.test.Test.{Test}
use Rattle.conjunct_plan.specs.Decided.{asked}
use Rattle.literal_index.specs.declared.place.Place.{Place}
use Rattle.literal_index.specs.declared.entry.Entry.{Entry}
use Rattle.literal_index.specs.declared.span.Span.{Span}
use Rattle.literal_index.specs.Digests.{digest}
use Rattle.literal_index.specs.Order.{place_order}
use Rattle.literal_index.specs.Spans.{first_in_both, first_place, last_in_both, last_place, passing_span}

-- the entries in a span of the attribute that a test asks for
abbrev pub spanned : Test → Span → BTreeMap Place Entry → List (Place × Entry)
spanned test span m =
    entries_between place_order (Bound.Included (first_place (digest (folded (asked test))) span))
    (Bound.Included (last_place (digest (folded (asked test))) span)) m.entries

-- the entries where literals stand that can make both tests true, of the attribute that the first asks for
abbrev pub spanned_by_both : Test → Test → BTreeMap Place Entry → List (Place × Entry)
spanned_by_both first second m =
    let name = digest (folded (asked first)) in
    entries_between place_order (Bound.Included (first_in_both name (passing_span first) (passing_span second)))
    (Bound.Included (last_in_both name (passing_span first) (passing_span second))) m.entries
