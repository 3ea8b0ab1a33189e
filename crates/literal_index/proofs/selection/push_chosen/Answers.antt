use Rattle.std.proofs.Common.{◌∙◌, ap, is_gt}
use Rattle.literal_index.specs.Order.{place_order}
use Rattle.literal_index.specs.Spans.{first_place}
use Rattle.literal_index.proofs.SpanLemmas.{forward}
use Rattle.literal_index.proofs.selection.push_chosen.Goals as goal

pub range-place-items-requires : goal.range-place-items-requires
range-place-items-requires c =
    ap (λ p. is_gt (place_order p c.last.result)) c.first.ensures
    ∙ ap (λ p. is_gt (place_order (first_place c.name_digest-name.result c.args.span) p)) c.last.ensures
    ∙ forward c.name_digest-name.result c.args.span
