use Rattle.std.proofs.Common.{◌∙◌, ap₂, is_gt}
use Rattle.literal_index.specs.Order.{place_order}
use Rattle.literal_index.proofs.PairLemmas.{forward_in_both}
use Rattle.literal_index.proofs.selection.push_chosen_by_both.Goals as goal

pub range-place-items-requires : goal.range-place-items-requires
range-place-items-requires c =
    ap₂ (λ p q. is_gt (place_order p q)) c.first_in_both.ensures c.last_in_both.ensures
    ∙ forward_in_both c.name_digest-name.result c.passing-one.result c.passing-other.result
