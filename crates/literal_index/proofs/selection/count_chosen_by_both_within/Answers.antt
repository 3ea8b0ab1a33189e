use Rattle.std.proofs.Common.{◌∙◌, ap₂, is_gt}
use Rattle.literal_index.specs.Order.{place_order}
use Rattle.literal_index.proofs.PairLemmas.{forward_in_both}
use Rattle.literal_index.proofs.selection.count_chosen_by_both_within.Goals as goal

pub range-requires : goal.range-requires
range-requires c =
    ap₂ (λ p q. is_gt (place_order p q)) c.first_in_both.ensures c.last_in_both.ensures
    ∙ forward_in_both c.name_digest-name.result c.passing-one.result c.passing-other.result
