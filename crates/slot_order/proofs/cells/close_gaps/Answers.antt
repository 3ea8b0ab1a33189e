use Rattle.std.proofs.Common.{rules, is_some}
use Rattle.std.proofs.lemmas.List.Elements.{filter_from_retain}
use Rattle.slot_order.proofs.cells.close_gaps.Goals as goal

pub returns : goal.returns
returns c = filter_from_retain _ is_some (λ f x b g r. search rules) _ _ _ c.retain.ensures.filtered
