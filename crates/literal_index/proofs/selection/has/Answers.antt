use Rattle.std.proofs.Common.{◌∙◌}
use Rattle.literal_index.proofs.SearchLemmas.{search_says}
use Rattle.literal_index.proofs.selection.has.Goals as goal

pub returns : goal.returns
returns c = c.is_ok.ensures.value ∙ search_says c.args.slots.now c.args.slot c.binary_search.result c.binary_search.ensures.position c.requires
