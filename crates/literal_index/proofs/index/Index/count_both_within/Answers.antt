use Rattle.std.proofs.Common.{arith}
use Rattle.literal_index.proofs.PairLemmas.{both-count}
use Rattle.literal_index.proofs.index.Index.count_both_within.Goals as goal

pub returns : goal.returns
returns c rows index =
    let all =
    both-count c.args.first.now c.args.second.now c.requires c.args.self.now.entries c.args.self.now.slots rows index
    c.count_chosen_within-open.ensures.ordered in
    omega (arith, all, c.count_chosen_within-open.ensures.count, c.count_chosen_by_both_within.ensures.count)
