use Rattle.std.proofs.Common.{ap, nat_cmp, []}
use Rattle.std.specs.Map.{lookup}
use Rattle.std.specs.BTreeMap.{is_at}
use Rattle.literal_index.proofs.WaitingLemmas.{all-settled, none-kept}
use Rattle.literal_index.proofs.index.Index.new.Goals as goal

pub returns-clause-kept : goal.returns-clause-kept
returns-clause-kept c = none-kept c.new.result c.new-2.result c.new-4.result c.new.ensures.empty c.new-2.ensures.empty c.new-4.ensures.empty

pub returns-clause-settled : goal.returns-clause-settled
returns-clause-settled c =
    all-settled c.new.result c.new-2.result c.new-4.result [] (λ s. ap (lookup (is_at (nat_cmp s))) c.new-4.ensures.empty)
    (none-kept c.new.result c.new-2.result c.new-4.result c.new.ensures.empty c.new-2.ensures.empty c.new-4.ensures.empty)
