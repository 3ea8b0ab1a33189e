use Rattle.std.proofs.Common.{rules}
use Rattle.std.proofs.lemmas.List.Sorted.{answers_always}
use Rattle.std.specs.Ordering.{is_lt}
use Rattle.gang_ports.specs.Search.{candidate_order}
use Rattle.gang_ports.proofs.CandidateLemmas.{candidate_weak}
use Rattle.gang_ports.proofs.weighing.arrange.Goals as goal

pub returns-clause-ordered : goal.returns-clause-ordered
returns-clause-ordered c =
    c.sort_unstable_by.ensures.sorted (λ a b. is_lt (candidate_order a b)) candidate_weak (answers_always _ _ _ (λ f a r g h. search rules))
