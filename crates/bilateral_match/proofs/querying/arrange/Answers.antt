use Rattle.std.proofs.Common.{rules}
use Rattle.std.proofs.lemmas.List.Sorted.{answers_always}
use Rattle.std.specs.Ordering.{is_lt}
use Rattle.bilateral_match.specs.Answers.{match_order}
use Rattle.bilateral_match.proofs.OrderLemmas.{match_weak}
use Rattle.bilateral_match.proofs.querying.arrange.Goals as goal

pub returns-clause-ordered : goal.returns-clause-ordered
returns-clause-ordered c = c.in_ok-sort_by.ensures.sorted (λ a b. is_lt (match_order a b)) match_weak (answers_always _ _ _ (λ f a r g h. search rules))
