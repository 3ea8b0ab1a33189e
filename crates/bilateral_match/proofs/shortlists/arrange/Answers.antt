use Rattle.std.proofs.Common.{rules}
use Rattle.std.proofs.lemmas.List.Sorted.{answers_always}
use Rattle.std.specs.Ordering.{is_lt}
use Rattle.bilateral_match.specs.Members.{member_order}
use Rattle.bilateral_match.proofs.MemberLemmas.{member_weak}
use Rattle.bilateral_match.proofs.shortlists.arrange.Goals as goal

pub returns-clause-ordered : goal.returns-clause-ordered
returns-clause-ordered c = c.in_ok-sort_by.ensures.sorted (λ a b. is_lt (member_order a b)) member_weak (answers_always _ _ _ (λ f a r g h. search rules))
