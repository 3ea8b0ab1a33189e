use Rattle.std.proofs.Common.{true, subst, ℕ, List}
use Rattle.std.specs.List.Sorted.{IsNonDecreasing}
use Rattle.std.proofs.lemmas.List.Sorted.{IsNonDecreasingBy-from_sort, non_decreasing_from_is_sorted}
use Rattle.literal_index.proofs.selection.in_order.Goals as goal

pub returns-then-is_sorted-clause-rising : goal.returns-then-is_sorted-clause-rising
returns-then-is_sorted-clause-rising c =
    let P : List ℕ → Type 0 = λ xs. IsNonDecreasing xs in
    subst P c.deref.ensures.value (non_decreasing_from_is_sorted c.deref.result.now true c.if-is_sorted.ensures.cases)

pub returns-clause-rising : goal.returns-clause-rising
returns-clause-rising c = IsNonDecreasingBy-from_sort (λ x. x) c.sort.new.self.items c.in_ok-sort.ensures.sorted
