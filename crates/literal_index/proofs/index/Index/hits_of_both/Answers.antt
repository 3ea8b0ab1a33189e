use Rattle.std.proofs.Common.{◌≡◌, ◌∙◌, ◌++◌, ap, sym, subst, ℕ, List, IsPermutation}
use Rattle.std.specs.List.Sorted.{IsNonDecreasing, IsStrictlyIncreasing}
use Rattle.std.proofs.lemmas.Result.{IfOk-weaker}
use Rattle.literal_index.specs.declared.entry.Choice.{Choice}
use Rattle.literal_index.specs.Entries.{chosen_slots, slots_of_both}
use Rattle.literal_index.specs.Rows.{Row, passing_both}
use Rattle.literal_index.specs.Selections.{spanned, spanned_by_both}
use Rattle.literal_index.specs.Shown.{IsIndex}
use Rattle.literal_index.specs.Spans.{open_span}
use Rattle.literal_index.proofs.PairLemmas.{both-rise, both-sorted}
use Rattle.literal_index.proofs.index.Index.hits_of_both.Goals as goal

pub returns-clause-hits : goal.returns-clause-hits
returns-clause-hits c =
    let first = c.args.first.now in
    let second = c.args.second.now in
    let m = c.args.self.now.entries in
    let found : c.push_chosen_by_both.new.slots.items ≡ chosen_slots first Choice.Open (spanned first open_span
    m) ++ slots_of_both first second (spanned_by_both first second m)
    = c.in_ok-push_chosen_by_both.ensures.slots
    ∙ ap (λ xs. xs ++ slots_of_both first second (spanned_by_both first second m))
    (c.in_ok-push_chosen.ensures.slots ∙ ap (λ xs. xs ++ chosen_slots first Choice.Open (spanned first open_span m)) c.new-chosen.ensures.items) in
    IfOk-weaker c.listed.result
    (λ list. list ≡ c.deref.result.now)
    (λ list. (rows : List Row) → IsIndex c.args.self.now rows → IsPermutation (passing_both first second rows) list)
    (λ list same rows index.
    both-sorted first second c.requires m c.args.self.now.slots rows index c.push_chosen.ensures.ordered
    c.push_chosen_by_both.new.slots.items c.in_ok-in_order.field-0.items list found c.in_ok-in_order.ensures.slots (same ∙ c.deref.ensures.value))
    c.listed.ensures

pub returns-clause-rising : goal.returns-clause-rising
returns-clause-rising c =
    let first = c.args.first.now in
    let second = c.args.second.now in
    let m = c.args.self.now.entries in
    let found : c.push_chosen_by_both.new.slots.items ≡ chosen_slots first Choice.Open (spanned first open_span
    m) ++ slots_of_both first second (spanned_by_both first second m)
    = c.in_ok-push_chosen_by_both.ensures.slots
    ∙ ap (λ xs. xs ++ slots_of_both first second (spanned_by_both first second m))
    (c.in_ok-push_chosen.ensures.slots ∙ ap (λ xs. xs ++ chosen_slots first Choice.Open (spanned first open_span m)) c.new-chosen.ensures.items) in
    let P : List ℕ → Type 0 = λ xs. IsNonDecreasing xs in
    IfOk-weaker c.listed.result
    (λ list. list ≡ c.deref.result.now)
    (λ list. (rows : List Row) → IsIndex c.args.self.now rows → IsStrictlyIncreasing list)
    (λ list same rows index.
    both-rise first second c.requires m c.args.self.now.slots rows index c.push_chosen.ensures.ordered list
    (subst P (sym (same ∙ c.deref.ensures.value)) c.in_ok-in_order.ensures.rising)
    (both-sorted first second c.requires m c.args.self.now.slots rows index c.push_chosen.ensures.ordered
    c.push_chosen_by_both.new.slots.items c.in_ok-in_order.field-0.items list found c.in_ok-in_order.ensures.slots (same ∙ c.deref.ensures.value)))
    c.listed.ensures
