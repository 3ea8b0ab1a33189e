use Rattle.std.proofs.Common.{◌≡◌, ◌∙◌, ◌++◌, ap, sym, subst, ℕ, List, filter, not, nat_eq, IsPermutation}
use Rattle.std.specs.List.{list_any}
use Rattle.std.specs.List.Sorted.{IsNonDecreasing, IsStrictlyIncreasing}
use Rattle.std.proofs.lemmas.Result.{IfOk-weaker}
use Rattle.literal_index.specs.declared.entry.Choice.{Choice}
use Rattle.literal_index.specs.Entries.{chosen_slots}
use Rattle.literal_index.specs.Rows.{Row, passing_slots}
use Rattle.literal_index.specs.Selections.{spanned}
use Rattle.literal_index.specs.Shown.{IsIndex}
use Rattle.literal_index.specs.Spans.{failing_span, open_span, passing_span}
use Rattle.literal_index.proofs.HitLemmas.{hits-rise, others-rise, others-sorted, passing-sorted}
use Rattle.literal_index.proofs.index.Index.hits.Goals as goal

pub returns-then-holds-clause-hits : goal.returns-then-holds-clause-hits
returns-then-holds-clause-hits c =
    let test = c.args.test.now in
    let m = c.args.self.now.entries in
    let slots = c.args.self.now.slots in
    let failing : List ℕ = c.deref.result.now in
    let found : c.push_chosen.new.slots.items ≡ chosen_slots test Choice.Untrue (spanned test (failing_span test) m)
    = c.in_ok-push_chosen.ensures.slots
    ∙ ap (λ xs. xs ++ chosen_slots test Choice.Untrue (spanned test c.failing.result m)) c.new-chosen.ensures.items
    ∙ ap (λ span. chosen_slots test Choice.Untrue (spanned test span m)) c.failing.ensures in
    let P : List ℕ → Type 0 = λ xs. IsPermutation c.push_chosen.new.slots.items xs in
    IfOk-weaker c.others.result
    (λ list. list ≡ filter (λ slot. not (list_any (nat_eq slot) failing)) slots.keys)
    (λ list. (rows : List Row) → IsIndex c.args.self.now rows → IsPermutation (passing_slots test rows) list)
    (λ list same rows index.
    others-sorted test m slots rows index c.push_chosen.ensures.ordered (sym c.holds.ensures ∙ c.if-holds.true) c.others.ensures.ordered
    c.push_chosen.new.slots.items failing list found (subst P (sym c.deref.ensures.value) c.in_ok-in_order.ensures.slots) same)
    c.others.ensures.slots

pub returns-then-holds-clause-rising : goal.returns-then-holds-clause-rising
returns-then-holds-clause-rising c =
    let test = c.args.test.now in
    let slots = c.args.self.now.slots in
    let failing : List ℕ = c.deref.result.now in
    let P : List ℕ → Type 0 = λ xs. IsStrictlyIncreasing xs in
    IfOk-weaker c.others.result
    (λ list. list ≡ filter (λ slot. not (list_any (nat_eq slot) failing)) slots.keys)
    (λ list. (rows : List Row) → IsIndex c.args.self.now rows → IsStrictlyIncreasing list)
    (λ list same rows index.
    subst P (sym same)
    (others-rise test c.args.self.now.entries slots rows index c.push_chosen.ensures.ordered (sym c.holds.ensures ∙ c.if-holds.true) c.others.ensures.ordered
    failing))
    c.others.ensures.slots

pub returns-clause-hits : goal.returns-clause-hits
returns-clause-hits c =
    let test = c.args.test.now in
    let m = c.args.self.now.entries in
    let found : c.push_chosen-3.new.slots.items ≡ chosen_slots test Choice.Open (spanned test open_span m) ++ chosen_slots test Choice.True (spanned test
    (passing_span test) m)
    = c.in_ok-push_chosen-3.ensures.slots
    ∙ ap (λ xs. xs ++ chosen_slots test Choice.True (spanned test c.passing.result m))
    (c.in_ok-push_chosen-2.ensures.slots ∙ ap (λ xs. xs ++ chosen_slots test Choice.Open (spanned test open_span m)) c.new-chosen.ensures.items)
    ∙ ap (λ span. chosen_slots test Choice.Open (spanned test open_span m) ++ chosen_slots test Choice.True (spanned test span m)) c.passing.ensures in
    IfOk-weaker c.listed.result
    (λ list. list ≡ c.deref-2.result.now)
    (λ list. (rows : List Row) → IsIndex c.args.self.now rows → IsPermutation (passing_slots test rows) list)
    (λ list same rows index.
    passing-sorted test m c.args.self.now.slots rows index c.push_chosen-2.ensures.ordered (sym c.holds.ensures ∙ c.if-holds.false)
    c.push_chosen-3.new.slots.items c.in_ok-in_order-2.field-0.items list found c.in_ok-in_order-2.ensures.slots (same ∙ c.deref-2.ensures.value))
    c.listed.ensures

pub returns-clause-rising : goal.returns-clause-rising
returns-clause-rising c =
    let test = c.args.test.now in
    let m = c.args.self.now.entries in
    let found : c.push_chosen-3.new.slots.items ≡ chosen_slots test Choice.Open (spanned test open_span m) ++ chosen_slots test Choice.True (spanned test
    (passing_span test) m)
    = c.in_ok-push_chosen-3.ensures.slots
    ∙ ap (λ xs. xs ++ chosen_slots test Choice.True (spanned test c.passing.result m))
    (c.in_ok-push_chosen-2.ensures.slots ∙ ap (λ xs. xs ++ chosen_slots test Choice.Open (spanned test open_span m)) c.new-chosen.ensures.items)
    ∙ ap (λ span. chosen_slots test Choice.Open (spanned test open_span m) ++ chosen_slots test Choice.True (spanned test span m)) c.passing.ensures in
    let P : List ℕ → Type 0 = λ xs. IsNonDecreasing xs in
    IfOk-weaker c.listed.result
    (λ list. list ≡ c.deref-2.result.now)
    (λ list. (rows : List Row) → IsIndex c.args.self.now rows → IsStrictlyIncreasing list)
    (λ list same rows index.
    hits-rise test m c.args.self.now.slots rows index c.push_chosen-2.ensures.ordered list
    (subst P (sym (same ∙ c.deref-2.ensures.value)) c.in_ok-in_order-2.ensures.rising)
    (passing-sorted test m c.args.self.now.slots rows index c.push_chosen-2.ensures.ordered (sym c.holds.ensures ∙ c.if-holds.false)
    c.push_chosen-3.new.slots.items c.in_ok-in_order-2.field-0.items list found c.in_ok-in_order-2.ensures.slots (same ∙ c.deref-2.ensures.value)))
    c.listed.ensures
