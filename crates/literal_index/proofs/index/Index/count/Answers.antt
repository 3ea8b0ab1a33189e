use Rattle.std.proofs.Common.{◌∙◌, ◌-◌, ◌+◌, ap, ap₂, sym, ℕ}
use Rattle.std.specs.Prelude.{count_by}
use Rattle.literal_index.specs.declared.span.Span.{Span}
use Rattle.literal_index.specs.declared.entry.Choice.{Choice}
use Rattle.literal_index.specs.Entries.{is_chosen}
use Rattle.literal_index.specs.Selections.{spanned}
use Rattle.literal_index.proofs.HitLemmas.{others-count, passing-count}
use Rattle.literal_index.proofs.index.Index.count.Goals as goal

pub returns-then-holds : goal.returns-then-holds
returns-then-holds c rows index =
    let test = c.args.test.now in
    let m = c.args.self.now.entries in
    let counted : Choice → Span → ℕ = λ choice span. count_by (λ e. is_chosen test choice e.1) (spanned test span m) in
    c.saturating_sub.ensures
    ∙ ap₂ (λ a b. a - b) c.len.ensures.len (c.count_chosen-failing.ensures.count ∙ ap (counted Choice.Untrue) c.failing.ensures)
    ∙ others-count test m c.args.self.now.slots rows index c.count_chosen-failing.ensures.ordered (sym c.holds.ensures ∙ c.if-holds.true) c.len.ensures.ordered

pub returns : goal.returns
returns c rows index =
    let test = c.args.test.now in
    let m = c.args.self.now.entries in
    let counted : Choice → Span → ℕ = λ choice span. count_by (λ e. is_chosen test choice e.1) (spanned test span m) in
    ap₂ (λ a b. a + b) c.count_chosen.ensures.count (c.count_chosen-2.ensures.count ∙ ap (counted Choice.True) c.passing.ensures)
    ∙ passing-count test m c.args.self.now.slots rows index c.count_chosen.ensures.ordered (sym c.holds.ensures ∙ c.if-holds.false)
