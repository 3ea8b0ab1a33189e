use Rattle.std.proofs.Common.{ℕ, ap, sym, ◌∙◌, arith}
use Rattle.std.specs.Prelude.{count_by}
use Rattle.literal_index.specs.declared.span.Span.{Span}
use Rattle.literal_index.specs.declared.entry.Choice.{Choice}
use Rattle.literal_index.specs.Entries.{is_chosen}
use Rattle.literal_index.specs.Selections.{spanned}
use Rattle.literal_index.proofs.HitLemmas.{passing-count}
use Rattle.literal_index.proofs.index.Index.count_within.Goals as goal

pub returns : goal.returns
returns c rows index =
    let test = c.args.test.now in
    let m = c.args.self.now.entries in
    let counted : Choice → Span → ℕ = λ choice span. count_by (λ e. is_chosen test choice e.1) (spanned test span m) in
    let all = passing-count test m c.args.self.now.slots rows index c.count_chosen_within-open.ensures.ordered (sym c.holds.ensures ∙ c.if-holds.false) in
    omega (arith, all, c.count_chosen_within-open.ensures.count, c.count_chosen_within.ensures.count, ap (counted Choice.True) c.passing-passing.ensures)
