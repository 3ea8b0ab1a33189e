use Rattle.std.proofs.Common.{◌≡◌, List, ℕ, Some, bytes_eq, slice_get, sym, ◌∙◌, ap, subst}
use Rattle.std.proofs.lemmas.Option.{slice_get-get_or}
use Rattle.pool_state.proofs.LossLemmas.{none-more, some-there}
use Rattle.pool_state.proofs.notices.has_name.Goals as goal

pub returns-then-is_same : goal.returns-then-is_same
returns-then-is_same c =
    let i = c.loop-other.other-index in
    let other = c.other-item.result in
    let at : slice_get c.args.names.now i ≡ Some other =
    subst (λ (l : List (List ℕ)). slice_get l i ≡ Some other) c.as_slice-other-items.ensures
    (slice_get-get_or c.as_slice-other-items.result.now i other c.loop-other-test.true ∙ ap (λ (n : List ℕ). Some n) (sym c.other-item.is)) in
    sym (some-there (bytes_eq c.args.name.now) c.args.names.now i other at (sym c.is_same.ensures ∙ c.if-is_same.true))

pub loop-other-preserved : goal.loop-other-preserved
loop-other-preserved c =
    let i = c.loop-other.other-index in
    let other = c.other-item.result in
    let at : slice_get c.args.names.now i ≡ Some other =
    subst (λ (l : List (List ℕ)). slice_get l i ≡ Some other) c.as_slice-other-items.ensures
    (slice_get-get_or c.as_slice-other-items.result.now i other c.loop-other-test.true ∙ ap (λ (n : List ℕ). Some n) (sym c.other-item.is)) in
    none-more (bytes_eq c.args.name.now) c.args.names.now i other at (sym c.is_same.ensures ∙ c.if-is_same.false) c.loop-other.invariant
