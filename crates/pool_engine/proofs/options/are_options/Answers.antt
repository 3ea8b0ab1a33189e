use Rattle.std.proofs.Common.{◌≡◌, ℕ, true, List, sym, ◌∙◌, ap, subst}
use Rattle.std.proofs.lemmas.List.{take_rest}
use Rattle.pool_engine.specs.Options.{are_options, is_option}
use Rattle.pool_engine.proofs.PairLemmas.{are_options-few, are_options-next}
use Rattle.pool_engine.proofs.options.are_options.Goals as goal

pub loop-left-preserved : goal.loop-left-preserved
loop-left-preserved c =
    let left = c.loop-left.left.now in
    let option = c.bytes.result.now in
    let value = c.bytes-in-len2-up.result.now in
    let one =
    subst (λ (words : List (List ℕ)). is_option option value words ≡ true) (take_rest left 2) (sym c.is_option.ensures ∙ c.if-not-is_option.false) in
    c.loop-left.invariant
    ∙ are_options-next left option value _ _ c.in-len2-up.len_at_least (c.bytes.ensures ∙ c.option-item.is) (c.bytes-in-len2-up.ensures ∙ c.value-item.is)
    one
    ∙ ap are_options (sym (take_rest left 2))

pub returns : goal.returns
returns c = c.is_empty.ensures ∙ sym (c.loop-left.invariant ∙ are_options-few c.loop-left.left.now c.in_default.len_below)
