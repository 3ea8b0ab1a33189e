use Rattle.std.proofs.Common.{sym, ◌∙◌, ap}
use Rattle.std.specs.Str.{bytes_eq}
use Rattle.std.proofs.lemmas.List.{take_rest}
use Rattle.pool_engine.specs.Options.{count_of}
use Rattle.pool_engine.proofs.PairLemmas.{count_of-next, count_of-none}
use Rattle.pool_engine.proofs.options.count_of.Goals as goal

pub loop-left-preserved : goal.loop-left-preserved
loop-left-preserved c =
    let left = c.loop-left.left.now in
    let other = ap (bytes_eq c.bytes.result.now) (sym c.as_slice.ensures) ∙ sym c.eq.ensures ∙ c.if-eq.false in
    c.loop-left.invariant
    ∙ count_of-next left c.bytes.result.now _ c.in-len2-up.len_at_least (c.bytes.ensures ∙ c.option-item.is) other
    ∙ ap count_of (sym (take_rest left 2))

pub returns : goal.returns
returns c = sym (c.loop-left.invariant ∙ count_of-none c.loop-left.left.now c.in_default.len_below)
