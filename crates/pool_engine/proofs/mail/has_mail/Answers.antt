use Rattle.std.proofs.Common.{sym, ◌∙◌, ap}
use Rattle.std.proofs.lemmas.List.{take_rest}
use Rattle.pool_engine.specs.Mails.{has_mail}
use Rattle.pool_engine.proofs.PairLemmas.{has_mail-next, has_mail-none}
use Rattle.pool_engine.proofs.mail.has_mail.Goals as goal

pub loop-left-preserved : goal.loop-left-preserved
loop-left-preserved c =
    let name = c.args.name.now in
    let left = c.loop-left.left.now in
    c.loop-left.invariant
    ∙ has_mail-next name left c.bytes.result.now _ c.in-len2-up.len_at_least (c.bytes.ensures ∙ c.value-item.is)
    (sym c.is_named.ensures ∙ c.if-is_named.false)
    ∙ ap (has_mail name) (sym (take_rest left 2))

pub returns : goal.returns
returns c = sym (c.loop-left.invariant ∙ has_mail-none c.args.name.now c.loop-left.left.now c.in_default.len_below)
