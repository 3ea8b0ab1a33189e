use Rattle.std.proofs.Common.{Some, ap, sym, ◌∙◌}
use Rattle.ad_store.specs.Store.{stock_of}
use Rattle.pool_commands.proofs.ExplainLemmas.{names-next}
use Rattle.pool_commands.proofs.explaining.names_in_order.Goals as goal

pub loop-i-preserved : goal.loop-i-preserved
loop-i-preserved c =
    names-next (stock_of c.args.store.now).ads c.loop-i.i c.in_ok-copy.field-0 c.loop-i.names c.push.new.self
    (c.name.ensures c.loop-i.i c.at.ensures.place ∙ ap Some (sym c.in_ok-copy.ensures.text)) c.loop-i.invariant c.in_ok-push.ensures.ok
