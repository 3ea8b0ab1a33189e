use Rattle.std.proofs.Common.{◌≡◌, below_more, false, sym, take, ◌∙◌}
use Rattle.gang_ports.specs.Search.{is_spent}
use Rattle.gang_ports.proofs.searching.blamed_places.Goals as goal

pub loop-many-preserved : goal.loop-many-preserved
loop-many-preserved c =
    below_more (λ j. is_spent (take j c.args.before.now) c.args.side.now ≡ false) c.loop-many.many c.loop-many.invariant
    (sym c.is_spent.ensures ∙ c.if-is_spent.false)
