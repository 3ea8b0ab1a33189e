use Rattle.std.proofs.Common.{◌≤◌, Some, arith}
use Rattle.std.proofs.lemmas.Option.{slice_get_within}
use Rattle.slab.specs.Slab.{get}
use Rattle.ad_store.specs.Held.{end_of}
use Rattle.ad_store.proofs.EndLemmas.{all-listed}
use Rattle.ad_store.proofs.store.soonest_end.Goals as goal

pub returns : goal.returns
returns c =
    all-listed (λ slot. c.loop-k.soonest ≤ end_of (get c.args.table.now slot)) c.args.cells.now
    (λ cell slot at. c.loop-k.invariant cell slot (omega (arith, slice_get_within c.args.cells.now cell (Some slot) at, c.loop-k-test.false)) at)
