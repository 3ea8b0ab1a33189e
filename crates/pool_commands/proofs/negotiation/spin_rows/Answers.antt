use Rattle.std.proofs.Common.{List, [], ◌∷◌, ◌++◌, ◌∙◌, ap, add-one, arith}
use Rattle.ad_store.specs.Store.{stock_of}
use Rattle.pool_replies.specs.declared.rows.SpinRow.{SpinRow}
use Rattle.pool_replies.specs.declared.rows.TurnRow.{TurnRow}
use Rattle.pool_books.specs.Rows.{IsSpinHeld, spin_row}
use Rattle.pool_commands.proofs.HitLemmas.{all_at}
use Rattle.pool_commands.proofs.RowLemmas.{rows-all, rows-more}
use Rattle.pool_commands.proofs.negotiation.spin_rows.Goals as goal

pub turn_rows-requires : goal.turn_rows-requires
turn_rows-requires c = all_at (IsSpinHeld (stock_of c.args.store.now).slots) c.args.spins.now c.loop-i.i c.at-spin.result.now c.requires c.at-spin.ensures

pub loop-i-preserved : goal.loop-i-preserved
loop-i-preserved c =
    let spin = c.at-spin.result.now in
    let turns = c.in_ok-turns.turns in
    let row : SpinRow = record { free = spin.free; turns = turns } in
    rw (add-one c.loop-i.i) (c.in_ok-push.ensures.ok ∙ ap (λ (rows : List SpinRow). rows ++ row ∷ []) c.loop-i.invariant
    ∙ rows-more (spin_row (stock_of c.args.store.now)) c.args.spins.now c.loop-i.i spin row c.at-spin.ensures
    (ap (λ (ts : List TurnRow). let r : SpinRow = record { free = spin.free; turns = ts } in r) c.in_ok-turns.ensures))

pub returns : goal.returns
returns c =
    c.loop-i.invariant ∙ rows-all (spin_row (stock_of c.args.store.now)) c.args.spins.now c.loop-i.i (omega (arith, c.loop-i-test.false, c.len-i-end.ensures))
