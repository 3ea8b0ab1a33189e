use Rattle.std.proofs.Common.{◌≡◌, sym, ◌∙◌, length, arith}
use Rattle.pool_script.specs.Runs.{run_of}
use Rattle.pool_script.proofs.CutLemmas.{cuts_at_place, ended_none-nowhere}
use Rattle.pool_script.proofs.RunLemmas.{left_behind, run_at_end, run_at_other}
use Rattle.pool_script.proofs.cuts.run_of_lines.Goals as goal
use Rattle.pool_script.proofs.cuts.run_of_lines.Goals.{in-Some+then-not-is_plain, in_default}

pub loop-len-preserved : goal.loop-len-preserved
loop-len-preserved c =
    left_behind c.args.bytes.now c.loop-len.left.now _ _ _ c.loop-len.invariant (cuts_at_place c.loop-len.left.now c.in-Some.len c.in-Some.ensures)
    (sym c.is_plain.ensures ∙ c.if-not-is_plain.false)

-- no run is left
over : (c : goal.Joined-memchr) → length (run_of c.loop-len.left.now) ≡ 0
over c =
    let left = c.loop-len.left.now in
    elim c.match-memchr.branch [
      | in-Some+then-not-is_plain w ↦ run_at_other left _ _ _ (cuts_at_place left w.in-Some.len w.in-Some.ensures)
          (sym w.is_plain.ensures ∙ w.if-not-is_plain.true)
      | in_default w ↦ run_at_end left (ended_none-nowhere left w.in_default.ensures)
    ]

pub returns : goal.returns
returns c = let is_left = c.loop-len.invariant in omega (arith, is_left.run, over c)
