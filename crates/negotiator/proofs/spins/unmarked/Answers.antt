use Rattle.negotiator.proofs.spins.unmarked.Goals as goal

pub returns : goal.returns
returns c = c.in_ok-marks.ensures.items_if_clones_equal (λ y h. h)
