use Rattle.conjunct_plan.proofs.enclosed.+enclosed.Given as goal

abbrev pub decreases-enclosed : goal.decreases-enclosed
decreases-enclosed l = l.frame
