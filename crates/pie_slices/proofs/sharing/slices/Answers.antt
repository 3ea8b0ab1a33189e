use Rattle.std.proofs.Common.{◌^◌, arith}
use Rattle.std.proofs.lemmas.List.Sums.{sum_by-le}
use Rattle.pie_slices.proofs.sharing.slices.Goals as goal

pub total_of-total-requires : goal.total_of-total-requires
total_of-total-requires c = omega (arith, sum_by-le (λ x. x) (10 ^ 12) c.args.weights.now c.requires.most, c.requires.users)
