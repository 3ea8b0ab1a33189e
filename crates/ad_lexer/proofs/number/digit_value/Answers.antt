use Rattle.std.proofs.Common.{◌≡◌, true, eqb, slice_index_or, refl, arith}
use Rattle.std.proofs.lemmas.Bool.{agree_below_at, eqb-true}
use Rattle.std.specs.Char.{digit_value}
use Rattle.ad_lexer.specs.declared.number.TheConstants.{DIGIT_VALUES}
use Rattle.ad_lexer.proofs.number.digit_value.Goals as goal

-- the table agrees with the definition
pub returns : goal.returns
returns c =
    let b = c.args.byte in
    let is : slice_index_or DIGIT_VALUES b 0 ≡ digit_value b =
    eqb-true _ _ (agree_below_at (λ x. eqb (slice_index_or DIGIT_VALUES x 0) (digit_value x)) (λ x. true) 256 b refl (omega (arith, c.ranges.byte))) in
    omega (arith, is, c.from.ensures)
