use Rattle.std.proofs.Common.{◌∙◌, ap, sym, bit_or}
use Rattle.std.proofs.lemmas.Bool.{eq-eqb}
use Rattle.pool_text.proofs.FoldingLemmas.{small_or}
use Rattle.pool_text.proofs.folding.may_be_same_letter.Goals as goal

pub returns : goal.returns
returns c same = eq-eqb _ _ (small_or c.args.x c.ranges.x.fits ∙ ap (λ x. bit_or x 32) same ∙ sym (small_or c.args.y c.ranges.y.fits))
