use Rattle.std.proofs.Common.{◌∙◌, ap, sym, w32}
use Rattle.std.proofs.lemmas.Bool.{eqb-true, eq-eqb}
use Rattle.std.specs.Int.{from_le_bytes}
use Rattle.pool_text.proofs.GroupLemmas.{same_four}
use Rattle.pool_text.proofs.spelling.have_four_alike.Goals as goal

pub returns : goal.returns
returns c = (
  λ same. same_four c.args.a.now c.args.b.now c.args.start c.requires.a c.requires.b c.type_inv.a c.type_inv.b
      (sym c.four.ensures ∙ eqb-true _ _ same ∙ c.four-2.ensures),
  λ same. eq-eqb _ _ (c.four.ensures ∙ ap (from_le_bytes w32) same ∙ sym c.four-2.ensures),
)
