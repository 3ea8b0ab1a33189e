use Rattle.std.proofs.Common.{◌∙◌, ap, sym, w64}
use Rattle.std.proofs.lemmas.Bool.{eqb-true, eq-eqb}
use Rattle.std.specs.Int.{from_le_bytes}
use Rattle.pool_text.proofs.GroupLemmas.{same_eight}
use Rattle.pool_text.proofs.spelling.have_eight_alike.Goals as goal

pub returns : goal.returns
returns c = (
  λ same. same_eight c.args.a.now c.args.b.now c.args.start c.requires.a c.requires.b c.type_inv.a c.type_inv.b
      (sym c.eight.ensures ∙ eqb-true _ _ same ∙ c.eight-2.ensures),
  λ same. eq-eqb _ _ (c.eight.ensures ∙ ap (from_le_bytes w64) same ∙ sym c.eight-2.ensures),
)
